use Rattle.std.proofs.Common.{◌+◌, ◌%◌, ◌/◌, ◌==◌, ◌∙◌, cond, ap, sym, subst}
use Rattle.press_chain.specs.Chains.{IsKept, put_at}
use Rattle.press_chain.proofs.Keeping.{half_kept, kept_as, kept_then}
use Rattle.press_chain.proofs.chain.Chain.push.Goals as goal

pub returns-in_err-put_block-clause-chain : goal.returns-in_err-put_block-clause-chain
returns-in_err-put_block-clause-chain c = λ values is kept.
    let o = c.args.self.now in
    let p = c.in_err-put_block.ensures in
    kept_as values _ _ _ _ _ _ _ _ _ _ p.count p.digest p.block (ap (λ v. v.items) p.recent) p.fails kept

pub returns-in_err-put-clause-chain : goal.returns-in_err-put-clause-chain
returns-in_err-put-clause-chain c = λ values is kept.
    let o = c.args.self.now in
    let p = c.in_ok-put_block.ensures in
    kept_as values _ _ _ _ _ _ _ _ _ _ p.count p.digest p.block (c.in_err-put.ensures.fails ∙ ap (λ v. v.items) p.recent) p.put
    (half_kept values o.count o.digest o.block_digest o.recent.items o.blocks.items kept c.digest_with-digest.result)

pub returns-clause-chain : goal.returns-clause-chain
returns-clause-chain c = λ values is kept.
    let o = c.args.self.now in
    let p = c.in_ok-put_block.ensures in
    let a = c.advance.ensures in
    let d = c.digest_with-digest.result in
    kept_as values (o.count + 1) c.advance.new.self.count d c.advance.new.self.digest (cond (o.count % 64 == 63) d o.block_digest) c.advance.new.self.block_digest
    (put_at o.recent.items (o.count % 64) d) c.advance.new.self.recent.items (cond (o.count % 64 == 63) (put_at o.blocks.items (o.count / 64) d) o.blocks.items) c.advance.new.self.blocks.items
    (a.count ∙ ap (λ n. n + 1) p.count) a.digest
    (a.block ∙ ap (λ n. cond (n % 64 == 63) d c.put_block.new.self.block_digest) p.count ∙ ap (cond (o.count % 64 == 63) d) p.block)
    (ap (λ v. v.items) a.recent ∙ c.in_ok-put.ensures.put ∙ ap (λ n. put_at c.put_block.new.self.recent.items (n % 64) d) p.count ∙ ap (λ v. put_at v.items (o.count % 64) d) p.recent)
    (ap (λ v. v.items) a.blocks ∙ p.put)
    (subst (λ e. IsKept values (o.count + 1) e (cond (o.count % 64 == 63) e o.block_digest) (put_at o.recent.items (o.count % 64) e) (cond (o.count % 64 == 63) (put_at o.blocks.items (o.count / 64) e) o.blocks.items))
    (sym c.digest_with-digest.ensures) (kept_then values o.count o.digest o.block_digest o.recent.items o.blocks.items kept c.args.value.now is))
