use Rattle.std.proofs.Common.{◌≡◌, inr, length, refl, sym, subst, OnOk}
use Rattle.press_chain.specs.Chains.{count_of}
use Rattle.press_node.specs.Nodes.{node_move, state_of, store_of}
use Rattle.press_node.specs.States.{applied_values}
use Rattle.press_member.specs.Acts.{Acts, TakesMemory, view_of}
use Rattle.press_member.specs.Following.{HasAll}
use Rattle.press_member.proofs.Coming.{its_moves}
use Rattle.press_member.proofs.Following.{acts_digest, by_values, outcome_acts, outcome_all, with_chain}
use Rattle.press_member.proofs.Stopping.{acts_stop}
use Rattle.press_member.proofs.member.Member.on.Goals as goal

pub returns-clause-acts : goal.returns-clause-acts
returns-clause-acts g c =
    let old = view_of c.args.self.now in
    let mid = view_of c.act-result.new.self in
    let new = with_chain mid c.follow-followed.new.self in
    let values = applied_values (state_of mid.node) in
    let follows = by_values c.values.result.now values mid.chain c.follow-followed.new.self c.values.ensures c.follow-followed.ensures.chain in
    subst (λ r. Acts (λ a b. node_move g.S.PromiseStore.seen a b) c.args.input old new r) (sym c.joined.ensures)
    (outcome_acts (λ a b. node_move g.S.PromiseStore.seen a b) c.args.input old mid c.act-result.result c.follow-followed.result c.may_play-may_play.result c.follow-followed.new.self (λ h. follows (inr h)) c.may_play-may_play.ensures.plays c.act-result.ensures)

pub returns-clause-stops : goal.returns-clause-stops
returns-clause-stops g c =
    let old = view_of c.args.self.now in
    let mid = view_of c.act-result.new.self in
    let new = with_chain mid c.follow-followed.new.self in
    let values = applied_values (state_of mid.node) in
    let follows = by_values c.values.result.now values mid.chain c.follow-followed.new.self c.values.ensures c.follow-followed.ensures.chain in
    acts_stop g.S.PromiseStore.seen (λ a b. node_move g.S.PromiseStore.seen a b) (λ node. store_of node) (λ node. state_of node) (λ a b e o p. p) old.members old.id c.args.input old new c.joined.result refl refl
    (subst (λ r. Acts (λ a b. node_move g.S.PromiseStore.seen a b) c.args.input old new r) (sym c.joined.ensures)
    (outcome_acts (λ a b. node_move g.S.PromiseStore.seen a b) c.args.input old mid c.act-result.result c.follow-followed.result c.may_play-may_play.result c.follow-followed.new.self (λ h. follows (inr h)) c.may_play-may_play.ensures.plays c.act-result.ensures))

pub returns-clause-moves : goal.returns-clause-moves
returns-clause-moves g c =
    let old = view_of c.args.self.now in
    let mid = view_of c.act-result.new.self in
    let new = with_chain mid c.follow-followed.new.self in
    let values = applied_values (state_of mid.node) in
    let follows = by_values c.values.result.now values mid.chain c.follow-followed.new.self c.values.ensures c.follow-followed.ensures.chain in
    its_moves g.S.PromiseStore.seen (λ a b. node_move g.S.PromiseStore.seen a b) (λ node. store_of node) (λ node. state_of node) (λ a b e o p. p) c.args.input old new c.joined.result
    (subst (λ r. Acts (λ a b. node_move g.S.PromiseStore.seen a b) c.args.input old new r) (sym c.joined.ensures)
    (outcome_acts (λ a b. node_move g.S.PromiseStore.seen a b) c.args.input old mid c.act-result.result c.follow-followed.result c.may_play-may_play.result c.follow-followed.new.self (λ h. follows (inr h)) c.may_play-may_play.ensures.plays c.act-result.ensures))

pub returns-clause-digested : goal.returns-clause-digested
returns-clause-digested g c =
    let old = view_of c.args.self.now in
    let mid = view_of c.act-result.new.self in
    let new = with_chain mid c.follow-followed.new.self in
    let values = applied_values (state_of mid.node) in
    let follows = by_values c.values.result.now values mid.chain c.follow-followed.new.self c.values.ensures c.follow-followed.ensures.chain in
    acts_digest g.S.PromiseStore.seen (λ a b. node_move g.S.PromiseStore.seen a b) (λ node. store_of node) (λ node. state_of node) (λ a b e o p. p) (λ a b. refl) old.members old.id c.args.input old mid c.act-result.result c.follow-followed.new.self refl refl c.act-result.ensures follows

pub returns-clause-follows : goal.returns-clause-follows
returns-clause-follows g c =
    let old = view_of c.args.self.now in
    let mid = view_of c.act-result.new.self in
    let new = with_chain mid c.follow-followed.new.self in
    subst (λ r. OnOk r (TakesMemory old c.args.input → HasAll (λ node. state_of node) new)) (sym c.joined.ensures)
    (outcome_all c.act-result.result c.follow-followed.result c.may_play-may_play.result (TakesMemory old c.args.input) (HasAll (λ node. state_of node) new)
    (subst (λ l. OnOk c.follow-followed.result (count_of c.follow-followed.new.self ≡ length l)) c.values.ensures c.follow-followed.ensures.all) c.may_play-may_play.ensures.rests)
