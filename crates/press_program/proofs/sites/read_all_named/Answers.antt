use Rattle.std.proofs.Common.{◌≡◌, ◌<◌, ◌++◌, ◌∙◌, ap, length, arith}
use Rattle.std.proofs.lemmas.List.{length-map}
use Rattle.std.proofs.lemmas.Result.{err_from_is_err_and}
use Rattle.press_program.proofs.Named.{texts}
use Rattle.press_program.proofs.Behind.{all_read, named_without_memory, none_read, one_more, one_stops}
use Rattle.press_program.proofs.sites.read_all_named.Goals as goal

pub loop-i-init : goal.loop-i-init
loop-i-init g c = record { most = omega arith; read = rw c.new-commands.ensures.items none_read }

pub loop-i-preserved : goal.loop-i-preserved
loop-i-preserved g c =
    let more = c.in_ok-append.ensures.items ∙ ap (λ more. c.loop-i.commands.items ++ more) c.into_vec-more.ensures in
    record { most = omega arith; read = one_more c.loop-i.i c.loop-i.commands.items _ c.append.new.self.items c.loop-i.invariant.read c.in_ok-site.ensures more }

pub returns-in_err-site : goal.returns-in_err-site
returns-in_err-site g c =
    let names = c.args.names.now in
    let less : c.loop-i.i < length (texts names) = omega (arith, length-map names (λ n. n.now)) in
    let p = err_from_is_err_and c.from_residual.result c.from_residual.ensures.1 in
    rw (p.1, p.2) (one_stops c.loop-i.i (length (texts names)) c.loop-i.commands.items c.in_err-site.field-0.0 less c.loop-i.invariant.read c.in_err-site.ensures)

pub returns-in_err-append : goal.returns-in_err-append
returns-in_err-append g c =
    let p = err_from_is_err_and c.from_residual-in_err-append.result c.from_residual-in_err-append.ensures.1 in
    rw (p.1, p.2) (named_without_memory (length (texts c.args.names.now)))

pub returns : goal.returns
returns g c =
    let names = c.args.names.now in
    let all : c.loop-i.i ≡ length (texts names) = omega (arith, length-map names (λ n. n.now), c.loop-i.invariant.most) in
    rw c.from_vec.ensures (all_read c.loop-i.i (length (texts names)) c.loop-i.commands.items all c.loop-i.invariant.read)
