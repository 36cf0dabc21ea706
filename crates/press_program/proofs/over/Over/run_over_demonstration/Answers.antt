use Rattle.std.proofs.Common.{ap, ap₂, sym, ◌≡◌, ◌∙◌, ◌+◌, [], ◌∷◌, length, length-append, arith}
use Rattle.std.proofs.lemmas.List.{nil_from_length}
use Rattle.std.specs.Vec.Iter.{into_iter_items}
use Rattle.press_callbacks.specs.Kits.{kit_view, scripts_given, view_of}
use Rattle.press_demonstration.specs.Demonstration.{demonstration, scripts}
use Rattle.press_kit.specs.KitFile.{file_limit}
use Rattle.press_program.proofs.Kits.{pushed, untaken}
use Rattle.press_program.proofs.Pushes.{is_done}
use Rattle.press_program.proofs.over.Over.run_over_demonstration.Goals as goal

pub returns-in_err-new-2-clause-took : goal.returns-in_err-new-2-clause-took
returns-in_err-new-2-clause-took g c = untaken (g.R.Read.remaining c.args.reader.now) (file_limit + 1)

pub returns-in_err-push-2-clause-took : goal.returns-in_err-push-2-clause-took
returns-in_err-push-2-clause-took g c = untaken (g.R.Read.remaining c.args.reader.now) (file_limit + 1)

pub returns-in_err-push-in-Ok-clause-took : goal.returns-in_err-push-in-Ok-clause-took
returns-in_err-push-in-Ok-clause-took g c = untaken (g.R.Read.remaining c.args.reader.now) (file_limit + 1)

pub returns-in-Err-clause-took : goal.returns-in-Err-clause-took
returns-in-Err-clause-took g c = untaken (g.R.Read.remaining c.args.reader.now) (file_limit + 1)

pub run_task-requires-clause-alike : goal.run_task-requires-clause-alike
run_task-requires-clause-alike g c = (demonstration, c.loop-i.invariant.alike)

pub returns-clause-ends : goal.returns-clause-ends
returns-clause-ends g c = c.run_task.ensures.ends demonstration c.loop-i.invariant.alike

pub loop-i-preserved : goal.loop-i-preserved
loop-i-preserved g c =
    let none : into_iter_items c.loop-scripted.scripted-iterator ≡ [] =
    nil_from_length (into_iter_items c.loop-scripted.scripted-iterator) (sym c.loop-scripted.scripted-iterator.rest.ok.0 ∙ c.in-None.ensures.steps.0) in
    let scripts_are : scripts_given c.loop-scripted.callbacks.items ≡ scripts =
    is_done (scripts_given c.loop-scripted.callbacks.items) (into_iter_items c.loop-scripted.scripted-iterator) scripts none c.loop-scripted.invariant in
    let built = rw c.in-Ok.is at c.build.ensures.builds in
    let view_is : kit_view c.in-Ok.kit ≡ demonstration = built.1 ∙ ap₂ view_of scripts_are c.in_ok-parts.ensures.plugins in
    let items = c.in_ok-push-in-Ok.ensures.items in
    record {
      count = omega (arith, ap length items, length-append c.loop-i.kits.items (c.in-Ok.kit ∷ []), c.loop-i.invariant.count);
      most = omega arith;
      alike = pushed kit_view demonstration c.loop-i.kits.items _ c.in-Ok.kit items c.loop-i.invariant.alike view_is;
    }

pub run_task-requires-clause-count : goal.run_task-requires-clause-count
run_task-requires-clause-count g c =
    let all : c.loop-i._i ≡ c.kits_for-i-end.result = omega (arith, c.loop-i.invariant.most) in
    c.loop-i.invariant.count ∙ all ∙ c.kits_for-i-end.ensures
