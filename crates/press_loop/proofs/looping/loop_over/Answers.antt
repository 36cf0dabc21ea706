use Rattle.std.proofs.Common.{ℕ, ◌≡◌, ◌≤◌, List, length, map, Ok, Err, refl, sym, subst, ap, ◌∙◌, arith}
use Rattle.std.proofs.lemmas.Result.{err_from_is_err_and}
use Rattle.press_callbacks.specs.Kits.{kit_view}
use Rattle.press_world.specs.ReadingFiles.{ReadsAs}
use Rattle.press_world.specs.Replays.{transcript, WritesLines}
use Rattle.press_world.specs.ScheduleFile.{schedule_in}
use Rattle.press_world.specs.Starts.{AreKit, views_of}
use Rattle.press_world.specs.declared.step.Step.{Step}
use Rattle.press_world.proofs.Replayed.{first_alike, length_take, map_take}
use Rattle.press_loop.proofs.Carried.{looped, unread}
use Rattle.press_loop.proofs.looping.loop_over.Goals as goal

pub returns-in_err-nodes-clause-loops : goal.returns-in_err-nodes-clause-loops
returns-in_err-nodes-clause-loops g c kit = λ alike.
    let kits = c.args.kits.items in
    let n : c.len.result ≡ length kits = omega (arith, c.len.ensures) in
    let p = err_from_is_err_and c.from_residual.result c.from_residual.ensures.1 in
    let fault = c.in_err-nodes.field-0.0 in
    let is : c.from_residual.result ≡ Err fault = p.1 ∙ ap Err p.2 in
    let given = subst (λ k. ReadsAs (schedule_in k) (g.R.Read.remaining c.args.reader.now) (Err fault)) n c.in_err-nodes.ensures.gives in
    unread (schedule_in (length kits)) (transcript kit) (g.R.Read.remaining c.args.reader.now) (g.W.Write.contents c.args.writer.now) (g.W.Write.contents c.args.writer.now) fault c.from_residual.result is refl given

pub loop_new-requires-clause-alike : goal.loop_new-requires-clause-alike
loop_new-requires-clause-alike g c =
    let kits = c.args.kits.items in
    let a = c.requires.alike in
    (a.0, subst (λ ks. AreKit a.0 ks) (sym (ap (map kit_view) c.truncate.ensures.items ∙ map_take kit_view c.in_ok-nodes.nodes kits)) (first_alike a.0 c.in_ok-nodes.nodes (views_of kits) a.1))

pub returns-clause-loops : goal.returns-clause-loops
returns-clause-loops g c kit = λ alike.
    let kits = c.args.kits.items in
    let nodes = c.in_ok-nodes.nodes in
    let n : c.len.result ≡ length kits = omega (arith, c.len.ensures) in
    let most : nodes ≤ length kits = omega (arith, n, c.in_ok-nodes.ensures.nodes.1) in
    let schedule : ℕ × List Step = (nodes, c.in_ok-nodes.steps) in
    let given : ReadsAs (schedule_in (length kits)) (g.R.Read.remaining c.args.reader.now) (Ok schedule) = subst (λ k. ReadsAs (schedule_in k) (g.R.Read.remaining c.args.reader.now) (Ok schedule)) n c.in_ok-nodes.ensures.gives in
    let left : AreKit kit (views_of c.truncate.new.self.items) = subst (λ ks. AreKit kit ks) (sym (ap (map kit_view) c.truncate.ensures.items ∙ map_take kit_view nodes kits)) (first_alike kit nodes (views_of kits) alike) in
    let many : length c.truncate.new.self.items ≡ nodes = ap length c.truncate.ensures.items ∙ length_take nodes kits most in
    let same : transcript kit (length c.truncate.new.self.items, c.as_slice.result.now) ≡ transcript kit schedule =
    ap (λ k. transcript kit (k, c.as_slice.result.now)) many ∙ ap (λ xs. transcript kit (nodes, xs)) c.as_slice.ensures in
    looped (schedule_in (length kits)) (transcript kit) (g.R.Read.remaining c.args.reader.now) (g.W.Write.contents c.args.writer.now) (g.W.Write.contents c.loop_new.new.writer) schedule c.loop_new.result given c.loop_new.ensures.fault
    (subst (λ bytes. WritesLines bytes (g.W.Write.contents c.args.writer.now) (g.W.Write.contents c.loop_new.new.writer) c.loop_new.result) same (c.loop_new.ensures.lines kit left))
