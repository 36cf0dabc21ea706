use Rattle.std.proofs.Common.{◌≡◌, length, sym, subst, ap, ◌∙◌}
use Rattle.std.proofs.lemmas.List.{length-map}
use Rattle.press_callbacks.specs.Kits.{kit_view}
use Rattle.press_world.specs.Models.{model, size, statics}
use Rattle.press_world.specs.Replays.{lines, transcript, WritesLines}
use Rattle.press_world.specs.Seats.{static_of}
use Rattle.press_world.specs.Starts.{views_of}
use Rattle.press_world.specs.Stored.{StoredWorld}
use Rattle.press_world.specs.Whole.{HaveKit}
use Rattle.press_world.proofs.Started.{length_statics, statics_have}
use Rattle.press_loop.proofs.looping.loop_new.Goals as goal

pub returns-clause-lines : goal.returns-clause-lines
returns-clause-lines g c kit = λ alike.
    let w = c.in_ok-world.world in
    let views = views_of c.args.kits.items in
    let n = length c.args.kits.items in
    let have : HaveKit kit (statics w) = subst (HaveKit kit) (sym c.in_ok-world.ensures.statics) (statics_have kit 1 n views alike) in
    let many : size w ≡ n = sym (length-map w.cluster.seats.items static_of) ∙ ap length c.in_ok-world.ensures.statics ∙ length_statics 1 n views ∙ length-map c.args.kits.items kit_view in
    let same : lines kit (size w) 1 (model w) c.args.steps.now ≡ transcript kit (n, c.args.steps.now) =
    ap (λ k. lines kit k 1 (model w) c.args.steps.now) many ∙ ap (λ (s : StoredWorld). lines kit n 1 s c.args.steps.now) c.in_ok-world.ensures.new in
    subst (λ bytes. WritesLines bytes (g.W.Write.contents c.args.writer.now) (g.W.Write.contents c.play_all.new.writer) c.play_all.result) same (c.play_all.ensures.lines kit have)
