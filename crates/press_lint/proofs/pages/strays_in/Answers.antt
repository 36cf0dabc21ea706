use Rattle.std.proofs.Common.{rules, ◌≡◌, ◌∙◌, ap, ℕ, List, Bool}
use Rattle.std.specs.Prelude.{◌||◌}
use Rattle.std.specs.List.{list_any}
use Rattle.press_callbacks.specs.declared.plugin.Plugin.{Plugin}
use Rattle.press_kit.specs.declared.kit_parts.KitParts.{KitParts}
use Rattle.press_kit.specs.declared.kit_parts.Scripted.{Scripted}
use Rattle.press_kit.specs.declared.play_file.Play.{Play}
use Rattle.press_lint.specs.NameSets.{holds}
use Rattle.press_lint.specs.Pages as spec
use Rattle.press_lint.proofs.Gathered.{alone}
use Rattle.press_lint.proofs.pages.strays_in.Goals as goal

abbrev by_steps : KitParts → List Play → List ℕ → Bool → Bool
by_steps kit plays q tags = list_any (λ (k : Scripted). list_any (spec.step_strays kit plays tags q) k.script) kit.callbacks

abbrev by_loads : KitParts → List Play → List ℕ → Bool → Bool
by_loads kit plays q tags = list_any (λ (p : Plugin). list_any (spec.load_strays kit plays tags q) p.load) kit.plugins

pub returns : goal.returns
returns c = λ q.
    let steps : Bool → Bool = by_steps c.args.run.now.kit.now c.args.run.now.plays.now q in
    let loads : Bool → Bool = by_loads c.args.run.now.kit.now c.args.run.now.plays.now q in
    let tags : Bool = c.are_tags_of_pages-tags.result in
    let last : holds c.put_callbacks.new.strays q ≡ (steps tags || holds c.put_plugins.new.strays q) = search rules in
    let before : holds c.put_plugins.new.strays q ≡ (loads tags || holds c.new-strays.result q) = search rules in
    last ∙ ap (λ b. steps tags || b) (before ∙ ap (λ b. loads tags || b) (c.new-strays.ensures q))
    ∙ alone (steps tags) (loads tags) ∙ ap (λ t. steps t || loads t) c.are_tags_of_pages-tags.ensures
