use Rattle.std.proofs.Common.{rules, ◌≡◌, ◌∙◌, ap}
use Rattle.std.specs.Prelude.{◌||◌}
use Rattle.std.specs.List.{list_any}
use Rattle.press_callbacks.specs.declared.plugin.Plugin.{Plugin}
use Rattle.press_kit.specs.declared.kit_parts.Scripted.{Scripted}
use Rattle.press_lint.specs.Spots as spec
use Rattle.press_lint.proofs.spots.spots_in.Goals as goal

pub returns : goal.returns
returns c = λ q.
    let last : spec.has_spot c.put_callbacks.new.self q
    ≡ (list_any (λ (k : Scripted). list_any (spec.adds_at q) k.script) c.args.kit.now.callbacks || spec.has_spot c.put_plugins.new.self q) = search rules in
    let before : spec.has_spot c.put_plugins.new.self q
    ≡ (list_any (λ (p : Plugin). list_any (spec.loads_at q) p.load) c.args.kit.now.plugins || spec.has_spot c.in_ok-spots.spots q) = search rules in
    last ∙ ap (λ b. list_any (λ (k : Scripted). list_any (spec.adds_at q) k.script) c.args.kit.now.callbacks || b)
    (before ∙ ap (λ b. list_any (λ (p : Plugin). list_any (spec.loads_at q) p.load) c.args.kit.now.plugins || b) (c.in_ok-spots.ensures q))
