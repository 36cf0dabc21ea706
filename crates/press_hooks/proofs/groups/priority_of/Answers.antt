use Rattle.std.proofs.Common.{◌≡◌, refl, ◌∙◌, ap, rules, tests, bytes_eq, Option, None, Some}
use Rattle.std.specs.Prelude.{option_map}
use Rattle.std.specs.List.{list_any, find}
use Rattle.std.proofs.lemmas.Iterator.Search.{find_from_yields_List}
use Rattle.std.proofs.lemmas.Iterator.{YieldsList-from_slice}
use Rattle.press_hooks.specs.Hooked.{GroupView}
use Rattle.press_hooks.proofs.ByPriority.{find_entries}
use Rattle.press_hooks.proofs.groups.priority_of.Goals as goal

mapped_twice : {A B C : Type 0} (f : A → B) (g : B → C) (o : Option A) → option_map (λ x. g (f x)) o ≡ option_map g (option_map f o)
mapped_twice f g None = refl
mapped_twice f g (Some x) = refl

pub returns : goal.returns
returns c =
    let found : option_map (λ g. g.now) c.find.result ≡ find (λ (g : GroupView). list_any (λ m. bytes_eq m.callback c.args.callback) g.members) c.args.groups.now =
    find_from_yields_List (λ (g : GroupView). list_any (λ m. bytes_eq m.callback c.args.callback) g.members) _ _ c.find.result c.find.ensures.ran (YieldsList-from_slice c.args.groups.now c.iter.ensures.rest) (λ x b q k. search (rules, tests)) in
    let mapped : c.map.result ≡ option_map (λ g. g.now.priority) c.find.result = search rules in
    mapped ∙ (mapped_twice (λ g. g.now) (λ (g : GroupView). g.priority) c.find.result ∙ (ap (option_map (λ (g : GroupView). g.priority)) found ∙ find_entries c.args.callback c.args.groups.now))
