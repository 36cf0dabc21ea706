use Rattle.std.proofs.Common.{◌∙◌, List, ℕ, map, rules, tests}
use Rattle.std.specs.Prelude.{string_bytes}
use Rattle.std.specs.Map.{keys_of}
use Rattle.std.proofs.lemmas.Iterator.Consumers.{YieldsList-from_rest}
use Rattle.std.proofs.lemmas.Iterator.Search.{all_from_yields_List}
use Rattle.press_kit.specs.Fields.{is_one_of}
use Rattle.press_kit.proofs.Keys.{all_keys}
use Rattle.press_kit.proofs.fields.are_among.Goals as goal

pub returns : goal.returns
returns c =
    let keys : List (List ℕ) = map (λ k. k.now) c.args.keys.now in
    all_from_yields_List (λ s. is_one_of keys (string_bytes s)) _ _ _ c.all.ensures.ran (YieldsList-from_rest (keys_of c.args.members.now.entries) c.keys.ensures.rest) (λ x b q k. search (rules, tests))
    ∙ all_keys (is_one_of keys) c.args.members.now.entries
