use Rattle.std.proofs.Common.{◌≡◌, ◌∙◌, ap, not, map, List, ℕ, rules, tests}
use Rattle.std.specs.Prelude.{String, find, option_map, string_bytes}
use Rattle.std.specs.Map.{keys_of}
use Rattle.std.specs.declared.alloc.Global.{Global}
use Rattle.std.proofs.lemmas.Iterator.Consumers.{YieldsList-from_rest}
use Rattle.std.proofs.lemmas.Iterator.Search.{find_from_yields_List}
use Rattle.press_kit.specs.Fields.{is_one_of}
use Rattle.press_lint.proofs.Mapped.{first_unknown, mapped_twice}
use Rattle.press_lint.proofs.keys.unknown_key.Goals as goal

pub returns : goal.returns
returns c =
    let keys : List (List ℕ) = map (λ k. k.now) c.args.keys.now in
    let entries = c.args.members.now.entries in
    let found : option_map (λ k. k.now) c.find.result ≡ find (λ (s : String Global). not (is_one_of keys (string_bytes s))) (keys_of entries) =
    find_from_yields_List (λ (s : String Global). not (is_one_of keys (string_bytes s))) _ _ c.find.result c.find.ensures.ran (YieldsList-from_rest (keys_of entries) c.keys.ensures.rest) (λ x b q k. search (rules, tests)) in
    mapped_twice (λ k. k.now) string_bytes c.find.result ∙ ap (option_map string_bytes) found ∙ first_unknown keys entries
