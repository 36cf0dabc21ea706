-- Entries of a list, one after the other.
use Rattle.std.proofs.Common.{ℕ, ◌≡◌, ◌<◌, ◌+◌, List, [], ◌∷◌, ◌++◌, length, map, take, get_or, refl, sym, ap, ◌∙◌}
use Rattle.std.proofs.lemmas.List.{map-append, take_more}
use Rattle.serde_json.specs.Data.{Data}
use Rattle.serde_json.specs.View.{view}
use Rattle.serde_json.specs.declared.value.Value.{Value}
use Rattle.press_client.specs.Logging.{AreEntries, IsEntry}
use Rattle.press_client.specs.declared.entry.LogEntry.{LogEntry}

one_more : (es : List LogEntry) (ds : List Data) (e : LogEntry) (d : Data) → AreEntries es ds → IsEntry e d → AreEntries (es ++ e ∷ []) (ds ++ d ∷ [])
one_more [] [] e d are is = (is, tt)
one_more [] (x ∷ ds) e d are is = absurd are
one_more (y ∷ es) [] e d are is = absurd are
one_more (y ∷ es) (x ∷ ds) e d are is = (are.0, one_more es ds e d are.1 is)

pub pushed : (es new : List LogEntry) (vs : List Value) (i : ℕ) (v : Value) (e : LogEntry) → i < length vs → v ≡ get_or vs i v → AreEntries es (map view (take i vs)) → IsEntry e (view v) → new ≡ es ++ e ∷ [] →
    AreEntries new (map view (take (i + 1) vs))
pushed es new vs i v e lt at are is made =
    let on : map view (take (i + 1) vs) ≡ map view (take i vs) ++ view v ∷ [] = ap (map view) (take_more vs i v lt ∙ ap (λ x. take i vs ++ x ∷ []) (sym at)) ∙ map-append view (take i vs) (v ∷ []) in
    rw (made, on) (one_more es (map view (take i vs)) e (view v) are is)
