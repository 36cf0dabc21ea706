-- Of what sort a request is that is refused, or asks for something.
use Rattle.std.proofs.Common.{◌≡◌, List, ℕ, Option, Some, ap, subst}
use Rattle.std.specs.Prelude.{◌≢◌, Result, Ok, Err, MatchResult}
use Rattle.std.specs.Io.KnownBytes.{Consumes}
use Rattle.press_http.specs.declared.asked.Asked.{Asked}
use Rattle.press_http.specs.declared.fault.HttpFault.{HttpFault}
use Rattle.press_http.specs.declared.fault.HttpFault.TheVariants.{NoMemory}
use Rattle.press_node.specs.Serving.{AsksFor}
use Rattle.press_operator.specs.Screening.{IsOfSort, sort_named}
use Rattle.press_operator.specs.declared.operator_options.Sort.{Sort}
use Rattle.press_operator.specs.declared.operator_options.Sort.TheVariants.{Other}

abbrev pub fault_or : Result Asked HttpFault → HttpFault → HttpFault
fault_or (Ok what) e = e
fault_or (Err fault) e = fault

pub refused_sort : (bytes seen : List ℕ) (left : Option (List ℕ)) (fault : HttpFault) (result : Result Sort HttpFault) → Consumes (Some bytes) left seen → AsksFor seen left (Err fault)
    → MatchResult result (λ sort. (sort ≡ Other) × (fault ≢ NoMemory)) (λ e. (e ≡ NoMemory) × (fault ≡ NoMemory)) → MatchResult result (IsOfSort bytes) (λ e. e ≡ NoMemory)
refused_sort bytes seen left fault (Ok sort) took asks h = (seen, left, took, Err fault, asks, (λ e. h.1 (ap (λ r. fault_or r fault) e)), h.0)
refused_sort bytes seen left fault (Err e) took asks h = h.0

abbrev pub Asks : Result Asked HttpFault → Type 0
Asks (Ok what) = Unit {0}
Asks (Err fault) = ⊥

pub asked_sort : (bytes seen : List ℕ) (left : Option (List ℕ)) (what : Asked) (sort : Sort) → Consumes (Some bytes) left seen → AsksFor seen left (Ok what) → sort ≡ sort_named what → IsOfSort bytes sort
asked_sort bytes seen left what sort took asks is = (seen, left, took, Ok what, asks, (λ e. subst Asks e tt), is)
