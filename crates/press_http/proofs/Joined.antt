-- Reads behind reads.
use Rattle.std.proofs.Common.{◌≡◌, ℕ, ◌<◌, List, [], ◌∷◌, ◌++◌, length, Some, None, sym, ap, ◌∙◌, subst, append_assoc, append-nil, arith}
use Rattle.std.specs.Prelude.{Option, Result, Ok, Err, MatchResult}
use Rattle.press_http.specs.declared.fault.HttpFault.{HttpFault}
use Rattle.press_http.specs.declared.fault.HttpFault.TheVariants as fault
use Rattle.press_http.specs.Reads.{bytes_of_read, seen_by, HasFailed, HasEnded, MayGoOn, Reads}
use Rattle.press_http.specs.declared.start.Start.{Start}
use Rattle.press_http.specs.Requests.{EndsBy, IsStart, Refuses}

-- ---- one more

pub goes_on : (read : Option (List ℕ)) (earlier : List (Option (List ℕ))) → read ≡ Some (bytes_of_read read) → 0 < length (bytes_of_read read) → MayGoOn (read ∷ earlier)
goes_on None earlier gave some = let none : None ≡ Some [] = gave in cc
goes_on (Some []) earlier gave some = let no : ⊥ = omega (arith, some) in absurd no
goes_on (Some (b ∷ bytes)) earlier gave some = tt

pub ended : (read : Option (List ℕ)) (earlier : List (Option (List ℕ))) → read ≡ Some (bytes_of_read read) → length (bytes_of_read read) ≡ 0 → HasEnded (read ∷ earlier)
ended None earlier gave none = let there : None ≡ Some [] = gave in cc
ended (Some []) earlier gave none = tt
ended (Some (b ∷ bytes)) earlier gave none = let no : ⊥ = omega (arith, none) in absurd no

pub failed : (read : Option (List ℕ)) (earlier : List (Option (List ℕ))) → read ≡ None → HasFailed (read ∷ earlier)
failed None earlier none = tt
failed (Some bytes) earlier none = let there : Some bytes ≡ None = none in cc

-- ---- reads behind reads

pub seen_join : (later earlier : List (Option (List ℕ))) → seen_by (later ++ earlier) ≡ seen_by earlier ++ seen_by later
seen_join [] earlier = sym (append-nil (seen_by earlier))
seen_join (read ∷ later) earlier = ap (λ (l : List ℕ). l ++ bytes_of_read read) (seen_join later earlier) ∙ append_assoc (seen_by earlier) (seen_by later) (bytes_of_read read)

go_join : (later earlier : List (Option (List ℕ))) → MayGoOn later → MayGoOn earlier → MayGoOn (later ++ earlier)
go_join [] earlier p q = q
go_join (None ∷ later) earlier p q = absurd p
go_join (Some [] ∷ later) earlier p q = absurd p
go_join (Some (b ∷ bytes) ∷ later) earlier p q = tt

failed_join : (later earlier : List (Option (List ℕ))) → HasFailed later → HasFailed (later ++ earlier)
failed_join [] earlier p = absurd p
failed_join (None ∷ later) earlier p = tt
failed_join (Some bytes ∷ later) earlier p = absurd p

ended_join : (later earlier : List (Option (List ℕ))) → HasEnded later → HasEnded (later ++ earlier)
ended_join [] earlier p = absurd p
ended_join (None ∷ later) earlier p = absurd p
ended_join (Some [] ∷ later) earlier p = tt
ended_join (Some (b ∷ bytes) ∷ later) earlier p = absurd p

pub ends_join : (e : HttpFault) (later earlier : List (Option (List ℕ))) → EndsBy e later → EndsBy e (later ++ earlier)
ends_join fault.ReadFault later earlier p = failed_join later earlier p
ends_join fault.Ended later earlier p = ended_join later earlier p
ends_join fault.NoMemory later earlier p = tt
ends_join fault.WriteFault later earlier p = tt
ends_join fault.BadHead later earlier p = tt
ends_join fault.BadForm later earlier p = tt
ends_join fault.BadPeer later earlier p = tt
ends_join fault.NotFound later earlier p = tt
ends_join fault.NotAllowed later earlier p = tt
ends_join fault.NoLength later earlier p = tt
ends_join fault.TooBig later earlier p = tt
ends_join fault.FieldsTooLarge later earlier p = tt
ends_join fault.NotDone later earlier p = tt

module _ {R : Type 0} (gives : R → Option (List ℕ) → R → Type 0) (V U : List ℕ → Type 0) where
  pub widen : ((seen : List ℕ) → V seen → U seen) → (reads : List (Option (List ℕ))) (first now : R) → Reads gives V reads first now → Reads gives U reads first now
  widen f [] first now same = same
  widen f (read ∷ earlier) first now r = (r.0, widen f earlier first r.0 r.1, r.2, f (seen_by earlier) r.3, r.4)

  pub join : (W : List ℕ → Type 0) (earlier : List (Option (List ℕ))) → MayGoOn earlier
      → ((seen : List ℕ) → V seen → U seen) → ((more : List ℕ) → W more → U (seen_by earlier ++ more))
      → (later : List (Option (List ℕ))) (first between now : R) → Reads gives V earlier first between → Reads gives W later between now
      → Reads gives U (later ++ earlier) first now
  join W earlier may f h [] first between now a same = widen f earlier first now (subst (λ (r : R). Reads gives V earlier first r) same a)
  join W earlier may f h (read ∷ later) first between now a b = (
    b.0,
    join W earlier may f h later first between b.0 a b.1,
    go_join later earlier b.2 may,
    subst (λ (seen : List ℕ). U seen) (sym (seen_join later earlier)) (h (seen_by later) b.3),
    b.4,
  )

-- ---- what is said of them is left out

pub fault_alone : {A : Type 0} (result : Result A HttpFault) (P : A → Type 0) (Q S : HttpFault → Type 0) → MatchResult result P (λ e. Q e × S e) → MatchResult result P Q
fault_alone (Ok x) P Q S p = p
fault_alone (Err e) P Q S p = p.0

pub begun_says : (seen : List ℕ) (left : Option (List ℕ)) (reads : List (Option (List ℕ))) (result : Result Start HttpFault)
    → MatchResult result (IsStart seen) (λ e. Refuses e seen left × ((those : List (Option (List ℕ))) → EndsBy e those)) → MayGoOn reads
    → MatchResult result (λ s. IsStart seen s × MayGoOn reads) (λ e. Refuses e seen left × EndsBy e reads)
begun_says seen left reads (Ok s) p may = (p, may)
begun_says seen left reads (Err e) p may = (p.0, p.1 reads)
