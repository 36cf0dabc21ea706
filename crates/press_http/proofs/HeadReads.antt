-- What a read that gave nothing to keep says of a head.
use Rattle.std.proofs.Common.{◌≡◌, ℕ, List, [], ◌∷◌, ◌++◌, length, Some, None, Ok, refl, sym, ap, ◌∙◌, subst, arith, length-append, append-nil}
use Rattle.std.specs.Prelude.{Option}
use Rattle.httparse.specs.declared.spans.HeaderSpan.{HeaderSpan}
use Rattle.httparse.specs.declared.spans.RequestSpans.{RequestSpans}
use Rattle.press_http.specs.declared.fault.HttpFault.{HttpFault}
use Rattle.press_http.specs.declared.fault.HttpFault.TheVariants as fault
use Rattle.press_http.specs.Heads.{IsUnfinished, Looks, Misses, RefusesHead, WantsHead}
use Rattle.press_http.specs.Reads.{bytes_of_read, seen_by}
use Rattle.press_http.specs.Requests.{EndsBy}
use Rattle.press_http.proofs.Joined.{failed}

pub missed : (e : HttpFault) (reads : List (Option (List ℕ))) (read left : Option (List ℕ)) → WantsHead (seen_by reads) → Misses e read
    → RefusesHead e (seen_by (read ∷ reads)) left × EndsBy e (read ∷ reads)
missed fault.NoMemory reads read left wants m = (omega (arith, m, length-append (seen_by reads) (bytes_of_read read)), tt)
missed fault.ReadFault reads read left wants m =
    (subst (λ (seen : List ℕ). WantsHead seen) (sym (ap (λ (r : Option (List ℕ)). seen_by reads ++ bytes_of_read r) m ∙ append-nil (seen_by reads))) wants, failed read reads m)
missed fault.Ended reads read left wants m = absurd m
missed fault.WriteFault reads read left wants m = absurd m
missed fault.BadHead reads read left wants m = absurd m
missed fault.BadForm reads read left wants m = absurd m
missed fault.BadPeer reads read left wants m = absurd m
missed fault.NotFound reads read left wants m = absurd m
missed fault.NotAllowed reads read left wants m = absurd m
missed fault.NoLength reads read left wants m = absurd m
missed fault.TooBig reads read left wants m = absurd m
missed fault.FieldsTooLarge reads read left wants m = absurd m
missed fault.NotDone reads read left wants m = absurd m

pub looked_none : (seen : List ℕ) (headers : List HeaderSpan) (o : Option RequestSpans) → Looks seen headers (Ok o) → ((x : RequestSpans) → o ≡ Some x → ⊥) → IsUnfinished seen
looked_none seen headers None p none = p
looked_none seen headers (Some spans) p none = absurd (none spans refl)

-- a read of nothing adds nothing
pub same_seen : (seen more : List ℕ) → length more ≡ 0 → seen ++ more ≡ seen
same_seen seen [] none = append-nil seen
same_seen seen (b ∷ more) none = let no : ⊥ = omega (arith, none) in absurd no
