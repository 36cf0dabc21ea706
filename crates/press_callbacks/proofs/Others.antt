-- A text of another length is another text.
use Rattle.std.proofs.Common.{◌≡◌, ap, ℕ, false, List, length, bytes_eq, nat_eq}
use Rattle.std.proofs.lemmas.Bool.{eqb-false, false_from_ne_true}
use Rattle.std.proofs.lemmas.Slice.Eq.{bytes_eq-Decides}

pub of_another_length : (name own : List ℕ) → nat_eq (length name) (length own) ≡ false → bytes_eq name own ≡ false
of_another_length name own differ = false_from_ne_true (bytes_eq name own) (λ e. eqb-false (length name) (length own) differ (ap length ((bytes_eq-Decides name own).0 e)))
