-- Pieces that a hasher is fed, one after another.
use Rattle.std.proofs.Common.{ℕ, List, [], ◌++◌, subst, sym, append_assoc, append-nil}
use Rattle.sha2.specs.Hashers.{Holds256}
use Rattle.sha2.specs.declared.Sha256.{Sha256}
use Rattle.press_chain.specs.Feeding.{Feeds}

pub feeds_then : (a b c : Sha256) (x y : List ℕ) → Feeds a b x → Feeds b c y → Feeds a c (x ++ y)
feeds_then a b c x y f g = λ m h. subst (Holds256 c) (append_assoc m x y) (g (m ++ x) (f m h))

pub feeds_none : (a : Sha256) → Feeds a a []
feeds_none a = λ m h. subst (Holds256 a) (sym (append-nil m)) h
