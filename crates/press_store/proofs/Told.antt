-- From what a connection leaves to what is seen of its store.
use Rattle.std.proofs.Common.{Ok, Err, inl}
use Rattle.sqlite.specs.declared.error.Error.{Error}
use Rattle.sqlite.specs.Store.{Ghosts}
use Rattle.sqlite.specs.Held.{state}
use Rattle.press_acceptor.specs.StoreMap.{StoreMap}
use Rattle.press_acceptor.specs.Seen.{Looks, IsSaved, MayBeSaved}
use Rattle.press_store.specs.Attempt.{Looked, Saved}
use Rattle.press_store.specs.Kept.{Kept, kept_by, seen_of}

module _ {S : Type 0} (g : Ghosts S) (old new : Kept S) where
  pub looked_told : Looked (state g old.conn) (state g new.conn) → Looks (seen_of g old) (seen_of g new)
  looked_told h = record { was_open = λ is. (h.same is).0; same = λ is. (h.same is).1; crash = h.crash }

  pub saved_told : {A : Type 0} (turn : StoreMap → StoreMap) (n : A) → Saved turn (state g old.conn) (state g new.conn) (Ok n) → IsSaved (seen_of g old) (seen_of g new) (turn (kept_by (state g old.conn)))
  saved_told turn n h = record { was_open = h.saved.1; is_open = h.saved.0; kept = h.saved.2; durable = h.only h.saved.0 }

  pub failed_told : {A : Type 0} (turn : StoreMap → StoreMap) (e : Error) → Saved {A = A} turn (state g old.conn) (state g new.conn) (Err e) → MayBeSaved (seen_of g old) (seen_of g new) (turn (kept_by (state g old.conn)))
  failed_told turn e h = record { was_open = λ is. (h.failed is).0; kept = λ is. inl (h.failed is).1; crash = h.crash }
