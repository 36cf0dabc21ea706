-- From a commit to what it saves.
use Rattle.std.proofs.Common.{◌≡◌, false, Ok, Err, Result, sym, ap, subst, ◌∙◌, inl, inr}
use Rattle.std.specs.Prelude.{IsTrue}
use Rattle.sqlite.specs.declared.error.Error.{Error}
use Rattle.sqlite.specs.Store.{Ghosts}
use Rattle.sqlite.specs.Tree.{Trees}
use Rattle.sqlite.specs.Effect.{Database}
use Rattle.sqlite.specs.State.{HasCleanDisk, Survives}
use Rattle.sqlite.specs.Held.{Held, state}
use Rattle.press_acceptor.specs.StoreMap.{StoreMap}
use Rattle.press_store.specs.Tables.{Layout}
use Rattle.press_store.specs.Stands.{store_in}
use Rattle.press_store.specs.Kept.{kept_by}
use Rattle.press_store.specs.Attempt.{AreTables, Ready, Saved}
use Rattle.press_store.specs.Steps.{IsTurned, Commits, Undone, WasOpen}
use Rattle.press_store.proofs.Saved.{as_kept}

module _ {S : Type 0} (g : Ghosts S) (law : (s : S) (db : Trees) → IsTrue (g.view s).is_open → g.recovers s db → db ≡ (g.view s).committed) (turn : StoreMap → StoreMap)
    (old new : Held S) (r : Ready (state g old)) (clean : HasCleanDisk (state g new)) (ended : (state g new).in_transaction ≡ false) (survives : Survives (state g old) (state g new) (IsTurned (state g old) turn)) where
  abbrev Left : Trees → Type 0
  Left db = IsTrue (state g old).is_open × ((l : Layout) → AreTables l (state g old).now → store_in db ≡ turn (store_in (state g old).now.trees))

  turned : (db : Trees) → Left db → store_in db ≡ turn (kept_by (state g old))
  turned db h = let t = r.tables h.0 in h.1 t.0 t.1 ∙ ap turn (as_kept (state g old) r h.0)

  pub committed : {A : Type 0} (result : Result A Error) → WasOpen g old new result → Commits g old new turn result → Undone g old new result → Saved turn (state g old) (state g new) result
  committed (Ok x) open_was done undone =
      let up = open_was clean in
      let t = r.tables up in
      let it = done clean t.0 t.1 in
      let kept : kept_by (state g new) ≡ turn (kept_by (state g old)) = ap (λ (d : Database). store_in d.trees) (sym it.3) ∙ it.2 ∙ ap turn (as_kept (state g old) r up) in
      record {
        ready = record { autocommit = ended; unlimited = survives.limit ∙ r.unlimited; tables = λ _. (t.0, it.1); settled = λ _. it.3 };
        saved = (it.0, up, kept);
        failed = tt;
        only = λ is left may. may.2 ∙ ap store_in (law new.store may.0 is may.1);
        crash = λ left may. elim (survives.crash clean may.0 may.1) [ inl was ↦ inl (may.0, was, may.2) | inr by ↦ inr (by.0, may.2 ∙ turned may.0 by) ];
      }
  committed (Err e) open_was done undone =
      let back = λ (is : IsTrue (state g new).is_open). undone clean is in
      record {
        ready = record {
          autocommit = ended;
          unlimited = survives.limit ∙ r.unlimited;
          tables = λ is. let t = r.tables (back is).0 in (t.0, subst (AreTables t.0) (sym ((back is).1 ∙ sym (r.settled (back is).0))) t.1);
          settled = λ is. (back is).1 ∙ sym (back is).2;
        };
        saved = tt;
        failed = λ is. ((back is).0, ap (λ (d : Database). store_in d.trees) (back is).2);
        only = λ is left may. may.2 ∙ ap store_in (law new.store may.0 is may.1);
        crash = λ left may. elim (survives.crash clean may.0 may.1) [ inl was ↦ inl (may.0, was, may.2) | inr by ↦ inr (by.0, may.2 ∙ turned may.0 by) ];
      }
