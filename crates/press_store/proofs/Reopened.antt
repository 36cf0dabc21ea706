-- What an open finds of an earlier run.
use Rattle.std.proofs.Common.{◌≡◌, ap, subst, ◌∙◌, inl, inr}
use Rattle.sqlite.specs.Tree.{Trees}
use Rattle.sqlite.specs.Recovery.{Image}
use Rattle.sqlite.specs.Effect.{Database}
use Rattle.sqlite.specs.State.{State, Opens, IsLive}
use Rattle.sqlite.specs.Start.{FindsIn}
use Rattle.sqlite.specs.Files.{HoldsDatabase, IsNothing}
use Rattle.sqlite_trees.specs.Objects.{catalog_tree}
use Rattle.sqlite_catalog.specs.Listing.{IsSound}
use Rattle.press_store.specs.Tables.{no_schema}
use Rattle.press_store.specs.Stands.{store_in}
use Rattle.press_store.specs.Shown.{IsEmptied, IsKept, IsOldVersion, IsOurVersion}
use Rattle.press_store.specs.Adopted.{Adopts, AreSound, IsServed}
use Rattle.press_store.specs.Opened.{Begins, Finds, IsStore, IsUp, HoldsServed, LeavesFound, WereSound}
use Rattle.press_store.specs.Kept.{kept_by, MayLeave}
use Rattle.press_acceptor.specs.StoreMap.{Only}
use Rattle.press_store.proofs.Adopting.{none_kept}
use Rattle.press_store.proofs.Schemas.{layout_alone, lists_nothing, old_alone}
use Rattle.press_store.proofs.Blank.{finds_empty}

finds_none : (was : State) (image : Image) → Opens was → IsLive was → FindsIn image was → IsNothing image → was.now.schema ≡ no_schema
finds_none was image opens live found nothing =
    let sound : IsSound was.now.schema was.now.trees = (live opens.is_open).0 in
    let trees : was.now.trees ≡ was.committed.trees = ap (λ (d : Database). d.trees) opens.clean in
    lists_nothing was.now.schema was.now.trees sound (ap (λ (db : Trees). db catalog_tree) trees ∙ finds_empty image was.committed.trees nothing found.reads)

finds_store : (was : State) (image : Image) (db : Trees) → Opens was → IsLive was → FindsIn image was → HoldsDatabase image db → IsStore db → IsServed was
finds_store was image db opens live found holds store =
    let trees : was.now.trees ≡ db = ap (λ (d : Database). d.trees) opens.clean ∙ found.holds db holds in
    let sound : IsSound was.now.schema db = subst (IsSound was.now.schema) trees (live opens.is_open).0 in
    elim store [
      | inl new ↦ inr (inl (new.0, layout_alone new.0 was.now.schema db sound new.1))
      | inr old ↦ inr (inr (old_alone was.now.schema db sound old))
    ]

pub finds_served : (was : State) (image : Image) → Opens was → IsLive was → FindsIn image was → HoldsServed image → IsServed was
finds_served was image opens live found (inl nothing) = inl (finds_none was image opens live found nothing)
finds_served was image opens live found (inr (db, holds, store)) = finds_store was image db opens live found holds store

pub begins_new : (was now : State) (image : Image) → Opens was → IsLive was → FindsIn image was → Adopts was now → Begins image now
begins_new was now image opens live found adopts nothing = adopts.begins (finds_none was image opens live found nothing)

pub finds_again : (was now : State) (image : Image) → FindsIn image was → Adopts was now → Finds image now
finds_again was now image found adopts db holds = adopts.kept ∙ ap store_in (found.holds db holds)

pub were_sound : (was now : State) (image : Image) → Opens was → IsLive was → FindsIn image was → Adopts was now → WereSound image
were_sound was now image opens live found adopts db holds =
    let trees : was.now.trees ≡ db = ap (λ (d : Database). d.trees) opens.clean ∙ found.holds db holds in
    let sound : IsSound was.now.schema db = subst (IsSound was.now.schema) trees (live opens.is_open).0 in (
      (λ old.
          let has = old_alone was.now.schema db sound old in (subst IsOldVersion trees (adopts.old_version has), subst AreSound trees (adopts.sound has))),
      (λ l ours.
          let has = layout_alone l was.now.schema db sound ours in
          (subst IsOurVersion trees (adopts.version (l, has)), subst IsEmptied trees (adopts.emptied (l, has)), subst IsKept trees (adopts.had_round (l, has)))),
    )

pub leaves_found : (was now : State) (image : Image) → Opens was → IsLive was → FindsIn image was → Only (kept_by was) (MayLeave now) → LeavesFound image now
leaves_found was now image opens live found only = record {
  found = λ db holds store may. only store may ∙ ap store_in (found.holds db holds);
  begun = λ nothing store may. only store may ∙ none_kept was live (λ _. opens.clean) opens.is_open (finds_none was image opens live found nothing);
}

pub is_up : (was now : State) → Adopts was now → IsUp now
is_up was now h = record { is_open = h.is_open; durable = h.durable; version_shown = h.version_shown; version_left = h.version_left; emptied_shown = h.emptied_shown; emptied_left = h.emptied_left }
