-- Without rows of version 1, the tables stand for what those of blocks and votes stand for; without any table, for a new store.
use Rattle.std.proofs.Common.{◌≡◌, ℕ, zero, suc, List, [], codes, Option, None, Some, refl, sym, ap, ap₂, ◌∙◌, inl, inr}
use Rattle.std.proofs.lemmas.Bool.{cases_Bool}
use mathlib.Core.Path.{fun_ext}
use Rattle.sqlite.specs.Order.{Row}
use Rattle.sqlite.specs.Tree.{Trees}
use Rattle.sqlite_trees.specs.Objects.{catalog_tree}
use Rattle.sqlite_catalog.specs.Listing.{Lists}
use Rattle.press_wire.specs.Blocks.{is_first}
use Rattle.press_wire.specs.declared.ballot.Ballot.{Ballot}
use Rattle.press_wire.specs.declared.vote.Vote.{Vote}
use Rattle.press_acceptor.specs.InMemory.{map_of}
use Rattle.press_acceptor.specs.StoreMap.{StoreMap, new_store}
use Rattle.press_store.specs.Tables.{no_schema}
use Rattle.press_store.specs.Shown.{promise_at, vote_at, round_at, store_of, block_rows, vote_rows, meta_rows, IsEmptied}
use Rattle.press_store.specs.Slots.{read_at, row_at, greater, greatest_to, greatest_at}
use Rattle.press_store.specs.Stands.{or_else, store_with, store_in}
use Rattle.press_store.proofs.Maps.{nothing_saved}
use Rattle.press_store.proofs.Standing.{table_at}

pub greater_none : (o : Option Ballot) → greater o None ≡ o
greater_none None = refl
greater_none (Some b) = refl

pub or_none : (o : Option Vote) → or_else o None ≡ o
or_none None = refl
or_none (Some v) = refl

none_to : (first n : ℕ) → greatest_to [] first n ≡ None
unfolding greatest_to read_at
none_to first zero = refl
none_to first (suc n) = rw (none_to first n) refl

none_greatest : (first : ℕ) → greatest_at [] first ≡ None
unfolding greatest_at
none_greatest first = elim (cases_Bool (is_first first)) [
  | inl is ↦ rw is (none_to first 16)
  | inr other ↦ rw other refl
]

-- no slot has a vote in rows that there are not
no_vote : (slot : ℕ) → (row_at [] slot).vote ≡ None
unfolding read_at
no_vote slot = refl

without_old : (blocks votes meta : List Row) → store_with [] blocks votes meta ≡ store_of blocks votes meta
unfolding store_with store_of
without_old blocks votes meta =
    let promises = fun_ext (λ first. ap (greater (promise_at blocks votes first)) (none_greatest first) ∙ greater_none _) in
    let voted = fun_ext (λ slot. ap (or_else (vote_at votes slot)) (no_vote slot) ∙ or_none _) in
    ap₂ (λ (p : ℕ → Option Ballot) (v : ℕ → Option Vote). record { promises = map_of p; votes = map_of v; last_round = round_at meta }) promises voted

-- what the tables of blocks and votes stand for, and the last round
abbrev pub newer_in : Trees → StoreMap
newer_in db = store_of (block_rows db) (vote_rows db) (meta_rows db)

pub as_newer : (db : Trees) → IsEmptied db → newer_in db ≡ store_in db
unfolding store_in
as_newer db none = sym (ap (λ rows. store_with rows (block_rows db) (vote_rows db) (meta_rows db)) none ∙ without_old (block_rows db) (vote_rows db) (meta_rows db))

pub turned : (turn : StoreMap → StoreMap) (old new : Trees) → IsEmptied old → IsEmptied new → newer_in new ≡ turn (newer_in old) → store_in new ≡ turn (store_in old)
turned turn old new was is h = sym (as_newer new is) ∙ h ∙ ap turn (as_newer old was)

-- a database that lists no table stands for empty maps and the number 0
pub nothing_stands : (db : Trees) → Lists (db catalog_tree) no_schema → store_in db ≡ new_store
unfolding round_at
nothing_stands db lists =
    let old = table_at no_schema (codes "promise") db lists in
    let blocks = table_at no_schema (codes "block") db lists in
    let votes = table_at no_schema (codes "vote") db lists in
    let meta = table_at no_schema (codes "meta") db lists in
    sym (as_newer db old) ∙ ap₂ (λ b v. store_of b v (meta_rows db)) blocks votes ∙ ap (store_of [] []) meta ∙ nothing_saved [] refl
