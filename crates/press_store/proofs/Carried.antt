-- A migration leaves what the tables stand for.
use Rattle.std.proofs.Common.{◌≡◌, ◌+◌, ◌<◌, ◌-◌, ℕ, ℤ, zero, suc, List, [], codes, filter, true, Option, Some, None, refl, sym, ap, ap₂, subst, ◌∙◌, inl, inr, arith}
use Rattle.std.specs.Prelude.{IsSome}
use Rattle.std.proofs.lemmas.Bool.{cases_Bool, cases_eq}
use Rattle.sqlite.specs.Order.{Row}
use Rattle.sqlite.specs.Tree.{Trees}
use Rattle.sqlite_trees.specs.Objects.{catalog_tree}
use Rattle.sqlite_catalog.specs.Listing.{Lists}
use Rattle.press_wire.specs.declared.ballot.Ballot.{Ballot}
use Rattle.press_wire.specs.declared.vote.Vote.{Vote}
use Rattle.press_wire.specs.declared.votes.SlotVote.{SlotVote}
use Rattle.press_wire.specs.Blocks.{is_first, slots_of}
use Rattle.press_wire.specs.Votes.{votes_at}
use Rattle.press_wire.proofs.Collected.{block_none}
use Rattle.press_acceptor.specs.InMemory.{map_of}
use Rattle.press_acceptor.proofs.Maps.{IsSlot, map_same}
use Rattle.press_store.specs.Tables.{Moved, old_schema}
use Rattle.press_store.specs.Shown.{promise_over, promise_at, vote_at, most_rounds, number_in, round_at, round_in, is_last_round, is_version, old_rows, block_rows, vote_rows, meta_rows, store_of, IsOldVersion}
use Rattle.press_store.specs.Slots.{read_at, row_at, greater, ballot_of_vote, ballot_of_row, greatest_to, greatest_at}
use Rattle.press_store.specs.Stands.{or_else, store_with, store_in}
use Rattle.press_store.specs.Moving.{EndAt, HasNumber, block_at}
use Rattle.press_store.specs.Migrated.{Migrated, IsMigrated}
use Rattle.press_store.specs.Adopted.{AreSound}
use Rattle.press_store.proofs.Blocks.{behind_some}
use Rattle.press_store.proofs.Maps.{no_vote_at, none_promised, slots_inside}
use Rattle.press_store.proofs.Standing.{stand, table_at}
use Rattle.press_store.proofs.Versions.{as_newer}

-- ---- a block without a ballot has no vote

none_left : (a b : Option Ballot) → greater a b ≡ None → (a ≡ None) × (b ≡ None)
none_left None None h = (refl, refl)
none_left None (Some b) h = absurd (let e = h in cc)
none_left (Some a) None h = absurd (let e = h in cc)
none_left (Some a) (Some b) h = absurd (let e = h in cc)

none_in : (v : Option Vote) → ballot_of_vote v ≡ None → v ≡ None
none_in None h = refl
none_in (Some v) h = absurd (let e = h in cc)

none_voted : (slots : List Row) (first n : ℕ) → greatest_to slots first n ≡ None → (k : ℕ) → k < n → (row_at slots (first + k)).vote ≡ None
unfolding greatest_to
none_voted slots first zero none k less = absurd (omega (arith, less))
none_voted slots first (suc n) none k less =
    let both = none_left (greatest_to slots first n) (ballot_of_row (row_at slots (first + n))) none in
    elim (cases_eq k n) [
      | inl same ↦ rw same (none_in (row_at slots (first + n)).vote (none_left _ _ both.1).1)
      | inr other ↦ none_voted slots first n both.0 k (omega (arith, less, other))
    ]

over_all : (ballot : Option Ballot) (votes : List SlotVote) → (ballot ≡ None → votes ≡ []) → promise_over ballot votes ≡ ballot
over_all (Some b) votes none = refl
over_all None votes none = rw (none refl) refl

-- ---- both versions

same_round : (n : ℤ) (old new : Trees) → HasNumber (codes "last_round") n old → HasNumber (codes "last_round") n new → round_at (new 1) ≡ round_at (old 1)
unfolding round_at
same_round n old new was is = rw (was.one, is.one, was.number, is.number) refl

module _ (old new : Trees) (had : Lists (old catalog_tree) old_schema) (h : Migrated old new) where
  had_rows : (old_rows old ≡ old 0) × (block_rows old ≡ []) × (vote_rows old ≡ []) × (meta_rows old ≡ old 1)
  had_rows = (table_at old_schema (codes "promise") old had, table_at old_schema (codes "block") old had, table_at old_schema (codes "vote") old had, table_at old_schema (codes "meta") old had)

  none_voted_in : (first : ℕ) → IsSlot first → is_first first ≡ true → greatest_to (old 0) first 16 ≡ None → votes_at (vote_at (new 4)) (slots_of first) ≡ []
  none_voted_in first i e none = block_none (vote_at (new 4)) first (λ slot low high.
      let s = slots_inside first slot i e low high in
      let k = slot - first in
      let at : first + k ≡ slot = omega (arith, low) in
      h.votes slot s.0 s.1 ∙ subst (λ t. (row_at (old 0) t).vote ≡ None) at (none_voted (old 0) first 16 none k (omega (arith, low, high))))

  promise_stays : (q : ℕ) → IsSlot q → promise_at (new 3) (new 4) q ≡ greater (promise_at [] [] q) (greatest_at (old 0) q)
  unfolding promise_at block_at greatest_at
  promise_stays q i = elim (cases_Bool (is_first q)) [
    | inr other ↦ rw other refl
    | inl first ↦
        let (j, low, at) = behind_some q i first in
        let here : block_at (new 3) q ≡ greatest_to (old 0) q 16 = subst (λ k. block_at (new 3) k ≡ greatest_to (old 0) k 16) at (h.promises j low) in
        let votes = votes_at (vote_at (new 4)) (slots_of q) in
        let is = ap (λ o. promise_over o votes) here ∙ over_all (greatest_to (old 0) q 16) votes (none_voted_in q i first) in
        let was = ap (λ o. greater o (greatest_to (old 0) q 16)) (none_promised q) in
        rw first (is ∙ sym (rw first at was))
  ]

  vote_stays : (q : ℕ) → IsSlot q → vote_at (new 4) q ≡ or_else (vote_at [] q) (row_at (old 0) q).vote
  vote_stays q i = h.votes q i.0 i.1 ∙ sym (ap (λ o. or_else o (row_at (old 0) q).vote) (no_vote_at q))

  same_maps : store_of (new 3) (new 4) (new 1) ≡ store_with (old 0) [] [] (old 1)
  unfolding store_of store_with
  same_maps =
      let promises = map_same (λ first. greater (promise_at [] [] first) (greatest_at (old 0) first)) (promise_at (new 3) (new 4)) promise_stays in
      let votes = map_same (λ slot. or_else (vote_at [] slot) (row_at (old 0) slot).vote) (vote_at (new 4)) vote_stays in
      ap₂ (λ p v. record { promises = p; votes = v; last_round = round_at (new 1) }) promises votes
      ∙ ap (λ n. record { promises = map_of (λ first. greater (promise_at [] [] first) (greatest_at (old 0) first)); votes = map_of (λ slot. or_else (vote_at [] slot) (row_at (old 0) slot).vote); last_round = n }) (same_round h.round old new h.was h.stays)

  same_store : store_in new ≡ store_in old
  unfolding store_in
  same_store =
      let is = stand Moved new h.listed in
      let after = sym (as_newer new (is.old ∙ h.emptied)) ∙ ap₂ (λ b v. store_of b v (meta_rows new)) is.blocks is.votes ∙ ap (store_of (new 3) (new 4)) is.meta in
      let before : store_in old ≡ store_with (old 0) [] [] (old 1) = rw (had_rows.0, had_rows.1, had_rows.2, had_rows.3) refl in
      after ∙ same_maps ∙ sym before

  pub carried : IsMigrated old new
  carried =
      let is = stand Moved new h.listed in
      record {
        tables = record {
          schema = refl;
          listed = h.listed;
          emptied = is.old ∙ h.emptied;
          kept = record { row = h.stays.row; one = ap (filter is_last_round) is.meta ∙ h.stays.one; id = h.stays.id; numbered = h.stays.numbered };
        };
        version = record { row = h.version.row; one = ap (filter is_version) is.meta ∙ h.version.one; number = h.version.number };
        same = same_store;
      }

  pub was_sound : AreSound old
  was_sound =
      let one = ap (filter is_last_round) had_rows.3 ∙ h.was.one in (
        subst (EndAt 1000000) (sym had_rows.0) h.ends,
        (λ slot low high. subst (λ rows. IsSome (read_at rows slot)) (sym had_rows.0) (h.sound slot low high)),
        record { row = h.was.row; one = one; id = h.was.id; numbered = h.was.numbered },
        subst (λ rows. IsSome (round_in rows)) (sym one) (subst (λ v. IsSome (number_in 0 most_rounds v)) (sym h.was.number) h.round_sound),
      )

  pub was_old : IsOldVersion old
  was_old = record { row = h.was_version.row; one = ap (filter is_version) had_rows.3 ∙ h.was_version.one; number = h.was_version.number }
