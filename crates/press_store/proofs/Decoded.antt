-- The votes of rows, read one after another.
use Rattle.std.proofs.Common.{◌≡◌, ◌+◌, ◌<◌, ◌≤◌, ℕ, List, [], ◌∷◌, ◌++◌, length, drop, Option, None, Some, refl, sym, ap, ◌∙◌, append-nil}
use Rattle.std.proofs.lemmas.List.{append_assoc, drop_more}
use Rattle.std.proofs.Math.ListN.{drop_of_length-le}
use Rattle.std.specs.Prelude.{get_or, option_map}
use Rattle.sqlite.specs.Order.{Row}
use Rattle.press_wire.specs.declared.votes.SlotVote.{SlotVote}
use Rattle.press_store.specs.Shown.{before, shown_vote, shown_votes}

-- these votes before the others
abbrev pub behind : List SlotVote → Option (List SlotVote) → Option (List SlotVote)
behind votes more = option_map (λ rest. votes ++ rest) more

pub behind_none : (more : Option (List SlotVote)) → behind [] more ≡ more
behind_none None = refl
behind_none (Some more) = refl

behind_one : (votes : List SlotVote) (s : SlotVote) (more : Option (List SlotVote)) → behind (votes ++ s ∷ []) more ≡ behind votes (option_map (λ rest. s ∷ rest) more)
behind_one votes s None = refl
behind_one votes s (Some more) = ap Some (append_assoc votes (s ∷ []) more)

module _ (votes : List SlotVote) (least last : ℕ) where
  pub row_read : (rows : List Row) (i : ℕ) (d : Row) (s : SlotVote) → i < length rows → shown_vote least last (get_or rows i d) ≡ Some s
      → behind (votes ++ s ∷ []) (shown_votes (s.slot + 1) last (drop (i + 1) rows)) ≡ behind votes (shown_votes least last (drop i rows))
  unfolding shown_votes
  row_read rows i d s low is =
      let rest = λ (v : SlotVote). shown_votes (v.slot + 1) last (drop (i + 1) rows) in
      behind_one votes s (rest s) ∙ sym (ap (λ xs. behind votes (shown_votes least last xs)) (drop_more rows i d low) ∙ ap (λ o. behind votes (before o rest)) is)

  pub row_damaged : (rows : List Row) (i : ℕ) (d : Row) → i < length rows → shown_vote least last (get_or rows i d) ≡ None → behind votes (shown_votes least last (drop i rows)) ≡ None
  unfolding shown_votes
  row_damaged rows i d low is =
      let rest = λ (v : SlotVote). shown_votes (v.slot + 1) last (drop (i + 1) rows) in
      ap (λ xs. behind votes (shown_votes least last xs)) (drop_more rows i d low) ∙ ap (λ o. behind votes (before o rest)) is

  pub none_left : (rows : List Row) (i : ℕ) → length rows ≤ i → behind votes (shown_votes least last (drop i rows)) ≡ Some votes
  unfolding shown_votes
  none_left rows i high = ap (λ xs. behind votes (shown_votes least last xs)) (drop_of_length-le rows high) ∙ ap Some (append-nil votes)
