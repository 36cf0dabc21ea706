-- A transaction goes on by one step, and so does what is moved.
use Rattle.std.proofs.Common.{◌≡◌, ◌⊎◌, ◌≤◌, ◌<◌, ◌+◌, ◌-◌, ℕ, List, Option, None, Some, refl, ap, ap₂, subst, ◌∙◌, inl, inr, arith, add-one}
use Rattle.std.specs.Prelude.{IsSome, IsTrue, unwrap_or}
use Rattle.std.proofs.lemmas.Bool.{cases_eq}
use Rattle.std.proofs.lemmas.Bool.Decides.{leb_tells}
use Rattle.sqlite.specs.Store.{Ghosts}
use Rattle.sqlite.specs.Order.{Row}
use Rattle.sqlite.specs.Tree.{Trees}
use Rattle.sqlite.specs.State.{State, HasCleanDisk, KeepsCommit, Survives}
use Rattle.sqlite.specs.Held.{Held, state}
use Rattle.sqlite.proofs.InsideLemmas.{keeps_then}
use Rattle.sqlite.proofs.StateLemmas.{survives_then}
use Rattle.press_wire.specs.declared.ballot.Ballot.{Ballot}
use Rattle.press_store.specs.Shown.{vote_at}
use Rattle.press_store.specs.Slots.{SlotRow, damaged_row, read_at, row_at, greatest_to, greater, ballot_of_row}
use Rattle.press_store.specs.Moving.{Stay, IsDamagedOr, RowMoved, SlotMoved, VotesMoved, BallotPut, BlockMoved, BlocksMoved, AreEmpty, block_at, first_behind}
use Rattle.press_store.specs.Steps.{Keeps}

-- ---- what a step leaves of a transaction

pub keeps_itself : (s : State) → KeepsCommit s s
keeps_itself s = record { was_open = λ is. is; committed = λ _. refl }

pub survives_itself : (s : State) → Survives s s (λ _. ⊥)
survives_itself s = record { clean = omega arith; shield = λ is. is; counts = omega arith; limit = refl; closes = λ _ is. inl is; crash = λ _ db may. inl may }

pub survives_both : (a b c : State) → Survives a b (λ _. ⊥) → Survives b c (λ _. ⊥) → Survives a c (λ _. ⊥)
survives_both a b c one two = survives_then a b c _ _ (λ _. ⊥) (λ _ db none. none) (λ _ db none. none) one two

module _ {S : Type 0} (g : Ghosts S) (a b c : Held S) (later : Survives (state g b) (state g c) (λ _. ⊥)) where
  pub was_clean : HasCleanDisk (state g c) → HasCleanDisk (state g b)
  was_clean clean = omega (arith, later.clean, clean)

  pub keeps_both : Keeps g a b → (HasCleanDisk (state g b) → IsTrue (state g a).in_transaction → IsTrue (state g b).in_transaction) → Keeps g b c → Keeps g a c
  keeps_both one going two clean inside = keeps_then _ _ _ (one (was_clean clean) inside) (two clean (going (was_clean clean) inside))

-- ---- the votes of a block

pub stays_itself : (db : Trees) → Stay db db
stays_itself db = record { slots = refl; meta = refl; listed = refl }

pub stays_both : (a b c : Trees) → Stay a b → Stay b c → Stay a c
stays_both a b c one two = record { slots = two.slots ∙ one.slots; meta = two.meta ∙ one.meta; listed = two.listed ∙ one.listed }

pub same_read : (old new : List Row) (slot : ℕ) → new ≡ old → read_at new slot ≡ read_at old slot
same_read old new slot same = ap (λ rows. read_at rows slot) same

pub same_row : (old new : List Row) (slot : ℕ) → new ≡ old → row_at new slot ≡ row_at old slot
same_row old new slot same = ap (λ rows. row_at rows slot) same

pub same_vote : (old new : List Row) (slot : ℕ) → new ≡ old → vote_at new slot ≡ vote_at old slot
same_vote old new slot same = ap (λ rows. vote_at rows slot) same

pub same_block : (old new : List Row) (first : ℕ) → new ≡ old → block_at new first ≡ block_at old first
same_block old new first same = ap (λ rows. block_at rows first) same

pub same_greatest : (old new : List Row) (first n : ℕ) → new ≡ old → greatest_to new first n ≡ greatest_to old first n
same_greatest old new first n same = ap (λ rows. greatest_to rows first n) same

pub votes_none : (first : ℕ) (db : Trees) → VotesMoved first 0 db db None
unfolding greatest_to
votes_none first db = record { stay = stays_itself db; blocks = refl; here = λ n low. absurd (omega (arith, low)); there = λ s _ _. refl; told = refl; sound = λ n low. absurd (omega (arith, low)) }

-- a step that is done had a row that can be read
undamaged : (o : Option SlotRow) (P : SlotRow → Type 0) → IsDamagedOr o P → IsSome o × P (unwrap_or o damaged_row)
undamaged None P h = absurd h
undamaged (Some row) P h = (refl, h)

pub votes_more : (first n : ℕ) (was mid now : Trees) (greatest here : Option Ballot) → 1 ≤ first → VotesMoved first n was mid greatest → SlotMoved (first + n) mid now here → VotesMoved first (n + 1) was now (greater greatest here)
unfolding greatest_to
votes_more first n was mid now greatest here one h step =
    let (fine, (moved, told)) = undamaged (read_at (mid 0) (first + n)) (λ row. RowMoved (first + n) row mid now here) step in
    let row = same_row (was 0) (mid 0) (first + n) h.stay.slots in
    record {
      stay = stays_both was mid now h.stay moved.0;
      blocks = moved.1 ∙ h.blocks;
      here = λ k low none. elim (cases_eq k n) [
        | inl same ↦ rw same (moved.2 (h.there (first + n) (omega (arith, one)) (inr (omega arith)) ∙ rw same at none) ∙ ap (λ r. r.vote) row)
        | inr other ↦ moved.3 (first + k) (omega (arith, one)) (λ e. absurd (other (omega (arith, e)))) ∙ h.here k (omega (arith, low, other)) none
      ];
      there = λ s least out. moved.3 s least (λ e. absurd (elim out [ inl low ↦ omega (arith, e, low) | inr high ↦ omega (arith, e, high) ]))
          ∙ h.there s least (elim out [ inl low ↦ inl low | inr high ↦ inr (omega (arith, high)) ]);
      told = ap₂ greater h.told (told ∙ ap ballot_of_row row) ∙ rw add-one refl;
      sound = λ k low. elim (cases_eq k n) [
        | inl same ↦ rw same (subst IsSome (same_read (was 0) (mid 0) (first + n) h.stay.slots) fine)
        | inr other ↦ h.sound k (omega (arith, low, other))
      ];
    }

-- ---- a block

-- one without a ballot is moved with its votes
pub block_without : (first : ℕ) (old new : Trees) → VotesMoved first 16 old new None → BlockMoved first old new
block_without first old new h = record {
  stay = h.stay;
  here = h.here;
  there = h.there;
  promise = λ none. same_block (old 3) (new 3) first h.blocks ∙ none ∙ h.told;
  others = λ s _ _. same_block (old 3) (new 3) s h.blocks;
  sound = h.sound;
}

pub block_with : (first : ℕ) (ballot : Ballot) (old mid new : Trees) → VotesMoved first 16 old mid (Some ballot) → BallotPut first ballot mid new → BlockMoved first old new
block_with first ballot old mid new h put = record {
  stay = stays_both old mid new h.stay put.stay;
  here = λ n low none. same_vote (mid 4) (new 4) (first + n) put.votes ∙ h.here n low none;
  there = λ s least out. same_vote (mid 4) (new 4) s put.votes ∙ h.there s least out;
  promise = λ _. put.here ∙ h.told;
  others = λ s least other. put.there s least other ∙ same_block (old 3) (mid 3) s h.blocks;
  sound = h.sound;
}

-- ---- block after block

pub blocks_none : (db : Trees) → AreEmpty db → BlocksMoved 0 db db
unfolding block_at vote_at
blocks_none db empty = record {
  stay = stays_itself db;
  promises = λ j low. absurd (omega (arith, low));
  no_promise = λ j _. rw empty.0 refl;
  votes = λ s low high. absurd (omega (arith, low, high));
  no_vote = λ s _. rw empty.1 refl;
  sound = λ s low high. absurd (omega (arith, low, high));
}

pub blocks_more : (j : ℕ) (was mid now : Trees) → BlocksMoved j was mid → BlockMoved (first_behind j) mid now → BlocksMoved (j + 1) was now
blocks_more j was mid now h step = record {
  stay = stays_both was mid now h.stay step.stay;
  promises = λ i low. elim (cases_eq i j) [
    | inl same ↦ rw same (step.promise (h.no_promise j (omega arith)) ∙ same_greatest (was 0) (mid 0) (first_behind j) 16 h.stay.slots)
    | inr other ↦ step.others (first_behind i) (omega arith) (λ e. absurd (other (omega (arith, e)))) ∙ h.promises i (omega (arith, low, other))
  ];
  no_promise = λ i high. step.others (first_behind i) (omega arith) (λ e. absurd (omega (arith, e, high))) ∙ h.no_promise i (omega (arith, high));
  votes = λ s low high. elim (either_side s (first_behind j)) [
    | inl before ↦ step.there s low (inl before) ∙ h.votes s low before
    | inr from ↦
        let n = s - first_behind j in
        let at : first_behind j + n ≡ s = omega (arith, from) in
        let here = step.here n (omega (arith, from, high)) (rw at (h.no_vote s from)) in
        subst (λ t. vote_at (now 4) t ≡ (row_at (was 0) t).vote) at (here ∙ ap (λ r. r.vote) (same_row (was 0) (mid 0) (first_behind j + n) h.stay.slots))
  ];
  no_vote = λ s high. step.there s (omega (arith, high)) (inr (omega (arith, high))) ∙ h.no_vote s (omega (arith, high));
  sound = λ s low high. elim (either_side s (first_behind j)) [
    | inl before ↦ h.sound s low before
    | inr from ↦
        let n = s - first_behind j in
        let at : first_behind j + n ≡ s = omega (arith, from) in
        subst (λ t. IsSome (read_at (was 0) t)) at (subst IsSome (same_read (was 0) (mid 0) (first_behind j + n) h.stay.slots) (step.sound n (omega (arith, from, high))))
  ];
}
  where
    either_side : (s n : ℕ) → (s < n) ⊎ (n ≤ s)
    either_side s n = elim (leb_tells n s) [ inl from ↦ inr from.1 | inr before ↦ inl (omega (arith, before.1)) ]
