-- What the statements that save a promise and a vote make of the tables.
use Rattle.std.proofs.Common.{◌≡◌, ℕ, pos, List, [], ◌∷◌, filter, true, Option, Some, None, Ok, Err, Result, refl, sym, ap, ap₂, subst, ◌∙◌}
use Rattle.std.specs.Prelude.{IsSome, OnOk, unwrap_or}
use Rattle.std.specs.FinMap as map
use Rattle.std.proofs.lemmas.Bool.{le-leb}
use Rattle.sqlite.specs.declared.error.Error.{Error}
use Rattle.sqlite.specs.declared.run.Mode.{Mode}
use Rattle.sqlite.specs.Listing.{understood}
use Rattle.sqlite.specs.State.{State, ExecutesInside, mode_of}
use Rattle.sqlite.proofs.Callers.{runs_as, statement_of}
use Rattle.sqlite.specs.declared.types.Value.TheVariants.{Int, Blob}
use Rattle.sqlite.specs.Order.{Row}
use Rattle.sqlite.specs.Tree.{has_rowid}
use Rattle.sqlite.specs.Effect.{Database}
use Rattle.sqlite.specs.Does.{Tally, Does}
use Rattle.press_wire.specs.declared.ballot.Ballot.{Ballot}
use Rattle.press_wire.specs.declared.vote.Vote.{Vote}
use Rattle.press_wire.specs.Blocks.{block_of, is_first}
use Rattle.press_wire.specs.Held.{IsBallot}
use Rattle.press_wire.specs.Reading.{read_command}
use Rattle.press_acceptor.specs.StoreMap.{StoreMap, promise_of, with_promise, with_vote}
use Rattle.press_acceptor.proofs.Maps.{IsSlot, get_here}
use Rattle.press_store.specs.Tables.{Layout, schema_of, save_promise_text, save_vote_text}
use Rattle.press_store.specs.Saving.{PutsPromise, AddsVote}
use Rattle.press_store.specs.Shown.{most_rounds, ballot_in, vote_as, promise_in, vote_in_rows, damaged_ballot, damaged_vote, block_rows, vote_rows, meta_rows, store_of}
use Rattle.press_store.specs.Stands.{store_in}
use Rattle.press_store.specs.Attempt.{AreTables}
use Rattle.press_store.proofs.Maps.{IsReplaced, promise_saved, vote_saved}
use Rattle.press_store.proofs.Put.{same_pos}
use Rattle.press_store.proofs.Replaced.{block_row, vote_row, block_replaced, vote_replaced}
use Rattle.press_store.specs.Starts.{starts_in}
use Rattle.press_store.proofs.Standing.{same_starts, stand, blocks_change, votes_change, still_listed, kept_still, tables_still}
use Rattle.press_store.proofs.Versions.{as_newer, newer_in, turned}
use Rattle.press_store.proofs.Texts.{promise_insert, vote_insert, save_promise_means, save_vote_means}

pub ballot_back : (b : Ballot) → IsBallot b → ballot_in (Int (pos b.round)) (Int (pos b.node)) ≡ Some b
ballot_back b h = rw (le-leb 1 b.round h.0.0, le-leb b.round most_rounds h.0.1, le-leb 1 b.node h.1.0, le-leb b.node 7 h.1.1)

module _ (first : ℕ) (ballot : Ballot) (i : IsSlot first) (e : is_first first ≡ true) (h : IsBallot ballot) where
  abbrev pub promise_params : Row
  promise_params = Int (pos first) ∷ Int (pos ballot.round) ∷ Int (pos ballot.node) ∷ []

  pub promise_put : (l : Layout) (limit : Option ℕ) (mode : Mode) (now after : Database) (tally : Tally) (text : List ℕ) → AreTables l now → Does limit mode promise_params now text None (promise_insert l) (Ok (tally, after))
      → AreTables l after × (store_in after.trees ≡ with_promise (store_in now.trees) first ballot)
  promise_put l limit mode now after tally text has does =
      let row = block_row first ballot.round ballot.node in
      let (schema, put) = block_replaced l first ballot.round ballot.node limit mode now after tally text has.schema does in
      let change = blocks_change now.trees after.trees l has.listed put.others in
      let was = stand l now.trees has.listed in
      let is = stand l after.trees (still_listed l now.trees after.trees change.listed has.listed) in
      let replaced : IsReplaced first row (block_rows now.trees) (block_rows after.trees) = record {
        here = ap (filter (has_rowid (pos first))) is.blocks ∙ put.here;
        there = λ s other some. ap (filter (has_rowid (pos s))) is.blocks ∙ put.there (pos s) (λ e. other (same_pos s first e)) (λ e. some (same_pos s 0 e)) ∙ ap (filter (has_rowid (pos s))) (sym was.blocks);
      } in
      let shows : promise_in (row ∷ []) ≡ Some ballot = ap (λ o. Some (unwrap_or o damaged_ballot)) (ballot_back ballot h) in (
        tables_still l now after schema change.listed change.old_stay (kept_still now.trees after.trees change.meta has.kept) has,
        turned (λ store. with_promise store first ballot) now.trees after.trees has.emptied (change.old_stay ∙ has.emptied)
            (ap₂ (store_of (block_rows after.trees)) change.votes change.meta ∙ promise_saved (block_rows now.trees) (block_rows after.trees) (vote_rows now.trees) (meta_rows now.trees) first row ballot i e shows replaced),
      )

  pub promise_spared : (l : Layout) (limit : Option ℕ) (mode : Mode) (now after : Database) (tally : Tally) (text : List ℕ) → AreTables l now → Does limit mode promise_params now text None (promise_insert l) (Ok (tally, after))
      → starts_in after.trees ≡ starts_in now.trees
  promise_spared l limit mode now after tally text has does =
      let put = (block_replaced l first ballot.round ballot.node limit mode now after tally text has.schema does).1 in
      let change = blocks_change now.trees after.trees l has.listed put.others in
      same_starts now.trees after.trees change.starts change.marks change.notes

module _ (slot : ℕ) (vote : Vote) (bytes : List ℕ) (i : IsSlot slot) (h : IsBallot vote.ballot) (reads : read_command bytes ≡ Ok vote.value) where
  abbrev pub vote_params : Row
  vote_params = Int (pos slot) ∷ Int (pos vote.ballot.round) ∷ Int (pos vote.ballot.node) ∷ Blob bytes ∷ []

  pub vote_put : (l : Layout) (limit : Option ℕ) (mode : Mode) (now after : Database) (tally : Tally) (text : List ℕ) → AreTables l now → Does limit mode vote_params now text None (vote_insert l) (Ok (tally, after))
      → AreTables l after × AddsVote slot vote (store_in now.trees) (store_in after.trees)
  vote_put l limit mode now after tally text has does =
      let row = vote_row slot vote.ballot.round vote.ballot.node bytes in
      let (schema, put) = vote_replaced l slot vote.ballot.round vote.ballot.node bytes limit mode now after tally text has.schema does in
      let change = votes_change now.trees after.trees l has.listed put.others in
      let was = stand l now.trees has.listed in
      let is = stand l after.trees (still_listed l now.trees after.trees change.listed has.listed) in
      let replaced : IsReplaced slot row (vote_rows now.trees) (vote_rows after.trees) = record {
        here = ap (filter (has_rowid (pos slot))) is.votes ∙ put.here;
        there = λ s other some. ap (filter (has_rowid (pos s))) is.votes ∙ put.there (pos s) (λ e. other (same_pos s slot e)) (λ e. some (same_pos s 0 e)) ∙ ap (filter (has_rowid (pos s))) (sym was.votes);
      } in
      let shows : vote_in_rows (row ∷ []) ≡ Some vote = rw (ballot_back vote.ballot h) (ap (λ v. Some (unwrap_or (vote_as vote.ballot v) damaged_vote)) reads) in (
        tables_still l now after schema change.listed change.old_stay (kept_still now.trees after.trees change.meta has.kept) has,
        subst (AddsVote slot vote (store_in now.trees)) (as_newer after.trees (change.old_stay ∙ has.emptied)) (subst (λ store. AddsVote slot vote store (newer_in after.trees)) (as_newer now.trees has.emptied)
            (λ promised. ap₂ (λ b m. store_of b (vote_rows after.trees) m) change.blocks change.meta ∙ vote_saved (block_rows now.trees) (vote_rows now.trees) (vote_rows after.trees) (meta_rows now.trees) slot row vote i shows replaced promised)),
      )

  pub vote_spared : (l : Layout) (limit : Option ℕ) (mode : Mode) (now after : Database) (tally : Tally) (text : List ℕ) → AreTables l now → Does limit mode vote_params now text None (vote_insert l) (Ok (tally, after))
      → starts_in after.trees ≡ starts_in now.trees
  vote_spared l limit mode now after tally text has does =
      let put = (vote_replaced l slot vote.ballot.round vote.ballot.node bytes limit mode now after tally text has.schema does).1 in
      let change = votes_change now.trees after.trees l has.listed put.others in
      same_starts now.trees after.trees change.starts change.marks change.notes

-- ---- the same within a transaction

pub promise_done : (old new : State) (first : ℕ) (ballot : Ballot) (result : Result ℕ Error) → IsSlot first → is_first first ≡ true → IsBallot ballot → (l : Layout) → AreTables l old.now
    → ExecutesInside 0 save_promise_text (Int (pos first) ∷ Int (pos ballot.round) ∷ Int (pos ballot.node) ∷ []) old new result → OnOk result (AreTables l new.now × PutsPromise first ballot (store_in old.now.trees) (store_in new.now.trees))
promise_done old new first ballot (Err e) i f h l has ran = tt
promise_done old new first ballot (Ok count) i f h l has ran =
    let text = statement_of save_promise_text (understood (schema_of l) save_promise_text) in
    let w = runs_as save_promise_text (promise_params first ballot i f h) old new (schema_of l) has.schema (promise_insert l) (save_promise_means l).0 (save_promise_means l).1 count ran.0 in
    promise_put first ballot i f h l old.step_limit (mode_of old) old.now new.now w.tally text has w.changed

pub vote_done : (old new : State) (slot : ℕ) (vote : Vote) (bytes : List ℕ) (result : Result ℕ Error) → IsSlot slot → IsBallot vote.ballot → read_command bytes ≡ Ok vote.value → (l : Layout) → AreTables l old.now
    → ExecutesInside 0 save_vote_text (Int (pos slot) ∷ Int (pos vote.ballot.round) ∷ Int (pos vote.ballot.node) ∷ Blob bytes ∷ []) old new result → OnOk result (AreTables l new.now × AddsVote slot vote (store_in old.now.trees) (store_in new.now.trees))
vote_done old new slot vote bytes (Err e) i h reads l has ran = tt
vote_done old new slot vote bytes (Ok count) i h reads l has ran =
    let text = statement_of save_vote_text (understood (schema_of l) save_vote_text) in
    let w = runs_as save_vote_text (vote_params slot vote bytes i h reads) old new (schema_of l) has.schema (vote_insert l) (save_vote_means l).0 (save_vote_means l).1 count ran.0 in
    vote_put slot vote bytes i h reads l old.step_limit (mode_of old) old.now new.now w.tally text has w.changed

pub promise_spares : (old new : State) (first : ℕ) (ballot : Ballot) (result : Result ℕ Error) → IsSlot first → is_first first ≡ true → IsBallot ballot → (l : Layout) → AreTables l old.now
    → ExecutesInside 0 save_promise_text (Int (pos first) ∷ Int (pos ballot.round) ∷ Int (pos ballot.node) ∷ []) old new result → OnOk result (starts_in new.now.trees ≡ starts_in old.now.trees)
promise_spares old new first ballot (Err e) i f h l has ran = tt
promise_spares old new first ballot (Ok count) i f h l has ran =
    let text = statement_of save_promise_text (understood (schema_of l) save_promise_text) in
    let w = runs_as save_promise_text (promise_params first ballot i f h) old new (schema_of l) has.schema (promise_insert l) (save_promise_means l).0 (save_promise_means l).1 count ran.0 in
    promise_spared first ballot i f h l old.step_limit (mode_of old) old.now new.now w.tally text has w.changed

pub vote_spares : (old new : State) (slot : ℕ) (vote : Vote) (bytes : List ℕ) (result : Result ℕ Error) → IsSlot slot → IsBallot vote.ballot → read_command bytes ≡ Ok vote.value → (l : Layout) → AreTables l old.now
    → ExecutesInside 0 save_vote_text (Int (pos slot) ∷ Int (pos vote.ballot.round) ∷ Int (pos vote.ballot.node) ∷ Blob bytes ∷ []) old new result → OnOk result (starts_in new.now.trees ≡ starts_in old.now.trees)
vote_spares old new slot vote bytes (Err e) i h reads l has ran = tt
vote_spares old new slot vote bytes (Ok count) i h reads l has ran =
    let text = statement_of save_vote_text (understood (schema_of l) save_vote_text) in
    let w = runs_as save_vote_text (vote_params slot vote bytes i h reads) old new (schema_of l) has.schema (vote_insert l) (save_vote_means l).0 (save_vote_means l).1 count ran.0 in
    vote_spared slot vote bytes i h reads l old.step_limit (mode_of old) old.now new.now w.tally text has w.changed

-- the two after one another save the vote
pub both_done : (slot : ℕ) (vote : Vote) (a b c : StoreMap) → PutsPromise (block_of slot) vote.ballot a b → AddsVote slot vote b c → c ≡ with_vote a slot vote
both_done slot vote a b c one two =
    let promised : promise_of b (block_of slot) ≡ Some vote.ballot = ap (λ store. promise_of store (block_of slot)) one ∙ get_here a.promises (block_of slot) vote.ballot (block_of slot) refl in
    two (subst IsSome (sym promised) refl) ∙ ap (λ (store : StoreMap). record { promises = store.promises; votes = map.insert store.votes slot vote; last_round = store.last_round }) one
