-- What a saved vote and a saved promise make of the trees of both versions.
use Rattle.std.proofs.Common.{◌≡◌, ℕ, pos, List, [], ◌∷◌, Some, Ok, Err, Result, ap, ◌∙◌, arith}
use Rattle.std.specs.Prelude.{IfOk, unwrap_or}
use Rattle.sqlite.specs.declared.error.Error.{Error}
use Rattle.sqlite.specs.declared.types.Value.TheVariants.{Int, Blob}
use Rattle.sqlite.specs.Tree.{Trees}
use Rattle.sqlite.specs.Listing.{understood}
use Rattle.sqlite.specs.State.{State, ExecutesInside, mode_of}
use Rattle.sqlite.proofs.Callers.{runs_as, statement_of}
use Rattle.sqlite_trees.specs.Objects.{catalog_tree}
use Rattle.press_wire.specs.declared.ballot.Ballot.{Ballot}
use Rattle.press_wire.specs.declared.vote.Vote.{Vote}
use Rattle.press_wire.specs.Held.{IsBallot}
use Rattle.press_wire.specs.Reading.{read_command}
use Rattle.press_store.specs.Tables.{Moved, schema_of, save_promise_text, save_vote_text}
use Rattle.press_store.specs.Shown.{vote_as, promise_in, vote_in_rows, damaged_ballot, damaged_vote, vote_at}
use Rattle.press_store.specs.Moving.{VotePut, BallotPut, block_at}
use Rattle.press_store.proofs.Puts.{ballot_back}
use Rattle.press_store.proofs.Put.{same_pos}
use Rattle.press_store.proofs.Replaced.{Replaces, block_row, vote_row, block_replaced, vote_replaced}
use Rattle.press_store.proofs.Texts.{promise_insert, vote_insert, save_promise_means, save_vote_means}

module _ (slot : ℕ) (vote : Vote) (bytes : List ℕ) (h : IsBallot vote.ballot) (reads : read_command bytes ≡ Ok vote.value) (old new : Trees) (put : Replaces (schema_of Moved) 4 (pos slot) (vote_row slot vote.ballot.round vote.ballot.node bytes) old new) where
  pub vote_put : VotePut slot vote old new
  unfolding vote_at
  vote_put =
      let row = vote_row slot vote.ballot.round vote.ballot.node bytes in
      let shows : vote_in_rows (row ∷ []) ≡ Some vote = rw (ballot_back vote.ballot h) (ap (λ v. Some (unwrap_or (vote_as vote.ballot v) damaged_vote)) reads) in
      record {
        stay = record {
          slots = put.others 0 (λ e. absurd (omega (arith, e))) (λ e. absurd (omega (arith, e)), tt);
          meta = put.others 1 (λ e. absurd (omega (arith, e))) (λ e. absurd (omega (arith, e)), tt);
          listed = put.others catalog_tree (λ e. absurd (omega (arith, e))) (λ e. absurd (omega (arith, e)), tt);
        };
        blocks = put.others 3 (λ e. absurd (omega (arith, e))) (λ e. absurd (omega (arith, e)), tt);
        here = ap vote_in_rows put.here ∙ shows;
        there = λ s low other. ap vote_in_rows (put.there (pos s) (λ e. other (same_pos s slot e)) (λ e. let none = same_pos s 0 e in omega (arith, low, none)));
      }

module _ (first : ℕ) (ballot : Ballot) (h : IsBallot ballot) (old new : Trees) (put : Replaces (schema_of Moved) 3 (pos first) (block_row first ballot.round ballot.node) old new) where
  pub ballot_put : BallotPut first ballot old new
  unfolding block_at
  ballot_put =
      let row = block_row first ballot.round ballot.node in
      let shows : promise_in (row ∷ []) ≡ Some ballot = ap (λ o. Some (unwrap_or o damaged_ballot)) (ballot_back ballot h) in
      record {
        stay = record {
          slots = put.others 0 (λ e. absurd (omega (arith, e))) (λ e. absurd (omega (arith, e)), tt);
          meta = put.others 1 (λ e. absurd (omega (arith, e))) (λ e. absurd (omega (arith, e)), tt);
          listed = put.others catalog_tree (λ e. absurd (omega (arith, e))) (λ e. absurd (omega (arith, e)), tt);
        };
        votes = put.others 4 (λ e. absurd (omega (arith, e))) (λ e. absurd (omega (arith, e)), tt);
        here = ap promise_in put.here ∙ shows;
        there = λ s low other. ap promise_in (put.there (pos s) (λ e. other (same_pos s first e)) (λ e. let none = same_pos s 0 e in omega (arith, low, none)));
      }

-- ---- from a call in a transaction to what it does

pub vote_moved : (old new : State) (slot : ℕ) (vote : Vote) (bytes : List ℕ) (result : Result ℕ Error) → IsBallot vote.ballot → read_command bytes ≡ Ok vote.value → old.now.schema ≡ schema_of Moved
    → ExecutesInside 0 save_vote_text (Int (pos slot) ∷ Int (pos vote.ballot.round) ∷ Int (pos vote.ballot.node) ∷ Blob bytes ∷ []) old new result
    → IfOk result (λ _. (new.now.schema ≡ schema_of Moved) × VotePut slot vote old.now.trees new.now.trees)
vote_moved old new slot vote bytes (Err e) h reads has ran = tt
vote_moved old new slot vote bytes (Ok count) h reads has ran =
    let params = Int (pos slot) ∷ Int (pos vote.ballot.round) ∷ Int (pos vote.ballot.node) ∷ Blob bytes ∷ [] in
    let text = statement_of save_vote_text (understood (schema_of Moved) save_vote_text) in
    let w = runs_as save_vote_text params old new (schema_of Moved) has (vote_insert Moved) (save_vote_means Moved).0 (save_vote_means Moved).1 count ran.0 in
    let (schema, put) = vote_replaced Moved slot vote.ballot.round vote.ballot.node bytes old.step_limit (mode_of old) old.now new.now w.tally text has w.changed in
    (schema, vote_put slot vote bytes h reads old.now.trees new.now.trees put)

pub ballot_moved : (old new : State) (first : ℕ) (ballot : Ballot) (result : Result ℕ Error) → IsBallot ballot → old.now.schema ≡ schema_of Moved
    → ExecutesInside 0 save_promise_text (Int (pos first) ∷ Int (pos ballot.round) ∷ Int (pos ballot.node) ∷ []) old new result
    → IfOk result (λ _. (new.now.schema ≡ schema_of Moved) × BallotPut first ballot old.now.trees new.now.trees)
ballot_moved old new first ballot (Err e) h has ran = tt
ballot_moved old new first ballot (Ok count) h has ran =
    let params = Int (pos first) ∷ Int (pos ballot.round) ∷ Int (pos ballot.node) ∷ [] in
    let text = statement_of save_promise_text (understood (schema_of Moved) save_promise_text) in
    let w = runs_as save_promise_text params old new (schema_of Moved) has (promise_insert Moved) (save_promise_means Moved).0 (save_promise_means Moved).1 count ran.0 in
    let (schema, put) = block_replaced Moved first ballot.round ballot.node old.step_limit (mode_of old) old.now new.now w.tally text has w.changed in
    (schema, ballot_put first ballot h old.now.trees new.now.trees put)
