-- What the statements that add the tables of blocks and votes leave.
use Rattle.std.proofs.Common.{◌≡◌, ℕ, [], Ok, Err, Result, refl, ◌∙◌}
use Rattle.std.specs.Prelude.{IfOk}
use Rattle.sqlite.specs.Schema.{Schema}
use Rattle.sqlite.specs.Change.{created}
use Rattle.sqlite.specs.declared.error.Error.{Error}
use Rattle.sqlite_tied.specs.Compute.{everything}
use Rattle.sqlite.specs.Listing.{understood}
use Rattle.sqlite.specs.State.{State, ExecutesInside}
use Rattle.press_store.specs.Tables.{Moved, schema_of, old_schema, block_on, vote_on, make_block, make_vote}
use Rattle.press_store.specs.Moving.{TablesAdded}
use Rattle.press_store.proofs.Created.{IsCreate, create}
use Rattle.press_store.proofs.Texts.{tables_defined}

-- the tables of version 1 and that of blocks
abbrev three_tables : Schema
three_tables = created old_schema (block_on 0)

all_tables : created three_tables (vote_on 0) ≡ schema_of Moved
unfolding understood everything
all_tables = refl

block_added : IsCreate old_schema make_block
unfolding understood everything
block_added = (refl, refl, (refl, refl))

vote_added : IsCreate three_tables make_vote
unfolding understood everything
vote_added = (refl, refl, (refl, refl))

pub tables_added : (old mid new : State) (count : ℕ) (result : Result ℕ Error) → old.now.schema ≡ old_schema → ExecutesInside 0 make_block [] old mid (Ok count) → ExecutesInside 0 make_vote [] mid new result
    → IfOk result (λ _. (new.now.schema ≡ schema_of Moved) × TablesAdded old.now.trees new.now.trees)
tables_added old mid new count (Err e) has one two = tt
tables_added old mid new count (Ok n) has one two =
    let a = create old mid count old_schema three_tables (block_on 0) make_block has tables_defined.0 refl refl block_added one.0 in
    let b = create mid new n three_tables (schema_of Moved) (vote_on 0) make_vote a.0 tables_defined.1 all_tables refl vote_added two.0 in
    (b.0, record { slots = b.2.0 ∙ a.2.0; meta = b.2.1.0 ∙ a.2.1.0; empty = (b.2.1.1.0 ∙ a.1, b.1); listed = b.3 })
