-- What the statements that make the tables of starts leave.
use Rattle.std.proofs.Common.{◌≡◌, ℕ, [], Ok, Err, Result, refl, sym, ap, ◌∙◌}
use Rattle.std.specs.Prelude.{OnOk}
use Rattle.sqlite.specs.Schema.{Schema}
use Rattle.sqlite.specs.Change.{created}
use Rattle.sqlite.specs.declared.error.Error.{Error}
use Rattle.sqlite_tied.specs.Compute.{everything}
use Rattle.sqlite.specs.Listing.{understood}
use Rattle.sqlite.specs.State.{State, ExecutesInside}
use Rattle.press_store.specs.Tables.{Layout, Fresh, Moved, FreshStarts, MovedStarts, with_starts, schema_of, start_on, mark_on, note_on, make_start, make_mark, make_note}
use Rattle.press_store.specs.Attempt.{AreTables}
use Rattle.press_store.specs.Counting.{IsWritten, LacksStarts}
use Rattle.press_store.proofs.Created.{IsCreate, create}
use Rattle.press_store.proofs.Standing.{stand, kept_still, same_starts}
use Rattle.press_store.proofs.StartPuts.{same_store, same_version}
use Rattle.press_store.proofs.Texts.{starts_defined}

abbrev with_start : Layout → Schema
with_start l = created (schema_of l) (start_on 0)

abbrev with_mark : Layout → Schema
with_mark l = created (with_start l) (mark_on 0)

-- what the three statements leave
abbrev Adds : Layout → State → State → Result ℕ Error → Type 0
Adds l old new result = OnOk result (AreTables (with_starts l) new.now × IsWritten (λ store. store) (λ map. map) old.now.trees new.now.trees)

fresh_whole : created (with_mark Fresh) (note_on 0) ≡ schema_of FreshStarts
unfolding understood everything
fresh_whole = refl

fresh_made : IsCreate (schema_of Fresh) make_start × IsCreate (with_start Fresh) make_mark × IsCreate (with_mark Fresh) make_note
unfolding understood everything
fresh_made = ((refl, refl, (refl, refl)), (refl, refl, (refl, refl)), (refl, refl, (refl, refl)))

moved_whole : created (with_mark Moved) (note_on 0) ≡ schema_of MovedStarts
unfolding understood everything
moved_whole = refl

moved_made : IsCreate (schema_of Moved) make_start × IsCreate (with_start Moved) make_mark × IsCreate (with_mark Moved) make_note
unfolding understood everything
moved_made = ((refl, refl, (refl, refl)), (refl, refl, (refl, refl)), (refl, refl, (refl, refl)))

fresh_added : (old one two new : State) (m n : ℕ) (result : Result ℕ Error) → AreTables Fresh old.now → ExecutesInside 0 make_start [] old one (Ok m) → ExecutesInside 0 make_mark [] one two (Ok n) → ExecutesInside 0 make_note [] two new result
    → Adds Fresh old new result
fresh_added old one two new m n (Err e) has first second third = tt
fresh_added old one two new m n (Ok k) has first second third =
    let a = create old one m (schema_of Fresh) (with_start Fresh) (start_on 0) make_start has.schema starts_defined.0 refl refl fresh_made.0 first.0 in
    let b = create one two n (with_start Fresh) (with_mark Fresh) (mark_on 0) make_mark a.0 starts_defined.1 refl refl fresh_made.1 second.0 in
    let c = create two new k (with_mark Fresh) (schema_of FreshStarts) (note_on 0) make_note b.0 starts_defined.2 fresh_whole refl fresh_made.2 third.0 in
    let was = stand Fresh old.now.trees has.listed in
    let is = stand FreshStarts new.now.trees c.3 in
    let blocks = is.blocks ∙ c.2.0 ∙ b.2.0 ∙ a.2.0 ∙ sym was.blocks in
    let votes = is.votes ∙ c.2.1.0 ∙ b.2.1.0 ∙ a.2.1.0 ∙ sym was.votes in
    let meta = is.meta ∙ c.2.1.1.0 ∙ b.2.1.1.0 ∙ a.2.1.1.0 ∙ sym was.meta in
    let slots = is.old ∙ sym was.old in
    let starts = is.starts ∙ c.2.1.1.1.0 ∙ b.2.1.1.1.0 ∙ a.1 ∙ sym was.starts in
    let marks = is.marks ∙ c.2.1.1.1.1.0 ∙ b.1 ∙ sym was.marks in
    let notes = is.notes ∙ c.1 ∙ sym was.notes in (
      record { schema = c.0; listed = c.3; emptied = slots ∙ has.emptied; kept = kept_still old.now.trees new.now.trees meta has.kept },
      record {
        stands = same_store old.now.trees new.now.trees slots blocks votes meta;
        starts = same_starts old.now.trees new.now.trees starts marks notes;
        version = same_version old.now.trees new.now.trees meta;
      },
    )

moved_added : (old one two new : State) (m n : ℕ) (result : Result ℕ Error) → AreTables Moved old.now → ExecutesInside 0 make_start [] old one (Ok m) → ExecutesInside 0 make_mark [] one two (Ok n) → ExecutesInside 0 make_note [] two new result
    → Adds Moved old new result
moved_added old one two new m n (Err e) has first second third = tt
moved_added old one two new m n (Ok k) has first second third =
    let a = create old one m (schema_of Moved) (with_start Moved) (start_on 0) make_start has.schema starts_defined.0 refl refl moved_made.0 first.0 in
    let b = create one two n (with_start Moved) (with_mark Moved) (mark_on 0) make_mark a.0 starts_defined.1 refl refl moved_made.1 second.0 in
    let c = create two new k (with_mark Moved) (schema_of MovedStarts) (note_on 0) make_note b.0 starts_defined.2 moved_whole refl moved_made.2 third.0 in
    let was = stand Moved old.now.trees has.listed in
    let is = stand MovedStarts new.now.trees c.3 in
    let blocks = is.blocks ∙ c.2.1.1.0 ∙ b.2.1.1.0 ∙ a.2.1.1.0 ∙ sym was.blocks in
    let votes = is.votes ∙ c.2.1.1.1.0 ∙ b.2.1.1.1.0 ∙ a.2.1.1.1.0 ∙ sym was.votes in
    let meta = is.meta ∙ c.2.1.0 ∙ b.2.1.0 ∙ a.2.1.0 ∙ sym was.meta in
    let slots = is.old ∙ c.2.0 ∙ b.2.0 ∙ a.2.0 ∙ sym was.old in
    let starts = is.starts ∙ c.2.1.1.1.1.0 ∙ b.2.1.1.1.1.0 ∙ a.1 ∙ sym was.starts in
    let marks = is.marks ∙ c.2.1.1.1.1.1.0 ∙ b.1 ∙ sym was.marks in
    let notes = is.notes ∙ c.1 ∙ sym was.notes in (
      record { schema = c.0; listed = c.3; emptied = slots ∙ has.emptied; kept = kept_still old.now.trees new.now.trees meta has.kept },
      record {
        stands = same_store old.now.trees new.now.trees slots blocks votes meta;
        starts = same_starts old.now.trees new.now.trees starts marks notes;
        version = same_version old.now.trees new.now.trees meta;
      },
    )

-- the tables of starts are made, are empty, and all else stays
pub starts_added : (old one two new : State) (m n : ℕ) (result : Result ℕ Error) (l : Layout) → LacksStarts l → AreTables l old.now → ExecutesInside 0 make_start [] old one (Ok m) → ExecutesInside 0 make_mark [] one two (Ok n)
    → ExecutesInside 0 make_note [] two new result → OnOk result (AreTables (with_starts l) new.now × IsWritten (λ store. store) (λ map. map) old.now.trees new.now.trees)
starts_added old one two new m n result Fresh lacks has = fresh_added old one two new m n result has
starts_added old one two new m n result Moved lacks has = moved_added old one two new m n result has
starts_added old one two new m n result FreshStarts lacks has = absurd lacks
starts_added old one two new m n result MovedStarts lacks has = absurd lacks
