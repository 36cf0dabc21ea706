-- The parts of a migration make the whole.
use Rattle.std.proofs.Common.{◌≡◌, ℕ, ℤ, List, filter, codes, sym, ap, subst, ◌∙◌, arith}
use Rattle.std.specs.Prelude.{IsSome}
use Rattle.sqlite.specs.Tree.{Trees}
use Rattle.sqlite_catalog.specs.Listing.{Lists}
use Rattle.press_wire.specs.Ranges.{last_slot}
use Rattle.press_store.specs.Tables.{Moved, schema_of}
use Rattle.press_store.specs.Moving.{TablesAdded, AreEmpty, EndAt, BlocksMoved, HasNumber, IsCleared, IsMarked, all_blocks, first_behind, is_named}
use Rattle.press_store.specs.Migrated.{Migrated}
use Rattle.press_store.proofs.Onward.{same_read, same_row, same_vote, same_block, same_greatest}

number_as : (name : List ℕ) (n : ℤ) (old new : Trees) → new 1 ≡ old 1 → HasNumber name n new → HasNumber name n old
number_as name n old new same h = record { row = h.row; one = ap (filter (is_named name)) (sym same) ∙ h.one; id = h.id; numbered = h.numbered; number = h.number }

pub whole : (a b d e f : Trees) → TablesAdded a b → (AreEmpty b → BlocksMoved all_blocks b d × EndAt last_slot (b 0)) → IsCleared d e → IsMarked e f → Migrated a f
whole a b d e f added moves cleared marked =
    let (moved, ends) = moves added.empty in
    let meta = cleared.kept.meta ∙ moved.stay.meta ∙ added.meta in
    record {
      listed = subst (λ rows. Lists rows (schema_of Moved)) (sym (marked.set.listed ∙ cleared.kept.listed ∙ moved.stay.listed)) added.listed;
      emptied = marked.set.slots ∙ cleared.empty;
      promises = λ j low. same_block (d 3) (f 3) (first_behind j) (marked.set.blocks ∙ cleared.kept.blocks) ∙ moved.promises j low ∙ same_greatest (a 0) (b 0) (first_behind j) 16 added.slots;
      votes = λ s low high. same_vote (d 4) (f 4) s (marked.set.votes ∙ cleared.kept.votes) ∙ moved.votes s low (omega (arith, high)) ∙ ap (λ r. r.vote) (same_row (a 0) (b 0) s added.slots);
      sound = λ s low high. subst IsSome (same_read (a 0) (b 0) s added.slots) (moved.sound s low (omega (arith, high)));
      ends = subst (EndAt last_slot) added.slots ends;
      round = marked.round;
      round_sound = marked.sound;
      was = number_as (codes "last_round") marked.round a e meta marked.was;
      stays = marked.stays;
      was_version = number_as (codes "version") _ a e meta marked.was_version;
      version = marked.version;
    }
