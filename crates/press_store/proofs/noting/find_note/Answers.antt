use Rattle.std.proofs.Common.{◌≡◌, ℕ, pos, [], ◌∷◌, true, refl, Result, Vec, Ok, Err, IfOk, subst, arith}
use Rattle.std.specs.declared.alloc.Global.{Global}
use Rattle.sqlite.specs.declared.error.Error.{Error}
use Rattle.sqlite.specs.declared.types.Value.TheVariants.{Int}
use Rattle.sqlite.specs.Store.{Ghosts}
use Rattle.sqlite.specs.Effect.{Database}
use Rattle.sqlite.specs.Order.{Row}
use Rattle.sqlite.specs.Held.{Held, state}
use Rattle.press_store.specs.Tables.{Layout, HasStarts, note_text}
use Rattle.press_store.specs.Attempt.{AreTables, Queries, Ready}
use Rattle.press_store.specs.Counting.{starts_by}
use Rattle.press_store.specs.Noted.{id_of, is_note}
use Rattle.press_store.specs.Starts.{shown_note, starts_in}
use Rattle.press_store.proofs.Counted.{has_there}
use Rattle.press_store.proofs.StartPuts.{note_known}
use Rattle.press_store.proofs.StartShown.{looks_there, reads_there, note_shown}
use Rattle.press_store.proofs.Texts.{note_select, note_means}
use Rattle.press_store.proofs.noting.find_note.Goals as goal

shown : {S : Type 0} (g : Ghosts S) (old new : Held S) (n : ℕ) → is_note n ≡ true → (params : Row) → params ≡ Int (pos n) ∷ [] → Ready (state g old) → ((l : Layout) → AreTables l (state g old).now → HasStarts l) → (result : Result (Vec Row Global) Error) → Queries g old new note_text params result
    → IfOk result (λ rows. shown_note rows.items ≡ (starts_by (state g old)).notes n)
shown g old new n ok params is r there (Err e) asked = tt
shown g old new n ok params is r there (Ok rows) asked =
    let (up, l, has, tables, read) = reads_there g note_text (Int (pos n) ∷ []) note_select note_means old new r there rows (rw is at asked) in
    subst (λ (d : Database). shown_note rows.items ≡ (starts_in d.trees).notes n) (r.settled up) (note_shown l has (state g old).now rows.items tables n ok read)

pub returns-clause-looks : goal.returns-clause-looks
returns-clause-looks g c clean ready =
    let old = state g.S.Store c.args.conn.now in
    looks_there g.S.Store note_text (Int (pos (id_of c.args.which)) ∷ []) note_select note_means c.args.conn.now c.read.new.conn (ready (omega (arith, c.read.ensures.clean, clean))) (λ l has. has_there l old.now.schema has.schema c.requires)
    c.read.result clean (rw c.id_value.ensures at (c.read.ensures.asked clean))

pub returns-clause-note : goal.returns-clause-note
returns-clause-note g c clean ready up =
    let old = state g.S.Store c.args.conn.now in
    shown g.S.Store c.args.conn.now c.read.new.conn (id_of c.args.which) (note_known c.args.which) (Int (pos (id_of c.args.which)) ∷ []) refl (ready (omega (arith, c.read.ensures.clean, clean))) (λ l has. has_there l old.now.schema has.schema c.requires)
    c.read.result (rw c.id_value.ensures at (c.read.ensures.asked clean))
