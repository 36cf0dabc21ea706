use Rattle.std.proofs.Common.{◌≡◌, ℕ, pos, [], ◌∷◌, true, codes, refl, Result, Vec, Ok, Err, IfOk, subst, arith}
use Rattle.std.specs.Prelude.{IsTrue}
use Rattle.std.specs.declared.alloc.Global.{Global}
use Rattle.sqlite.specs.declared.error.Error.{Error}
use Rattle.sqlite.specs.declared.types.Value.TheVariants.{Int}
use Rattle.sqlite.specs.Store.{Ghosts}
use Rattle.sqlite.specs.Effect.{Database}
use Rattle.sqlite.specs.Order.{Row}
use Rattle.sqlite.specs.Held.{Held, state}
use Rattle.press_store.specs.Tables.{Layout, HasStarts, saves_text}
use Rattle.press_store.specs.Attempt.{AreTables, Queries, Ready}
use Rattle.press_store.specs.Counting.{starts_by}
use Rattle.press_store.specs.Owned.{signed_number}
use Rattle.press_store.specs.Starts.{is_start, shown_saves, starts_in}
use Rattle.press_store.proofs.Counted.{has_there}
use Rattle.press_store.proofs.StartShown.{looks_there, reads_there, saves_shown}
use Rattle.press_store.proofs.Texts.{saves_select, saves_means}
use Rattle.press_store.proofs.starts.find_saves.Goals as goal

shown : {S : Type 0} (g : Ghosts S) (old new : Held S) (n : ℕ) → is_start n ≡ true → (params : Row) → params ≡ Int (signed_number n) ∷ [] → Ready (state g old) → ((l : Layout) → AreTables l (state g old).now → HasStarts l) → (result : Result (Vec Row Global) Error) → Queries g old new saves_text params result
    → IfOk result (λ rows. shown_saves rows.items ≡ (starts_by (state g old)).saves n)
shown g old new n ok params is r there (Err e) asked = tt
shown g old new n ok params is r there (Ok rows) asked =
    let (up, l, has, tables, read) = reads_there g saves_text (Int (signed_number n) ∷ []) saves_select saves_means old new r there rows (rw is at asked) in
    subst (λ (d : Database). shown_saves rows.items ≡ (starts_in d.trees).saves n) (r.settled up) (saves_shown l has (state g old).now rows.items tables n ok read)

pub returns-clause-looks : goal.returns-clause-looks
returns-clause-looks g c clean ready =
    let old = state g.S.Store c.args.conn.now in
    looks_there g.S.Store saves_text (Int (signed_number c.args.start) ∷ []) saves_select saves_means c.args.conn.now c.read.new.conn (ready (omega (arith, c.read.ensures.clean, clean))) (λ l has. has_there l old.now.schema has.schema c.requires.there)
    c.read.result clean (rw c.digest_value.ensures.value at (c.read.ensures.asked clean))

pub returns-clause-saves : goal.returns-clause-saves
returns-clause-saves g c clean ready up =
    let old = state g.S.Store c.args.conn.now in
    shown g.S.Store c.args.conn.now c.read.new.conn c.args.start c.requires.start (Int (signed_number c.args.start) ∷ []) refl (ready (omega (arith, c.read.ensures.clean, clean))) (λ l has. has_there l old.now.schema has.schema c.requires.there)
    c.read.result (rw c.digest_value.ensures.value at (c.read.ensures.asked clean))
