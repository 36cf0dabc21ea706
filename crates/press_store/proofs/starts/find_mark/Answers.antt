use Rattle.std.proofs.Common.{◌≡◌, ℕ, pos, [], ◌∷◌, true, codes, refl, Result, Vec, Ok, Err, IfOk, subst, arith}
use Rattle.std.specs.Prelude.{IsTrue}
use Rattle.std.specs.declared.alloc.Global.{Global}
use Rattle.std.proofs.lemmas.Bool.{le-leb}
use Rattle.sqlite.specs.declared.error.Error.{Error}
use Rattle.sqlite.specs.declared.types.Value.TheVariants.{Int}
use Rattle.sqlite.specs.Store.{Ghosts}
use Rattle.sqlite.specs.Effect.{Database}
use Rattle.sqlite.specs.Order.{Row}
use Rattle.sqlite.specs.Held.{Held, state}
use Rattle.press_store.specs.Tables.{Layout, HasStarts, mark_text}
use Rattle.press_store.specs.Attempt.{AreTables, Queries, Ready}
use Rattle.press_store.specs.Counting.{starts_by}
use Rattle.press_store.specs.Owned.{signed_number}
use Rattle.press_store.specs.Starts.{is_member, shown_mark, starts_in}
use Rattle.press_store.proofs.Counted.{has_there}
use Rattle.press_store.proofs.StartShown.{looks_there, reads_there, mark_shown}
use Rattle.press_store.proofs.Texts.{mark_select, mark_means}
use Rattle.press_store.proofs.starts.find_mark.Goals as goal

shown : {S : Type 0} (g : Ghosts S) (old new : Held S) (n : ℕ) → is_member n ≡ true → (params : Row) → params ≡ Int (pos n) ∷ [] → Ready (state g old) → ((l : Layout) → AreTables l (state g old).now → HasStarts l) → (result : Result (Vec Row Global) Error) → Queries g old new mark_text params result
    → IfOk result (λ rows. shown_mark rows.items ≡ (starts_by (state g old)).heard n)
shown g old new n ok params is r there (Err e) asked = tt
shown g old new n ok params is r there (Ok rows) asked =
    let (up, l, has, tables, read) = reads_there g mark_text (Int (pos n) ∷ []) mark_select mark_means old new r there rows (rw is at asked) in
    subst (λ (d : Database). shown_mark rows.items ≡ (starts_in d.trees).heard n) (r.settled up) (mark_shown l has (state g old).now rows.items tables n ok read)

pub returns-clause-looks : goal.returns-clause-looks
returns-clause-looks g c clean ready =
    let old = state g.S.Store c.args.conn.now in
    looks_there g.S.Store mark_text (Int (pos c.args.member) ∷ []) mark_select mark_means c.args.conn.now c.read.new.conn (ready (omega (arith, c.read.ensures.clean, clean))) (λ l has. has_there l old.now.schema has.schema c.requires)
    c.read.result clean (rw c.node_value.ensures.value at (c.read.ensures.asked clean))

pub returns-clause-mark : goal.returns-clause-mark
returns-clause-mark g c clean ready up =
    let old = state g.S.Store c.args.conn.now in
    let range = c.node_value.ensures.range in
    let is_one : is_member c.args.member ≡ true = rw (le-leb 1 c.args.member range.0, le-leb c.args.member 7 range.1) in
    shown g.S.Store c.args.conn.now c.read.new.conn c.args.member is_one (Int (pos c.args.member) ∷ []) refl (ready (omega (arith, c.read.ensures.clean, clean))) (λ l has. has_there l old.now.schema has.schema c.requires)
    c.read.result (rw c.node_value.ensures.value at (c.read.ensures.asked clean))
