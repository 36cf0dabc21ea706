-- From what a write attempts to what it saves.
use Rattle.std.proofs.Common.{◌≡◌, ℕ, List, append-nil, false, Option, None, Ok, Err, Result, sym, ap, subst, subst₂, ◌∙◌, inl, inr, arith}
use Rattle.std.specs.Prelude.{◌⊎◌, IsTrue}
use Rattle.std.proofs.lemmas.Bool.{cases_Bool}
use Rattle.sqlite.specs.declared.error.Error.{Error}
use Rattle.sqlite.specs.declared.run.Mode.{Mode}
use Rattle.sqlite.specs.Store.{Ghosts}
use Rattle.sqlite.specs.Order.{Row}
use Rattle.sqlite.specs.Tree.{Trees}
use Rattle.sqlite.specs.Schema.{Schema}
use Rattle.sqlite.specs.Command.{Command}
use Rattle.sqlite.specs.Command.TheVariants.{Commit, Release}
use Rattle.sqlite.specs.Effect.{Database}
use Rattle.sqlite.specs.Does.{Tally, Does}
use Rattle.sqlite.specs.Listing.{understood}
use Rattle.sqlite_resolve.specs.declared.compiled.Compiled.{Compiled}
use Rattle.sqlite.specs.State.{State, HasCleanDisk, IsUnchanged, IsNotRun, Survives, ExecutesIn, Executes, CommitsBy, MayCommit, Runs, Writes, shows_rows, mode_of, RunsCommand}
use Rattle.sqlite.specs.Held.{Held, state}
use Rattle.sqlite.specs.Clock.{timed}
use Rattle.sqlite.proofs.Callers.{IsPlain, command_of, statement_of, runs_as, unchanged_then}
use Rattle.press_acceptor.specs.StoreMap.{StoreMap, Only, OldOr}
use Rattle.press_store.specs.Tables.{Layout, schema_of}
use Rattle.press_store.specs.Stands.{store_in}
use Rattle.press_store.specs.Kept.{kept_by, MayLeave}
use Rattle.press_store.specs.Attempt.{Attempts, AreTables, Ready, IsReady, Saved, Stays}
use Rattle.press_store.proofs.Texts.{IsWrite}

-- what a statement may commit, by the meaning of its text
pub commits_as : (schema : Schema) (sql : List ℕ) (params : Row) (s : State) (command : Command) → command_of (understood schema sql) ≡ command → IsPlain (understood schema sql) → s.now.schema ≡ schema
    → (db : Trees) → CommitsBy sql params s db → MayCommit s None command (statement_of sql (understood schema sql)) params db
unfolding CommitsBy
commits_as schema sql params s command is plain has db h =
    let known = sym h.1.is ∙ ap (λ t. understood t sql) has in
    let bare = subst IsPlain (sym known) plain in
    subst₂ (λ k t. MayCommit s None k t params db) (ap command_of known ∙ is) (ap (statement_of sql) known) (rw (bare.0, bare.1, append-nil params) at h.2)

-- a statement that is refused changes nothing, and one that fails is rolled back
pub not_run : (a b : State) (sql : List ℕ) (params : Row) (e : Error) → IsNotRun a b sql params e → Stays a b
unfolding IsNotRun
not_run a b sql params e (inl h) = inl h.1
not_run a b sql params e (inr h) = inr h.3

run_back : (a b : State) (sql : List ℕ) (c : Compiled) (params : Row) (e : Error) → RunsCommand a b sql c params (Err e) → Stays a b
run_back a b sql c params e (inl x) = inl x.1
run_back a b sql c params e (inr x) = inr x.3

pub refused : (a b : State) (sql : List ℕ) (params : Row) (e : Error) → Executes sql params a b (Err e) → Stays a b
unfolding ExecutesIn
refused a b sql params e (inl h) = not_run a b sql params e h
refused a b sql params e (inr h) = elim (cases_Bool (shows_rows false h.0)) [
  | inl shows ↦ inl ((rw shows at h.2).1)
  | inr runs ↦ run_back a b sql h.0 (timed params h.0.formats h.1.now) e (rw runs at h.2)
]

pub same_now : (a b : State) → Ready a → Stays a b → IsTrue b.is_open → IsTrue a.is_open × (b.now ≡ a.now)
same_now a b r (inl h) is = (h.0.was_open, h.0.now_is)
same_now a b r (inr h) is = (h.was_open is, (h.undone is).0 ∙ sym (r.settled (h.was_open is)))

pub same_kept : (a b : State) → Stays a b → IsTrue b.is_open → IsTrue a.is_open × (kept_by b ≡ kept_by a)
same_kept a b (inl h) is = (h.0.was_open, ap (λ (d : Database). store_in d.trees) h.0.committed_is)
same_kept a b (inr h) is = (h.was_open is, ap (λ (d : Database). store_in d.trees) (h.undone is).1)

-- what the statements of an open connection see is what it keeps
pub as_kept : (s : State) → Ready s → IsTrue s.is_open → store_in s.now.trees ≡ kept_by s
as_kept s r is = ap (λ (d : Database). store_in d.trees) (r.settled is)

pub same_ready : (a b : State) → Ready a → b.step_limit ≡ a.step_limit → Stays a b → Ready b
same_ready a b r limit (inl h) = record {
  autocommit = h.0.mode ∙ r.autocommit;
  unlimited = limit ∙ r.unlimited;
  tables = λ is. let t = r.tables h.0.was_open in (t.0, subst (AreTables t.0) (sym h.0.now_is) t.1);
  settled = λ is. h.0.now_is ∙ r.settled h.0.was_open ∙ sym h.0.committed_is;
}
same_ready a b r limit (inr h) = record {
  autocommit = h.autocommit;
  unlimited = limit ∙ r.unlimited;
  tables = λ is. let t = r.tables (h.was_open is) in (t.0, subst (AreTables t.0) (sym (same_now a b r (inr h) is).1) t.1);
  settled = λ is. (h.undone is).0 ∙ sym (h.undone is).1;
}

pub after_same : (a b c : State) → IsUnchanged a b → Stays b c → Stays a c
after_same a b c same (inl h) = inl (unchanged_then a b c same h)
after_same a b c same (inr h) = inr (record {
  was_open = λ is. same.0.was_open;
  undone = λ is. ((h.undone is).0 ∙ same.0.committed_is, (h.undone is).1 ∙ same.0.committed_is);
  autocommit = h.autocommit;
  unmarked = h.unmarked;
  counts = record { changes = h.counts.changes ∙ same.1.changes; last_rowid = h.counts.last_rowid ∙ same.1.last_rowid };
})

-- the command makes this of the tables, over either layout
abbrev pub Makes : Row → (Layout → Command) → (StoreMap → StoreMap) → Type 0
Makes params command turn =
    (l : Layout) (limit : Option ℕ) (mode : Mode) (now after : Database) (tally : Tally) (text : List ℕ) → AreTables l now → Does limit mode params now text None (command l) (Ok (tally, after))
    → AreTables l after × (store_in after.trees ≡ turn (store_in now.trees))

module _ {S : Type 0} (g : Ghosts S) (law : (s : S) (db : Trees) → IsTrue (g.view s).is_open → g.recovers s db → db ≡ (g.view s).committed)
    (sql : List ℕ) (params : Row) (command : Layout → Command) (means : IsWrite sql command)
    (writes : (l : Layout) (a b : State) (text : List ℕ) (count : ℕ) → Runs a b None (command l) text params count → Writes a b None (command l) text params count)
    (no_commit : (l : Layout) → command l ≡ Commit → ⊥) (no_release : (l : Layout) (name : List ℕ) → command l ≡ Release name → ⊥)
    (turn : StoreMap → StoreMap) (makes : Makes params command turn) where
  -- while it is open a crash leaves what it keeps
  only : (h : Held S) → IsTrue (state g h).is_open → Only (kept_by (state g h)) (MayLeave (state g h))
  only h is left may = may.2 ∙ ap store_in (law h.store may.0 is may.1)

  committed : (l : Layout) (s : State) (db : Trees) → AreTables l s.now → CommitsBy sql params s db → store_in db ≡ turn (store_in s.now.trees)
  committed l s db has h = elim (commits_as (schema_of l) sql params s (command l) (means l).0 (means l).1 has.schema db h) [
    | inl (inl c, same) ↦ absurd (no_commit l c)
    | inl (inr c, same) ↦ absurd (no_release l c.0 c.2)
    | inr w ↦ ap store_in w.5 ∙ (makes l s.step_limit (mode_of s) s.now w.2 w.1 (statement_of sql (understood (schema_of l) sql)) has w.3).1
  ]

  abbrev Crashes : Held S → Held S → Type 0
  Crashes old new = (db : Trees) → (state g new).may_leave db → (state g old).may_leave db ⊎ (IsTrue (state g old).is_open × (store_in db ≡ turn (kept_by (state g old))))

  crashes : (old mid new : Held S) → HasCleanDisk (state g new) → HasCleanDisk (state g mid) → IsUnchanged (state g old) (state g mid) → Ready (state g old) → Ready (state g mid) → Survives (state g old) (state g mid) (λ _. ⊥)
      → Survives (state g mid) (state g new) (CommitsBy sql params (state g mid)) → Crashes old new
  crashes old mid new clean was same r m quiet left db may = elim (left.crash clean db may) [
    | inl before ↦ elim (quiet.crash was db before) [ inl first ↦ inl first | inr none ↦ absurd none ]
    | inr by ↦
        let up = same.0.was_open in
        let t = m.tables same.0.is_open in
        let now = committed t.0 (state g mid) db t.1 by in
        inr (up, now ∙ ap (λ (d : Database). turn (store_in d.trees)) same.0.now_is ∙ ap turn (as_kept (state g old) r up))
  ]

  left_of : (old new : Held S) → Crashes old new → OldOr (MayLeave (state g old)) (MayLeave (state g new)) (state g old).is_open (turn (kept_by (state g old)))
  left_of old new crash left may = elim (crash may.0 may.1) [ inl was ↦ inl (may.0, was, may.2) | inr by ↦ inr (by.0, may.2 ∙ by.1) ]

  -- what a call that failed leaves
  stayed : (old new : Held S) (e : Error) → Ready (state g old) → (state g new).step_limit ≡ (state g old).step_limit → Stays (state g old) (state g new) → Crashes old new → Saved {A = ℕ} turn (state g old) (state g new) (Err e)
  stayed old new e r limit stays crash = record {
    ready = same_ready (state g old) (state g new) r limit stays;
    saved = tt;
    failed = same_kept (state g old) (state g new) stays;
    only = only new;
    crash = left_of old new crash;
  }

  pub saves : (old new : Held S) (result : Result ℕ Error) → HasCleanDisk (state g new) → IsReady g old → Attempts g old new sql params result → Saved turn (state g old) (state g new) result
  unfolding ExecutesIn
  saves old new result clean ready (inr h) =
      let r = ready (omega (arith, h.quiet.clean, clean)) in
      subst (Saved turn (state g old) (state g new)) (sym h.is)
      (stayed old new h.error r h.quiet.limit (not_run (state g old) (state g new) sql h.given h.error h.why) (λ db may. elim (h.quiet.crash clean db may) [ inl was ↦ inl was | inr none ↦ absurd none ]))
  saves old new (Err e) clean ready (inl h) =
      let was : HasCleanDisk (state g h.mid) = omega (arith, h.left.clean, clean) in
      let r = ready (omega (arith, h.quiet.clean, was)) in
      let m = same_ready (state g old) (state g h.mid) r h.quiet.limit (inl h.same) in
      let back = refused (state g h.mid) (state g new) sql params e h.ran in
      stayed old new e r (h.left.limit ∙ h.quiet.limit) (after_same (state g old) (state g h.mid) (state g new) h.same back) (crashes old h.mid new clean was h.same r m h.quiet h.left)
  saves old new (Ok count) clean ready (inl h) =
      let was : HasCleanDisk (state g h.mid) = omega (arith, h.left.clean, clean) in
      let r = ready (omega (arith, h.quiet.clean, was)) in
      let m = same_ready (state g old) (state g h.mid) r h.quiet.limit (inl h.same) in
      let up = h.same.0.is_open in
      let (l, has) = m.tables up in
      let text = statement_of sql (understood (schema_of l) sql) in
      let w = writes l (state g h.mid) (state g new) text count (runs_as sql params (state g h.mid) (state g new) (schema_of l) has.schema (command l) (means l).0 (means l).1 count h.ran) in
      let t = makes l (state g h.mid).step_limit (mode_of (state g h.mid)) (state g h.mid).now (state g new).now w.tally text has w.changed in
      let now : Ready (state g new) = record {
        autocommit = w.shown.mode ∙ m.autocommit;
        unlimited = h.left.limit ∙ m.unlimited;
        tables = λ _. (l, t.0);
        settled = λ _. sym (w.shown.committed_is ∙ rw m.autocommit);
      } in
      let seen : store_in (state g new).now.trees ≡ turn (kept_by (state g old)) = t.1 ∙ ap (λ (d : Database). turn (store_in d.trees)) h.same.0.now_is ∙ ap turn (as_kept (state g old) r h.same.0.was_open) in
      record {
        ready = now;
        saved = (w.shown.is_open, h.same.0.was_open, sym (as_kept (state g new) now w.shown.is_open) ∙ seen);
        failed = tt;
        only = only new;
        crash = left_of old new (crashes old h.mid new clean was h.same r m h.quiet h.left);
      }
