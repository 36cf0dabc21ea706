-- From what a write of rows attempts to what it leaves of the tables themselves.
use Rattle.std.proofs.Common.{◌≡◌, ℕ, List, false, true, refl, Option, None, Some, Ok, Err, Result, sym, ap, subst, subst₂, ◌∙◌, inl, inr, arith}
use Rattle.std.specs.Prelude.{◌⊎◌, IsTrue, IfSome, OnOk, OnErr}
use Rattle.std.proofs.lemmas.Bool.{cases_Bool}
use Rattle.sqlite.specs.declared.error.Error.{Error}
use Rattle.sqlite.specs.declared.run.Mode.{Mode}
use Rattle.sqlite.specs.Store.{Ghosts}
use Rattle.sqlite.specs.Order.{Row}
use Rattle.sqlite.specs.Tree.{Trees}
use Rattle.sqlite.specs.Command.{Command}
use Rattle.sqlite.specs.Command.TheVariants.{Commit, Release}
use Rattle.sqlite.specs.Effect.{Database}
use Rattle.sqlite.specs.Does.{Tally, Does}
use Rattle.sqlite.specs.Listing.{understood}
use Rattle.sqlite.specs.State.{State, HasCleanDisk, IsUnchanged, Survives, CommitsBy, Runs, Writes, ExecutesIn, mode_of}
use Rattle.sqlite.specs.Held.{Held, state}
use Rattle.sqlite.proofs.Callers.{runs_as, statement_of}
use Rattle.press_acceptor.specs.StoreMap.{StoreMap}
use Rattle.press_store.specs.declared.owner.Owner.{Owner}
use Rattle.press_store.specs.Tables.{Layout, schema_of}
use Rattle.press_store.specs.Shown.{IsOurVersion}
use Rattle.press_store.specs.Kept.{kept_by}
use Rattle.press_store.specs.Attempt.{Attempts, AreTables, Ready, IsReady, Looked, Saved}
use Rattle.press_store.specs.declared.owner.Tie.TheVariants.{Own, Taken, Foreign}
use Rattle.press_store.specs.declared.owner.Tie.{Tie}
use Rattle.press_store.specs.Owned.{is_same, owner_in, tie_of}
use Rattle.press_store.specs.Starts.{starts_in}
use Rattle.press_store.specs.Tying.{Same, GivesFile, LeavesTied, IsOwned, IsTied, IsUntouched, VersionStays, said_by}
use Rattle.press_store.proofs.Looked.{same_committed}
use Rattle.press_store.proofs.OwnerRows.{OwnerPut}
use Rattle.press_store.proofs.Saved.{commits_as, not_run, refused, same_ready, after_same}
use Rattle.press_store.proofs.Texts.{IsWrite}

-- what the write did to the tables that the connection kept, or a crash leaves, where it is not as it was
pub record Wrote (R : Trees → Trees → Type 0) (old new : State) (result : Result ℕ Error) : Type 0 where
  pub done : OnOk result (IsTrue new.is_open × R old.committed.trees new.committed.trees)
  pub failed : OnErr result (Same old new)
  pub crash : (db : Trees) → new.may_leave db → old.may_leave db ⊎ (IsTrue old.is_open × R old.committed.trees db)

module _ {S : Type 0} (g : Ghosts S) (sql : List ℕ) (params : Row) (command : Layout → Command) (means : IsWrite sql command)
    (writes : (l : Layout) (a b : State) (text : List ℕ) (count : ℕ) → Runs a b None (command l) text params count → Writes a b None (command l) text params count)
    (no_commit : (l : Layout) → command l ≡ Commit → ⊥) (no_release : (l : Layout) (name : List ℕ) → command l ≡ Release name → ⊥) (R : Trees → Trees → Type 0)
    (makes : (l : Layout) (limit : Option ℕ) (mode : Mode) (now after : Database) (tally : Tally) (text : List ℕ) → AreTables l now → Does limit mode params now text None (command l) (Ok (tally, after)) → R now.trees after.trees) where
  commits : (l : Layout) (s : State) (db : Trees) → AreTables l s.now → CommitsBy sql params s db → R s.now.trees db
  commits l s db has h = elim (commits_as (schema_of l) sql params s (command l) (means l).0 (means l).1 has.schema db h) [
    | inl (inl c, same) ↦ absurd (no_commit l c)
    | inl (inr c, same) ↦ absurd (no_release l c.0 c.2)
    | inr w ↦ subst (R s.now.trees) (sym w.5) (makes l s.step_limit (mode_of s) s.now w.2 w.1 (statement_of sql (understood (schema_of l) sql)) has w.3)
  ]

  -- what the statement sees is what the connection kept
  sees : (old mid : State) → Ready old → IsUnchanged old mid → mid.now.trees ≡ old.committed.trees
  sees old mid r same = ap (λ (d : Database). d.trees) (same.0.now_is ∙ r.settled same.0.was_open)

  crashes : (old mid new : Held S) → HasCleanDisk (state g new) → HasCleanDisk (state g mid) → IsUnchanged (state g old) (state g mid) → Ready (state g old) → Ready (state g mid) → Survives (state g old) (state g mid) (λ _. ⊥)
      → Survives (state g mid) (state g new) (CommitsBy sql params (state g mid)) → (db : Trees) → (state g new).may_leave db → (state g old).may_leave db ⊎ (IsTrue (state g old).is_open × R (state g old).committed.trees db)
  crashes old mid new clean was same r m quiet left db may = elim (left.crash clean db may) [
    | inl before ↦ elim (quiet.crash was db before) [ inl first ↦ inl first | inr none ↦ absurd none ]
    | inr by ↦
        let t = m.tables same.0.is_open in
        inr (same.0.was_open, subst (λ (d : Trees). R d db) (sees (state g old) (state g mid) r same) (commits t.0 (state g mid) db t.1 by))
  ]

  pub wrote : (old new : Held S) (result : Result ℕ Error) → HasCleanDisk (state g new) → IsReady g old → Attempts g old new sql params result → Wrote R (state g old) (state g new) result
  unfolding ExecutesIn
  wrote old new result clean ready (inr h) = subst (Wrote R (state g old) (state g new)) (sym h.is) (record {
    done = tt;
    failed = same_committed (state g old) (state g new) (not_run (state g old) (state g new) sql h.given h.error h.why);
    crash = λ db may. elim (h.quiet.crash clean db may) [ inl was ↦ inl was | inr none ↦ absurd none ];
  })
  wrote old new (Err e) clean ready (inl h) =
      let was : HasCleanDisk (state g h.mid) = omega (arith, h.left.clean, clean) in
      let r = ready (omega (arith, h.quiet.clean, was)) in
      let m = same_ready (state g old) (state g h.mid) r h.quiet.limit (inl h.same) in
      let back = refused (state g h.mid) (state g new) sql params e h.ran in
      record {
        done = tt;
        failed = same_committed (state g old) (state g new) (after_same (state g old) (state g h.mid) (state g new) h.same back);
        crash = crashes old h.mid new clean was h.same r m h.quiet h.left;
      }
  wrote old new (Ok count) clean ready (inl h) =
      let was : HasCleanDisk (state g h.mid) = omega (arith, h.left.clean, clean) in
      let r = ready (omega (arith, h.quiet.clean, was)) in
      let m = same_ready (state g old) (state g h.mid) r h.quiet.limit (inl h.same) in
      let (l, has) = m.tables h.same.0.is_open in
      let text = statement_of sql (understood (schema_of l) sql) in
      let w = writes l (state g h.mid) (state g new) text count (runs_as sql params (state g h.mid) (state g new) (schema_of l) has.schema (command l) (means l).0 (means l).1 count h.ran) in
      let made = makes l (state g h.mid).step_limit (mode_of (state g h.mid)) (state g h.mid).now (state g new).now w.tally text has w.changed in
      let kept : (state g new).committed ≡ (state g new).now = w.shown.committed_is ∙ rw m.autocommit in
      record {
        done = (w.shown.is_open, subst₂ R (sees (state g old) (state g h.mid) r h.same) (ap (λ (d : Database). d.trees) (sym kept)) made);
        failed = tt;
        crash = crashes old h.mid new clean was h.same r m h.quiet h.left;
      }

-- ---- an owner

module _ {S : Type 0} (g : Ghosts S) (law : (s : S) (db : Trees) → IsTrue (g.view s).is_open → g.recovers s db → db ≡ (g.view s).committed) (owner : Owner) (old new : Held S) where
  pub tied : (result : Result ℕ Error) → said_by (state g old) ≡ Some None → Wrote (OwnerPut owner) (state g old) (state g new) result → IsTied owner (state g old) (state g new) result
  tied (Ok count) free h =
      let says = h.done.1.owned free in
      record {
        tied = record { is_open = h.done.0; says = says; left = λ db may. ap owner_in (law new.store db h.done.0 may) ∙ says };
        failed = tt;
        crash = λ db may. elim (h.crash db may) [ inl was ↦ inl was | inr by ↦ inr (by.0, by.1.owned free) ];
      }
  tied (Err e) free h = record {
    tied = tt;
    failed = h.failed;
    crash = λ db may. elim (h.crash db may) [ inl was ↦ inl was | inr by ↦ inr (by.0, by.1.owned free) ];
  }

  pub version_kept : (result : Result ℕ Error) → Wrote (OwnerPut owner) (state g old) (state g new) result → VersionStays (state g old) (state g new)
  version_kept (Ok count) h = record {
    shown = λ is. h.done.1.version;
    left = λ it db may. elim (h.crash db may) [ inl was ↦ inl was | inr by ↦ inr (by.1.version it) ];
  }
  version_kept (Err e) h = record {
    shown = λ is. subst (λ (d : Database). IsOurVersion d.trees) (sym (h.failed is).1);
    left = λ it db may. elim (h.crash db may) [ inl was ↦ inl was | inr by ↦ inr (by.1.version it) ];
  }

-- what the tables say of starts stays
pub starts_kept : (owner : Owner) (old new : State) (result : Result ℕ Error) → Wrote (OwnerPut owner) old new result → IsTrue new.is_open → starts_in new.committed.trees ≡ starts_in old.committed.trees
starts_kept owner old new (Ok count) h is = h.done.1.starts
starts_kept owner old new (Err e) h is = ap (λ (d : Database). starts_in d.trees) (h.failed is).1

-- a save that turns nothing is a look, since a crash could leave what is kept
module _ {S : Type 0} (g : Ghosts S) (stays : (s : S) → IsTrue (g.view s).is_open → g.recovers s (g.view s).committed) (old new : Held S) where
  as_same : {A : Type 0} (result : Result A Error) → Saved (λ store. store) (state g old) (state g new) result → IsTrue (state g new).is_open → IsTrue (state g old).is_open × (kept_by (state g new) ≡ kept_by (state g old))
  as_same (Ok x) h is = (h.saved.1, h.saved.2)
  as_same (Err e) h is = h.failed is

  pub as_looked : {A : Type 0} (result : Result A Error) → Saved (λ store. store) (state g old) (state g new) result → (IsTrue (state g new).is_open → starts_in (state g new).committed.trees ≡ starts_in (state g old).committed.trees) → Looked (state g old) (state g new)
  as_looked result h starts = record {
    ready = h.ready;
    same = as_same result h;
    starts = starts;
    crash = λ left may. elim (h.crash left may) [ inl was ↦ was | inr by ↦ ((g.view old.store).committed, stays old.store by.0, by.1) ];
  }

-- ---- a look, and then a write or none

pub same_then : (a b c : State) → Same a b → Same b c → Same a c
same_then a b c first second is = let two = second is in let one = first two.0 in (one.0, two.1 ∙ one.1)

pub untouched_then : (a b c : State) → IsUntouched a b → IsUntouched b c → IsUntouched a c
untouched_then a b c first second = record { same = same_then a b c first.same second.same; crash = λ db may. first.crash db (second.crash db may) }

-- nobody's file that was asked for by a member
pub free_said : (said : Option (Option Owner)) (owner : Owner) → tie_of said (Some owner) ≡ Some Taken → said ≡ Some None
free_said None owner h = absurd (let e = h in cc)
free_said (Some None) owner h = refl
free_said (Some (Some other)) owner h = elim (cases_Bool (is_same other owner)) [
  | inl same ↦ absurd (let e = rw same at h in cc)
  | inr apart ↦ absurd (let e = rw apart at h in cc)
]

-- the one that has the file has it also where a crash leaves it
pub own_said : (said : Option (Option Owner)) (asked : Option Owner) → tie_of said asked ≡ Some Own → said ≡ Some asked
own_said None asked h = absurd (let e = h in cc)
own_said (Some None) None h = refl
own_said (Some None) (Some owner) h = absurd (let e = h in cc)
own_said (Some (Some other)) None h = absurd (let e = h in cc)
own_said (Some (Some other)) (Some owner) h = elim (cases_Bool (is_same other owner)) [
  | inl same ↦ ap (λ o. Some (Some o)) (same_owner other owner same)
  | inr apart ↦ absurd (let e = rw apart at h in cc)
]
  where
    same_owner : (a b : Owner) → is_same a b ≡ true → a ≡ b
    same_owner a b h = grind arith

version_same : (a b : State) → IsUntouched a b → VersionStays a b
version_same a b h = record { shown = λ is. subst (λ (d : Database). IsOurVersion d.trees) (sym (h.same is).1); left = λ it db may. inl (h.crash db may) }

never_taken : (said : Option (Option Owner)) → tie_of said None ≡ Some Taken → ⊥
never_taken None h = absurd (let e = h in cc)
never_taken (Some None) h = absurd (let e = h in cc)
never_taken (Some (Some other)) h = absurd (let e = h in cc)

pub stops_then : (owner : Option Owner) (a b c : State) → IsUntouched a b → LeavesTied owner b c → LeavesTied owner a c
stops_then owner a b c first h db may = elim (h db may) [ inl was ↦ inl (first.crash db was) | inr by ↦ inr ((first.same by.0).0, by.1) ]

pub version_then : (a b c : State) → IsTrue b.is_open → IsUntouched a b → VersionStays b c → VersionStays a c
version_then a b c up first h =
    let same : b.committed.trees ≡ a.committed.trees = ap (λ (d : Database). d.trees) (first.same up).1 in
    record {
      shown = λ is it. h.shown is (subst IsOurVersion (sym same) it);
      left = λ it db may. elim (h.left (subst IsOurVersion (sym same) it) db may) [ inl was ↦ inl (first.crash db was) | inr by ↦ inr by ];
    }

-- nothing was written, and the file is the one's that is told so
pub owns_still : {S : Type 0} (g : Ghosts S) (law : (s : S) (db : Trees) → IsTrue (g.view s).is_open → g.recovers s db → db ≡ (g.view s).committed) (old mid : Held S) (asked : Option Owner) (found : Option Tie)
    → IsUntouched (state g old) (state g mid) → IsTrue (state g mid).is_open → found ≡ tie_of (said_by (state g old)) asked → (found ≡ Some Taken → asked ≡ None) → IfSome found (λ tie. GivesFile tie → IsOwned asked (state g mid))
owns_still g law old mid asked None same up is unless = tt
owns_still g law old mid asked (Some Foreign) same up is unless = λ none. absurd none
owns_still g law old mid asked (Some Taken) same up is unless = λ _. absurd (never_taken (said_by (state g old)) (ap (tie_of (said_by (state g old))) (sym (unless refl)) ∙ sym is))
owns_still g law old mid asked (Some Own) same up is unless = λ _.
    let says : said_by (state g mid) ≡ Some asked = ap (λ (d : Database). owner_in d.trees) (same.same up).1 ∙ own_said (said_by (state g old)) asked (sym is) in
    record { is_open = up; says = says; left = λ db may. ap owner_in (law mid.store db up may) ∙ says }

pub looked_then : (a b c : State) → Looked a b → Looked b c → Looked a c
looked_then a b c first second = record {
  ready = second.ready;
  same = λ is. let two = second.same is in let one = first.same two.0 in (one.0, two.1 ∙ one.1);
  starts = λ is. second.starts is ∙ first.starts (second.same is).0;
  crash = λ left may. first.crash left (second.crash left may);
}
