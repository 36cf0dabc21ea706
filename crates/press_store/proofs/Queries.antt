-- What the queries find.
use Rattle.std.proofs.Common.{◌≡◌, ℕ, ℤ, List, [], ◌∷◌, map, flat_map, filter, true, false, Bool, Some, None, refl, sym, ap, subst, ◌∙◌, inl, inr, arith}
use Rattle.std.proofs.lemmas.Bool.{cases_Bool}
use Rattle.std.specs.List.{list_all}
use Rattle.std.specs.Prelude.{◌&&◌}
use Rattle.std.specs.List.Sorted.{IsPermutation}
use mathlib.Core.Path.{fun_ext}
use Rattle.sqlite_value.specs.declared.keys.Key.{Key}
use Rattle.std.proofs.lemmas.List.Sorted.{IsPermutation-map, length_permutation}
use Rattle.std.specs.Ordering.{is_eq}
use Rattle.sqlite.specs.declared.types.Value.{Value}
use Rattle.sqlite.specs.declared.types.Value.TheVariants.{Null, Int, Text, Real, Blob}
use Rattle.sqlite.specs.Order.{Row, value_cmp}
use Rattle.sqlite.specs.Tree.{Trees}
use Rattle.sqlite.specs.Term.{Term, holds, eval_all}
use Rattle.sqlite.specs.Ops.{binary, is_true, from_truth}
use Rattle.sqlite.specs.Query.{Query, inner, end, matches_as, IsAnswer, output, Output}
use Rattle.sqlite.specs.Program.{overlay}
use Rattle.sqlite.specs.Effect.{Database, Answers}
use Rattle.sqlite_sql.specs.declared.ops.BinaryOp.TheVariants as by
use Rattle.sqlite_sql.specs.declared.ops.CompareOp.TheVariants.{Eq}
use Rattle.sqlite.specs.Collation.TheVariants.{Binary}
use Rattle.sqlite_value.proofs.OrderLemmas.{value_cmp-Null}
use Rattle.sqlite_trees.proofs.ListLemmas.{map-map}
use Rattle.press_store.specs.Tables.{Layout, Fresh, Moved, FreshStarts, MovedStarts, block_tree, vote_tree, meta_tree, start_tree, mark_tree, note_tree}
use Rattle.press_store.proofs.Texts.{picks}

pub back : (b : Bool) → is_true (from_truth (Some b)) ≡ b
back true = refl
back false = refl

-- SQL's = of a value and a text or a number that is written out
pub equals_text : (v : Value) (t : List ℕ) → is_true (binary (by.Compare Eq Binary) v (Text t)) ≡ is_eq (value_cmp v (Text t))
unfolding binary
equals_text Null t = rw (value_cmp-Null (Text t))
equals_text (Int n) t = back _
equals_text (Real x) t = back _
equals_text (Text s) t = back _
equals_text (Blob b) t = back _

pub equals_int : (v : Value) (n : ℤ) → is_true (binary (by.Compare Eq Binary) v (Int n)) ≡ is_eq (value_cmp v (Int n))
unfolding binary
equals_int Null t = rw (value_cmp-Null (Int t))
equals_int (Int n) t = back _
equals_int (Real x) t = back _
equals_int (Text s) t = back _
equals_int (Blob b) t = back _

pub plain_block : (l : Layout) (db : Trees) → overlay db [] (block_tree l) ≡ db (block_tree l)
plain_block Fresh db = refl
plain_block Moved db = refl
plain_block FreshStarts db = refl
plain_block MovedStarts db = refl

pub plain_vote : (l : Layout) (db : Trees) → overlay db [] (vote_tree l) ≡ db (vote_tree l)
plain_vote Fresh db = refl
plain_vote Moved db = refl
plain_vote FreshStarts db = refl
plain_vote MovedStarts db = refl

pub plain_meta : (l : Layout) (db : Trees) → overlay db [] (meta_tree l) ≡ db (meta_tree l)
plain_meta Fresh db = refl
plain_meta Moved db = refl
plain_meta FreshStarts db = refl
plain_meta MovedStarts db = refl

pub plain_start : (l : Layout) (db : Trees) → overlay db [] (start_tree l) ≡ db (start_tree l)
plain_start Fresh db = refl
plain_start Moved db = refl
plain_start FreshStarts db = refl
plain_start MovedStarts db = refl

pub plain_mark : (l : Layout) (db : Trees) → overlay db [] (mark_tree l) ≡ db (mark_tree l)
plain_mark Fresh db = refl
plain_mark Moved db = refl
plain_mark FreshStarts db = refl
plain_mark MovedStarts db = refl

pub plain_note : (l : Layout) (db : Trees) → overlay db [] (note_tree l) ≡ db (note_tree l)
plain_note Fresh db = refl
plain_note Moved db = refl
plain_note FreshStarts db = refl
plain_note MovedStarts db = refl

-- ---- the rows that pass

abbrev pub passes : List Term → Row → Row → Bool
passes terms params r = list_all (holds (params ∷ r ∷ [])) terms

found : (lost : Value) (db : Trees) (terms : List Term) (params : Row) (rows : List Row)
    → flat_map (λ r. matches_as lost db terms end (params ∷ r ∷ [])) rows ≡ map (λ r. params ∷ r ∷ []) (filter (passes terms params) rows)
found lost db terms params [] = refl
found lost db terms params (r ∷ rows) = elim (cases_Bool (passes terms params r)) [
  | inl on ↦ rw (on, found lost db terms params rows)
  | inr off ↦ rw (off, found lost db terms params rows)
]

-- an answer to a query over one table has an output for each row that passes, in some order
pub outputs : (q : Query) (db : Trees) (tree : ℕ) (params : Row) (rows : List Row) → q.from ≡ inner tree end → q.group ≡ None → q.distinct ≡ false → (a : IsAnswer q db params rows)
    → IsPermutation (map (λ r. output q (params ∷ r ∷ [])) (filter (passes q.filter params) (db tree))) a.ordered
outputs q db tree params rows over alone whole a =
    let staged = rw (over, alone) at a.grouped ∙ found Null db q.filter params (db tree) in
    let kept = rw whole at a.distinct ∙ ap (map (output q)) staged ∙ map-map (output q) (λ r. params ∷ r ∷ []) _ in
    subst (λ xs. IsPermutation xs a.ordered) kept a.same

-- the rows that are shown are those that pass, in some order
pub shown_rows : (tree : ℕ) (terms project : List Term) (order : List (Term × Key)) (db : Database) (params : Row) (rows : List Row) → overlay db.trees [] tree ≡ db.trees tree
    → Answers db (record { lets = []; body = record (picks tree terms project) { order = order } }) params rows
    → IsPermutation (map (λ r. eval_all project (params ∷ r ∷ [])) (filter (passes terms params) (db.trees tree))) rows
shown_rows tree terms project order db params rows plain h =
    let q = record (picks tree terms project) { order = order } in
    let a : IsAnswer q (overlay db.trees []) params rows = h.answer Null in
    let out = outputs q (overlay db.trees []) tree params rows refl refl refl a in
    let shown = IsPermutation-map (λ (o : Output). o.1) _ a.ordered out in
    subst (λ xs. IsPermutation xs rows) (map-map (λ (o : Output). o.1) (λ r. output q (params ∷ r ∷ [])) _ ∙ ap (λ xs. map (λ r. eval_all project (params ∷ r ∷ [])) (filter (passes terms params) xs)) plain)
    (subst (IsPermutation (map (λ (o : Output). o.1) (map (λ r. output q (params ∷ r ∷ [])) (filter (passes terms params) (overlay db.trees [] tree))))) (sym a.shown) shown)

and_true : (b : Bool) → (b && true) ≡ b
and_true true = refl
and_true false = refl

-- the same of one condition
pub picked : (tree : ℕ) (t : Term) (project : List Term) (db : Database) (params : Row) (rows : List Row) → overlay db.trees [] tree ≡ db.trees tree
    → Answers db (record { lets = []; body = picks tree (t ∷ []) project }) params rows
    → IsPermutation (map (λ r. eval_all project (params ∷ r ∷ [])) (filter (λ r. holds (params ∷ r ∷ []) t) (db.trees tree))) rows
picked tree t project db params rows plain h =
    let same : passes (t ∷ []) params ≡ (λ r. holds (params ∷ r ∷ []) t) = fun_ext (λ r. and_true (holds (params ∷ r ∷ []) t)) in
    subst (λ p. IsPermutation (map (λ r. eval_all project (params ∷ r ∷ [])) (filter p (db.trees tree))) rows) same (shown_rows tree (t ∷ []) project [] db params rows plain h)

-- without a condition each row passes
pub all_pass : (params : Row) (rows : List Row) → filter (passes [] params) rows ≡ rows
all_pass params [] = refl
all_pass params (r ∷ rows) = ap (λ more. r ∷ more) (all_pass params rows)

-- what shows nothing has nothing
pub none_of : {X Y : Type 0} (f : X → Y) (xs : List X) → IsPermutation (map f xs) [] → xs ≡ []
none_of f [] h = refl
none_of f (x ∷ xs) h = absurd (omega (arith, length_permutation _ _ h))
