-- A list of objects is that of one schema, where it is that of a store; files that hold nothing list none.
use Rattle.std.proofs.Common.{true, false, map, ◌≡◌, ◌+◌, ℕ, zero, suc, pos, List, [], ◌∷◌, filter, Some, refl, sym, ap, ap₂, subst, ◌∙◌, inl, inr, arith}
use Rattle.std.specs.List.{AllZip, AllByRecursion}
use Rattle.sqlite.specs.Tree.{IsAscending}
use Rattle.std.specs.Prelude.{slice_get}
use Rattle.sqlite.specs.declared.types.Value.{Value}
use Rattle.sqlite.specs.declared.types.Value.TheVariants.{Null, Int, Real, Text, Blob}
use Rattle.sqlite.specs.Order.{Row, column}
use Rattle.sqlite.specs.Tree.{Trees, rowid}
use Rattle.sqlite.specs.Table.{Table}
use Rattle.sqlite.specs.Schema.{Schema}
use Rattle.sqlite_schema.specs.declared.schema.Index.{Index}
use Rattle.sqlite_schema.specs.declared.schema.View.{View as Stored}
use Rattle.sqlite_trees.specs.Objects.{catalog_tree}
use Rattle.sqlite_rules.specs.Lists.{Has}
use Rattle.sqlite_catalog.specs.Listing.{IsSound, IsTableRow, IsIndexRow, IsViewRow, IsDefined, automatic, is_table_row, is_index_row, is_view_row}
use Rattle.sqlite_schema.specs.Names.{same_name}
use Rattle.std.specs.Ordering.{is_eq}
use Rattle.std.specs.Char.{to_ascii_lowercase}
use Rattle.std.proofs.lemmas.Cmp.{tied_itself}
use Rattle.sqlite_value.proofs.OrderLemmas.{value_cmp-Text, value_cmp_total}
use Rattle.press_store.specs.Tables.{Layout, Fresh, Moved, FreshStarts, MovedStarts, schema_of, old_schema, no_schema}

-- ---- lists, item by item

one_list : {A B : Type 0} (P : A → B → Type 0) → ((x : A) (y z : B) → P x y → P x z → y ≡ z) → (xs : List A) (ys zs : List B) → AllZip P xs ys → AllZip P xs zs → ys ≡ zs
one_list P one [] [] [] a b = refl
one_list P one [] [] (z ∷ zs) a b = absurd b
one_list P one [] (y ∷ ys) zs a b = absurd a
one_list P one (x ∷ xs) [] zs a b = absurd a
one_list P one (x ∷ xs) (y ∷ ys) [] a b = absurd b
one_list P one (x ∷ xs) (y ∷ ys) (z ∷ zs) a b = ap₂ (◌∷◌) (one x y z a.0 b.0) (one_list P one xs ys zs a.1 b.1)

none_with : {A B : Type 0} (P : A → B → Type 0) (xs : List A) (ys : List B) → AllZip P xs [] → AllZip P xs ys → ys ≡ []
none_with P [] [] none some = refl
none_with P [] (y ∷ ys) none some = absurd some
none_with P (x ∷ xs) ys none some = absurd none

-- ---- what a row defines

one_tree : (row : Row) (m n : ℕ) → rowid row ≡ Int (pos (m + 1)) → rowid row ≡ Int (pos (n + 1)) → m ≡ n
one_tree row m n a b =
    let same : m + 1 ≡ n + 1 = cc in
    omega (arith, same)

one_text : (v : Value) (s t : List ℕ) → v ≡ Text s → v ≡ Text t → s ≡ t
one_text v s t a b = cc

one_table : (row : Row) (s t : Table) → IsTableRow row s → IsTableRow row t → s ≡ t
one_table row s t a b =
    let sql : a.sql ≡ b.sql = one_text (column row 4) a.sql b.sql a.sql_is b.sql_is in
    let (made, defined, is) = a.defined in
    let (other, defines, was) = b.defined in
    let same : made ≡ other = cc in
    let tree : s.tree ≡ t.tree = one_tree row s.tree t.tree a.described.id b.described.id in
    is ∙ ap₂ (λ (m : Table) (k : ℕ). record m { tree = k }) same tree ∙ sym was

-- a table has one UNIQUE at most
abbrev pub IsSimple : Table → Type 0
IsSimple t = (at : ℕ) (key : List ℕ) → slice_get t.uniques at ≡ Some key → at ≡ 0

first_alone : (ts : List Table) → AllByRecursion IsSimple ts → (t : Table) → Has ts t → (at : ℕ) (key : List ℕ) → slice_get t.uniques at ≡ Some key → at ≡ 0
first_alone [] simple t has at key got = absurd has
first_alone (u ∷ ts) simple t (inl is) at key got = simple.0 at key (subst (λ (v : Table). slice_get v.uniques at ≡ Some key) is got)
first_alone (u ∷ ts) simple t (inr has) at key got = first_alone ts simple.1 t has at key got

-- no two tables have one name
abbrev Apart : Table → Table → Type 0
Apart s t = same_name s.name t.name ≡ false

itself_named : (name : List ℕ) → same_name name name ≡ true
unfolding same_name
itself_named name = ap is_eq (sym (value_cmp-Text _ _) ∙ tied_itself value_cmp_total (Text (map to_ascii_lowercase name)))

apart_from : (s t : Table) (ts : List Table) → AllByRecursion (Apart s) ts → Has ts t → s.name ≡ t.name → ⊥
apart_from s t [] apart has same = has
apart_from s t (u ∷ ts) apart (inl is) same =
    let other : same_name s.name t.name ≡ false = subst (λ (v : Table). same_name s.name v.name ≡ false) (sym is) apart.0 in
    let e = rw (sym same) at other in let own = itself_named s.name in absurd (let bad = sym own ∙ e in cc)
apart_from s t (u ∷ ts) apart (inr has) same = apart_from s t ts apart.1 has same

one_owner : (ts : List Table) → IsAscending Apart ts → (s t : Table) → Has ts s → Has ts t → s.name ≡ t.name → s ≡ t
one_owner [] named s t a b same = absurd a
one_owner (u ∷ ts) named s t (inl a) (inl b) same = a ∙ sym b
one_owner (u ∷ ts) named s t (inl a) (inr b) same = absurd (apart_from u t ts named.0 b (sym (ap (λ (v : Table). v.name) a) ∙ same))
one_owner (u ∷ ts) named s t (inr a) (inl b) same = absurd (apart_from u s ts named.0 a (sym (ap (λ (v : Table). v.name) b) ∙ sym same))
one_owner (u ∷ ts) named s t (inr a) (inr b) same = one_owner ts named.1 s t a b same

one_defined : (ts : List Table) → AllByRecursion IsSimple ts → (t : Table) → Has ts t → (v : Value) (i j : Index) → IsDefined t i v → IsDefined t j v → i.tree ≡ j.tree → i ≡ j
one_defined ts simple t has Null i j (at, key, got, is, _) (other, with, found, was, _) tree =
    let first : at ≡ other = first_alone ts simple t has at key got ∙ sym (first_alone ts simple t has other with found) in
    let same : key ≡ with = cc in
    is ∙ ap₂ (λ (n : ℕ) (k : List ℕ). automatic t n k i.tree) first same ∙ ap (automatic t other with) tree ∙ sym was
one_defined ts simple t has (Int n) i j a b tree = absurd a
one_defined ts simple t has (Real x) i j a b tree = absurd a
one_defined ts simple t has (Text sql) i j (made, defined, is) (other, defines, was) tree =
    let same : made ≡ other = cc in
    is ∙ ap₂ (λ (m : Index) (k : ℕ). record m { tree = k; table = t.tree }) same tree ∙ sym was
one_defined ts simple t has (Blob b) i j a c tree = absurd a

one_index : (ts : List Table) → AllByRecursion IsSimple ts → IsAscending Apart ts → (row : Row) (i j : Index) → IsIndexRow ts row i → IsIndexRow ts row j → i ≡ j
one_index ts simple named row i j a b =
    let name : a.table.name ≡ b.table.name = one_text (column row 3) a.table.name b.table.name a.described.owner_is b.described.owner_is in
    let table : a.table ≡ b.table = one_owner ts named a.table b.table a.listed b.listed name in
    let tree : i.tree ≡ j.tree = one_tree row i.tree j.tree a.described.id b.described.id in
    one_defined ts simple b.table b.listed (column row 4) i j (subst (λ (t : Table). IsDefined t i (column row 4)) table a.defined) b.defined tree

-- ---- what the trees list

abbrev schema_of_parts : List Table → List Index → List Stored → Schema
schema_of_parts tables indexes views = record { tables = tables; indexes = indexes; views = views }

pub one_schema : (whole : Schema) → AllByRecursion IsSimple whole.tables → whole.views ≡ [] → (schema : Schema) (db : Trees) → IsSound schema db → IsSound whole db → schema ≡ whole
one_schema whole simple bare schema db own store =
    let rows = db catalog_tree in
    let listed = own.lists.listed in
    let known = store.lists.listed in
    let tables : schema.tables ≡ whole.tables = one_list IsTableRow one_table (filter is_table_row rows) schema.tables whole.tables listed.tables known.tables in
    let rest = subst (λ (ts : List Table). AllZip (IsIndexRow ts) (filter is_index_row rows) schema.indexes) tables listed.indexes in
    let indexes : schema.indexes ≡ whole.indexes = one_list (IsIndexRow whole.tables) (one_index whole.tables simple known.named) (filter is_index_row rows) schema.indexes whole.indexes rest known.indexes in
    let views : schema.views ≡ [] = none_with IsViewRow (filter is_view_row rows) schema.views (subst (λ vs. AllZip IsViewRow (filter is_view_row rows) vs) bare known.views) listed.views in
    ap₂ (λ (a : List Table) (b : List Index). schema_of_parts a b schema.views) tables indexes ∙ ap (schema_of_parts whole.tables whole.indexes) (views ∙ sym bare)

only_first : {X : Type 0} (x : X) (at : ℕ) (key : X) → slice_get (x ∷ []) at ≡ Some key → at ≡ 0
only_first x zero key got = refl
only_first x (suc at) key got = absurd (let none : slice_get [] at ≡ Some key = got in cc)

never : {X : Type 0} (at : ℕ) (key : X) → slice_get [] at ≡ Some key → at ≡ 0
never at key got = absurd (cc)

-- the schema of a store, in each layout
pub layout_alone : (l : Layout) (schema : Schema) (db : Trees) → IsSound schema db → IsSound (schema_of l) db → schema ≡ schema_of l
layout_alone Fresh = one_schema (schema_of Fresh) (never, (never, (only_first (1 ∷ []), tt))) refl
layout_alone Moved = one_schema (schema_of Moved) (never, (only_first (1 ∷ []), (never, (never, tt)))) refl
layout_alone FreshStarts = one_schema (schema_of FreshStarts) (never, (never, (only_first (1 ∷ []), (never, (never, (never, tt)))))) refl
layout_alone MovedStarts = one_schema (schema_of MovedStarts) (never, (only_first (1 ∷ []), (never, (never, (never, (never, (never, tt))))))) refl

-- that of version 1
pub old_alone : (schema : Schema) (db : Trees) → IsSound schema db → IsSound old_schema db → schema ≡ old_schema
old_alone = one_schema old_schema (never, (only_first (1 ∷ []), tt)) refl

pub lists_nothing : (schema : Schema) (db : Trees) → IsSound schema db → db catalog_tree ≡ [] → schema ≡ no_schema
lists_nothing schema db own none =
    let listed = own.lists.listed in
    let tables : schema.tables ≡ [] = none_with IsTableRow [] schema.tables tt (subst (λ (rows : List Row). AllZip IsTableRow (filter is_table_row rows) schema.tables) none listed.tables) in
    let indexes : schema.indexes ≡ [] =
    none_with (IsIndexRow schema.tables) [] schema.indexes tt (subst (λ (rows : List Row). AllZip (IsIndexRow schema.tables) (filter is_index_row rows) schema.indexes) none listed.indexes) in
    let views : schema.views ≡ [] = none_with IsViewRow [] schema.views tt (subst (λ (rows : List Row). AllZip IsViewRow (filter is_view_row rows) schema.views) none listed.views) in
    ap₂ (λ (a : List Table) (b : List Index). schema_of_parts a b schema.views) tables indexes ∙ ap (schema_of_parts [] []) views
