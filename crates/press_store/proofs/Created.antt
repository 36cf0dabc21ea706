-- What a statement that makes a table leaves.
use Rattle.std.proofs.Common.{◌≡◌, Option, ℕ, List, [], false, None, Ok, refl, sym, ap, subst, ◌∙◌}
use Rattle.sqlite.specs.declared.run.Mode.{Mode}
use Rattle.sqlite.specs.Order.{Row}
use Rattle.sqlite.specs.Schema.{Schema}
use Rattle.sqlite.specs.Table.{Table}
use Rattle.sqlite.specs.Compile.{table_defined_by}
use Rattle.sqlite.specs.Command.TheVariants.{CreateTable}
use Rattle.sqlite.specs.Change.{created, next_tree, KeepsRows}
use Rattle.sqlite.specs.Does.{Tally, Does, lacks_sequence}
use Rattle.sqlite.specs.Effect.{Database}
use Rattle.sqlite.specs.Listing.{understood}
use Rattle.sqlite.proofs.Callers.{IsPlain, command_of, statement_of, runs_as}
use Rattle.sqlite.specs.State.{State, Executes, mode_of}
use Rattle.sqlite_trees.specs.Objects.{catalog_tree}
use Rattle.sqlite_catalog.specs.Listing.{Lists}
use Rattle.press_store.proofs.Put.{went, same_value}

-- the text makes a table, over this schema
abbrev pub IsCreate : Schema → List ℕ → Type 0
IsCreate schema text = (command_of (understood schema text) ≡ CreateTable) × (statement_of text (understood schema text) ≡ text) × IsPlain (understood schema text)

-- each CREATE makes its schema
made : (limit : Option ℕ) (mode : Mode) (params : Row) (now after : Database) (tally : Tally) (schema whole : Schema) (table : Table) (text : List ℕ) → now.schema ≡ schema → table_defined_by text ≡ Ok table → created schema table ≡ whole
    → lacks_sequence whole ≡ false → Does limit mode params now text None CreateTable (Ok (tally, after)) → (after.schema ≡ whole) × (after.trees (next_tree schema) ≡ []) × KeepsRows schema.tables now.trees after.trees
made limit mode params now after tally schema whole table text has defined is none does =
    let all = went does in
    let first = went all.1 in
    let it = first.1 in
    let both : Ok it.table ≡ Ok table = sym it.defined ∙ defined in
    let same : it.table ≡ table = cc in
    let made_schema : first.0.schema ≡ whole = it.is ∙ ap (λ s. created s it.table) has ∙ ap (created schema) same ∙ is in
    let plain : lacks_sequence first.0.schema ≡ false = ap lacks_sequence made_schema ∙ none in
    let left : after ≡ first.0 = ap (λ (p : Tally × Database). p.1) (same_value all.2) ∙ same_value (rw plain at first.2) in (
      ap (λ (d : Database). d.schema) left ∙ made_schema,
      ap (λ (d : Database). d.trees (next_tree schema)) left ∙ subst (λ s. first.0.trees (next_tree s) ≡ []) has it.empty,
      subst (λ (d : Database). KeepsRows schema.tables now.trees d.trees) (sym left) (subst (λ (s : Schema). KeepsRows s.tables now.trees first.0.trees) has it.others),
    )

-- a CREATE that is run makes its table, which is empty, and the list of tables says so
pub create : (a b : State) (count : ℕ) (schema whole : Schema) (table : Table) (text : List ℕ) → a.now.schema ≡ schema → table_defined_by text ≡ Ok table → created schema table ≡ whole → lacks_sequence whole ≡ false → IsCreate schema text
    → Executes text [] a b (Ok count) → (b.now.schema ≡ whole) × (b.now.trees (next_tree schema) ≡ []) × KeepsRows schema.tables a.now.trees b.now.trees × Lists (b.now.trees catalog_tree) whole
create a b count schema whole table text has defined is none creates ran =
    let w = runs_as text [] a b schema has CreateTable creates.0 creates.2 count ran in
    let does = subst (λ t. Does a.step_limit (mode_of a) [] a.now t None CreateTable (Ok (w.tally, b.now))) creates.1 w.changed in
    let it = made a.step_limit (mode_of a) [] a.now b.now w.tally schema whole table text has defined is none does in
    (it.0, it.1, it.2, subst (λ s. Lists (b.now.trees catalog_tree) s) it.0 w.sound.lists)
