-- What the texts of the store mean, in each layout.
use Rattle.std.proofs.Common.{◌≡◌, ℕ, pos, negsuc, List, [], ◌∷◌, codes, true, false, None, Ok, refl}
use Rattle.sqlite.specs.Compile.{table_defined_by}
use Rattle.sqlite.specs.Command.{Command}
use Rattle.sqlite.specs.Command.TheVariants.{Select, Insert, Update, Delete, InsertOr}
use Rattle.sqlite.specs.Source.TheVariants.{Values}
use Rattle.sqlite_schema.specs.declared.command.Conflict.TheVariants.{Replace}
use Rattle.sqlite_sql.specs.declared.ops.BinaryOp.TheVariants as by
use Rattle.sqlite_sql.specs.declared.ops.CompareOp.TheVariants.{Eq, Ge, Le, Lt, Gt}
use Rattle.sqlite.specs.Collation.TheVariants.{Binary}
use Rattle.sqlite.specs.declared.types.Value.TheVariants.{Null, Int, Text}
use Rattle.sqlite.specs.Term.{Term, lit, col, op2}
use Rattle.sqlite.specs.Query.{Query, inner, end}
use Rattle.sqlite_tied.specs.Compute.{everything}
use Rattle.sqlite.specs.Listing.{understood, reads_listing}
use Rattle.sqlite.proofs.Callers.{IsPlain, command_of}
use Rattle.sqlite.specs.Change.{created}
use Rattle.press_store.specs.Tables.{Layout, Fresh, Moved, FreshStarts, MovedStarts, HasOld, HasStarts, schema_of, no_schema, block_tree, vote_tree, meta_tree, start_tree, mark_tree, note_tree, block_place, vote_place, meta_place, start_place, mark_place, note_place, block_on, vote_on, meta_on, start_on, mark_on, note_on}
use Rattle.press_store.specs.Tables.{make_start, make_mark, make_note, save_start_text, save_mark_text, save_note_text, saves_text, mark_text, starts_text, note_text}
use Rattle.press_store.specs.Tables.{make_block, make_vote, make_meta, promise_text, save_promise_text, votes_text, save_vote_text, last_vote_text, round_text, save_round_text, check_text, version_query_text, left_text}
use Rattle.press_store.specs.Tables.{slot_text, last_slot_text, outside_text, clear_text, number_text, set_version_text, entry_text, owner_text}

pub tables_defined : (table_defined_by make_block ≡ Ok (block_on 0)) × (table_defined_by make_vote ≡ Ok (vote_on 0)) × (table_defined_by make_meta ≡ Ok (meta_on 0))
unfolding understood everything
tables_defined = (refl, refl, refl)

pub whole_schema : created (created (created no_schema (block_on 0)) (vote_on 0)) (meta_on 0) ≡ schema_of Fresh
unfolding understood everything
whole_schema = refl

-- ---- queries

abbrev pub picks : ℕ → List Term → List Term → Query
picks tree filter project = record {
  from = inner tree end;
  filter = filter;
  group = None;
  project = project;
  distinct = false;
  collations = [];
  order = [];
  limit = lit (Int (negsuc 0));
  offset = lit (Int (pos 0));
}

abbrev pub is_equal_to : Term → Term → Term
is_equal_to = op2 (by.Compare Eq Binary)

abbrev pub promise_query : Layout → Query
promise_query l = picks (block_tree l) (is_equal_to (col 1 0) (col 0 0) ∷ []) (col 1 2 ∷ col 1 3 ∷ [])

abbrev pub votes_query : Layout → Query
votes_query l = record (picks (vote_tree l) (op2 (by.Compare Ge Binary) (col 1 0) (col 0 0) ∷ op2 (by.Compare Le Binary) (col 1 0) (col 0 1) ∷ []) (col 1 0 ∷ col 1 2 ∷ col 1 3 ∷ col 1 4 ∷ [])) {
  order = (col 1 0, record { collation = Binary; descending = false }) ∷ [];
}

abbrev pub last_vote_query : ℕ → Query
last_vote_query tree = record {
  from = inner tree end;
  filter = [];
  group = None;
  project = col 1 0 ∷ [];
  distinct = false;
  collations = [];
  order = (col 1 0, record { collation = Binary; descending = true }) ∷ [];
  limit = lit (Int (pos 1));
  offset = lit (Int (pos 0));
}

abbrev pub named_query : List ℕ → List Term → ℕ → Query
named_query name project tree = picks tree (is_equal_to (col 1 1) (lit (Text name)) ∷ []) project

abbrev pub round_query : Layout → Query
round_query l = named_query (codes "last_round") (col 1 2 ∷ []) (meta_tree l)

abbrev pub update_query : ℕ → Query
update_query = named_query (codes "last_round") (col 1 0 ∷ col 1 0 ∷ col 1 1 ∷ col 0 0 ∷ [])

abbrev pub check_query : Layout → Query
check_query l = named_query (codes "last_round") (col 1 0 ∷ col 1 2 ∷ []) (meta_tree l)

abbrev pub version_query : Layout → Query
version_query l = named_query (codes "version") (col 1 2 ∷ []) (meta_tree l)

abbrev pub entry_query : Layout → Query
entry_query l = picks (meta_tree l) (is_equal_to (col 1 1) (col 0 0) ∷ []) (col 1 2 ∷ [])

abbrev pub left_query : Query
left_query = record (picks 0 [] (col 1 0 ∷ [])) { limit = lit (Int (pos 1)) }

-- ---- commands

abbrev pub select : Query → List (List ℕ) → Command
select query names = Select (record { lets = []; body = query }) names

abbrev pub promise_terms : List Term
promise_terms = col 0 0 ∷ lit Null ∷ col 0 1 ∷ col 0 2 ∷ []

abbrev pub vote_terms : List Term
vote_terms = col 0 0 ∷ lit Null ∷ col 0 1 ∷ col 0 2 ∷ col 0 3 ∷ []

abbrev pub promise_select : Layout → Command
promise_select l = select (promise_query l) (codes "round" ∷ codes "node" ∷ [])

abbrev pub votes_select : Layout → Command
votes_select l = select (votes_query l) (codes "slot" ∷ codes "round" ∷ codes "node" ∷ codes "value" ∷ [])

abbrev pub last_vote_select : Layout → Command
last_vote_select l = select (last_vote_query (vote_tree l)) (codes "slot" ∷ [])

abbrev pub round_select : Layout → Command
round_select l = select (round_query l) (codes "n" ∷ [])

abbrev pub check_select : Layout → Command
check_select l = select (check_query l) (codes "rowid" ∷ codes "n" ∷ [])

abbrev pub version_select : Layout → Command
version_select l = select (version_query l) (codes "n" ∷ [])

abbrev pub promise_insert : Layout → Command
promise_insert l = InsertOr (block_place l) Replace (Values promise_terms 4) []

abbrev pub vote_insert : Layout → Command
vote_insert l = InsertOr (vote_place l) Replace (Values vote_terms 5) []

abbrev pub entry_select : Layout → Command
entry_select l = select (entry_query l) (codes "n" ∷ [])

abbrev pub owner_terms : List Term
owner_terms = lit Null ∷ lit (Text (codes "member")) ∷ col 0 0 ∷ lit Null ∷ lit (Text (codes "members")) ∷ col 0 1 ∷ lit Null ∷ lit (Text (codes "peers")) ∷ col 0 2 ∷ []

abbrev pub owner_insert : Layout → Command
owner_insert l = Insert (meta_place l) (Values owner_terms 3)

abbrev pub round_update : Layout → Command
round_update l = Update (meta_place l) (record { lets = []; body = update_query (meta_tree l) })

-- the text is a plain query, over a layout, with this meaning
abbrev pub IsQuery : List ℕ → (Layout → Command) → Type 0
IsQuery text command = (l : Layout) → (command_of (understood (schema_of l) text) ≡ command l) × IsPlain (understood (schema_of l) text) × (reads_listing (schema_of l) text ≡ false)

-- the text is a plain write, over a layout, with this meaning
abbrev pub IsWrite : List ℕ → (Layout → Command) → Type 0
IsWrite text command = (l : Layout) → (command_of (understood (schema_of l) text) ≡ command l) × IsPlain (understood (schema_of l) text)

pub promise_means : IsQuery promise_text promise_select
unfolding understood everything
promise_means Fresh = (refl, (refl, refl), refl)
promise_means Moved = (refl, (refl, refl), refl)
promise_means FreshStarts = (refl, (refl, refl), refl)
promise_means MovedStarts = (refl, (refl, refl), refl)

pub votes_means : IsQuery votes_text votes_select
unfolding understood everything
votes_means Fresh = (refl, (refl, refl), refl)
votes_means Moved = (refl, (refl, refl), refl)
votes_means FreshStarts = (refl, (refl, refl), refl)
votes_means MovedStarts = (refl, (refl, refl), refl)

pub last_vote_means : IsQuery last_vote_text last_vote_select
unfolding understood everything
last_vote_means Fresh = (refl, (refl, refl), refl)
last_vote_means Moved = (refl, (refl, refl), refl)
last_vote_means FreshStarts = (refl, (refl, refl), refl)
last_vote_means MovedStarts = (refl, (refl, refl), refl)

pub round_means : IsQuery round_text round_select
unfolding understood everything
round_means Fresh = (refl, (refl, refl), refl)
round_means Moved = (refl, (refl, refl), refl)
round_means FreshStarts = (refl, (refl, refl), refl)
round_means MovedStarts = (refl, (refl, refl), refl)

pub check_means : IsQuery check_text check_select
unfolding understood everything
check_means Fresh = (refl, (refl, refl), refl)
check_means Moved = (refl, (refl, refl), refl)
check_means FreshStarts = (refl, (refl, refl), refl)
check_means MovedStarts = (refl, (refl, refl), refl)

pub version_query_means : IsQuery version_query_text version_select
unfolding understood everything
version_query_means Fresh = (refl, (refl, refl), refl)
version_query_means Moved = (refl, (refl, refl), refl)
version_query_means FreshStarts = (refl, (refl, refl), refl)
version_query_means MovedStarts = (refl, (refl, refl), refl)

pub entry_means : IsQuery entry_text entry_select
unfolding understood everything
entry_means Fresh = (refl, (refl, refl), refl)
entry_means Moved = (refl, (refl, refl), refl)
entry_means FreshStarts = (refl, (refl, refl), refl)
entry_means MovedStarts = (refl, (refl, refl), refl)

pub owner_means : IsWrite owner_text owner_insert
unfolding understood everything
owner_means Fresh = (refl, (refl, refl))
owner_means Moved = (refl, (refl, refl))
owner_means FreshStarts = (refl, (refl, refl))
owner_means MovedStarts = (refl, (refl, refl))

pub save_promise_means : IsWrite save_promise_text promise_insert
unfolding understood everything
save_promise_means Fresh = (refl, (refl, refl))
save_promise_means Moved = (refl, (refl, refl))
save_promise_means FreshStarts = (refl, (refl, refl))
save_promise_means MovedStarts = (refl, (refl, refl))

pub save_vote_means : IsWrite save_vote_text vote_insert
unfolding understood everything
save_vote_means Fresh = (refl, (refl, refl))
save_vote_means Moved = (refl, (refl, refl))
save_vote_means FreshStarts = (refl, (refl, refl))
save_vote_means MovedStarts = (refl, (refl, refl))

pub save_round_means : IsWrite save_round_text round_update
unfolding understood everything
save_round_means Fresh = (refl, (refl, refl))
save_round_means Moved = (refl, (refl, refl))
save_round_means FreshStarts = (refl, (refl, refl))
save_round_means MovedStarts = (refl, (refl, refl))

pub left_means : (l : Layout) → HasOld l → (command_of (understood (schema_of l) left_text) ≡ select left_query (codes "slot" ∷ [])) × IsPlain (understood (schema_of l) left_text) × (reads_listing (schema_of l) left_text ≡ false)
unfolding understood everything
left_means Fresh none = absurd none
left_means Moved old = (refl, (refl, refl), refl)
left_means FreshStarts none = absurd none
left_means MovedStarts old = (refl, (refl, refl), refl)

-- ---- starts

pub starts_defined : (table_defined_by make_start ≡ Ok (start_on 0)) × (table_defined_by make_mark ≡ Ok (mark_on 0)) × (table_defined_by make_note ≡ Ok (note_on 0))
unfolding understood everything
starts_defined = (refl, refl, refl)

abbrev pub saves_query : Layout → Query
saves_query l = picks (start_tree l) (is_equal_to (col 1 0) (col 0 0) ∷ []) (col 1 2 ∷ [])

abbrev pub mark_query : Layout → Query
mark_query l = picks (mark_tree l) (is_equal_to (col 1 0) (col 0 0) ∷ []) (col 1 2 ∷ col 1 3 ∷ [])

abbrev pub note_query : Layout → Query
note_query l = picks (note_tree l) (is_equal_to (col 1 0) (col 0 0) ∷ []) (col 1 3 ∷ [])

abbrev pub starts_query : Layout → Query
starts_query l = picks (start_tree l) [] (col 1 0 ∷ [])

abbrev pub saves_select : Layout → Command
saves_select l = select (saves_query l) (codes "saves" ∷ [])

abbrev pub mark_select : Layout → Command
mark_select l = select (mark_query l) (codes "start" ∷ codes "saves" ∷ [])

abbrev pub note_select : Layout → Command
note_select l = select (note_query l) (codes "value" ∷ [])

abbrev pub starts_select : Layout → Command
starts_select l = select (starts_query l) (codes "name" ∷ [])

abbrev pub start_terms : List Term
start_terms = col 0 0 ∷ lit Null ∷ col 0 1 ∷ []

abbrev pub start_insert : Layout → Command
start_insert l = InsertOr (start_place l) Replace (Values start_terms 3) []

abbrev pub mark_insert : Layout → Command
mark_insert l = InsertOr (mark_place l) Replace (Values promise_terms 4) []

abbrev pub note_insert : Layout → Command
note_insert l = InsertOr (note_place l) Replace (Values promise_terms 4) []

-- the same over a layout with the tables of starts
abbrev pub IsStartsQuery : List ℕ → (Layout → Command) → Type 0
IsStartsQuery text command = (l : Layout) → HasStarts l → (command_of (understood (schema_of l) text) ≡ command l) × IsPlain (understood (schema_of l) text) × (reads_listing (schema_of l) text ≡ false)

abbrev pub IsStartsWrite : List ℕ → (Layout → Command) → Type 0
IsStartsWrite text command = (l : Layout) → HasStarts l → (command_of (understood (schema_of l) text) ≡ command l) × IsPlain (understood (schema_of l) text)

pub save_start_means : IsStartsWrite save_start_text start_insert
unfolding understood everything
save_start_means Fresh none = absurd none
save_start_means Moved none = absurd none
save_start_means FreshStarts has = (refl, (refl, refl))
save_start_means MovedStarts has = (refl, (refl, refl))

pub save_mark_means : IsStartsWrite save_mark_text mark_insert
unfolding understood everything
save_mark_means Fresh none = absurd none
save_mark_means Moved none = absurd none
save_mark_means FreshStarts has = (refl, (refl, refl))
save_mark_means MovedStarts has = (refl, (refl, refl))

pub save_note_means : IsStartsWrite save_note_text note_insert
unfolding understood everything
save_note_means Fresh none = absurd none
save_note_means Moved none = absurd none
save_note_means FreshStarts has = (refl, (refl, refl))
save_note_means MovedStarts has = (refl, (refl, refl))

pub saves_means : IsStartsQuery saves_text saves_select
unfolding understood everything
saves_means Fresh none = absurd none
saves_means Moved none = absurd none
saves_means FreshStarts has = (refl, (refl, refl), refl)
saves_means MovedStarts has = (refl, (refl, refl), refl)

pub mark_means : IsStartsQuery mark_text mark_select
unfolding understood everything
mark_means Fresh none = absurd none
mark_means Moved none = absurd none
mark_means FreshStarts has = (refl, (refl, refl), refl)
mark_means MovedStarts has = (refl, (refl, refl), refl)

pub note_means : IsStartsQuery note_text note_select
unfolding understood everything
note_means Fresh none = absurd none
note_means Moved none = absurd none
note_means FreshStarts has = (refl, (refl, refl), refl)
note_means MovedStarts has = (refl, (refl, refl), refl)

pub starts_means : IsStartsQuery starts_text starts_select
unfolding understood everything
starts_means Fresh none = absurd none
starts_means Moved none = absurd none
starts_means FreshStarts has = (refl, (refl, refl), refl)
starts_means MovedStarts has = (refl, (refl, refl), refl)

-- ---- a migration

abbrev pub slot_query : Query
slot_query = picks 0 (is_equal_to (col 1 0) (col 0 0) ∷ []) (col 1 2 ∷ col 1 3 ∷ col 1 4 ∷ col 1 5 ∷ col 1 6 ∷ [])

abbrev pub is_outside : Term
is_outside = op2 by.Or (op2 (by.Compare Lt Binary) (col 1 0) (lit (Int (pos 1)))) (op2 (by.Compare Gt Binary) (col 1 0) (col 0 0))

abbrev pub outside_query : Query
outside_query = picks 0 (is_outside ∷ []) (col 1 0 ∷ [])

abbrev pub clear_query : Query
clear_query = picks 0 [] (col 1 0 ∷ [])

abbrev pub number_query : Query
number_query = picks 1 (is_equal_to (col 1 1) (col 0 0) ∷ []) (col 1 0 ∷ col 1 2 ∷ [])

abbrev pub set_version_query : Query
set_version_query = named_query (codes "version") (col 1 0 ∷ col 1 0 ∷ col 1 1 ∷ lit (Int (pos 2)) ∷ []) 1

abbrev pub slot_select : Command
slot_select = select slot_query (codes "round" ∷ codes "node" ∷ codes "vround" ∷ codes "vnode" ∷ codes "value" ∷ [])

abbrev pub outside_select : Command
outside_select = select outside_query (codes "slot" ∷ [])

abbrev pub number_select : Command
number_select = select number_query (codes "rowid" ∷ codes "n" ∷ [])

abbrev pub clear_delete : Command
clear_delete = Delete 0 (record { lets = []; body = clear_query })

abbrev pub version_update : Command
version_update = Update 1 (record { lets = []; body = set_version_query })

-- the text is a plain query, over the tables of both versions, with this meaning
abbrev pub MeansQuery : List ℕ → Command → Type 0
MeansQuery text command = (command_of (understood (schema_of Moved) text) ≡ command) × IsPlain (understood (schema_of Moved) text) × (reads_listing (schema_of Moved) text ≡ false)

abbrev pub MeansWrite : List ℕ → Command → Type 0
MeansWrite text command = (command_of (understood (schema_of Moved) text) ≡ command) × IsPlain (understood (schema_of Moved) text)

pub slot_means : MeansQuery slot_text slot_select
unfolding understood everything
slot_means = (refl, (refl, refl), refl)

pub last_slot_plain : IsPlain (understood (schema_of Moved) last_slot_text)
unfolding understood everything
last_slot_plain = (refl, refl)

pub outside_means : MeansQuery outside_text outside_select
unfolding understood everything
outside_means = (refl, (refl, refl), refl)

pub number_means : MeansQuery number_text number_select
unfolding understood everything
number_means = (refl, (refl, refl), refl)

pub clear_means : MeansWrite clear_text clear_delete
unfolding understood everything
clear_means = (refl, (refl, refl))

pub set_version_means : MeansWrite set_version_text version_update
unfolding understood everything
set_version_means = (refl, (refl, refl))
