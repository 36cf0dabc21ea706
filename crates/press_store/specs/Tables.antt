-- The tables, and the texts of the statements on them.
use Rattle.std.specs.Prelude.{◌≡◌, ◌+◌, Bool, true, false, [], ◌∷◌, Some, None, codes, List, ℕ}
use Rattle.sqlite.specs.Collation.TheVariants.{Binary}
use Rattle.sqlite.specs.declared.types.Value.TheVariants.{Null}
use Rattle.sqlite.specs.Table.{Table}
use Rattle.sqlite_schema.specs.declared.schema.Column.{Column}
use Rattle.sqlite_schema.specs.declared.schema.Index.{Index}
use Rattle.sqlite.specs.Schema.{Schema}
use Rattle.sqlite_schema.specs.declared.schema.Kind.{Kind}
use Rattle.sqlite_schema.specs.declared.schema.Kind.TheVariants.{Integer, Text, Blob}
use Rattle.sqlite_value.specs.Keys.{plain}

-- ---- texts

abbrev pub make_block : List ℕ
make_block = codes "CREATE TABLE block (first INTEGER PRIMARY KEY, round INTEGER NOT NULL, node INTEGER NOT NULL) STRICT"

abbrev pub make_vote : List ℕ
make_vote = codes "CREATE TABLE vote (slot INTEGER PRIMARY KEY, round INTEGER NOT NULL, node INTEGER NOT NULL, value BLOB NOT NULL) STRICT"

abbrev pub make_meta : List ℕ
make_meta = codes "CREATE TABLE meta (name TEXT PRIMARY KEY, n INTEGER NOT NULL) STRICT"

abbrev pub make_start : List ℕ
make_start = codes "CREATE TABLE start (name INTEGER PRIMARY KEY, saves INTEGER NOT NULL) STRICT"

abbrev pub make_mark : List ℕ
make_mark = codes "CREATE TABLE mark (member INTEGER PRIMARY KEY, start INTEGER NOT NULL, saves INTEGER NOT NULL) STRICT"

abbrev pub make_note : List ℕ
make_note = codes "CREATE TABLE note (id INTEGER PRIMARY KEY, name TEXT NOT NULL, value BLOB NOT NULL) STRICT"

abbrev pub promise_text : List ℕ
promise_text = codes "SELECT round, node FROM block WHERE first = ?1"

abbrev pub save_promise_text : List ℕ
save_promise_text = codes "INSERT OR REPLACE INTO block (first, round, node) VALUES (?1, ?2, ?3)"

abbrev pub votes_text : List ℕ
votes_text = codes "SELECT slot, round, node, value FROM vote WHERE slot >= ?1 AND slot <= ?2 ORDER BY slot"

abbrev pub save_vote_text : List ℕ
save_vote_text = codes "INSERT OR REPLACE INTO vote (slot, round, node, value) VALUES (?1, ?2, ?3, ?4)"

abbrev pub last_vote_text : List ℕ
last_vote_text = codes "SELECT slot FROM vote ORDER BY slot DESC LIMIT 1"

abbrev pub round_text : List ℕ
round_text = codes "SELECT n FROM meta WHERE name = 'last_round'"

abbrev pub save_round_text : List ℕ
save_round_text = codes "UPDATE meta SET n = ?1 WHERE name = 'last_round'"

abbrev pub check_text : List ℕ
check_text = codes "SELECT rowid, n FROM meta WHERE name = 'last_round'"

abbrev pub version_query_text : List ℕ
version_query_text = codes "SELECT n FROM meta WHERE name = 'version'"

abbrev pub left_text : List ℕ
left_text = codes "SELECT slot FROM promise LIMIT 1"

abbrev pub slot_text : List ℕ
slot_text = codes "SELECT round, node, vround, vnode, value FROM promise WHERE slot = ?1"

abbrev pub last_slot_text : List ℕ
last_slot_text = codes "SELECT slot FROM promise ORDER BY slot DESC LIMIT 1"

abbrev pub outside_text : List ℕ
outside_text = codes "SELECT slot FROM promise WHERE slot < 1 OR slot > ?1"

abbrev pub clear_text : List ℕ
clear_text = codes "DELETE FROM promise"

abbrev pub number_text : List ℕ
number_text = codes "SELECT rowid, n FROM meta WHERE name = ?1"

abbrev pub set_version_text : List ℕ
set_version_text = codes "UPDATE meta SET n = 2 WHERE name = 'version'"

abbrev pub entry_text : List ℕ
entry_text = codes "SELECT n FROM meta WHERE name = ?1"

abbrev pub owner_text : List ℕ
owner_text = codes "INSERT INTO meta (name, n) VALUES ('member', ?1), ('members', ?2), ('peers', ?3)"

abbrev pub save_start_text : List ℕ
save_start_text = codes "INSERT OR REPLACE INTO start (name, saves) VALUES (?1, ?2)"

abbrev pub save_mark_text : List ℕ
save_mark_text = codes "INSERT OR REPLACE INTO mark (member, start, saves) VALUES (?1, ?2, ?3)"

abbrev pub saves_text : List ℕ
saves_text = codes "SELECT saves FROM start WHERE name = ?1"

abbrev pub mark_text : List ℕ
mark_text = codes "SELECT start, saves FROM mark WHERE member = ?1"

abbrev pub starts_text : List ℕ
starts_text = codes "SELECT name FROM start"

abbrev pub save_note_text : List ℕ
save_note_text = codes "INSERT OR REPLACE INTO note (id, name, value) VALUES (?1, ?2, ?3)"

abbrev pub note_text : List ℕ
note_text = codes "SELECT value FROM note WHERE id = ?1"

-- ---- tables

abbrev pub column_of : List ℕ → Kind → Bool → Column
column_of name kind not_null = record { name = name; kind = kind; is_strict = true; not_null = not_null; default = Null; collation = Binary }

-- a table whose first column is its rowid
abbrev pub keyed_table : List ℕ → ℕ → List Column → Table
keyed_table name tree columns = record {
  name = name;
  tree = tree;
  columns = columns;
  key = Some 0;
  primary = 0 ∷ [];
  uniques = [];
  orders = [];
  checks = [];
  references = [];
  computed = [];
  stamps = record { places = []; terms = []; formats = [] };
  is_counted = false;
}

-- version 1: a row for a slot
abbrev pub promise_columns : List Column
promise_columns = column_of (codes "slot") Integer false ∷ column_of (codes "round") Integer false ∷ column_of (codes "node") Integer false ∷ column_of (codes "vround") Integer false ∷ column_of (codes "vnode") Integer false
    ∷ column_of (codes "value") Blob false ∷ []

abbrev pub block_columns : List Column
block_columns = column_of (codes "first") Integer false ∷ column_of (codes "round") Integer true ∷ column_of (codes "node") Integer true ∷ []

abbrev pub vote_columns : List Column
vote_columns = column_of (codes "slot") Integer false ∷ column_of (codes "round") Integer true ∷ column_of (codes "node") Integer true ∷ column_of (codes "value") Blob true ∷ []

abbrev pub promise : Table
promise = keyed_table (codes "promise") 0 promise_columns

abbrev pub block_on : ℕ → Table
block_on tree = keyed_table (codes "block") tree block_columns

abbrev pub vote_on : ℕ → Table
vote_on tree = keyed_table (codes "vote") tree vote_columns

abbrev pub start_columns : List Column
start_columns = column_of (codes "name") Integer false ∷ column_of (codes "saves") Integer true ∷ []

abbrev pub mark_columns : List Column
mark_columns = column_of (codes "member") Integer false ∷ column_of (codes "start") Integer true ∷ column_of (codes "saves") Integer true ∷ []

abbrev pub note_columns : List Column
note_columns = column_of (codes "id") Integer false ∷ column_of (codes "name") Text true ∷ column_of (codes "value") Blob true ∷ []

abbrev pub start_on : ℕ → Table
start_on tree = keyed_table (codes "start") tree start_columns

abbrev pub mark_on : ℕ → Table
mark_on tree = keyed_table (codes "mark") tree mark_columns

abbrev pub note_on : ℕ → Table
note_on tree = keyed_table (codes "note") tree note_columns

abbrev pub meta_on : ℕ → Table
meta_on tree = record {
  name = codes "meta";
  tree = tree;
  columns = column_of (codes "name") Text true ∷ column_of (codes "n") Integer true ∷ [];
  key = None;
  primary = 1 ∷ [];
  uniques = (1 ∷ []) ∷ [];
  orders = plain ∷ [];
  checks = [];
  references = [];
  computed = [];
  stamps = record { places = []; terms = []; formats = [] };
  is_counted = false;
}

abbrev pub meta_key_on : (tree table : ℕ) → Index
meta_key_on tree table = record { name = codes "sqlite_autoindex_meta_1"; tree = tree; table = table; columns = 1 ∷ []; order = plain; is_unique = true }

-- nothing is in the table beside its columns and keys
abbrev pub IsBareTable : Table → Type 0
IsBareTable table = (table.checks ≡ []) × (table.references ≡ []) × (table.computed ≡ []) × (table.stamps ≡ promise.stamps) × (table.is_counted ≡ false)

-- its first column is its key, and it has no other
abbrev pub IsKeyed : Table → Type 0
IsKeyed table = (table.key ≡ Some 0) × (table.primary ≡ 0 ∷ []) × (table.uniques ≡ []) × (table.orders ≡ []) × IsBareTable table

-- ---- the four layouts

-- the tables of a new store, or these behind the empty one of version 1; and either with the tables of starts behind them
pub data Layout : Type 0 where
  Fresh : Layout
  Moved : Layout
  FreshStarts : Layout
  MovedStarts : Layout

-- the table of version 1 is there
abbrev pub HasOld : Layout → Type 0
HasOld Fresh = ⊥
HasOld Moved = Unit {0}
HasOld FreshStarts = ⊥
HasOld MovedStarts = Unit {0}

-- the tables of starts are there
abbrev pub HasStarts : Layout → Type 0
HasStarts Fresh = ⊥
HasStarts Moved = ⊥
HasStarts FreshStarts = Unit {0}
HasStarts MovedStarts = Unit {0}

-- the layout once they are
abbrev pub with_starts : Layout → Layout
with_starts Fresh = FreshStarts
with_starts Moved = MovedStarts
with_starts FreshStarts = FreshStarts
with_starts MovedStarts = MovedStarts

-- the tree of a table, and its place among the tables
abbrev pub block_tree : Layout → ℕ
block_tree Fresh = 0
block_tree Moved = 3
block_tree FreshStarts = 0
block_tree MovedStarts = 3

abbrev pub vote_tree : Layout → ℕ
vote_tree Fresh = 1
vote_tree Moved = 4
vote_tree FreshStarts = 1
vote_tree MovedStarts = 4

abbrev pub meta_tree : Layout → ℕ
meta_tree Fresh = 2
meta_tree Moved = 1
meta_tree FreshStarts = 2
meta_tree MovedStarts = 1

abbrev pub key_tree : Layout → ℕ
key_tree Fresh = 3
key_tree Moved = 2
key_tree FreshStarts = 3
key_tree MovedStarts = 2

abbrev pub start_tree : Layout → ℕ
start_tree Fresh = 4
start_tree Moved = 5
start_tree FreshStarts = 4
start_tree MovedStarts = 5

abbrev pub mark_tree : Layout → ℕ
mark_tree Fresh = 5
mark_tree Moved = 6
mark_tree FreshStarts = 5
mark_tree MovedStarts = 6

abbrev pub note_tree : Layout → ℕ
note_tree Fresh = 6
note_tree Moved = 7
note_tree FreshStarts = 6
note_tree MovedStarts = 7

abbrev pub block_place : Layout → ℕ
block_place Fresh = 0
block_place Moved = 2
block_place FreshStarts = 0
block_place MovedStarts = 2

abbrev pub vote_place : Layout → ℕ
vote_place Fresh = 1
vote_place Moved = 3
vote_place FreshStarts = 1
vote_place MovedStarts = 3

abbrev pub meta_place : Layout → ℕ
meta_place Fresh = 2
meta_place Moved = 1
meta_place FreshStarts = 2
meta_place MovedStarts = 1

abbrev pub start_place : Layout → ℕ
start_place Fresh = 3
start_place Moved = 4
start_place FreshStarts = 3
start_place MovedStarts = 4

abbrev pub mark_place : Layout → ℕ
mark_place Fresh = 4
mark_place Moved = 5
mark_place FreshStarts = 4
mark_place MovedStarts = 5

abbrev pub note_place : Layout → ℕ
note_place Fresh = 5
note_place Moved = 6
note_place FreshStarts = 5
note_place MovedStarts = 6

-- the tables of starts, from this tree on
abbrev pub start_tables : ℕ → List Table
start_tables tree = start_on tree ∷ mark_on (tree + 1) ∷ note_on (tree + 2) ∷ []

abbrev pub tables_of : Layout → List Table
tables_of Fresh = block_on 0 ∷ vote_on 1 ∷ meta_on 2 ∷ []
tables_of Moved = promise ∷ meta_on 1 ∷ block_on 3 ∷ vote_on 4 ∷ []
tables_of FreshStarts = block_on 0 ∷ vote_on 1 ∷ meta_on 2 ∷ start_tables 4
tables_of MovedStarts = promise ∷ meta_on 1 ∷ block_on 3 ∷ vote_on 4 ∷ start_tables 5

abbrev pub schema_of : Layout → Schema
schema_of l = record { tables = tables_of l; indexes = meta_key_on (key_tree l) (meta_tree l) ∷ []; views = [] }

-- the tables of version 1
abbrev pub old_schema : Schema
old_schema = record { tables = promise ∷ meta_on 1 ∷ []; indexes = meta_key_on 2 1 ∷ []; views = [] }

abbrev pub no_schema : Schema
no_schema = record { tables = []; indexes = []; views = [] }
