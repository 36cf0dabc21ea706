-- What the tables of any version stand for. One that is not there has no rows.
use Rattle.std.specs.Prelude.{List, Option, None, Some}
use Rattle.sqlite.specs.Order.{Row}
use Rattle.sqlite.specs.Tree.{Trees}
use Rattle.press_wire.specs.declared.vote.Vote.{Vote}
use Rattle.press_acceptor.specs.InMemory.{map_of}
use Rattle.press_acceptor.specs.StoreMap.{StoreMap}
use Rattle.press_store.specs.Shown.{promise_at, vote_at, round_at, old_rows, block_rows, vote_rows, meta_rows}
use Rattle.press_store.specs.Slots.{row_at, greater, greatest_at}

abbrev pub or_else : Option Vote → Option Vote → Option Vote
or_else None v = v
or_else (Some v) w = Some v

-- A block's promise is the greater one of its row and of the rows of version 1 for its slots. A slot's vote is its row, or else that of version 1.
unfoldable pub store_with : (slots blocks votes meta : List Row) → StoreMap
store_with slots blocks votes meta = record {
  promises = map_of (λ first. greater (promise_at blocks votes first) (greatest_at slots first));
  votes = map_of (λ slot. or_else (vote_at votes slot) (row_at slots slot).vote);
  last_round = round_at meta;
}

unfoldable pub store_in : Trees → StoreMap
store_in db = store_with (old_rows db) (block_rows db) (vote_rows db) (meta_rows db)
