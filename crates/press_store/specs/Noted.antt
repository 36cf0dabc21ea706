-- What a file notes beside its saves (own): the id and the name of each note, and how long one may be.
use Rattle.std.specs.Prelude.{ℕ, Bool, List, codes, Option, option_map, ◌&&◌, nat_le, Vec}
use Rattle.std.specs.declared.alloc.Global.{Global}
use Rattle.press_store.specs.declared.note.Note.{Note}
use Rattle.press_store.specs.declared.note.Note.TheVariants.{Kit, Parts, Peers, Alone}

abbrev pub id_of : Note → ℕ
id_of Kit = 1
id_of Parts = 2
id_of Peers = 3
id_of Alone = 4

abbrev pub name_of : Note → List ℕ
name_of Kit = codes "kit"
name_of Parts = codes "parts"
name_of Peers = codes "peers"
name_of Alone = codes "alone"

abbrev pub is_note : ℕ → Bool
is_note n = nat_le 1 n && nat_le n 4

-- as many bytes as a value of a database has at most (SQLite, Limits In SQLite, 1)
abbrev pub most_note : ℕ
most_note = 1000000000

-- the bytes that were found
abbrev pub bytes_of : Option (Vec ℕ Global) → Option (List ℕ)
bytes_of found = option_map (λ bytes. bytes.items) found
