-- What a text says of the log of a node: an object (RFC 8259) with how many values were applied,
-- and entries (own).
use Rattle.std.specs.Prelude.{ℕ, ◌≡◌, ◌≤◌, List, [], ◌∷◌, ◌++◌, Option, Some, None, IsSome, IsSomeAnd, option_and_then, codes}
use Rattle.serde_json.specs.Data.{Data, depth}
use Rattle.serde_json.specs.Find.{as_array, as_number, as_str, as_u64, get}
use Rattle.serde_json.specs.Read.{max_depth, read}
use Rattle.serde_json.specs.View.{items_of}
use Rattle.press_site.specs.declared.token.Token.{Token}
use Rattle.press_text.specs.Names.{name_fault}
use Rattle.press_client.specs.Exporting.{command_text}
use Rattle.press_client.specs.declared.entry.LogEntry.{LogEntry}
use Rattle.press_client.specs.declared.entry.LogEntry.TheVariants.{Command, Filler}
use Rattle.press_client.specs.declared.log.Piece.{Piece}

abbrev pub number_at : List ℕ → Data → Option ℕ
number_at key d = option_and_then as_u64 (option_and_then as_number (get key d))

abbrev pub IsToken : Token → Data → Type 0
IsToken token d = (option_and_then as_str (get (codes "editor") d) ≡ Some token.editor) × (number_at (codes "seq") d ≡ Some token.seq)

-- an editor's name and a number stand there
abbrev pub HasToken : Data → Type 0
HasToken d =
    IsSomeAnd (option_and_then as_str (get (codes "editor") d)) (λ name. name_fault 32 name ≡ None)
    × IsSome (number_at (codes "seq") d)

-- behind the moment stand fields with which the whole is read as this again; one that nests too
-- deep isn't read
abbrev pub AreFields : ℕ → List ℕ → Data → Type 0
AreFields at fields d = depth d ≤ max_depth → read (command_text at fields) ≡ Some d

-- an entry without a kind is a moment alone
abbrev pub IsEntry : LogEntry → Data → Type 0
IsEntry (Command token at fields) d = (number_at (codes "at") d ≡ Some at) × IsToken token d × AreFields at fields d
IsEntry (Filler at) d = (number_at (codes "at") d ≡ Some at) × (get (codes "kind") d ≡ None)

abbrev pub AreEntries : List LogEntry → List Data → Type 0
AreEntries [] [] = Unit {0}
AreEntries [] (d ∷ ds) = ⊥
AreEntries (e ∷ es) [] = ⊥
AreEntries (e ∷ es) (d ∷ ds) = IsEntry e d × AreEntries es ds

abbrev pub IsPiece : Piece → List ℕ → Type 0
IsPiece piece text =
    (d : Data) × (ds : List Data) × (read text ≡ Some d) × (number_at (codes "applied") d ≡ Some piece.applied)
    × (option_and_then as_array (get (codes "commands") d) ≡ Some (items_of ds)) × AreEntries piece.entries.items ds

-- behind the head of a reply
abbrev pub TellsPiece : Piece → List ℕ → Type 0
TellsPiece piece reply = (head body : List ℕ) × (reply ≡ head ++ (codes "\r\n\r\n" ++ body)) × IsPiece piece body
