-- How long spellings are.
use Rattle.std.proofs.Common.{◌≡◌, ℕ, ◌+◌, ◌≤◌, List, ◌∷◌, ◌++◌, length, refl, append_assoc, arith}
use Rattle.std.proofs.lemmas.List.{length-append}
use Rattle.std.proofs.lemmas.Bool.Decides.{nat_tests}
use Rattle.press_text.specs.Names.{IsName}
use Rattle.press_posts.specs.declared.draft.Draft.{Draft}
use Rattle.press_apply.specs.declared.command.Command.{Command}
use Rattle.press_apply.specs.declared.command.Command.TheVariants.{Insert, Update, Trash, Untrash, Delete, SetOption, Activate, Deactivate, Tick, Profile}
use Rattle.press_apply.specs.declared.command.Stamped.{Stamped}
use Rattle.press_apply.specs.declared.value.Value.{Value}
use Rattle.press_apply.specs.declared.value.Value.TheVariants.{Noop, Cmd}
use Rattle.press_wire.specs.Kinds.{status_number}
use Rattle.press_wire.specs.Held.{HasShortTexts, IsShort}
use Rattle.press_wire.specs.Spelling.{longest, number4, number8, name, text, draft, fields, stamped, spelled_command}

-- pieces put at the end one after another
pub regroup : (a b c : List ℕ) → (a ++ b) ++ c ≡ a ++ (b ++ c)
regroup a b c = append_assoc a b c

pub name_is_short : (bytes : List ℕ) → IsName 32 bytes → length bytes ≤ 32
name_is_short bytes named = grind (arith, nat_tests)

pub length_number4 : (n : ℕ) → length (number4 n) ≡ 4
unfolding number4
length_number4 n = refl

pub length_number8 : (n : ℕ) → length (number8 n) ≡ 8
unfolding number8
length_number8 n = refl

pub length_name : (bytes : List ℕ) → length (name bytes) ≡ 1 + length bytes
unfolding name
length_name bytes = omega arith

pub length_text : (bytes : List ℕ) → length (text bytes) ≡ 4 + length bytes
unfolding text
length_text bytes = omega (arith, length-append (number4 (length bytes)) bytes, length_number4 (length bytes))

length_draft : (d : Draft) → length (draft d) ≡ 17 + length d.title + length d.content
unfolding draft
length_draft d =
    omega (arith, length-append (text d.title) (text d.content ++ (status_number d.status ∷ number8 d.date)), length-append (text d.content) (status_number d.status ∷ number8 d.date), length_text d.title, length_text d.content, length_number8 d.date)

-- the length of the fields, by the lengths of names and texts
abbrev pub fields_len : Command → ℕ
fields_len (Insert d) = 17 + length d.title + length d.content
fields_len (Update id d) = 25 + length d.title + length d.content
fields_len (Trash id) = 8
fields_len (Untrash id) = 8
fields_len (Delete id) = 8
fields_len (SetOption option value) = 5 + length option + length value
fields_len (Activate plugin) = 1 + length plugin
fields_len (Deactivate plugin) = 1 + length plugin
fields_len Tick = 0
fields_len (Profile to) = 1

pub length_fields : (c : Command) → length (fields c) ≡ fields_len c
unfolding fields
length_fields (Insert d) = length_draft d
length_fields (Update id d) = omega (arith, length-append (number8 id) (draft d), length_number8 id, length_draft d)
length_fields (Trash id) = length_number8 id
length_fields (Untrash id) = length_number8 id
length_fields (Delete id) = length_number8 id
length_fields (SetOption option value) = omega (arith, length-append (name option) (text value), length_name option, length_text value)
length_fields (Activate plugin) = length_name plugin
length_fields (Deactivate plugin) = length_name plugin
length_fields Tick = refl
length_fields (Profile to) = refl

length_stamped : (s : Stamped) → length (stamped s) ≡ 17 + length s.token.editor + length (fields s.command)
unfolding stamped
length_stamped s =
    omega (
      arith,
      length-append (name s.token.editor) (number8 s.token.seq ++ (number8 s.at ++ fields s.command)),
      length-append (number8 s.token.seq) (number8 s.at ++ fields s.command),
      length-append (number8 s.at) (fields s.command),
      length_name s.token.editor,
      length_number8 s.token.seq,
      length_number8 s.at,
    )

-- the length of a value, by that of its fields
abbrev pub value_len : Value → ℕ
value_len (Noop at) = 9
value_len (Cmd s) = 18 + length s.token.editor + length (fields s.command)

pub length_spelled : (v : Value) → length (spelled_command v) ≡ value_len v
unfolding spelled_command
length_spelled (Noop at) = omega (arith, length_number8 at)
length_spelled (Cmd s) = omega (arith, length_stamped s)

short_texts : (c : Command) → length (fields c) ≤ longest → HasShortTexts c
short_texts (Insert d) short = let e = length_fields (Insert d) in (omega arith, omega arith)
short_texts (Update id d) short = let e = length_fields (Update id d) in (omega arith, omega arith)
short_texts (Trash id) short = tt
short_texts (Untrash id) short = tt
short_texts (Delete id) short = tt
short_texts (SetOption option value) short = let e = length_fields (SetOption option value) in omega arith
short_texts (Activate plugin) short = tt
short_texts (Deactivate plugin) short = tt
short_texts Tick short = tt
short_texts (Profile to) short = tt

-- a value that isn't too long has short texts
pub is_short : (v : Value) → length (spelled_command v) ≤ longest → IsShort v
is_short (Noop at) short = tt
is_short (Cmd s) short = let e = length_spelled (Cmd s) in short_texts s.command (omega arith)
