-- The form that gives a command (URL Standard, 5.2); names of pairs and words of kinds are own.
use Rattle.std.specs.Prelude.{◌≡◌, ℕ, List, [], ◌∷◌, codes, decimal, Result, OnOk}
use Rattle.form_urlencoded.specs.Form.{append_pair}
use Rattle.form_urlencoded.specs.Target.{Target as Form}
use Rattle.press_apply.specs.Kinds.{kind_of_command}
use Rattle.press_apply.specs.declared.command.Command.{Command}
use Rattle.press_apply.specs.declared.command.Command.TheVariants as command
use Rattle.press_apply.specs.declared.command.Stamped.{Stamped}
use Rattle.press_apply.specs.declared.kind.CommandKind.{CommandKind}
use Rattle.press_apply.specs.declared.kind.CommandKind.TheVariants as kind
use Rattle.press_posts.specs.Transitions.{status_word}
use Rattle.press_posts.specs.declared.draft.Draft.{Draft}

abbrev pub kind_word : CommandKind → List ℕ
kind_word kind.Insert = codes "insert"
kind_word kind.Update = codes "update"
kind_word kind.Trash = codes "trash"
kind_word kind.Untrash = codes "untrash"
kind_word kind.Delete = codes "delete"
kind_word kind.SetOption = codes "option"
kind_word kind.Activate = codes "activate"
kind_word kind.Deactivate = codes "deactivate"
kind_word kind.Tick = codes "tick"
kind_word kind.Profile = codes "profile"

abbrev pub draft_pairs : Draft → List (List ℕ × List ℕ)
draft_pairs d =
    (codes "title", d.title) ∷ (codes "content", d.content) ∷ (codes "status", status_word d.status) ∷ (codes "date", decimal d.date) ∷ []

-- names and values, in order
abbrev pub pairs_of : Command → List (List ℕ × List ℕ)
pairs_of (command.Insert draft) = draft_pairs draft
pairs_of (command.Update id draft) = (codes "id", decimal id) ∷ draft_pairs draft
pairs_of (command.Trash id) = (codes "id", decimal id) ∷ []
pairs_of (command.Untrash id) = (codes "id", decimal id) ∷ []
pairs_of (command.Delete id) = (codes "id", decimal id) ∷ []
pairs_of (command.SetOption name value) = (codes "name", name) ∷ (codes "value", value) ∷ []
pairs_of (command.Activate plugin) = (codes "plugin", plugin) ∷ []
pairs_of (command.Deactivate plugin) = (codes "plugin", plugin) ∷ []
pairs_of command.Tick = []
pairs_of (command.Profile to) = (codes "profile", decimal to) ∷ []

abbrev pub all_pairs : Stamped → List (List ℕ × List ℕ)
all_pairs s =
    (codes "editor", s.token.editor) ∷ (codes "seq", decimal s.token.seq) ∷ (codes "at", decimal s.at)
    ∷ (codes "kind", kind_word (kind_of_command s.command)) ∷ pairs_of s.command

-- a form with one more pair, as the serializer appends it
unfoldable pub with_pair : List ℕ → List ℕ × List ℕ → List ℕ
with_pair form pair = append_pair form pair.0 pair.1

abbrev pub with_pairs : List ℕ → List (List ℕ × List ℕ) → List ℕ
with_pairs form [] = form
with_pairs form (pair ∷ pairs) = with_pairs (with_pair form pair) pairs

abbrev pub form_of : Stamped → List ℕ
form_of s = with_pairs [] (all_pairs s)

-- a form that is being written gets these pairs
abbrev pub Puts : {T E : Type 0} → Form → Form → List (List ℕ × List ℕ) → Result T E → Type 0
Puts old new pairs result = OnOk result (new ≡ record { prefix = old.prefix; form = with_pairs old.form pairs })
