-- Whether two values are the same: of one kind, and alike in each part (own).
use Rattle.std.specs.Prelude.{ℕ, ◌==◌, ◌&&◌, List, [], Bool, false, bytes_eq}
use Rattle.press_posts.specs.Transitions.{status_word}
use Rattle.press_apply.specs.Kinds.{command_number, kind_of_command}
use Rattle.press_apply.specs.declared.command.Command.{Command}
use Rattle.press_apply.specs.declared.command.Command.TheVariants.{Insert, Update, Trash, Untrash, Delete, SetOption, Activate, Deactivate, Tick, Profile}
use Rattle.press_apply.specs.declared.command.Stamped.{Stamped}
use Rattle.press_apply.specs.declared.value.Value.{Value}
use Rattle.press_apply.specs.declared.value.Value.TheVariants.{Noop, Cmd}

-- what a command is made of: a part that it lacks is 0 or empty
pub record Parts : Type 0 where
  pub kind : ℕ
  pub id_or_profile : ℕ
  pub date : ℕ
  pub status : List ℕ
  pub first : List ℕ
  pub second : List ℕ

abbrev pub id_or_profile_in : Command → ℕ
id_or_profile_in (Insert draft) = 0
id_or_profile_in (Update id draft) = id
id_or_profile_in (Trash id) = id
id_or_profile_in (Untrash id) = id
id_or_profile_in (Delete id) = id
id_or_profile_in (SetOption name value) = 0
id_or_profile_in (Activate plugin) = 0
id_or_profile_in (Deactivate plugin) = 0
id_or_profile_in Tick = 0
id_or_profile_in (Profile to) = to

abbrev pub date_in : Command → ℕ
date_in (Insert draft) = draft.date
date_in (Update id draft) = draft.date
date_in (Trash id) = 0
date_in (Untrash id) = 0
date_in (Delete id) = 0
date_in (SetOption name value) = 0
date_in (Activate plugin) = 0
date_in (Deactivate plugin) = 0
date_in Tick = 0
date_in (Profile to) = 0

abbrev pub status_in : Command → List ℕ
status_in (Insert draft) = status_word draft.status
status_in (Update id draft) = status_word draft.status
status_in (Trash id) = []
status_in (Untrash id) = []
status_in (Delete id) = []
status_in (SetOption name value) = []
status_in (Activate plugin) = []
status_in (Deactivate plugin) = []
status_in Tick = []
status_in (Profile to) = []

abbrev pub first_in : Command → List ℕ
first_in (Insert draft) = draft.title
first_in (Update id draft) = draft.title
first_in (Trash id) = []
first_in (Untrash id) = []
first_in (Delete id) = []
first_in (SetOption name value) = name
first_in (Activate plugin) = plugin
first_in (Deactivate plugin) = plugin
first_in Tick = []
first_in (Profile to) = []

abbrev pub second_in : Command → List ℕ
second_in (Insert draft) = draft.content
second_in (Update id draft) = draft.content
second_in (Trash id) = []
second_in (Untrash id) = []
second_in (Delete id) = []
second_in (SetOption name value) = value
second_in (Activate plugin) = []
second_in (Deactivate plugin) = []
second_in Tick = []
second_in (Profile to) = []

abbrev pub parts_of : Command → Parts
parts_of c = record { kind = command_number (kind_of_command c); id_or_profile = id_or_profile_in c; date = date_in c; status = status_in c; first = first_in c; second = second_in c }

abbrev pub are_same : Parts → Parts → Bool
are_same p q = (p.kind == q.kind) && ((p.id_or_profile == q.id_or_profile) && ((p.date == q.date) && (bytes_eq p.status q.status && (bytes_eq p.first q.first && bytes_eq p.second q.second))))

abbrev pub is_same_command : Command → Command → Bool
is_same_command c d = are_same (parts_of c) (parts_of d)

abbrev pub is_same_stamped : Stamped → Stamped → Bool
is_same_stamped c d = bytes_eq c.token.editor d.token.editor && ((c.token.seq == d.token.seq) && ((c.at == d.at) && is_same_command c.command d.command))

abbrev pub is_same_value : Value → Value → Bool
is_same_value (Noop at) (Noop when) = at == when
is_same_value (Noop at) (Cmd d) = false
is_same_value (Cmd c) (Noop when) = false
is_same_value (Cmd c) (Cmd d) = is_same_stamped c d
