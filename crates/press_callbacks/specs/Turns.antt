-- The turn of a script on a call: that of the op at place `turn`, and past the last op Return of the value (own).
-- A text of parts is their concatenation; a missing argument or attribute is the empty text, and an escaped part is escaped for HTML (Plugin Handbook, Escaping Data).
use Rattle.std.specs.Prelude.{ℕ, List, [], ◌∷◌, Option, Some, None, slice_get, map, length, ◌≡◌, ◌<◌, Result, Ok, bytes_eq, cond, Bool, leb}
use Rattle.std.specs.List.{flat_map, list_all}
use Rattle.std.specs.declared.alloc.AllocError.{AllocError}
use Rattle.press_text.specs.Escapes.{escaped_text}
use Rattle.press_scan.specs.Attributes.{value_of}
use Rattle.press_callbacks.specs.declared.script.Source.{Source}
use Rattle.press_callbacks.specs.declared.script.Source.TheVariants.{Arg, Att, Content, Tag, Value, Last}
use Rattle.press_callbacks.specs.declared.script.Part.{Part}
use Rattle.press_callbacks.specs.declared.script.Part.TheVariants.{Lit, Raw, Escaped}
use Rattle.press_callbacks.specs.declared.script.Op.{Op}
use Rattle.press_callbacks.specs.declared.script.Op.TheVariants as op
use Rattle.press_callbacks.specs.declared.script.Turn.{Turn}
use Rattle.press_callbacks.specs.declared.script.Turn.TheVariants as turn
use Rattle.press_callbacks.specs.declared.script.CallIn.{CallIn}

abbrev pub text_or_empty : Option (List ℕ) → List ℕ
text_or_empty None = []
text_or_empty (Some t) = t

abbrev pub source_text : CallIn → Source → List ℕ
source_text call (Arg n) = text_or_empty (slice_get call.args n)
source_text call (Att k) = text_or_empty (value_of k call.atts)
source_text call Content = call.content
source_text call Tag = call.tag
source_text call Value = call.value
source_text call Last = call.last

abbrev pub part_text : CallIn → Part → List ℕ
part_text call (Lit t) = t
part_text call (Raw source) = source_text call source
part_text call (Escaped source) = escaped_text (source_text call source)

abbrev pub text_of : CallIn → List Part → List ℕ
text_of call parts = flat_map (part_text call) parts

-- how many ops are passed over: n where the two texts are equal
abbrev pub skip_count : List ℕ → List ℕ → ℕ → ℕ
skip_count left right n = cond (bytes_eq left right) n 0

abbrev pub turn_of_op : CallIn → Op → Turn
turn_of_op call (op.Set ps) = turn.Go (text_of call ps)
turn_of_op call (op.AddHook h c p a) = turn.AddHook h c p a
turn_of_op call (op.RemoveHook h c p) = turn.RemoveHook h c p
turn_of_op call (op.RemoveAll h p) = turn.RemoveAll h p
turn_of_op call (op.AddTag t c) = turn.AddTag t c
turn_of_op call (op.RemoveTag t) = turn.RemoveTag t
turn_of_op call (op.SkipIf l r n) = turn.Skip (skip_count (text_of call l) (text_of call r) n)
turn_of_op call (op.Apply h v more) = turn.Apply h (text_of call v ∷ map (text_of call) more)
turn_of_op call (op.Do h args) = turn.Do h (map (text_of call) args)
turn_of_op call (op.Shortcodes ps) = turn.Shortcodes (text_of call ps)
turn_of_op call (op.Ask a) = turn.Ask a
turn_of_op call (op.SetOption n v) = turn.SetOption n (text_of call v)
turn_of_op call (op.Schedule after every h arg) = turn.Schedule after every h (text_of call arg)
turn_of_op call (op.Publish ps) = turn.Publish (text_of call ps)
turn_of_op call (op.Echo ps) = turn.Echo (text_of call ps)
turn_of_op call (op.Return ps) = turn.Return (text_of call ps)

abbrev pub turn_at : CallIn → Option Op → Turn
turn_at call None = turn.Return call.value
turn_at call (Some o) = turn_of_op call o

abbrev pub turn_of : List Op → CallIn → Turn
turn_of script call = turn_at call (slice_get script call.turn)

-- which turns may take memory: Go, shortcodes, publish and echo where their text isn't empty, Skip never, and all others
abbrev pub TakesMemory : Turn → Type 0
TakesMemory (turn.Go text) = 0 < length text
TakesMemory (turn.Shortcodes text) = 0 < length text
TakesMemory (turn.Publish text) = 0 < length text
TakesMemory (turn.Echo text) = 0 < length text
TakesMemory (turn.Skip n) = ⊥
TakesMemory other = Unit {0}

-- each turn that such calls may give is the script's
abbrev pub PlaysScript : (CallIn → Result Turn AllocError → Type 0) → List Op → Type 0
PlaysScript may script = (call : CallIn) (turn : Turn) → may call (Ok turn) → turn ≡ turn_of script call

-- the texts that a turn passes on; a tag is a name
abbrev pub texts_of : Turn → List (List ℕ)
texts_of (turn.Go t) = t ∷ []
texts_of (turn.AddHook h c p n) = []
texts_of (turn.RemoveHook h c p) = []
texts_of (turn.RemoveAll h p) = []
texts_of (turn.AddTag t c) = []
texts_of (turn.RemoveTag t) = []
texts_of (turn.Skip n) = []
texts_of (turn.Apply h ts) = ts
texts_of (turn.Do h ts) = ts
texts_of (turn.Shortcodes t) = t ∷ []
texts_of (turn.Ask a) = []
texts_of (turn.SetOption n t) = t ∷ []
texts_of (turn.Schedule after every h t) = t ∷ []
texts_of (turn.Publish t) = t ∷ []
texts_of (turn.Echo t) = t ∷ []
texts_of (turn.Return t) = t ∷ []

-- each of them has at most so many bytes
abbrev pub are_within : ℕ → Turn → Bool
are_within most turn = list_all (λ t. leb (length t) most) (texts_of turn)
