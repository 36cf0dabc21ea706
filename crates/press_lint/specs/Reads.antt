-- What a step reads that is never there: an argument that its callback is never given, and an
-- attribute by a name with capitals, since the names of attributes are in lower case (Shortcode
-- API: `shortcode_parse_atts`).
use Rattle.std.specs.Prelude.{ℕ, List, [], ◌∷◌, ◌++◌, Bool, false, if◌then◌else◌, nat_le, Option, Some, None, codes, decimal}
use Rattle.std.specs.List.{list_any}
use Rattle.std.specs.Char.{is_ascii_uppercase}
use Rattle.press_callbacks.specs.declared.script.Op.{Op}
use Rattle.press_callbacks.specs.declared.script.Op.TheVariants as op
use Rattle.press_callbacks.specs.declared.script.Part.{Part}
use Rattle.press_callbacks.specs.declared.script.Part.TheVariants.{Lit, Raw, Escaped}
use Rattle.press_callbacks.specs.declared.script.Source.{Source}
use Rattle.press_callbacks.specs.declared.script.Source.TheVariants.{Arg, Att, Content, Tag, Value, Last}
use Rattle.press_scan.specs.declared.att_key.AttKey.{AttKey}
use Rattle.press_scan.specs.declared.att_key.AttKey.TheVariants.{Name, Place}
use Rattle.press_lint.specs.Bad.{quoted_if_name}

-- ---- of a callback that gets at most so many arguments, where it is put anywhere

abbrev pub is_past : Option ℕ → ℕ → Bool
is_past None n = false
is_past (Some most) n = nat_le most n

abbrev pub has_capitals : AttKey → Bool
has_capitals (Name name) = list_any is_ascii_uppercase name
has_capitals (Place n) = false

abbrev pub is_never_there : Option ℕ → Source → Bool
is_never_there most (Arg n) = is_past most n
is_never_there most (Att key) = has_capitals key
is_never_there most Content = false
is_never_there most Tag = false
is_never_there most Value = false
is_never_there most Last = false

abbrev pub if_never : Option ℕ → Source → Option Source
if_never most source = if is_never_there most source then Some source else None

abbrev pub unread_part : Option ℕ → Part → Option Source
unread_part most (Lit text) = None
unread_part most (Raw source) = if_never most source
unread_part most (Escaped source) = if_never most source

abbrev pub or_other : Option Source → Option Source → Option Source
or_other (Some source) other = Some source
or_other None other = other

-- the first of a text
abbrev pub unread_text : Option ℕ → List Part → Option Source
unread_text most [] = None
unread_text most (part ∷ parts) = or_other (unread_part most part) (unread_text most parts)

abbrev pub unread_texts : Option ℕ → List (List Part) → Option Source
unread_texts most [] = None
unread_texts most (text ∷ texts) = or_other (unread_text most text) (unread_texts most texts)

-- the first of a step
abbrev pub unread_source : Option ℕ → Op → Option Source
unread_source most (op.Set text) = unread_text most text
unread_source most (op.SkipIf left right n) = or_other (unread_text most left) (unread_text most right)
unread_source most (op.Apply hook value more) = or_other (unread_text most value) (unread_texts most more)
unread_source most (op.Do hook args) = unread_texts most args
unread_source most (op.Shortcodes text) = unread_text most text
unread_source most (op.SetOption name value) = unread_text most value
unread_source most (op.Schedule after every hook arg) = unread_text most arg
unread_source most (op.Publish post) = unread_text most post
unread_source most (op.Echo text) = unread_text most text
unread_source most (op.Return text) = unread_text most text
unread_source most (op.AddHook h c p a) = None
unread_source most (op.RemoveHook h c p) = None
unread_source most (op.RemoveAll h p) = None
unread_source most (op.AddTag tag c) = None
unread_source most (op.RemoveTag tag) = None
unread_source most (op.Ask ask) = None

-- ---- the message

abbrev pub tell_key : AttKey → List ℕ
tell_key (Name name) = codes "reads no attribute by a name with capitals" ++ quoted_if_name name
tell_key (Place n) = []

abbrev pub tell_argument : ℕ → List ℕ
tell_argument n = codes "reads argument " ++ (decimal n ++ codes ", counted from 0, and no load of its callback accepts as many")

abbrev pub tell_unread : Source → List ℕ
tell_unread (Arg n) = tell_argument n
tell_unread (Att key) = tell_key key
tell_unread Content = []
tell_unread Tag = []
tell_unread Value = []
tell_unread Last = []
