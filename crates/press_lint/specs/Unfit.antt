-- What is said of a value that does not fit: its key, or a place in a list there, what was found
-- and what is wanted there (own). What fits is what a kit file's reader takes.
use Rattle.std.specs.Prelude.{ℕ, ◌+◌, ◌^◌, List, [], ◌∷◌, ◌++◌, Bool, true, false, bytes_eq, if◌then◌else◌, Option, Some, None, is_some, option_and_then, Result, Ok, Err, codes, decimal}
use Rattle.serde_json.specs.Data.{Data}
use Rattle.serde_json.specs.Find.{as_array, as_bool, as_number, as_object, as_str, get}
use Rattle.press_kit.specs.Fields.{below, few_in, is_one_of, list_in, name_in, number_in, signed_in}
use Rattle.press_kit.specs.KitFile.{every_in, part_of}
use Rattle.press_kit.specs.PlayFile.{times_in}
use Rattle.press_kit.specs.declared.place.Place.{Place}
use Rattle.press_kit.specs.declared.place.Place.TheVariants as place
use Rattle.press_lint.specs.declared.wanted.Wanted.{Wanted}
use Rattle.press_lint.specs.declared.wanted.Wanted.TheVariants.{HookName, Name, Text, List as AList, Priority, Accepted, Skip, Seconds, Every, Parts, More, Args, Words, Times, Truth}

-- ---- what is wanted at a key

abbrev pub is_parts_key : List ℕ → Bool
is_parts_key key = is_one_of (codes "text" ∷ codes "value" ∷ codes "left" ∷ codes "right" ∷ codes "arg" ∷ codes "post" ∷ []) key

-- at a key of a play, or else at one of a text
abbrev pub play_wanted : List ℕ → Wanted
play_wanted key =
    if bytes_eq key (codes "times") then Times else
    (if bytes_eq key (codes "trace") then Truth else Text)

-- at the key of a number, or else of a word or a text
abbrev pub number_wanted : List ℕ → Wanted
number_wanted key =
    if bytes_eq key (codes "priority") then Priority else
    (if bytes_eq key (codes "accepted") then Accepted else
    (if bytes_eq key (codes "skip") then Skip else
    (if bytes_eq key (codes "after") then Seconds else
    (if bytes_eq key (codes "every") then Every else play_wanted key))))

abbrev pub list_wanted : List ℕ → Wanted
list_wanted key =
    if is_parts_key key then Parts else
    (if bytes_eq key (codes "more") then More else
    (if is_one_of (codes "script" ∷ codes "load" ∷ []) key then AList else number_wanted key))

-- a step may name any tag
abbrev pub is_step : Place → Bool
is_step (place.Op c o) = true
is_step place.File = false
is_step place.Callbacks = false
is_step (place.Callback n) = false
is_step place.Plugins = false
is_step (place.Plugin n) = false
is_step (place.Load p l) = false
is_step place.Active = false
is_step (place.ActiveName n) = false
is_step place.Commands = false
is_step (place.Command n) = false
is_step place.Pages = false
is_step (place.Page n) = false
is_step place.Plays = false
is_step (place.Play n) = false
is_step place.Steps = false
is_step (place.Step n) = false

abbrev pub tag_wanted : Place → Wanted
tag_wanted at = if is_step at then Text else Name

-- a step hands texts on that are lists of parts, a play plain ones
abbrev pub args_wanted : Place → Wanted
args_wanted at = if is_step at then Args else Words

abbrev pub wanted_at : Place → List ℕ → Wanted
wanted_at at key =
    if is_one_of (codes "hook" ∷ codes "apply" ∷ codes "do" ∷ []) key then HookName else
    (if is_one_of (codes "name" ∷ codes "callback" ∷ []) key then Name else
    (if bytes_eq key (codes "tag") then tag_wanted at else
    (if bytes_eq key (codes "args") then args_wanted at else list_wanted key)))

abbrev pub tell_wanted : Wanted → List ℕ
tell_wanted HookName = codes "a name of 1 to 64 letters, digits, _ and -"
tell_wanted Name = codes "a name of 1 to 32 letters, digits, _ and -"
tell_wanted Text = codes "a text"
tell_wanted AList = codes "a list"
tell_wanted Priority = codes "an integer from -2^63 to 2^63 - 1"
tell_wanted Accepted = codes "an integer from 0 to 4294967295"
tell_wanted Skip = codes "an integer from 0 to 65535"
tell_wanted Seconds = codes "an integer from 0 to 2^64 - 1"
tell_wanted Every = codes "once, hourly, twicedaily or daily"
tell_wanted Parts = codes "a list of parts"
tell_wanted More = codes "a list of at most 2 texts"
tell_wanted Args = codes "a list of at most 3 texts"
tell_wanted Words = codes "a list of texts"
tell_wanted Times = codes "an integer from 1 to 4294967295"
tell_wanted Truth = codes "true or false"

-- ---- what was found

abbrev pub tell_sort : Data → List ℕ
tell_sort d =
    if is_some (as_str d) then codes "a text" else
    (if is_some (as_number d) then codes "a number" else
    (if is_some (as_array d) then codes "a list" else
    (if is_some (as_object d) then codes "an object" else
    (if is_some (as_bool d) then codes "true or false" else codes "null"))))

-- a text only where it could be a name, a number where it is a whole one
abbrev pub tell_subject : Option (List ℕ) → Option ℕ → List ℕ
tell_subject (Some word) n = codes "\"" ++ (word ++ codes "\" is ")
tell_subject None (Some n) = decimal n ++ codes " is "
tell_subject None None = codes "it is "

abbrev pub tell_found : Data → List ℕ
tell_found d = tell_subject (option_and_then (name_in 32) (as_str d)) (number_in d) ++ tell_sort d

abbrev pub tell_value : List ℕ → Data → List ℕ → List ℕ
tell_value path d wanted = path ++ (codes ": " ++ (tell_found d ++ (codes ", " ++ (wanted ++ codes " is wanted"))))

-- ---- the first that does not fit

abbrev pub is_read : {A : Type 0} → Result A Place → Bool
is_read (Ok x) = true
is_read (Err at) = false

abbrev pub item_path : List ℕ → ℕ → List ℕ
item_path path n = path ++ (codes "[" ++ (decimal n ++ codes "]"))

-- in a list of parts, whose first has this number
abbrev pub unfit_parts : List ℕ → ℕ → List Data → Option (List ℕ)
unfit_parts path n [] = None
unfit_parts path n (d ∷ ds) =
    if is_read (part_of place.File d) then unfit_parts path (n + 1) ds
    else Some (tell_value (item_path path n) d (codes "a part"))

abbrev pub unfit_list : List ℕ → Data → Option (List Data) → Option (List ℕ)
unfit_list path d None = Some (tell_value path d (tell_wanted Parts))
unfit_list path d (Some ds) = unfit_parts path 0 ds

abbrev pub unfit_text : List ℕ → Data → Option (List ℕ)
unfit_text path d = unfit_list path d (list_in d)

abbrev pub or_else : Option (List ℕ) → Option (List ℕ) → Option (List ℕ)
or_else (Some told) other = Some told
or_else None other = other

abbrev pub unfit_items : List ℕ → ℕ → List Data → Option (List ℕ)
unfit_items path n [] = None
unfit_items path n (d ∷ ds) = or_else (unfit_text (item_path path n) d) (unfit_items path (n + 1) ds)

-- in a list of texts that is not too long
abbrev pub unfit_few : Wanted → List ℕ → Data → Option (List Data) → Option (List ℕ)
unfit_few wanted path d None = Some (tell_value path d (tell_wanted wanted))
unfit_few wanted path d (Some ds) = unfit_items path 0 ds

-- in a list of plain texts, whose first has this number
abbrev pub unfit_strings : List ℕ → ℕ → List Data → Option (List ℕ)
unfit_strings path n [] = None
unfit_strings path n (d ∷ ds) =
    if is_some (as_str d) then unfit_strings path (n + 1) ds
    else Some (tell_value (item_path path n) d (codes "a text"))

abbrev pub unfit_in_list : List ℕ → Data → Option (List Data) → Option (List ℕ)
unfit_in_list path d None = Some (tell_value path d (tell_wanted Words))
unfit_in_list path d (Some ds) = unfit_strings path 0 ds

abbrev pub unfit_words : List ℕ → Data → Option (List ℕ)
unfit_words path d = unfit_in_list path d (list_in d)

-- of a text by its parts it is looked at each
abbrev pub fits : Wanted → Data → Bool
fits HookName d = is_some (option_and_then (name_in 64) (as_str d))
fits Name d = is_some (option_and_then (name_in 32) (as_str d))
fits Text d = is_some (as_str d)
fits AList d = is_some (as_array d)
fits Priority d = is_some (signed_in d)
fits Accepted d = is_some (option_and_then (below (2 ^ 32)) (number_in d))
fits Skip d = is_some (option_and_then (below (2 ^ 16)) (number_in d))
fits Seconds d = is_some (number_in d)
fits Every d = is_some (every_in d)
fits Parts d = true
fits More d = true
fits Args d = true
fits Words d = true
fits Times d = is_some (option_and_then times_in (number_in d))
fits Truth d = is_some (as_bool d)

abbrev pub unless_fits : Wanted → List ℕ → Data → Option (List ℕ)
unless_fits wanted key d = if fits wanted d then None else Some (tell_value key d (tell_wanted wanted))

-- in a text by its parts, or in one of some
abbrev pub unfit_inside : Wanted → List ℕ → Data → Option (List ℕ)
unfit_inside Parts key d = unfit_text key d
unfit_inside More key d = unfit_few More key d (few_in 2 d)
unfit_inside Args key d = unfit_few Args key d (few_in 3 d)
unfit_inside Words key d = unfit_words key d
unfit_inside Times key d = None
unfit_inside Truth key d = None
unfit_inside HookName key d = None
unfit_inside Name key d = None
unfit_inside Text key d = None
unfit_inside AList key d = None
unfit_inside Priority key d = None
unfit_inside Accepted key d = None
unfit_inside Skip key d = None
unfit_inside Seconds key d = None
unfit_inside Every key d = None

abbrev pub unfit_value : Wanted → List ℕ → Data → Option (List ℕ)
unfit_value wanted key d = or_else (unfit_inside wanted key d) (unless_fits wanted key d)

abbrev pub unfit_where : Place → List ℕ → Option Data → Option (List ℕ)
unfit_where at key None = None
unfit_where at key (Some d) = unfit_value (wanted_at at key) key d

-- at the first of these keys that has such a value
abbrev pub unfit : Place → Data → List (List ℕ) → Option (List ℕ)
unfit at item [] = None
unfit at item (key ∷ keys) = or_else (unfit_where at key (get key item)) (unfit at item keys)
