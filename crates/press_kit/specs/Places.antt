-- Places in a file, as its author sees them: keys and numbers of lists, counted from 0 (own).
use Rattle.std.specs.Prelude.{ℕ, List, [], ◌++◌, codes, decimal}
use Rattle.press_kit.specs.declared.place.Place.{Place}
use Rattle.press_kit.specs.declared.place.Place.TheVariants.{File, Callbacks, Callback, Op, Plugins, Plugin, Load, Active, ActiveName, Commands, Command, Pages, Page, Plays, Play, Steps, Step}

-- the place of an item of the list at a place; an op or a load is reported as a whole
abbrev pub item_of : Place → ℕ → Place
item_of File n = File
item_of Callbacks n = Callback n
item_of (Callback c) n = Op c n
item_of (Op c o) n = Op c o
item_of Plugins n = Plugin n
item_of (Plugin p) n = Load p n
item_of (Load p l) n = Load p l
item_of Active n = ActiveName n
item_of (ActiveName a) n = ActiveName a
item_of Commands n = Command n
item_of (Command c) n = Command c
item_of Pages n = Page n
item_of (Page p) n = Page p
item_of Plays n = Play n
item_of (Play p) n = Play p
item_of Steps n = Step n
item_of (Step s) n = Step s

-- `name[n]`, with what follows it
abbrev pub indexed_name : List ℕ → ℕ → List ℕ → List ℕ
indexed_name name n rest = name ++ (codes "[" ++ (decimal n ++ (codes "]" ++ rest)))

abbrev pub place_text : Place → List ℕ
place_text File = codes "file"
place_text Callbacks = codes "callbacks"
place_text (Callback n) = indexed_name (codes "callbacks") n []
place_text (Op c o) = indexed_name (codes "callbacks") c (indexed_name (codes ".script") o [])
place_text Plugins = codes "plugins"
place_text (Plugin n) = indexed_name (codes "plugins") n []
place_text (Load p l) = indexed_name (codes "plugins") p (indexed_name (codes ".load") l [])
place_text Active = codes "active"
place_text (ActiveName n) = indexed_name (codes "active") n []
place_text Commands = codes "commands"
place_text (Command n) = indexed_name (codes "commands") n []
place_text Pages = codes "pages"
place_text (Page n) = indexed_name (codes "pages") n []
place_text Plays = codes "plays"
place_text (Play n) = indexed_name (codes "plays") n []
place_text Steps = codes "steps"
place_text (Step n) = indexed_name (codes "steps") n []
