-- The meaning of a run: what hooks, shortcodes and scripts give, and where a limit stops them (Plugin Handbook, Hooks; Shortcode API; the limits are own).
-- An Option is None at a limit, and a limit met anywhere is met by the whole.
use Rattle.std.specs.Prelude.{ℕ, zero, suc, ◌+◌, ◌-◌, ℤ, List, [], ◌∷◌, ◌++◌, length, take, slice_range, Bool, true, false, ◌&&◌, ltb, leb, bytes_eq, Option, Some, None, is_some, codes, decimal, count_by, nat_eq}
use Rattle.std.specs.List.{list_any, list_all}
use Rattle.std.specs.Fmt.{signed_decimal}
use Rattle.press_text.specs.Lists.{with_first}
use Rattle.press_hooks.specs.declared.row.Row.{Row}
use Rattle.press_hooks.specs.declared.entry.Entry.{Entry}
use Rattle.press_hooks.specs.declared.open_run.OpenRun.{OpenRun}
use Rattle.press_hooks.specs.HookRows.{add_row, adds_row, remove_row, remove_rows, is_row, has_rows, priority_of}
use Rattle.press_hooks.specs.NextEntry.{next_entry, next_run, new_run}
use Rattle.press_scan.specs.declared.span.Span.{Span}
use Rattle.press_scan.specs.declared.shortcode.Shortcode.{Shortcode}
use Rattle.press_scan.specs.declared.tag_row.TagRow.{TagRow}
use Rattle.press_scan.specs.Tags.{add_tag, adds_tag, remove_tag, is_tag, names_of, callback_of}
use Rattle.press_scan.specs.Shortcodes.{cut}
use Rattle.press_scan.specs.FirstShortcode.{shortcode_from}
use Rattle.press_scan.specs.AttributesOf.{attributes_of}
use Rattle.press_scan.specs.Scans.{before, behind}
use Rattle.press_callbacks.specs.declared.script.Op.{Op}
use Rattle.press_callbacks.specs.declared.script.CallIn.{CallIn}
use Rattle.press_callbacks.specs.declared.script.Ask as asked
use Rattle.press_callbacks.specs.declared.script.Ask.TheVariants.{Did, Doing, Has, Option as AskOption, Tag}
use Rattle.press_callbacks.specs.declared.script.Turn.{Turn}
use Rattle.press_callbacks.specs.declared.script.Turn.TheVariants.{Go, AddHook, RemoveHook, RemoveAll, AddTag, RemoveTag, Skip, Apply, Do, Shortcodes, Ask, SetOption, Schedule, Publish, Echo, Return}
use Rattle.press_callbacks.specs.Turns.{texts_of, turn_of}
use Rattle.press_callbacks.specs.Kits.{Scripts, script_of}
use Rattle.press_callbacks.specs.BuiltIns.{do_shortcode, is_built_in}
use Rattle.press_posts.specs.declared.fire.Fire.{Fire}
use Rattle.press_site.specs.declared.changed.Changed.{Changed}
use Rattle.press_site.specs.declared.effect.Effect.{Effect}
use Rattle.press_site.specs.declared.effect.Effect.TheVariants as effect
use Rattle.press_site.specs.Options.{option_of}
use Rattle.press_site.specs.SiteView.{SiteView}
use Rattle.press_run.specs.Links.{Changes, or_no_change, publishes, schedules}
use Rattle.press_run.specs.declared.step.Kind.{Kind}
use Rattle.press_run.specs.declared.step.Kind.TheVariants.{Filter, Action}

infixl 10 ◌>>=◌
abbrev pub ◌>>=◌ : {A B : Type 0} → Option A → (A → Option B) → Option B
None >>= f = None
(Some x) >>= f = f x

abbrev pub only_if : {A : Type 0} → Bool → A → Option A
only_if true x = Some x
only_if false x = None

-- ---- the three limits: open callbacks, turns, bytes of a text

abbrev pub most_open : ℕ
most_open = 32

abbrev pub most_turns : ℕ
most_turns = 10000

abbrev pub most_bytes : ℕ
most_bytes = 1048576

abbrev pub is_short : List ℕ → Bool
is_short text = leb (length text) most_bytes

abbrev pub within : List ℕ → Option (List ℕ)
within text = only_if (is_short text) text

-- ---- states and answers

-- what runs change: the hook rows, the tags, the starts of actions, the stack of running hooks, the turns played, the output, the site
pub record State : Type 0 where
  pub rows : List Row
  pub tags : List TagRow
  pub did : List (List ℕ)
  pub doing : List (List ℕ)
  pub turns : ℕ
  pub output : List ℕ
  pub site : SiteView

-- what is given, with the state after it
pub record Answer : Type 0 where
  pub text : List ℕ
  pub state : State

abbrev pub answer : List ℕ → State → Option Answer
answer text s = Some (record { text = text; state = s })

-- what a callback gives on a call in a state
abbrev pub Meaning : Type 0
Meaning = List ℕ → CallIn → State → Option Answer

-- one more turn, where it is within the turns
abbrev pub one_turn : State → Option State
one_turn s = only_if (ltb s.turns most_turns) (record s { turns = s.turns + 1 })

-- more than the turns of any run: the entries of a run and the turns of a script play one turn each, so the limit of turns is met first
abbrev pub fuel : ℕ
fuel = 10001

-- a stack without its last
abbrev pub without_last : List (List ℕ) → List (List ℕ)
without_last stack = take (length stack - 1) stack

-- ---- hooks: a filter hands its answer on as the first argument, an action hands all callbacks the same

abbrev pub first_text : List (List ℕ) → List ℕ
first_text [] = []
first_text (t ∷ ts) = t

abbrev pub next_args : Kind → List ℕ → List (List ℕ) → List (List ℕ)
next_args Action t args = args
next_args Filter t args = with_first t args

-- the call of a hook's callback on the arguments that it accepts
abbrev pub hook_call : List (List ℕ) → CallIn
hook_call args = record { args = args; atts = []; content = []; tag = []; value = first_text args; last = []; turn = 0 }

-- the next entry is called and the rest goes on; without one the first argument is given
abbrev pub call_entry : Meaning → (List ℕ → State → Option Answer) → List (List ℕ) → State → Option Entry → Option Answer
call_entry callback rest args s None = answer (first_text args) s
call_entry callback rest args s (Some e) = do
  a ← callback e.callback (hook_call (take e.accepted args)) s
  rest a.text a.state

-- the entries of an open run in turn
unfoldable pub run_entries : Meaning → Kind → ℕ → List (List ℕ) → OpenRun → State → Option Answer
run_entries callback kind zero args run s = None
run_entries callback kind (suc n) args run s =
    call_entry callback (λ t s'. run_entries callback kind n (next_args kind t args) (next_run s.rows run) s') args s (next_entry s.rows run)

-- a hook without entries is not put on the stack of running hooks
abbrev pub run_where : Meaning → Kind → List ℕ → List (List ℕ) → State → Bool → Option Answer
run_where callback kind hook args s false = answer (first_text args) s
run_where callback kind hook args s true = do
  a ← run_entries callback kind fuel args (new_run hook) (record s { doing = s.doing ++ hook ∷ [] })
  answer a.text (record (a.state) { doing = s.doing })

abbrev pub run_hook : Meaning → Kind → List ℕ → List (List ℕ) → State → Option Answer
run_hook callback kind hook args s = run_where callback kind hook args s (has_rows hook s.rows)

abbrev pub apply_hook : Meaning → List ℕ → List (List ℕ) → State → Option Answer
apply_hook callback hook args s = run_hook callback Filter hook args s

abbrev pub or_one_empty : List (List ℕ) → List (List ℕ)
or_one_empty [] = [] ∷ []
or_one_empty (t ∷ ts) = t ∷ ts

-- the start is counted first, also without entries; the answers are ignored
abbrev pub do_hook : Meaning → List ℕ → List (List ℕ) → State → Option Answer
do_hook callback hook args s = do
  a ← run_hook callback Action hook (or_one_empty args) (record s { did = s.did ++ hook ∷ [] })
  answer [] a.state

unfoldable pub do_fires : Meaning → List Fire → State → Option Answer
do_fires callback [] s = answer [] s
do_fires callback (f ∷ fs) s = do
  a ← do_hook callback f.hook f.args s
  do_fires callback fs a.state

-- ---- shortcodes: what a text means

abbrev pub content_of : List ℕ → Option Span → List ℕ
content_of text None = []
content_of text (Some span) = cut text span

-- the call of the callback of a shortcode's tag
abbrev pub shortcode_call : List ℕ → Shortcode → CallIn
shortcode_call text c = record {
  args = [];
  atts = attributes_of (cut text c.atts);
  content = content_of text c.content;
  tag = cut text c.tag;
  value = [];
  last = [];
  turn = 0;
}

-- what the callback of a tag answers; without one the answer is empty
abbrev pub tag_answer : Meaning → Option (List ℕ) → CallIn → State → Option Answer
tag_answer callback None call s = answer [] s
tag_answer callback (Some id) call s = callback id call s

-- in profile 2 it goes through this filter, with the tag (hook reference, `do_shortcode_tag`; two arguments, and the profile, are own)
abbrev pub do_shortcode_tag : List ℕ
do_shortcode_tag = codes "do_shortcode_tag"

abbrev pub filters_answers : SiteView → Bool
filters_answers site = nat_eq site.profile 2

abbrev pub filter_answer : Meaning → List ℕ → List ℕ → State → Option Answer
filter_answer callback tag text s = apply_hook callback do_shortcode_tag (text ∷ tag ∷ []) s

abbrev pub filter_answer_where : Meaning → List ℕ → Answer → Bool → Option Answer
filter_answer_where callback tag a false = Some a
filter_answer_where callback tag a true = filter_answer callback tag a.text a.state

-- what is put in a shortcode's place
abbrev pub shortcode_answer : Meaning → List ℕ → Shortcode → State → Option Answer
shortcode_answer callback text c s = do
  a ← tag_answer callback (callback_of (cut text c.tag) s.tags) (shortcode_call text c) s
  filter_answer_where callback (cut text c.tag) a (filters_answers s.site)

abbrev pub is_escape : Shortcode → Bool
is_escape c = c.lead && c.tail

-- a shortcode's result: of an escape its text without the first and the last byte, else its answer between the brackets that are there
abbrev pub shortcode_result : Meaning → List ℕ → Shortcode → State → Bool → Option Answer
shortcode_result callback text c s true = answer (slice_range text (c.start + 1) (c.end - 1)) s
shortcode_result callback text c s false = do
  a ← shortcode_answer callback text c s
  answer (before c ++ (a.text ++ behind c)) a.state

-- A text without a shortcode means itself; otherwise the front, then the first shortcode's result, then the meaning of the rest.
abbrev pub scan_rest : Meaning → (ℕ → List ℕ → State → Option Answer) → List ℕ → ℕ → List ℕ → State → Option Shortcode → Option Answer
scan_rest callback rest text at output s None = do
  whole ← within (output ++ slice_range text at (length text))
  answer whole s
scan_rest callback rest text at output s (Some c) = do
  front ← within (output ++ slice_range text at c.start)
  a ← shortcode_result callback text c s (is_escape c)
  longer ← within (front ++ a.text)
  rest c.end longer a.state

-- what a text means from a place on, behind the output so far, with the tags that then stand
unfoldable pub scan_from : Meaning → ℕ → List ℕ → ℕ → List ℕ → State → Option Answer
scan_from callback zero text at output s = None
scan_from callback (suc n) text at output s =
    scan_rest callback (λ at' output' s'. scan_from callback n text at' output' s') text at output s (shortcode_from text (names_of s.tags) at)

-- (a shortcode has a byte at least, so a text has no more of them than bytes)
abbrev pub scan : Meaning → List ℕ → State → Option Answer
scan callback text s = do
  whole ← within text
  scan_from callback (suc (length whole)) whole 0 [] s

-- ---- changes of the site: their actions are done within the run, at its depth and turns

abbrev pub one_if : Bool → List ℕ
one_if true = codes "1"
one_if false = []

-- what was changed is fired in turn; the answer is `1` where something changed
abbrev pub fire_change : Meaning → State → SiteView × Changed → Option Answer
fire_change callback s after = do
  a ← do_fires callback after.1.fires (record s { site = after.0 })
  answer (one_if after.1.did) a.state

abbrev pub change_site : Changes → Meaning → State → Option Effect → Option Answer
change_site changes callback s None = answer [] s
change_site changes callback s (Some e) = fire_change callback s (or_no_change s.site (changes s.site e))

-- the post with that id is published, if it is future and due, and the id is the answer
abbrev pub publish : Changes → Meaning → List ℕ → State → Option Answer
publish changes callback id s = do
  a ← change_site changes callback s (publishes id s.site.moment)
  answer id a.state

-- ---- one turn

abbrev pub or_no_text : Option (List ℕ) → List ℕ
or_no_text None = []
or_no_text (Some text) = text

abbrev pub decimal_or_empty : Option ℤ → List ℕ
decimal_or_empty None = []
decimal_or_empty (Some p) = signed_decimal p

abbrev pub answer_of : asked.Ask → State → List ℕ
answer_of (AskOption name) s = or_no_text (option_of name s.site.options)
answer_of (Did hook) s = decimal (count_by (bytes_eq hook) s.did)
answer_of (Doing hook) s = one_if (list_any (bytes_eq hook) s.doing)
answer_of (Has hook callback) s = decimal_or_empty (priority_of hook callback s.rows)
answer_of (Tag tag) s = one_if (is_some (callback_of tag s.tags))

-- the texts of a turn are within the bytes
abbrev pub fits : Turn → Bool
fits turn = list_all is_short (texts_of turn)

-- what one turn comes to: the callback goes on with the next turn's call, or it ends
pub data TurnResult : Type 0 where
  Goes : (call : CallIn) (state : State) → TurnResult
  Ends : (text : List ℕ) (state : State) → TurnResult

-- the next turn's call, with this value and last answer, so many ops further
abbrev pub next_call : CallIn → List ℕ → List ℕ → ℕ → CallIn
next_call call value last skipped = record call { value = value; last = last; turn = call.turn + (1 + skipped) }

abbrev pub goes : CallIn → State → Option TurnResult
goes call s = Some (Goes call s)

-- the last answer is this one
abbrev pub answers : CallIn → List ℕ → State → Option TurnResult
answers call last s = goes (next_call call call.value last 0) s

abbrev pub turn_step : Changes → Meaning → CallIn → State → Turn → Option TurnResult
turn_step changes callback call s (Go t) = goes (next_call call t call.last 0) s
turn_step changes callback call s (AddHook h c p n) = answers call (one_if (adds_row h c p s.rows)) (record s { rows = add_row h c p n s.rows })
turn_step changes callback call s (RemoveHook h c p) = answers call (one_if (list_any (is_row h p c) s.rows)) (record s { rows = remove_row h c p s.rows })
turn_step changes callback call s (RemoveAll h p) = answers call (codes "1") (record s { rows = remove_rows h p s.rows })
turn_step changes callback call s (AddTag t c) = answers call (one_if (adds_tag t s.tags)) (record s { tags = add_tag t c s.tags })
turn_step changes callback call s (RemoveTag t) = answers call (one_if (list_any (is_tag t) s.tags)) (record s { tags = remove_tag t s.tags })
turn_step changes callback call s (Skip n) = goes (next_call call call.value call.last n) s
turn_step changes callback call s (Apply h ts) = do
  a ← apply_hook callback h ts s
  answers call a.text a.state
turn_step changes callback call s (Do h ts) = do
  a ← do_hook callback h ts s
  answers call [] a.state
turn_step changes callback call s (Shortcodes t) = do
  a ← scan callback t s
  answers call a.text a.state
turn_step changes callback call s (Ask q) = answers call (answer_of q s) s
turn_step changes callback call s (Echo t) = do
  output ← within (s.output ++ t)
  goes (next_call call call.value call.last 0) (record s { output = output })
turn_step changes callback call s (SetOption n t) = do
  a ← change_site changes callback s (Some (effect.SetOption n t))
  answers call a.text a.state
turn_step changes callback call s (Schedule after every h t) = do
  a ← change_site changes callback s (schedules after every h t s.site.moment)
  answers call a.text a.state
turn_step changes callback call s (Publish t) = do
  a ← change_site changes callback s (publishes t s.site.moment)
  answers call a.text a.state
turn_step changes callback call s (Return t) = Some (Ends t s)

-- a turn counts, and its texts are within the bytes
abbrev pub counted_step : Changes → Meaning → CallIn → Turn → State → Option TurnResult
counted_step changes callback call turn s = do
  s' ← one_turn s
  turn' ← only_if (fits turn) turn
  turn_step changes callback call s' turn'

-- ---- callbacks

abbrev pub after_step : (CallIn → State → Option Answer) → TurnResult → Option Answer
after_step rest (Goes call s) = rest call s
after_step rest (Ends text s) = answer text s

-- the turns of a script up to Return
unfoldable pub play : Changes → Meaning → List Op → ℕ → CallIn → State → Option Answer
play changes callback script zero call s = None
play changes callback script (suc n) call s = do
  step ← counted_step changes callback call (turn_of script call) s
  after_step (λ call' s'. play changes callback script n call' s') step

-- a callback that is not there returns its value, as an empty script does
abbrev pub or_empty : Option (List Op) → List Op
or_empty None = []
or_empty (Some script) = script

-- `do_shortcode`, else `check_and_publish_future_post`
abbrev pub built_in_where : Changes → Meaning → List ℕ → State → Bool → Option Answer
built_in_where changes callback argument s true = scan callback argument s
built_in_where changes callback argument s false = publish changes callback argument s

-- a call of a built-in callback is one turn
abbrev pub built_in : Changes → Meaning → List ℕ → CallIn → State → Option Answer
built_in changes callback id call s = do
  s' ← one_turn s
  built_in_where changes callback (first_text call.args) s' (bytes_eq id do_shortcode)

-- built in, or by its script
abbrev pub callback_where : Changes → Meaning → List ℕ → Option (List Op) → CallIn → State → Bool → Option Answer
callback_where changes callback id script call s true = built_in changes callback id call s
callback_where changes callback id script call s false = play changes callback (or_empty script) fuel call s

-- a callback, where so many may be open from it on
unfoldable pub at_depth : Changes → ℕ → Scripts → Meaning
at_depth changes zero scripts id call s = None
at_depth changes (suc depth) scripts id call s = callback_where changes (at_depth changes depth scripts) id (script_of id scripts) call s (is_built_in id)

-- ---- what a page or a command calls

abbrev pub callbacks_of : Changes → Scripts → Meaning
callbacks_of changes scripts = at_depth changes most_open scripts
