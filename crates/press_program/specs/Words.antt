-- What the words after the program's name ask for: `page FILE TARGET`, with further files or
-- without, `replay FILE`, `loop FILE`, or `serve` with words by their names, each of them with kit
-- files or without; or `send FILE MEMBERS`; or `export MEMBER`, with the name of a file or without;
-- as `clap` reads words; or `kit --next OLD NEW`; without any, post 1 of the standard input (own).
use Rattle.std.specs.Prelude.{ℕ, List, [], ◌∷◌, ◌&&◌, Bool, true, false, bytes_eq, nat_le, if◌then◌else◌, Option, Some, None, map, option_and_then, option_map, unwrap_or, codes}
use Rattle.clap.specs.Kinds.{Kinds}
use Rattle.clap.specs.declared.builder.action.ArgAction.TheVariants.{SetTrue, Append}
use Rattle.clap.specs.Words.{App, Row, Rule, Text, all_of, fault_of, first_of, new_app, new_rule, subcommand_of, with_rule, with_subcommand}
use Rattle.press_page.specs.declared.reply.Target.TheVariants.{Post}
use Rattle.press_page.specs.declared.reply.Target.{Target}
use Rattle.press_page.specs.Targets.{target_in}
use Rattle.press_text.specs.Decimals.{decimal_in}
use Rattle.press_wire.specs.Ranges.{most_members}
use Rattle.press_program.specs.declared.wanted.Arguments as asked
use Rattle.press_program.specs.declared.wanted.Job as declared
use Rattle.press_program.specs.declared.wanted.Job.TheVariants as told
use Rattle.press_server.specs.Listening.Where.{alone_at, member_of, new_member_of}
use Rattle.press_server.specs.Listening.{Where}
use Rattle.press_server.specs.declared.setup.Role.TheVariants.{Alone, Member, NewMember}
use Rattle.press_server.specs.declared.setup.Role.{Role}
use Rattle.press_server.specs.declared.setup.Setup.{Setup}
use Rattle.press_program.specs.declared.wanted.Exporting.{Exporting}
use Rattle.press_program.specs.declared.wanted.Mailing.{Mailing}
use Rattle.press_program.specs.declared.wanted.Nexting.{Nexting}
use Rattle.press_program.specs.declared.wanted.SeveralFiles.{SeveralFiles}
use Rattle.press_program.specs.declared.wanted.Wanted.{Wanted}
use Rattle.press_program.specs.declared.task.Task.{Task}
use Rattle.press_program.specs.declared.task.Task.TheVariants.{Page, Replay, Loop}

infixl 10 ◌>>=◌
abbrev pub ◌>>=◌ : {A B : Type 0} → Option A → (A → Option B) → Option B
None >>= f = None
(Some x) >>= f = f x

-- ---- the program, as it is given to `clap`

-- a word that has to be there
abbrev pub needed_rule : Text → Rule
needed_rule id = record (new_rule id) { required = true }

-- a word behind `--NAME`, which may be there
abbrev pub named_rule : Text → Rule
named_rule id = record (new_rule id) { long = Some id }

-- a word `--NAME` without a value, which may be there
abbrev pub flag_rule : Text → Rule
flag_rule id = record (named_rule id) { action = Some SetTrue }

-- a command without a call for help
abbrev pub helpless_app : Text → App
helpless_app name = record { top = record (new_app name).top { disable_help_flag = true }; subs = [] }

-- a word behind `--NAME`, which may be there more than once
abbrev pub repeated_rule : Text → Rule
repeated_rule id = record (named_rule id) { action = Some Append }

abbrev pub with_names : App → Text → App
with_names app id = with_rule app (repeated_rule id)

-- a command, over kit files where they are named
abbrev pub with_kit : App → App
with_kit app = with_names app (codes "kit")

abbrev pub page_words : App
page_words = with_kit (with_names (with_rule (with_rule (helpless_app (codes "page")) (needed_rule (codes "FILE"))) (needed_rule (codes "TARGET"))) (codes "then"))

-- a command with a file alone
abbrev pub file_words : Text → App
file_words name = with_kit (with_rule (helpless_app name) (needed_rule (codes "FILE")))

-- a server's place
abbrev pub place_words : App
place_words =
    with_rule (with_rule (with_rule (with_rule (helpless_app (codes "serve")) (named_rule (codes "port"))) (named_rule (codes "id"))) (named_rule (codes "peers"))) (named_rule (codes "tick"))

abbrev pub valued_words : App
valued_words =
    with_rule (with_rule (with_rule (with_rule place_words (named_rule (codes "store"))) (named_rule (codes "turns"))) (named_rule (codes "editor"))) (named_rule (codes "ahead"))

abbrev pub server_words : App
server_words = with_rule (with_rule (with_rule valued_words (flag_rule (codes "stay"))) (flag_rule (codes "status"))) (flag_rule (codes "new"))

abbrev pub serve_words : App
serve_words = with_kit server_words

abbrev pub send_words : App
send_words = with_rule (with_rule (helpless_app (codes "send")) (needed_rule (codes "FILE"))) (needed_rule (codes "MEMBERS"))

abbrev pub export_words : App
export_words = with_rule (with_rule (helpless_app (codes "export")) (needed_rule (codes "MEMBER"))) (new_rule (codes "FILE"))

abbrev pub kit_words : App
kit_words = with_rule (with_rule (helpless_app (codes "kit")) (named_rule (codes "next"))) (needed_rule (codes "NEW"))

abbrev pub bare_app : App
bare_app = record {
  top = record (new_app (codes "press")).top { no_binary_name = true; disable_help_flag = true; disable_help_subcommand = true; subcommand_required = true };
  subs = [];
}

unfoldable pub program : App
program =
    with_subcommand (with_subcommand (with_subcommand (with_subcommand (with_subcommand (with_subcommand (with_subcommand bare_app page_words.top) (file_words (codes "replay")).top)
    (file_words (codes "loop")).top) serve_words.top) send_words.top) export_words.top) kit_words.top

-- ---- what is asked for

-- a file, and what is asked of it
abbrev pub OfFile : Type 0
OfFile = List ℕ × Task

-- a file with one or more behind it, and what is asked of the site that their commands make
pub record OfFiles : Type 0 where
  pub first : List ℕ
  pub further : List (List ℕ)
  pub target : Target

-- a server: its place, with the milliseconds of its tick; for so many connections, or until it is
-- ended; over the store in a file, or in memory; with the file of a page for editors; how many
-- seconds ahead a command may be; whether a member stays whose store has failed; and whether it
-- tells how it stands
pub record Server : Type 0 where
  pub place : Where
  pub tick : ℕ
  pub turns : Option ℕ
  pub store : Option (List ℕ)
  pub editor : Option (List ℕ)
  pub ahead : Option ℕ
  pub stay : Bool
  pub status : Bool

-- a file whose commands go to the members that a text names
abbrev pub Mail : Type 0
Mail = List ℕ × List ℕ

-- a member whose log becomes site files, and the name of the first file
abbrev pub Export : Type 0
Export = List ℕ × List ℕ

-- a kit file, and one behind which the next kit is made
abbrev pub Next : Type 0
Next = List ℕ × List ℕ

pub data Job : Type 0 where
  of_file : OfFile → Job
  of_files : OfFiles → Job
  serve : Server → Job
  send : Mail → Job
  export : Export → Job
  next : Next → Job

-- over the kit of files in this order, or else the demonstration kit
pub record Arguments : Type 0 where
  pub kits : List (List ℕ)
  pub job : Job

abbrev pub values_of : Option (List Text) → List Text
values_of None = []
values_of (Some values) = values

abbrev pub names_in : Text → List Row → List Text
names_in id rows = values_of (all_of id rows)

-- a page of a file's site, or of that of several, where others stand behind it
abbrev pub page_job : List ℕ → List (List ℕ) → Target → Job
page_job file [] target = of_file (file, Page target)
page_job file (name ∷ names) target = of_files (record { first = file; further = name ∷ names; target = target })

abbrev pub page_in : List Row → Option Job
page_in rows = do
  file ← first_of (codes "FILE") rows
  text ← first_of (codes "TARGET") rows
  target ← target_in text
  Some (page_job file (names_in (codes "then") rows) target)

-- what is asked of the file that is named
abbrev pub file_in : Task → List Row → Option OfFile
file_in task rows = do
  file ← first_of (codes "FILE") rows
  Some (file, task)

abbrev pub if_within : ℕ → ℕ → ℕ → Option ℕ
if_within least most n = if nat_le least n && nat_le n most then Some n else None

-- digits alone, from a least to a most
abbrev pub number_in : ℕ → ℕ → Text → Option ℕ
number_in least most text = decimal_in text >>= if_within least most

-- a number that may be given
abbrev pub perhaps_number : ℕ → ℕ → Option Text → Option (Option ℕ)
perhaps_number least most None = Some None
perhaps_number least most (Some text) = option_map (λ n. Some n) (number_in least most text)

abbrev pub tick_in : Option Text → Option ℕ
tick_in None = Some 300
tick_in (Some text) = number_in 10 60000 text

-- whether a word without a value is there
abbrev pub is_set : Option Text → Bool
is_set None = false
is_set (Some text) = bytes_eq text (codes "true")

-- something, where the word isn't there
abbrev pub without : {A : Type 0} → Option Text → Option A → Option A
without None found = found
without (Some word) found = None

-- something, where the word without a value isn't there
abbrev pub unless_set : {A : Type 0} → Option Text → Option A → Option A
unless_set word found = if is_set word then None else found

-- with a port a node by itself, which has no word of a member
abbrev pub alone_by : Text → List Row → Option (Where × ℕ)
alone_by port rows =
    unless_set (first_of (codes "new") rows) (without (first_of (codes "id") rows) (without (first_of (codes "peers") rows) (without (first_of (codes "tick") rows) (option_map (λ n. (alone_at n, 0)) (number_in 1 65535 port)))))

-- a member, or one that is new, whose file is to be made; it asks nobody
abbrev pub member_at : Option Text → ℕ → Text → ℕ → Where × ℕ
member_at new number peers tick = if is_set new then (new_member_of number peers, 0) else (member_of number peers, tick)

-- else a member of a cluster, which needs a store in a file
abbrev pub member_by : List Row → Option (Where × ℕ)
member_by rows = do
  id ← first_of (codes "id") rows
  number ← number_in 1 most_members id
  peers ← first_of (codes "peers") rows
  store ← first_of (codes "store") rows
  tick ← tick_in (first_of (codes "tick") rows)
  Some (member_at (first_of (codes "new") rows) number peers tick)

abbrev pub place_by : Option Text → List Row → Option (Where × ℕ)
place_by (Some port) rows = alone_by port rows
place_by None rows = member_by rows

abbrev pub server_in : List Row → Option Server
server_in rows = do
  place ← place_by (first_of (codes "port") rows) rows
  turns ← perhaps_number 0 1000000 (first_of (codes "turns") rows)
  ahead ← perhaps_number 0 4294967295 (first_of (codes "ahead") rows)
  Some (record {
    place = place.0;
    tick = place.1;
    turns = turns;
    store = first_of (codes "store") rows;
    editor = first_of (codes "editor") rows;
    ahead = ahead;
    stay = is_set (first_of (codes "stay") rows);
    status = is_set (first_of (codes "status") rows);
  })

abbrev pub mailing_in : List Row → Option Mail
mailing_in rows = do
  file ← first_of (codes "FILE") rows
  members ← first_of (codes "MEMBERS") rows
  Some (file, members)

-- the first site file of a log, where no name is given
abbrev pub site_name : Text
site_name = codes "site.json"

abbrev pub export_in : List Row → Option Export
export_in rows = do
  member ← first_of (codes "MEMBER") rows
  Some (member, unwrap_or (first_of (codes "FILE") rows) site_name)

abbrev pub next_in : List Row → Option Next
next_in rows = do
  old ← first_of (codes "next") rows
  new ← first_of (codes "NEW") rows
  Some (old, new)

-- by the name of the subcommand
abbrev pub job_in : Text → List Row → Option Job
job_in name rows =
    if bytes_eq name (codes "page") then page_in rows else
    (if bytes_eq name (codes "replay") then option_map of_file (file_in Replay rows) else
    (if bytes_eq name (codes "loop") then option_map of_file (file_in Loop rows) else
    (if bytes_eq name (codes "serve") then option_map serve (server_in rows) else
    (if bytes_eq name (codes "send") then option_map send (mailing_in rows) else
    (if bytes_eq name (codes "export") then option_map export (export_in rows) else
    (if bytes_eq name (codes "kit") then option_map next (next_in rows) else None))))))

abbrev pub arguments_in : Text → List Row → Option Arguments
arguments_in name rows = option_map (λ job. record { kits = names_in (codes "kit") rows; job = job }) (job_in name rows)

-- nothing where `clap` has a fault
abbrev pub arguments_where : Kinds → Option (Text × List Row) → Option Arguments
arguments_where [] found = option_and_then (λ p. arguments_in p.0 p.1) found
arguments_where (k ∷ ks) found = None

abbrev pub arguments_by : List Text → Option Arguments
arguments_by [] = Some (record { kits = []; job = of_file (codes "-", Page (Post 1)) })
arguments_by (w ∷ ws) = arguments_where (fault_of program (w ∷ ws)) (subcommand_of program (w ∷ ws))

-- `-` is the standard input
abbrev pub is_input : List ℕ → Bool
is_input file = bytes_eq file (codes "-")

-- ---- as it is in memory

abbrev pub wanted_of : Wanted → OfFile
wanted_of w = (w.file.now, w.task)

abbrev pub several_of : SeveralFiles → OfFiles
several_of f = record { first = f.file.now; further = map (λ name. name.now) f.further.items; target = f.target }

-- a node by itself has no tick, nor has one whose store is made
abbrev pub place_of : Role → Where × ℕ
place_of (Alone port) = (alone_at port, 0)
place_of (Member id peers tick) = (member_of id peers.now, tick)
place_of (NewMember id peers) = (new_member_of id peers.now, 0)

abbrev pub server_of : Setup → Server
server_of s = record {
  place = (place_of s.place).0;
  tick = (place_of s.place).1;
  turns = s.turns;
  store = option_map (λ file. file.now) s.store;
  editor = option_map (λ file. file.now) s.editor;
  ahead = s.ahead;
  stay = s.stay;
  status = s.status;
}

abbrev pub mailing_of : Mailing → Mail
mailing_of m = (m.file.now, m.members.now)

abbrev pub export_of : Exporting → Export
export_of e = (e.member.now, e.file.now)

abbrev pub next_of : Nexting → Next
next_of n = (n.old.now, n.new.now)

abbrev pub job_of : declared.Job → Job
job_of (told.OfFile w) = of_file (wanted_of w)
job_of (told.OfFiles f) = of_files (several_of f)
job_of (told.Serve s) = serve (server_of s)
job_of (told.Send m) = send (mailing_of m)
job_of (told.Export e) = export (export_of e)
job_of (told.Next n) = next (next_of n)

abbrev pub arguments_of : asked.Arguments → Arguments
arguments_of a = record { kits = map (λ kit. kit.now) a.kits.items; job = job_of a.job }
