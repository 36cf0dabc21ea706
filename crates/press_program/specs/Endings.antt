-- What the program does for its words and its input (own).
use Rattle.std.specs.Prelude.{◌≡◌, ◌⊎◌, ℕ, List, [], ◌∷◌, ◌++◌, length, map, nat_eq, if◌then◌else◌, false, Option, Some, None, Result, Ok, Err, codes}
use Rattle.std.specs.Io.KnownBytes.{Appends, Keeps}
use Rattle.press_callbacks.specs.Kits.{KitView}
use Rattle.press_apply.specs.declared.command.Stamped.{Stamped}
use Rattle.press_apply.specs.declared.value.Value.TheVariants.{Cmd}
use Rattle.press_apply.specs.Apply.{site_after}
use Rattle.press_page.specs.declared.reply.Reply.{Reply}
use Rattle.press_page.specs.declared.reply.Target.{Target}
use Rattle.press_page.specs.Page.{page_of}
use Rattle.press_client.specs.Reporting.{are_done, counts_of, report_of}
use Rattle.press_client.specs.declared.counts.Counts.{Counts}
use Rattle.press_client.specs.declared.ending.Ending.{Ending as Ended}
use Rattle.press_text.specs.Gives.{Gives}
use Rattle.press_wire.specs.Ranges.{most_members}
use Rattle.press_world.specs.ReadingFiles.{Has, Refuses}
use Rattle.press_world.specs.Replays.{Replays, transcript}
use Rattle.press_world.specs.ScheduleFile.{schedule_in}
use Rattle.press_world.specs.declared.replay_fault.ReplayFault.TheVariants.{NoMemory, ReadFault, WriteFault, BadSchedule}
use Rattle.press_world.specs.declared.replay_fault.ReplayFault.{ReplayFault}
use Rattle.press_program.specs.declared.ending.Ending.{Ending}
use Rattle.press_program.specs.declared.ending.Ending.TheVariants.{Printed, Replayed, Fault}
use Rattle.press_kit.specs.declared.place.Place.{Place}
use Rattle.press_kit.specs.SiteFile.{site_in}
use Rattle.press_server.specs.Listening.{server_line}
use Rattle.press_server.specs.declared.serve_fault.ServeFault.{ServeFault}
use Rattle.press_server.specs.declared.serve_fault.ServeFault.TheVariants as fault
use Rattle.press_loop.specs.Loops.{Loops}
use Rattle.press_program.specs.Exports.{Makes, TellsUnmade}
use Rattle.press_program.specs.Nexts.{Nexts}
use Rattle.press_program.specs.Words.{Arguments, Export, Job, OfFile, OfFiles, Server, export, next, of_file, of_files, send, serve, is_input}
use Rattle.press_program.specs.declared.task.Task.{Task}
use Rattle.press_program.specs.declared.task.Task.TheVariants.{Page, Replay, Loop}
use Rattle.press_text.specs.Streams.{AppendsFront}
use Rattle.press_demonstration.specs.Demonstration.{demonstration}
use Rattle.press_lint.specs.Files.{GivesSlips}
use Rattle.press_lint.specs.Joints.{File, read_together}
use Rattle.press_program.specs.KitFiles.{AreNamed, RefusesKit, fault_line, slip_front, view_where}

-- 0 for a page, 1 for any other reply
abbrev pub exit_status : ℕ → ℕ
exit_status status = if nat_eq status 200 then 0 else 1

abbrev pub ending_of_reply : Reply → Ending
ending_of_reply reply = Printed (exit_status reply.status) reply.body

-- the end of a run on a file, where nothing outside fails: the reply to what is asked, after its
-- commands
abbrev pub page_ending : KitView → Target → Result (List Stamped) Place → Ending
page_ending kit target (Err place) = Fault BadSchedule
page_ending kit target (Ok commands) = ending_of_reply (page_of kit (site_after kit (map (λ c. Cmd c) commands)) target)

-- a fault ends a run as well
abbrev pub ending_of : Result Ending ReplayFault → Ending
ending_of (Ok end) = end
ending_of (Err fault) = Fault fault

-- out of memory and failed reads come from outside, and may come at any run
abbrev pub IsOutside : Ending → Type 0
IsOutside (Printed status body) = ⊥
IsOutside Replayed = ⊥
IsOutside (Fault NoMemory) = Unit {0}
IsOutside (Fault ReadFault) = Unit {0}
IsOutside (Fault WriteFault) = ⊥
IsOutside (Fault BadSchedule) = ⊥

abbrev pub EndsPage : KitView → Target → Ending → List ℕ → Type 0
EndsPage kit target end input = (end ≡ page_ending kit target (site_in input)) ⊎ IsOutside end

-- The end of a page's run on the bytes that a reader has left.
unfoldable pub EndsOn : KitView → Target → Option (List ℕ) → Ending → Type 0
EndsOn kit target remaining end = (input : List ℕ) × Has remaining input × EndsPage kit target end input

abbrev pub replay_ok : Result (Unit {0}) ReplayFault
replay_ok = Ok tt

abbrev pub replay_err : ReplayFault → Result (Unit {0}) ReplayFault
replay_err fault = Err fault

-- The end of a replay of the schedule that a reader has left, over at most so many nodes of this
-- kit, and what it has put on the output: the transcript, or a prefix of it where a write failed or
-- memory ran out; nothing where the file is bad or couldn't be read.
unfoldable pub EndsReplay : KitView → ℕ → Option (List ℕ) → Option (List ℕ) → Option (List ℕ) → Ending → Type 0
EndsReplay kit kits remaining out out' (Printed status body) = ⊥
EndsReplay kit kits remaining out out' Replayed = Replays (schedule_in kits) (transcript kit) remaining out out' replay_ok
EndsReplay kit kits remaining out out' (Fault fault) = Replays (schedule_in kits) (transcript kit) remaining out out' (replay_err fault)

-- The same where the steps come over sockets, any of which may fail: then a prefix of the
-- transcript is left.
unfoldable pub EndsLoop : KitView → ℕ → Option (List ℕ) → Option (List ℕ) → Option (List ℕ) → Ending → Type 0
EndsLoop kit kits remaining out out' (Printed status body) = ⊥
EndsLoop kit kits remaining out out' Replayed = Loops (schedule_in kits) (transcript kit) remaining out out' replay_ok
EndsLoop kit kits remaining out out' (Fault fault) = Loops (schedule_in kits) (transcript kit) remaining out out' (replay_err fault)

-- how many kits are made for it
abbrev pub kits_for : Task → ℕ
kits_for (Page target) = 1
kits_for Replay = most_members
kits_for Loop = most_members

-- The end for what is asked, and the output by then: a page is yet to be printed.
abbrev pub EndsTask : KitView → Task → Option (List ℕ) → Option (List ℕ) → Option (List ℕ) → Ending → Type 0
EndsTask kit (Page target) remaining out out' end = EndsOn kit target remaining end × (out' ≡ out)
EndsTask kit Replay remaining out out' end = EndsReplay kit (kits_for Replay) remaining out out' end
EndsTask kit Loop remaining out out' end = EndsLoop kit (kits_for Loop) remaining out out' end

-- What is known of a file's bytes: on the standard input, what contracts see of that. A file that
-- is opened by its name has some bytes.
abbrev pub known_of : List ℕ → Option (List ℕ) → Option (List ℕ)
known_of file remaining = if is_input file then remaining else None

abbrev pub usage_line : List ℕ
usage_line = codes "press: usage\n"

-- What is written of an ending: a body goes to the output, and nothing after a transcript; for a
-- fault, or where the output has failed, which may be at any run, a line goes to the errors, as far
-- as they take it.
abbrev pub Finishes : Ending → ℕ → Option (List ℕ) → Option (List ℕ) → Option (List ℕ) → Option (List ℕ) → Type 0
Finishes (Printed status body) result out out' err err' =
    ((result ≡ status) × Appends out out' body × Keeps err err')
    ⊎ ((result ≡ 2) × AppendsFront out out' body × AppendsFront err err' (fault_line WriteFault))
Finishes Replayed result out out' err err' = (result ≡ 0) × Keeps out out' × Keeps err err'
Finishes (Fault fault) result out out' err err' = (result ≡ 2) × Keeps out out' × AppendsFront err err' (fault_line fault)

-- Refused words: the usage, or no memory to read them.
abbrev pub TellsUsage : ℕ → Option (List ℕ) → Option (List ℕ) → Option (List ℕ) → Option (List ℕ) → Type 0
TellsUsage result out out' err err' = (result ≡ 2) × Keeps out out' × (AppendsFront err err' usage_line ⊎ AppendsFront err err' (fault_line NoMemory))

-- What refused words come to, whatever there is to read: nothing is read.
abbrev pub RefusesWords : Option Arguments → ℕ → Option (List ℕ) → Option (List ℕ) → Option (List ℕ) → Option (List ℕ) → Option (List ℕ) → Option (List ℕ) → Type 0
RefusesWords (Some asked) result input input' out out' err err' = Unit {0}
RefusesWords None result input input' out out' err err' = Keeps input input' × TellsUsage result out out' err err'

-- The standard input is read only where it is asked for. A server reads nothing of it.
abbrev pub ReadsFor : Job → Option (List ℕ) → Option (List ℕ) → Type 0
ReadsFor (of_file wanted) input input' = is_input wanted.0 ≡ false → Keeps input input'
ReadsFor (of_files files) input input' = is_input files.first ≡ false → Keeps input input'
ReadsFor (serve server) input input' = Keeps input input'
ReadsFor (send mail) input input' = is_input mail.0 ≡ false → Keeps input input'
ReadsFor (export it) input input' = Keeps input input'
ReadsFor (next it) input input' = Keeps input input'

abbrev pub ReadsAsked : Option Arguments → Option (List ℕ) → Option (List ℕ) → Type 0
ReadsAsked None input input' = Keeps input input'
ReadsAsked (Some asked) input input' = ReadsFor asked.job input input'

-- A run for what is asked of a file: its end, with the output by then, and what is written of that.
abbrev pub Shows : KitView → OfFile → Option (List ℕ) → ℕ → Option (List ℕ) → Option (List ℕ) → Option (List ℕ) → Option (List ℕ) → Type 0
Shows kit wanted remaining result out out' err err' = (end : Ending) × (by_then : Option (List ℕ)) × EndsTask kit wanted.1 (known_of wanted.0 remaining) out by_then end × Finishes end result by_then out' err err'

-- that somebody served over a kit, as the words have it, and how that ended: each who serves says
-- it in a way of its own
abbrev pub ServeRelation : Type 1
ServeRelation = KitView → Server → Result (Unit {0}) ServeFault → Type 0

-- said of whoever serves
abbrev pub any_server : ServeRelation
any_server kit server ended = Unit {0}

-- One served over the kit, as the words have it, and printed its line on the output, as far as that
-- took it; or there was no memory for the kit, and nobody did.
abbrev pub IsServed : ServeRelation → KitView → Server → Result (Unit {0}) ServeFault → Option (List ℕ) → Option (List ℕ) → Type 0
IsServed served kit server ended out out' =
    ((ended ≡ Err fault.NoMemory) × Keeps out out') ⊎ (served kit server ended × AppendsFront out out' (server_line server.place))

-- 0 for a server that ended without a fault
abbrev pub server_status : Result (Unit {0}) ServeFault → ℕ
server_status (Ok done) = 0
server_status (Err fault) = 2

-- A server's run, and its status. Contracts see no bytes of sockets, and its lines on standard
-- error depend on them.
abbrev pub Listens : ServeRelation → KitView → Server → ℕ → Option (List ℕ) → Option (List ℕ) → Type 0
Listens served kit server result out out' = (ended : Result (Unit {0}) ServeFault) × IsServed served kit server ended out out' × (result ≡ server_status ended)

-- ---- several files

-- commands with others behind them; what is bad in front decides
abbrev pub joined_sites : Result (List Stamped) Place → Result (List Stamped) Place → Result (List Stamped) Place
joined_sites (Err place) more = Err place
joined_sites (Ok commands) (Err place) = Err place
joined_sites (Ok commands) (Ok more) = Ok (commands ++ more)

-- The commands of files, one behind the other; the first that is bad decides.
unfoldable pub sites_in : List (List ℕ) → Result (List Stamped) Place
sites_in [] = Ok []
sites_in (bytes ∷ files) = joined_sites (site_in bytes) (sites_in files)

-- What a reading answers of so many files, which are opened by their names and have some bytes.
unfoldable pub ReadsNamed : ℕ → Result (List Stamped) ReplayFault → Type 0
ReadsNamed count result = (files : List (List ℕ)) × (length files ≡ count) × Gives Refuses Ok result (sites_in files)

-- The same of the file that a reader has left, with so many behind it.
unfoldable pub ReadsBehind : Option (List ℕ) → ℕ → Result (List Stamped) ReplayFault → Type 0
ReadsBehind remaining count result =
    (input : List ℕ) × Has remaining input × (files : List (List ℕ)) × (length files ≡ count) × Gives Refuses Ok result (sites_in (input ∷ files))

-- The end of a page's run on several files, of which the first is known as `known_of` has it.
unfoldable pub EndsBehind : KitView → Target → Option (List ℕ) → ℕ → Ending → Type 0
EndsBehind kit target remaining count end =
    (input : List ℕ) × Has remaining input × (files : List (List ℕ)) × (length files ≡ count)
    × ((end ≡ page_ending kit target (sites_in (input ∷ files))) ⊎ IsOutside end)

-- a run for what is asked of several files: its end, and what is written of that
abbrev pub ShowsFiles : KitView → OfFiles → Option (List ℕ) → ℕ → Option (List ℕ) → Option (List ℕ) → Option (List ℕ) → Option (List ℕ) → Type 0
ShowsFiles kit it remaining result out out' err err' =
    (end : Ending) × EndsBehind kit it.target (known_of it.first remaining) (length it.further) end × Finishes end result out out' err err'

-- ---- commands that go to members

-- the commands of the site file that a reader has left
abbrev pub IsSite : Option (List ℕ) → List Stamped → Type 0
IsSite remaining commands = (input : List ℕ) × Has remaining input × (site_in input ≡ Ok commands)

-- 0 where each was done
abbrev pub mail_status : Counts → ℕ
mail_status counts = if are_done counts then 0 else 1

-- the status of a run that knows of each command what became of it
abbrev pub IsMailStatus : Counts → ℕ → Type 0
IsMailStatus counts status = (counts.left ≡ 0) × (status ≡ mail_status counts)

-- What is printed of commands that were sent: what became of each, or a front of that, or nothing.
-- Contracts see no bytes of sockets: `deliver` says what became of them.
abbrev pub Reports : Option (List ℕ) → Option (List ℕ) → Option (List ℕ) → Result ℕ ReplayFault → Type 0
Reports remaining out out' (Ok status) =
    (commands : List Stamped) × (endings : List Ended) × IsSite remaining commands
    × IsMailStatus (counts_of (length commands) endings) status × Appends out out' (report_of commands endings)
Reports remaining out out' (Err fault) =
    Keeps out out' ⊎ ((commands : List Stamped) × (endings : List Ended) × IsSite remaining commands × AppendsFront out out' (report_of commands endings))

-- a fault is told, and has the status 2
abbrev pub TellsFault : Result ℕ ReplayFault → ℕ → Option (List ℕ) → Option (List ℕ) → Type 0
TellsFault (Ok status) result err err' = (result ≡ status) × Keeps err err'
TellsFault (Err fault) result err err' = (result ≡ 2) × AppendsFront err err' (fault_line fault)

-- A run that sends commands. Where the members are none, that is told as words are that are
-- refused.
abbrev pub Mails : Option (List ℕ) → ℕ → Option (List ℕ) → Option (List ℕ) → Option (List ℕ) → Option (List ℕ) → Type 0
Mails remaining result out out' err err' =
    TellsUsage result out out' err err'
    ⊎ ((ended : Result ℕ ReplayFault) × Reports remaining out out' ended × TellsFault ended result err err')

-- A run that makes site files of a log. What is no member, or more than one, is told as words are
-- that are refused.
abbrev pub Exports : Export → ℕ → Option (List ℕ) → Option (List ℕ) → Option (List ℕ) → Option (List ℕ) → Type 0
Exports it result out out' err err' =
    TellsUsage result out out' err err' ⊎ (Makes it result out out' err err' ⊎ TellsUnmade it result out out' err err')

-- what is to be done, over a kit
abbrev pub Does : ServeRelation → KitView → Job → Option (List ℕ) → ℕ → Option (List ℕ) → Option (List ℕ) → Option (List ℕ) → Option (List ℕ) → Type 0
Does served kit (of_file wanted) remaining result out out' err err' = Shows kit wanted remaining result out out' err err'
Does served kit (of_files files) remaining result out out' err err' = ShowsFiles kit files remaining result out out' err err'
Does served kit (serve server) remaining result out out' err err' = Listens served kit server result out out'
Does served kit (export it) remaining result out out' err err' = Exports it result out out' err err'
Does served kit (next it) remaining result out out' err err' = Nexts it result out out' err err'
Does served kit (send mail) remaining result out out' err err' = Mails (known_of mail.0 remaining) result out out' err err'

-- Over the demonstration kit, or over that of kit files, whose slips are reported before anything
-- else; one that can't be used is reported, and nothing else is done.
abbrev pub RunsOver : ServeRelation → List (List ℕ) → Job → Option (List ℕ) → ℕ → Option (List ℕ) → Option (List ℕ) → Option (List ℕ) → Option (List ℕ) → Type 0
RunsOver served [] job remaining result out out' err err' = Does served demonstration job remaining result out out' err err'
RunsOver served (name ∷ names) job remaining result out out' err err' =
    RefusesKit (name ∷ names) result out out' err err'
    ⊎ ((files : List File) × AreNamed (name ∷ names) files × (told : List ℕ) × GivesSlips slip_front (read_together files) told
    × (by_then : Option (List ℕ)) × AppendsFront err by_then told × Does served (view_where (read_together files)) job remaining result out out' by_then err')

-- A run for what is asked.
abbrev pub Runs : ServeRelation → Option Arguments → Option (List ℕ) → ℕ → Option (List ℕ) → Option (List ℕ) → Option (List ℕ) → Option (List ℕ) → Type 0
Runs served None remaining result out out' err err' = TellsUsage result out out' err err'
Runs served (Some asked) remaining result out out' err err' = RunsOver served asked.kits asked.job remaining result out out' err err'
