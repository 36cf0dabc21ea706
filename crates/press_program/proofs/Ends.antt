-- What a run ends with, for what was read.
use Rattle.std.proofs.Common.{◌≡◌, refl, sym, ap, ◌∙◌, ℕ, List, [], inl, inr, append-nil}
use Rattle.std.specs.Prelude.{Option, Some, None, Result, Ok, Err}
use Rattle.press_apply.specs.declared.command.Stamped.{Stamped}
use Rattle.press_callbacks.specs.Kits.{KitView}
use Rattle.press_kit.specs.SiteFile.{site_in}
use Rattle.press_kit.specs.declared.place.Place.{Place}
use Rattle.press_text.specs.Streams.{AppendsFront}
use Rattle.press_wire.specs.Ranges.{most_members}
use Rattle.press_world.specs.Replays.{transcript, Writes}
use Rattle.press_world.specs.ScheduleFile.{schedule_in}
use Rattle.press_world.specs.declared.step.Step.{Step}
use Rattle.press_page.specs.declared.reply.Target.{Target}
use Rattle.press_world.specs.declared.replay_fault.ReplayFault.{ReplayFault}
use Rattle.press_world.specs.declared.replay_fault.ReplayFault.TheVariants.{NoMemory, ReadFault, WriteFault, BadSchedule}
use Rattle.press_world.specs.ReadingFiles.{ReadsAs}
use Rattle.press_loop.specs.Loops.{WritesFront}
use Rattle.press_program.specs.declared.ending.Ending.{Ending}
use Rattle.press_program.specs.declared.ending.Ending.TheVariants.{Printed, Replayed, Fault}
use Rattle.press_program.specs.declared.task.Task.{Task}
use Rattle.press_program.specs.declared.task.Task.TheVariants.{Page, Replay, Loop}
use Rattle.press_program.specs.Endings.{replay_err, page_ending, EndsLoop, EndsOn, EndsReplay, EndsTask, IsOutside}

pub outside : (kit : KitView) (target : Target) (remaining : Option (List ℕ)) (end : Ending) → IsOutside end → EndsOn kit target remaining end
unfolding EndsOn
outside kit target None end is = ([], tt, inr is)
outside kit target (Some told) end is = (told, refl, inr is)

-- nothing is a front of any bytes
pub nothing : (bytes : List ℕ) (old : Option (List ℕ)) → AppendsFront old old bytes
nothing bytes None = (0, tt)
nothing bytes (Some known) = (0, sym (append-nil known))

-- nothing was written before something came from outside
unwritten : (shows : ℕ × List Step → List ℕ) (found : Result (ℕ × List Step) Place) (out : Option (List ℕ)) (fault : ReplayFault)
    → IsOutside (Fault fault) → Writes shows found out out (replay_err fault)
unwritten shows (Ok schedule) out NoMemory is = nothing (shows schedule) out
unwritten shows (Err place) out NoMemory is = refl
unwritten shows (Ok schedule) out ReadFault is = refl
unwritten shows (Err place) out ReadFault is = refl
unwritten shows found out WriteFault is = absurd is
unwritten shows found out BadSchedule is = absurd is

unplayed : (kit : KitView) (kits : ℕ) (remaining out : Option (List ℕ)) (fault : ReplayFault) → IsOutside (Fault fault) → EndsReplay kit kits remaining out out (Fault fault)
unfolding EndsReplay
unplayed kit kits None out fault is = ([], tt, unwritten (transcript kit) (schedule_in kits []) out fault is)
unplayed kit kits (Some told) out fault is = (told, refl, unwritten (transcript kit) (schedule_in kits told) out fault is)

unlooped : (shows : ℕ × List Step → List ℕ) (found : Result (ℕ × List Step) Place) (out : Option (List ℕ)) (fault : ReplayFault)
    → IsOutside (Fault fault) → WritesFront shows found out out (replay_err fault)
unlooped shows (Ok schedule) out NoMemory is = nothing (shows schedule) out
unlooped shows (Err place) out NoMemory is = refl
unlooped shows (Ok schedule) out ReadFault is = nothing (shows schedule) out
unlooped shows (Err place) out ReadFault is = refl
unlooped shows found out WriteFault is = absurd is
unlooped shows found out BadSchedule is = absurd is

uncarried : (kit : KitView) (kits : ℕ) (remaining out : Option (List ℕ)) (fault : ReplayFault) → IsOutside (Fault fault) → EndsLoop kit kits remaining out out (Fault fault)
unfolding EndsLoop
uncarried kit kits None out fault is = ([], tt, unlooped (transcript kit) (schedule_in kits []) out fault is)
uncarried kit kits (Some told) out fault is = (told, refl, unlooped (transcript kit) (schedule_in kits told) out fault is)

pub outside_task : (kit : KitView) (task : Task) (remaining out : Option (List ℕ)) (fault : ReplayFault) → IsOutside (Fault fault) → EndsTask kit task remaining out out (Fault fault)
outside_task kit (Page target) remaining out fault is = (outside kit target remaining (Fault fault) is, refl)
outside_task kit Replay remaining out fault is = unplayed kit most_members remaining out fault is
outside_task kit Loop remaining out fault is = uncarried kit most_members remaining out fault is

pub out_of_memory : (kit : KitView) (task : Task) (remaining out out' : Option (List ℕ)) (fault : ReplayFault) → fault ≡ NoMemory → out' ≡ out → EndsTask kit task remaining out out' (Fault fault)
out_of_memory kit task remaining out out' fault is stays = rw (is, stays) (outside_task kit task remaining out NoMemory tt)

-- the end on what a reader tells is one on some bytes
pub untold : (kit : KitView) (target : Target) (remaining : Option (List ℕ)) (end : Ending) → EndsOn kit target remaining end → EndsOn kit target None end
unfolding EndsOn
untold kit target remaining end ends = (ends.0, tt, ends.2)

untold_replay : (kit : KitView) (kits : ℕ) (remaining out out' : Option (List ℕ)) (end : Ending) → EndsReplay kit kits remaining out out' end → EndsReplay kit kits None out out' end
unfolding EndsReplay
untold_replay kit kits remaining out out' (Printed status body) ends = absurd ends
untold_replay kit kits remaining out out' Replayed ends = (ends.0, tt, ends.2)
untold_replay kit kits remaining out out' (Fault fault) ends = (ends.0, tt, ends.2)

untold_loop : (kit : KitView) (kits : ℕ) (remaining out out' : Option (List ℕ)) (end : Ending) → EndsLoop kit kits remaining out out' end → EndsLoop kit kits None out out' end
unfolding EndsLoop
untold_loop kit kits remaining out out' (Printed status body) ends = absurd ends
untold_loop kit kits remaining out out' Replayed ends = (ends.0, tt, ends.2)
untold_loop kit kits remaining out out' (Fault fault) ends = (ends.0, tt, ends.2)

pub untold_task : (kit : KitView) (task : Task) (remaining out out' : Option (List ℕ)) (end : Ending) → EndsTask kit task remaining out out' end → EndsTask kit task None out out' end
untold_task kit (Page target) remaining out out' end ends = (untold kit target remaining end ends.0, ends.1)
untold_task kit Replay remaining out out' end ends = untold_replay kit most_members remaining out out' end ends
untold_task kit Loop remaining out out' end ends = untold_loop kit most_members remaining out out' end ends

pub shown : (kit : KitView) (target : Target) (remaining : Option (List ℕ)) (commands : List Stamped) (end : Ending)
    → ReadsAs site_in remaining (Ok commands) → end ≡ page_ending kit target (Ok commands) → EndsOn kit target remaining end
unfolding EndsOn ReadsAs
shown kit target remaining commands end reads is = (reads.0, reads.1, inl (is ∙ ap (page_ending kit target) (sym reads.2)))

pub missed : (kit : KitView) (target : Target) (remaining : Option (List ℕ)) (fault : ReplayFault)
    → ReadsAs site_in remaining (Err fault) → EndsOn kit target remaining (Fault fault)
unfolding EndsOn ReadsAs
missed kit target remaining NoMemory reads = (reads.0, reads.1, inr tt)
missed kit target remaining ReadFault reads = (reads.0, reads.1, inr tt)
missed kit target remaining BadSchedule reads = (reads.0, reads.1, inl (ap (page_ending kit target) (sym reads.2.1)))
missed kit target remaining WriteFault reads = absurd reads.2
