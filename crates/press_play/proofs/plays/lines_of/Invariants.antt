use Rattle.std.proofs.Common.{◌≡◌, ◌++◌, string_bytes}
use Rattle.press_callbacks.specs.Kits.{scripts_in, plugins_in}
use Rattle.press_run.specs.Boot.{boot_with}
use Rattle.press_run.specs.Outcome.{state_at_start}
use Rattle.press_play.specs.Lines.{lines, state_in}
use Rattle.press_play.proofs.Onward.{rest}
use Rattle.press_play.proofs.plays.lines_of.Given as goal

abbrev pub invariant-loop-play : goal.invariant-loop-play
invariant-loop-play g l = string_bytes l.playing.lines ++ rest (scripts_in l.kit) l.plays l.play-index (state_in l.playing.machine) ≡ lines (scripts_in l.kit) l.plays (state_at_start (boot_with (plugins_in l.kit) l.fn.site.active) l.fn.site)
