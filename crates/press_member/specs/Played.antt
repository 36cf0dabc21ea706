-- What a member's parts say of an event that was played (own).
use Rattle.std.specs.Prelude.{◌≡◌, Option, None, Some, Result, IfOk}
use Rattle.std.specs.declared.alloc.AllocError.{AllocError}
use Rattle.press_node.specs.declared.fault.NodeFault.{NodeFault}
use Rattle.press_node.specs.declared.node.Node.{Node}
use Rattle.press_member.specs.Turns.{Moment}
use Rattle.press_member.specs.declared.player.Played.{Played}
use Rattle.press_member.specs.declared.player.Player.{Player}
use Rattle.press_member.specs.declared.player.Played.TheVariants.{Refused, Done}

-- why it was refused
abbrev pub refusal_in : Played → Option NodeFault
refusal_in (Refused fault) = Some fault
refusal_in (Done asks) = None

-- what is returned says so
abbrev pub SaysRefused : Result Played AllocError → Option NodeFault → Type 0
SaysRefused result refused = IfOk result (λ played. refusal_in played ≡ refused)

abbrev pub moment_of : {S : _} {t : _} {F : _} {g : _} → Player S t F g → Moment (Node S t F g)
moment_of player = record { node = player.node; own = player.own.items; stop = player.stopped_by }
