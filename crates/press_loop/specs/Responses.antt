-- The reply to a step that came by a request: its page, that it waits, that it was taken, or the
-- status of the fault that refuses it. Where a stop cut the step, or there is no such node or
-- message, the connection is closed without one (RFC 9112, 9.6; own).
use Rattle.std.specs.Prelude.{ℕ, List, [], if◌then◌else◌, Option, None, Some, option_map, Result, Ok, Err}
use Rattle.press_http.specs.Replies.{fixed_reply, reply_bytes}
use Rattle.press_node.specs.Serving.{queued_reply, status_of_node, taken_reply}
use Rattle.press_page.specs.declared.reply.Reply.{Reply}
use Rattle.press_world.specs.declared.fault.WorldFault.{WorldFault}
use Rattle.press_world.specs.declared.fault.WorldFault.TheVariants.{NoSuchMessage, NoSuchNode, Node}
use Rattle.press_world.specs.declared.played.Played.{Played}
use Rattle.press_world.specs.declared.step.Step.{Step}
use Rattle.press_world.specs.declared.step.Step.TheVariants.{Submit, Wake, Deliver, Restart, Get}

abbrev pub without_page : Step → Reply
without_page (Submit node command cut) = queued_reply
without_page (Wake node cut) = taken_reply
without_page (Deliver message cut) = taken_reply
without_page (Restart node) = taken_reply
without_page (Get node target) = taken_reply

abbrev pub page_or : Reply → Option Reply → Reply
page_or other None = other
page_or other (Some page) = page

-- to a step that was played
abbrev pub reply_for : Step → Played → Reply
reply_for step played = page_or (without_page step) played.reply

abbrev pub reply_to : Step → Result Played WorldFault → Option Reply
reply_to step (Ok played) = if played.stopped then None else Some (reply_for step played)
reply_to step (Err (Node fault)) = Some (fixed_reply (status_of_node fault))
reply_to step (Err NoSuchMessage) = None
reply_to step (Err NoSuchNode) = None

abbrev pub status_to : Step → Result Played WorldFault → Option ℕ
status_to step played = option_map (λ reply. reply.status) (reply_to step played)

abbrev pub bytes_of : Option Reply → List ℕ
bytes_of None = []
bytes_of (Some reply) = reply_bytes reply
