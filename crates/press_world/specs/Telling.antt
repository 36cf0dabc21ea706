-- What is reported of a step that was played (own): whose step it was, the messages that were sent,
-- whether it was cut, how many slots its node has applied, and the reply to a request for a page.
use Rattle.std.specs.Prelude.{ℕ, ◌+◌, ◌-◌, ◌==◌, if◌then◌else◌, Bool, true, false, Option, None, Some, option_map, length}
use Rattle.press_apply.specs.Apply.{site_after}
use Rattle.press_callbacks.specs.Kits.{KitView}
use Rattle.press_page.specs.Page.{page_of}
use Rattle.press_page.specs.declared.reply.Reply.{Reply}
use Rattle.press_page.specs.declared.reply.Target.{Target}
use Rattle.press_wire.specs.declared.message.Message.{Message}
use Rattle.press_node.specs.NodeEvent.{RunningNode}
use Rattle.press_world.specs.Refusing.{place_numbered, message_numbered}
use Rattle.press_world.specs.Stored.{StoredWorld}
use Rattle.press_world.specs.Worlds.{Place}
use Rattle.press_world.specs.declared.played.Played.{Played}
use Rattle.press_world.specs.declared.step.Cut.{Cut}
use Rattle.press_world.specs.declared.step.Step.{Step}
use Rattle.press_world.specs.declared.step.Step.TheVariants.{Submit, Wake, Deliver, Restart, Get}

abbrev pub number_to : Option Message → ℕ
number_to None = 0
number_to (Some message) = message.to

-- whose step it is
abbrev pub node_of : StoredWorld → Step → ℕ
node_of s (Submit number command cut) = number
node_of s (Wake number cut) = number
node_of s (Deliver number cut) = number_to (message_numbered s number)
node_of s (Restart number) = number
node_of s (Get number target) = number

abbrev pub is_cut : Option Cut → Bool
is_cut None = false
is_cut (Some cut) = true

abbrev pub stops_node : Step → Bool
stops_node (Submit number command cut) = is_cut cut
stops_node (Wake number cut) = is_cut cut
stops_node (Deliver number cut) = is_cut cut
stops_node (Restart number) = false
stops_node (Get number target) = false

-- how many slots are applied: where the node is down, none
abbrev pub applied_count_at : Place → Option ℕ
applied_count_at place = option_map (λ node. length node.values) place.up

abbrev pub applied_count_in : Option Place → Option ℕ
applied_count_in None = None
applied_count_in (Some place) = applied_count_at place

abbrev pub or_none : Option ℕ → ℕ
or_none None = 0
or_none (Some count) = count

-- the page of the values that the node has applied
abbrev pub reply_where : KitView → Option RunningNode → Target → Option Reply
reply_where kit None target = None
reply_where kit (Some node) target = Some (page_of kit (site_after kit node.values) target)

abbrev pub reply_at : KitView → Option Place → Target → Option Reply
reply_at kit None target = None
reply_at kit (Some place) target = reply_where kit place.up target

abbrev pub reply_of : KitView → StoredWorld → Step → Option Reply
reply_of kit s (Get number target) = reply_at kit (place_numbered s number) target
reply_of kit s (Submit number command cut) = None
reply_of kit s (Wake number cut) = None
reply_of kit s (Deliver number cut) = None
reply_of kit s (Restart number) = None

-- the number of the first of so many messages, where so many were sent before
abbrev pub first_of : ℕ → ℕ → ℕ
first_of before count = if count == 0 then 0 else before + 1

abbrev pub step_result : KitView → StoredWorld → StoredWorld → Step → Played
step_result kit before after s =
    record {
      node = node_of before s;
      first = first_of (length before.sent) (length after.sent - length before.sent);
      count = length after.sent - length before.sent;
      stopped = stops_node s;
      applied = or_none (applied_count_in (place_numbered after (node_of before s)));
      reply = reply_of kit before s;
    }
