-- The front page that a member keeps (own).
use Rattle.std.specs.Prelude.{◌≡◌, ◌⊎◌, true, Option, None, Some, option_map, Result, Ok, Err}
use Rattle.press_callbacks.specs.Kits.{KitView}
use Rattle.press_apply.specs.Apply.{site_after}
use Rattle.press_page.specs.Page.{page_of}
use Rattle.press_page.specs.declared.reply.Reply.{Reply}
use Rattle.press_page.specs.declared.reply.Target.{Target}
use Rattle.press_page.specs.declared.reply.Target.TheVariants.{Front}
use Rattle.press_node.specs.Nodes.{IsPageAt}
use Rattle.press_node.specs.States.{NodeState, Up, is_down_where}
use Rattle.press_node.specs.declared.fault.NodeFault.{NodeFault}
use Rattle.press_node.specs.declared.fault.NodeFault.TheVariants.{Down, NoMemory}

-- that of what a node has applied, while it is up
abbrev pub front_at : KitView → NodeState → Option Reply
front_at kit state = option_map (λ up. page_of kit (site_after kit up.running.values) Front) state.up

-- the kept one, or else another
abbrev pub or_else : Option Reply → Option Reply → Option Reply
or_else None other = other
or_else (Some reply) other = Some reply

-- where one is kept, it is that of what the node has applied
abbrev pub IsShown : KitView → NodeState → Option Reply → Type 0
IsShown kit state kept = or_else kept (front_at kit state) ≡ front_at kit state

-- the page, or why there is none
abbrev pub Gets : KitView → Option Up → Target → Result Reply NodeFault → Type 0
Gets kit up target (Ok reply) = IsPageAt kit up target reply
Gets kit up target (Err fault) = ((fault ≡ Down) × (is_down_where up ≡ true)) ⊎ (fault ≡ NoMemory)
