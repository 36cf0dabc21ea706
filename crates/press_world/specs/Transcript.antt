-- Transcript: for each step a line of its number, what it does and what came of it, below a page's
-- line the page, and last what each node has applied (own).
use Rattle.std.specs.Prelude.{ℕ, ◌+◌, ◌-◌, ◌==◌, Bool, true, false, if◌then◌else◌, List, [], ◌++◌, length, flat_map, Option, Some, None, Result, Ok, Err, codes, decimal}
use Rattle.press_page.specs.declared.reply.Reply.{Reply}
use Rattle.press_page.specs.declared.reply.Target.{Target}
use Rattle.press_page.specs.declared.reply.Target.TheVariants as target
use Rattle.press_world.specs.declared.fault.WorldFault.{WorldFault}
use Rattle.press_world.specs.declared.played.Played.{Played}
use Rattle.press_world.specs.declared.step.Step.{Step}
use Rattle.press_world.specs.declared.step.Step.TheVariants.{Submit, Wake, Deliver, Restart, Get}
use Rattle.press_world.specs.WorldFaults.{world_fault_number}

-- what is asked, as a schedule spells it
abbrev pub target_text : Target → List ℕ
target_text target.Front = codes "front"
target_text (target.Post id) = codes "post:" ++ decimal id
target_text (target.Json id) = codes "json:" ++ decimal id
target_text (target.Result token) =
    codes "result:" ++ token.editor ++ codes "/" ++ decimal token.seq

-- the node that a message is to, where there is that message
abbrev pub receiver_text : Option ℕ → List ℕ
receiver_text None = []
receiver_text (Some node) = codes " node " ++ decimal node

abbrev pub step_text : Option ℕ → Step → List ℕ
step_text to (Submit node command cut) = codes "submit " ++ decimal node
step_text to (Wake node cut) = codes "wake " ++ decimal node
step_text to (Deliver message cut) = codes "deliver " ++ decimal message ++ receiver_text to
step_text to (Restart node) = codes "restart " ++ decimal node
step_text to (Get node target) = codes "get " ++ decimal node ++ codes " " ++ target_text target

-- the numbers of the first and the last message sent
abbrev pub sent_text : ℕ → ℕ → List ℕ
sent_text first count =
    if count == 0 then codes " sent 0"
    else codes " sent " ++ decimal first ++ codes "-" ++ decimal (first + count - 1)

abbrev pub applied_text : ℕ → List ℕ
applied_text applied = codes " k=" ++ decimal applied

-- a node that was stopped has nothing in memory
abbrev pub left_text : Bool → ℕ → List ℕ
left_text true applied = codes " stop"
left_text false applied = applied_text applied

-- a page's status and how many bytes it has stand in place of the messages
abbrev pub played_text : Option Reply → Played → List ℕ
played_text None p = sent_text p.first p.count ++ left_text p.stopped p.applied
played_text (Some page) p =
    codes " " ++ decimal page.status ++ codes " " ++ decimal (length page.body)
    ++ applied_text p.applied

abbrev pub outcome_text : Result Played WorldFault → List ℕ
outcome_text (Ok p) = played_text p.reply p
outcome_text (Err fault) = codes " fault " ++ decimal (world_fault_number fault)

-- a page on lines of its own
abbrev pub page_text : Option Reply → List ℕ
page_text None = []
page_text (Some page) = page.body ++ codes "\n"

abbrev pub page_of : Result Played WorldFault → Option Reply
page_of (Ok p) = p.reply
page_of (Err fault) = None

abbrev pub head_line : Option ℕ → ℕ → Step → Result Played WorldFault → List ℕ
head_line to number step played =
    decimal number ++ codes " " ++ step_text to step ++ outcome_text played ++ codes "\n"

unfoldable pub step_line : Option ℕ → ℕ → Step → Result Played WorldFault → List ℕ
step_line to number step played = head_line to number step played ++ page_text (page_of played)

-- what a node has applied, where it is up
abbrev pub node_text : Option ℕ → List ℕ
node_text None = codes " -"
node_text (Some applied) = codes " " ++ decimal applied

unfoldable pub end_line : List (Option ℕ) → List ℕ
end_line nodes = codes "end" ++ flat_map node_text nodes ++ codes "\n"
