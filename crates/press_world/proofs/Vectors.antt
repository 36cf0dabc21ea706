-- Lines of transcripts, byte by byte.
use Rattle.std.proofs.Common.{◌≡◌, ℕ, refl, true, false, [], ◌∷◌, codes}
use Rattle.std.specs.Prelude.{Some, None, Result, Ok, Err}
use Rattle.std.specs.Fmt.{digits}
use Rattle.press_apply.specs.declared.command.Stamped.{Stamped}
use Rattle.press_node.specs.declared.fault.NodeFault.TheVariants.{Down}
use Rattle.press_page.specs.declared.reply.Reply.{Reply}
use Rattle.press_page.specs.declared.reply.ContentKind.TheVariants.{Html, Json}
use Rattle.press_page.specs.declared.reply.Target.TheVariants as target
use Rattle.press_world.specs.declared.fault.WorldFault.{WorldFault}
use Rattle.press_world.specs.declared.fault.WorldFault.TheVariants.{NoSuchMessage, NoSuchNode, Node}
use Rattle.press_world.specs.declared.played.Played.{Played}
use Rattle.press_world.specs.declared.step.Cut.TheVariants.{AfterMessages, AfterSave}
use Rattle.press_world.specs.declared.step.Step.TheVariants.{Submit, Wake, Deliver, Restart, Get}
use Rattle.press_world.specs.Transcript.{step_line, end_line}

abbrev sent : ℕ → ℕ → ℕ → ℕ → Result Played WorldFault
sent node first count applied = Ok (record { node = node; first = first; count = count; stopped = false; applied = applied; reply = None })

abbrev stopped : ℕ → ℕ → ℕ → Result Played WorldFault
stopped node first count = Ok (record { node = node; first = first; count = count; stopped = true; applied = 0; reply = None })

abbrev shown : ℕ → Reply → ℕ → Result Played WorldFault
shown node reply applied = Ok (record { node = node; first = 0; count = 0; stopped = false; applied = applied; reply = Some reply })

submit : (command : Stamped) → step_line None 1 (Submit 1 command None) (sent 1 0 0 0) ≡ codes "1 submit 1 sent 0 k=0\n"
unfolding digits step_line
submit command = refl

wake : step_line None 2 (Wake 1 None) (sent 1 1 3 0) ≡ codes "2 wake 1 sent 1-3 k=0\n"
unfolding digits step_line
wake = refl

deliver : step_line (Some 1) 3 (Deliver 1 None) (sent 1 4 1 0) ≡ codes "3 deliver 1 node 1 sent 4-4 k=0\n"
unfolding digits step_line
deliver = refl

get : step_line None 21 (Get 3 (target.Result (record { editor = codes "ann"; seq = 1 }))) (shown 3 (record { status = 200; kind = Json; body = codes "{\"done\":1}" }) 1)
    ≡ codes "21 get 3 result:ann/1 200 10 k=1\n{\"done\":1}\n"
unfolding digits step_line
get = refl

get_nothing : step_line None 4 (Get 2 target.Front) (shown 2 (record { status = 404; kind = Html; body = [] }) 0) ≡ codes "4 get 2 front 404 0 k=0\n\n"
unfolding digits step_line
get_nothing = refl

cut : step_line (Some 2) 8 (Deliver 7 (Some (AfterMessages 1))) (stopped 2 12 1) ≡ codes "8 deliver 7 node 2 sent 12-12 stop\n"
unfolding digits step_line
cut = refl

cut_unsent : step_line None 9 (Wake 2 (Some AfterSave)) (stopped 2 0 0) ≡ codes "9 wake 2 sent 0 stop\n"
unfolding digits step_line
cut_unsent = refl

restart : step_line None 10 (Restart 2) (sent 2 0 0 7) ≡ codes "10 restart 2 sent 0 k=7\n"
unfolding digits step_line
restart = refl

no_message : step_line None 5 (Deliver 99 None) (Err NoSuchMessage) ≡ codes "5 deliver 99 fault 70\n"
unfolding digits step_line
no_message = refl

no_node : step_line None 6 (Wake 4 None) (Err NoSuchNode) ≡ codes "6 wake 4 fault 71\n"
unfolding digits step_line
no_node = refl

get_down : step_line None 9 (Get 2 (target.Post 1)) (Err (Node Down)) ≡ codes "9 get 2 post:1 fault 63\n"
unfolding digits step_line
get_down = refl

deliver_down : step_line (Some 2) 10 (Deliver 7 None) (Err (Node Down)) ≡ codes "10 deliver 7 node 2 fault 63\n"
unfolding digits step_line
deliver_down = refl

end_up : end_line (Some 1 ∷ Some 1 ∷ Some 1 ∷ []) ≡ codes "end 1 1 1\n"
unfolding digits end_line
end_up = refl

end_down : end_line (Some 12 ∷ None ∷ []) ≡ codes "end 12 -\n"
unfolding digits end_line
end_down = refl
