use Rattle.std.proofs.Common.{◌≡◌, ◌∙◌, true, false, length, refl, sym}
use Rattle.std.proofs.lemmas.Bool.{eq-eqb, eqb-true}
use Rattle.press_handover.proofs.Taking.{left_end, left_first, left_on}
use Rattle.press_handover.proofs.kept.files_in.Goals as goal

pub loop-rest-init : goal.loop-rest-init
loop-rest-init c = λ files short are. rw c.new-files.ensures.items (left_first files c.args.bytes.now short are)

pub loop-rest-preserved : goal.loop-rest-preserved
loop-rest-preserved c = λ files short are.
    left_on files c.loop-rest.files.items c.push.new.self.items _ c.loop-rest.rest.now c.in-Some.file.now c.in-Some.behind.now (c.loop-rest.invariant files short are)
    (λ e. let none : c.is_empty.result ≡ true = c.is_empty.ensures ∙ eq-eqb (length c.loop-rest.rest.now) 0 e in let some = c.loop-rest-test.true in cc)
    c.in-Some.ensures.next refl c.in_ok-from_slice.ensures.items c.in_ok-push.ensures.items

pub returns : goal.returns
returns c = λ files short are.
    left_end files c.loop-rest.files.items c.loop-rest.rest.now (c.loop-rest.invariant files short are) (eqb-true (length c.loop-rest.rest.now) 0 (sym c.is_empty.ensures ∙ c.loop-rest-test.false))
