use Rattle.std.proofs.Common.{◌<◌, ◌+◌, ◌^◌, List, [], length, refl, subst, arith}
use Rattle.press_callbacks.specs.Kits.{kit_view}
use Rattle.press_site.specs.Effects.{no_site}
use Rattle.press_handover.specs.Comparing.{Told, course_of}
use Rattle.press_handover.specs.Voted.{voted_values}
use Rattle.press_handover.specs.declared.otherwise.Otherwise.{Otherwise}
use Rattle.press_handover.proofs.Blocks.{values_few}
use Rattle.press_handover.proofs.Courses.{same_sites, tells}
use Rattle.press_handover.proofs.comparing.compare_kits.Goals as goal

pub returns-clause-compared : goal.returns-clause-compared
returns-clause-compared g c = λ h.
    let kept = (g.S.PromiseStore.seen c.args.store.now).kept in
    let few = values_few kept in
    let room : 0 + length (voted_values kept) < 2 ^ 64 = omega (arith, few) in
    let told = tells (λ v. course_of v) (voted_values kept) _ c.visit_all.new.visitor [] room (record { first = c.new-3.ensures.items; count = refl }) (c.in_ok-visit_all.ensures.visits h) in
    let same = same_sites [] (voted_values kept) (kit_view c.args.old.now) (kit_view c.args.new.now) _ _ no_site no_site c.new.result c.new-2.result refl refl c.new.ensures c.new-2.ensures in
    rw c.into_compared.ensures (subst (λ (ys : List Otherwise). Told c.visit_all.new.visitor.compared ys) same told)
