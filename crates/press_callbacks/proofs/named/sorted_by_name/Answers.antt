use Rattle.std.proofs.Common.{rules}
use Rattle.std.proofs.lemmas.List.Sorted.{answers_always}
use Rattle.press_text.specs.NameOrder.{is_before}
use Rattle.press_callbacks.proofs.Ordered.{order_of, in_order_sorted}
use Rattle.press_callbacks.proofs.named.sorted_by_name.Goals as goal

pub returns-clause-sorted : goal.returns-clause-sorted
returns-clause-sorted g c =
    in_order_sorted g.T.Named.name _
    (c.sort_unstable_by.ensures.sorted (λ x y. is_before (g.T.Named.name x) (g.T.Named.name y)) (order_of g.T.Named.name)
    (answers_always _ _ _ (λ f a r g' k. search rules)))
