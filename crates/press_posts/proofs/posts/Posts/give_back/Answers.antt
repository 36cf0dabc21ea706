use Rattle.std.proofs.Common.{◌≡◌, ◌∙◌, sym, ap, ℕ, ◌-◌, ◌<◌, ◌≤◌, List, [], ◌∷◌, ◌++◌, length, get_or, Option, Some, None, arith}
use Rattle.std.specs.Prelude.{vec_len}
use Rattle.std.specs.Option.{option_to_list}
use Rattle.press_posts.specs.declared.post.Post.{Post}
use Rattle.press_posts.specs.PostChange.{post_at}
use Rattle.press_posts.proofs.Keeping.{at_place, shorter}
use Rattle.press_posts.proofs.posts.Posts.give_back.Goals as goal

last : (posts front : List (Option Post)) (n : ℕ) (r : Option (Option Post)) → n ≡ length posts → posts ≡ front ++ option_to_list r → (0 < n → r ≡ Some (get_or posts (n - 1) None)) → 1 ≤ length posts → post_at posts (length posts) ≡ None → posts ≡ front ++ None ∷ []
last posts front n r len at is some e =
    let here : r ≡ Some (get_or posts (length posts - 1) None) = is (omega arith) ∙ ap (λ (k : ℕ). let o : Option (Option Post) = Some (get_or posts (k - 1) None) in o) len in
    let empty : r ≡ Some None = here ∙ ap (λ (o : Option Post). let p : Option (Option Post) = Some o in p) (sym (at_place posts (length posts) some) ∙ e) in
    at ∙ ap (λ (o : Option (Option Post)). front ++ option_to_list o) empty

pub invariant_of-self : goal.invariant_of-self
invariant_of-self c =
    let r = rw (← c.self.view_is) at c.requires in
    let l = last _ _ (vec_len c.self.inside.places) _ (omega arith) c.pop.ensures.items (c.pop.ensures.value None) r.0 r.1 in
    shorter _ _ _ _ (rw l at c.self.invariant)
