-- Work whose check is passed.
use Rattle.std.proofs.Common.{◌≡◌, ap, ℕ, Ok}
use Rattle.std.specs.Prelude.{codes}
use Rattle.press_posts.specs.declared.post.Move.TheVariants as move
use Rattle.press_posts.specs.PostChange.{post_at}
use Rattle.press_site.specs.declared.effect.Effect.TheVariants as effect
use Rattle.press_run.specs.Run.{Meaning, State}
use Rattle.press_apply.specs.Apply.{◌>>=◌, change_between, delete_fault, delete_work, move_fault, passes, trash_work, untrash_work}

pub trash_is : (callback : Meaning) (id : ℕ) (s : State) (u : Unit {0}) → passes (move_fault move.Trash (post_at s.site.posts id)) ≡ Ok u → trash_work callback id s ≡ change_between callback (codes "wp_trash_post") (effect.Move id move.Trash) (codes "trashed_post") id s
unfolding trash_work
trash_is callback id s u e = ap (λ x. x >>= λ _. change_between callback (codes "wp_trash_post") (effect.Move id move.Trash) (codes "trashed_post") id s) e

pub untrash_is : (callback : Meaning) (id : ℕ) (s : State) (u : Unit {0}) → passes (move_fault move.Untrash (post_at s.site.posts id)) ≡ Ok u → untrash_work callback id s ≡ change_between callback (codes "untrash_post") (effect.Move id move.Untrash) (codes "untrashed_post") id s
unfolding untrash_work
untrash_is callback id s u e = ap (λ x. x >>= λ _. change_between callback (codes "untrash_post") (effect.Move id move.Untrash) (codes "untrashed_post") id s) e

pub delete_is : (callback : Meaning) (id : ℕ) (s : State) (u : Unit {0}) → passes (delete_fault (post_at s.site.posts id)) ≡ Ok u → delete_work callback id s ≡ change_between callback (codes "before_delete_post") (effect.Delete id) (codes "deleted_post") id s
unfolding delete_work
delete_is callback id s u e = ap (λ x. x >>= λ _. change_between callback (codes "before_delete_post") (effect.Delete id) (codes "deleted_post") id s) e
