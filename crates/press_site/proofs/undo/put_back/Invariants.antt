use Rattle.std.proofs.Common.{◌≡◌, vec_len}
use Rattle.press_site.specs.Back.{MayPostsGoBack, options_back, posts_back}
use Rattle.press_site.proofs.undo.put_back.Given as goal

abbrev pub invariant-loop-last : goal.invariant-loop-last
invariant-loop-last l =
    MayPostsGoBack l.stood.items l.content.posts
    × (posts_back l.stood.items l.content.posts ≡ posts_back l.initial.stood.items l.initial.content.posts)
    × (l.content.events ≡ l.initial.content.events)
    × (options_back l.stood.items l.options ≡ options_back l.initial.stood.items l.initial.options)

abbrev pub decreases-loop-last : goal.decreases-loop-last
decreases-loop-last l = vec_len l.stood
