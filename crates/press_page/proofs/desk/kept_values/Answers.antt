use Rattle.std.proofs.Common.{◌≡◌, ◌∙◌, length, map, option_map, take, sym, ap, subst, arith, ◌+◌, ◌-◌, true, false}
use Rattle.serde_json.specs.View.{view}
use Rattle.press_posts.specs.PostChange.{post_at}
use Rattle.press_page.specs.Desk.{kept_data, posts_down}
use Rattle.press_page.proofs.Desks.{none_told, value_told}
use Rattle.press_page.proofs.desk.kept_values.Goals.{in-Some+in_ok-kept_value+in_ok-push, in_default}
use Rattle.press_page.proofs.desk.kept_values.Goals as goal

pub loop-down-preserved : goal.loop-down-preserved
loop-down-preserved c = elim c.match-post.branch [
  | in-Some+in_ok-kept_value+in_ok-push w ↦
      value_told c.loop-down.values.items c.match-post.values.items w.in_ok-kept_value.field-0 (map kept_data (take c.args.count (posts_down c.args.site.now.posts c.args.from)))
      c.args.site.now.posts c.args.from c.loop-down.down w.in-Some.post.now c.args.count
      (ap (λ v. v.items) w.values-is ∙ w.in_ok-push.ensures.items) w.in_ok-kept_value.ensures c.loop-down-test.true (omega (arith, c.len.ensures, c.if-len-count.false))
      (subst (λ o. post_at c.args.site.now.posts (c.args.from - c.loop-down.down) ≡ option_map (λ p. p.now) o) w.in-Some.is (sym c.post.ensures)) c.loop-down.invariant
  | in_default w ↦ rw (w.values-is)
      (none_told (map view c.loop-down.values.items) (map kept_data (take c.args.count (posts_down c.args.site.now.posts c.args.from)))
      c.args.site.now.posts c.args.from c.loop-down.down (c.args.count - length c.loop-down.values.items) c.loop-down-test.true
      (subst (λ o. post_at c.args.site.now.posts (c.args.from - c.loop-down.down) ≡ option_map (λ p. p.now) o) w.in_default.is (sym c.post.ensures)) c.loop-down.invariant)
]
