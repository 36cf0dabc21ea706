use Rattle.std.proofs.Common.{◌≡◌, ◌++◌, ◌-◌, length, map, take}
use Rattle.serde_json.specs.View.{view}
use Rattle.press_page.specs.Desk.{kept_data, posts_down}
use Rattle.press_page.proofs.desk.kept_values.Given as goal

abbrev pub invariant-loop-down : goal.invariant-loop-down
invariant-loop-down l =
    map view l.values.items ++ map kept_data (take (l.count - length l.values.items) (posts_down l.site.posts (l.from - l.down)))
    ≡ map kept_data (take l.count (posts_down l.site.posts l.from))
