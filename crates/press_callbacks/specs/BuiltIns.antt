-- The callbacks that every machine has: `do_shortcode` answers the shortcode scan of its first argument (Shortcode API, `do_shortcode`);
-- `check_and_publish_future_post` publishes the post whose id is its first argument, if it is future and due (WP-Cron, `check_and_publish_future_post`).
use Rattle.std.specs.Prelude.{ℕ, List, Bool, ◌||◌, codes, bytes_eq}

abbrev pub do_shortcode : List ℕ
do_shortcode = codes "do_shortcode"

abbrev pub check_and_publish_future_post : List ℕ
check_and_publish_future_post = codes "check_and_publish_future_post"

abbrev pub is_built_in : List ℕ → Bool
is_built_in name = bytes_eq name do_shortcode || bytes_eq name check_and_publish_future_post
