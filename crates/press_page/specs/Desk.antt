-- *Desk*: what editors see of a site: its posts as they are kept, whatever their status, the page that one would have, and the site itself
-- (own; the fields of a post are those of REST API Handbook, Posts, with its texts as they are kept).
use Rattle.std.specs.Prelude.{ℕ, zero, suc, Bool, false, ◌-◌, min, List, [], ◌∷◌, length, map, take, Option, Some, None, is_some, codes, count_by, bytes_eq, if◌then◌else◌}
use Rattle.serde_json.specs.Data.{Data, array, number, object, member, no_members, string, unsigned}
use Rattle.serde_json.specs.View.{items_of}
use Rattle.press_text.specs.declared.every.Every.{Every}
use Rattle.press_text.specs.declared.every.Every.TheVariants.{Once, Hourly, TwiceDaily, Daily}
use Rattle.press_posts.specs.declared.post.Post.{Post}
use Rattle.press_posts.specs.PostChange.{post_at}
use Rattle.press_posts.specs.Transitions.{status_word}
use Rattle.press_events.specs.declared.event.Event.{Event}
use Rattle.press_site.specs.SiteView.{SiteView}
use Rattle.press_callbacks.specs.Kits.{KitView}
use Rattle.press_callbacks.specs.declared.plugin.Plugin.{Plugin}
use Rattle.press_page.specs.declared.desk.Desk.{Desk}
use Rattle.press_page.specs.declared.desk.Desk.TheVariants as desk
use Rattle.press_page.specs.declared.reply.Reply.{Reply}
use Rattle.press_page.specs.Json.{json_reply, status_reply}
use Rattle.press_page.specs.Page.{not_found, page_with}

-- ---- posts as they are kept

abbrev pub kept_data : Post → Data
kept_data post =
    object (member (codes "content") (string post.content)
    (member (codes "date") (number (unsigned post.date))
    (member (codes "id") (number (unsigned post.id))
    (member (codes "status") (string (status_word post.status))
    (member (codes "title") (string post.title) no_members)))))

abbrev pub kept_reply : Option Post → Reply
kept_reply None = status_reply 404
kept_reply (Some post) = json_reply 200 (kept_data post)

abbrev pub before_others : Option Post → List Post → List Post
before_others None posts = posts
before_others (Some post) posts = post ∷ posts

-- those with ids up to this one, the greatest id first
abbrev pub posts_down : List (Option Post) → ℕ → List Post
posts_down posts zero = []
posts_down posts (suc id) = before_others (post_at posts (suc id)) (posts_down posts id)

-- those with ids below this one: the first of them, so many and 100 at most
abbrev pub posts_below : List (Option Post) → ℕ → ℕ → List Post
posts_below posts before count = take (min count 100) (posts_down posts (min (before - 1) (length posts)))

abbrev pub posts_data : List Post → Data
posts_data posts = object (member (codes "posts") (array (items_of (map kept_data posts))) no_members)

-- ---- the site

abbrev pub every_word : Every → List ℕ
every_word Once = codes "once"
every_word Hourly = codes "hourly"
every_word TwiceDaily = codes "twicedaily"
every_word Daily = codes "daily"

abbrev pub event_data : Event → Data
event_data event =
    object (member (codes "arg") (string event.arg)
    (member (codes "every") (string (every_word event.every))
    (member (codes "hook") (string event.hook)
    (member (codes "time") (number (unsigned event.time)) no_members))))

abbrev pub option_data : List ℕ × List ℕ → Data
option_data option = object (member (codes "name") (string option.0) (member (codes "value") (string option.1) no_members))

-- there is a post, and its status has this word
abbrev pub has_status : List ℕ → Option Post → Bool
has_status word None = false
has_status word (Some post) = bytes_eq (status_word post.status) word

-- how many posts have the status of this word
abbrev pub count_of : List (Option Post) → List ℕ → ℕ
count_of posts word = count_by (has_status word) posts

abbrev pub counts_data : List (Option Post) → Data
counts_data posts =
    object (member (codes "draft") (number (unsigned (count_of posts (codes "draft"))))
    (member (codes "future") (number (unsigned (count_of posts (codes "future"))))
    (member (codes "pending") (number (unsigned (count_of posts (codes "pending"))))
    (member (codes "private") (number (unsigned (count_of posts (codes "private"))))
    (member (codes "publish") (number (unsigned (count_of posts (codes "publish"))))
    (member (codes "trash") (number (unsigned (count_of posts (codes "trash")))) no_members))))))

-- of a node that has applied so many commands
abbrev pub site_data : KitView → SiteView → ℕ → Data
site_data kit site applied =
    object (member (codes "active") (array (items_of (map string site.active)))
    (member (codes "applied") (number (unsigned applied))
    (member (codes "counts") (counts_data site.posts)
    (member (codes "events") (array (items_of (map event_data site.events)))
    (member (codes "moment") (number (unsigned site.moment))
    (member (codes "options") (array (items_of (map option_data site.options)))
    (member (codes "plugins") (array (items_of (map (λ (plugin : Plugin). string plugin.name) kit.plugins)))
    (member (codes "profile") (number (unsigned site.profile)) no_members))))))))

-- ---- what is asked

-- a page doesn't say of which status its post is, so a post's page is the one that it would have if it were published now
abbrev pub desk_of : KitView → SiteView → ℕ → Desk → Reply
desk_of kit site applied (desk.Posts before count) = json_reply 200 (posts_data (posts_below site.posts before count))
desk_of kit site applied (desk.Post id) = kept_reply (post_at site.posts id)
desk_of kit site applied (desk.Preview id) = if is_some (post_at site.posts id) then page_with kit site (id ∷ []) else not_found
desk_of kit site applied desk.Site = json_reply 200 (site_data kit site applied)
