-- Pages as they were before a site had a profile: their callbacks come to what they came to then. What is the same is told by the words of Page and Json,
-- over a meaning of callbacks.
use Rattle.std.specs.Prelude.{ℕ, List, [], ◌∷◌, take, Option, Some, None, is_some, if◌then◌else◌}
use Rattle.press_callbacks.specs.Kits.{KitView}
use Rattle.press_posts.specs.declared.post.Post.{Post}
use Rattle.press_posts.specs.PostChange.{post_at}
use Rattle.press_posts.specs.Published.{published}
use Rattle.press_site.specs.SiteView.{SiteView}
use Rattle.press_run.specs.Earlier as runs
use Rattle.press_run.specs.Links.{read_only}
use Rattle.press_run.specs.Run.{Meaning}
use Rattle.press_page.specs.declared.reply.Reply.{Reply}
use Rattle.press_page.specs.declared.reply.Target.{Target}
use Rattle.press_page.specs.declared.reply.Target.TheVariants as target
use Rattle.press_page.specs.Json.{body_or_limit, post_body, status_reply}
use Rattle.press_page.specs.Page.{not_found, page_or_limit, public_post, site_name, whole_page}
use Rattle.press_page.specs.Page as now
use Rattle.press_page.specs.Steps.{state_after_boot}

-- what the callbacks of a kit came to, over a site that is only read
abbrev pub callbacks_on : KitView → Meaning
callbacks_on kit = runs.callbacks_of read_only kit.scripts

-- the page of the posts of these ids
abbrev pub page_with : KitView → SiteView → List ℕ → Reply
page_with kit site ids = page_or_limit (whole_page (callbacks_on kit) (site_name site) site.posts ids (state_after_boot kit site))

-- a post in JSON
abbrev pub post_reply : KitView → SiteView → Option Post → Reply
post_reply kit site None = status_reply 404
post_reply kit site (Some post) = body_or_limit (post_body (callbacks_on kit) post (state_after_boot kit site))

-- what is asked for; an outcome runs no callback
abbrev pub page_of : KitView → SiteView → Target → Reply
page_of kit site target.Front = page_with kit site (take 10 (published site.posts))
page_of kit site (target.Post id) = if is_some (public_post (post_at site.posts id)) then page_with kit site (id ∷ []) else not_found
page_of kit site (target.Json id) = post_reply kit site (public_post (post_at site.posts id))
page_of kit site (target.Result token) = now.page_of kit site (target.Result token)
