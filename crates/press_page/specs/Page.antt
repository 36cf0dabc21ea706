-- A page of a site: a fresh boot with its three actions, the template, and the filters of each post's title and content, over a site that is only read
-- (Plugin Handbook, Hooks: `wp_head`, `the_title`, `the_content`, `wp_footer`; Options API, `blogname`; the template is own).
use Rattle.std.specs.Prelude.{◌≡◌, ℕ, List, [], ◌∷◌, take, Option, Some, None, is_some, unwrap_or, Result, MatchResult, codes, decimal, if◌then◌else◌}
use Rattle.press_text.specs.Escapes.{escaped_text}
use Rattle.press_posts.specs.declared.post.Post.{Post}
use Rattle.press_posts.specs.PostChange.{post_at, is_publish}
use Rattle.press_posts.specs.Published.{published}
use Rattle.press_site.specs.Options.{option_of}
use Rattle.press_site.specs.Outcomes.{outcome_of}
use Rattle.press_site.specs.SiteView.{SiteView}
use Rattle.press_callbacks.specs.Kits.{KitView}
use Rattle.press_run.specs.declared.run_fault.RunFault.{RunFault}
use Rattle.press_run.specs.Run.{◌>>=◌, State, Meaning, apply_hook, callbacks_of}
use Rattle.press_run.specs.Boot.{bare, boot_actions}
use Rattle.press_run.specs.Links.{read_only}
use Rattle.press_page.specs.declared.reply.Target.{Target}
use Rattle.press_page.specs.declared.reply.Target.TheVariants as target
use Rattle.press_page.specs.declared.reply.Reply.{Reply}
use Rattle.press_page.specs.declared.reply.ContentKind.TheVariants.{Html}
use Rattle.press_page.specs.Json.{post_reply, result_reply}
use Rattle.press_run.specs.Outcome.{Refuses}
use Rattle.press_page.specs.Steps.{state_after_boot, fires, puts}
use Rattle.press_page.specs.Template.{title_part, heading_part, article_part, after_title, after_content, end_part, fixed_body}

-- up to the articles
unfoldable pub page_opening : Meaning → List ℕ → State → Option State
page_opening callback name s = do
  loaded ← fires callback boot_actions s
  titled ← puts (title_part name) loaded
  head ← fires callback (bare (codes "wp_head") ∷ []) titled
  puts (heading_part name) head

-- a filter's answer goes to the output
unfoldable pub puts_filtered : Meaning → List ℕ → List (List ℕ) → State → Option State
puts_filtered callback hook args s = do
  a ← apply_hook callback hook args s
  puts a.text a.state

-- the title gets the post's id beside it
unfoldable pub article_head : Meaning → Post → State → Option State
article_head callback post s = do
  begun ← puts (article_part (decimal post.id)) s
  titled ← puts_filtered callback (codes "the_title") (post.title ∷ decimal post.id ∷ []) begun
  puts after_title titled

unfoldable pub article_body : Meaning → Post → State → Option State
article_body callback post s = do
  filled ← puts_filtered callback (codes "the_content") (post.content ∷ []) s
  puts after_content filled

-- (an id without a post has no article)
unfoldable pub article : Meaning → Option Post → State → Option State
article callback None s = Some s
article callback (Some post) s = do
  headed ← article_head callback post s
  article_body callback post headed

-- the articles of these ids
unfoldable pub articles : Meaning → List (Option Post) → List ℕ → State → Option State
articles callback posts [] s = Some s
articles callback posts (id ∷ ids) s = do
  shown ← article callback (post_at posts id) s
  articles callback posts ids shown

abbrev pub page_closing : Meaning → State → Option State
page_closing callback s = do
  footer ← fires callback (bare (codes "wp_footer") ∷ []) s
  puts end_part footer

unfoldable pub whole_page : Meaning → List ℕ → List (Option Post) → List ℕ → State → Option State
whole_page callback name posts ids s = do
  opened ← page_opening callback name s
  shown ← articles callback posts ids opened
  page_closing callback shown

-- ---- replies

-- the option `blogname`, or `Press` where it isn't set
abbrev pub site_name : SiteView → List ℕ
site_name site = escaped_text (unwrap_or (option_of (codes "blogname") site.options) (codes "Press"))

abbrev pub not_found : Reply
not_found = record { status = 404; kind = Html; body = fixed_body (codes "404 Not Found") }

-- a limit gives the fixed body
abbrev pub page_or_limit : Option State → Reply
page_or_limit None = record { status = 500; kind = Html; body = fixed_body (codes "500 Internal Server Error") }
page_or_limit (Some s) = record { status = 200; kind = Html; body = s.output }

-- the page of the posts of these ids
abbrev pub page_with : KitView → SiteView → List ℕ → Reply
page_with kit site ids = page_or_limit (whole_page (callbacks_of read_only kit.scripts) (site_name site) site.posts ids (state_after_boot kit site))

-- ---- what is asked

-- a post that is there and published
abbrev pub public_post : Option Post → Option Post
public_post None = None
public_post (Some post) = if is_publish post.status then Some post else None

-- the front page lists at most ten posts; nothing boots for a post that isn't there or isn't published, nor for an outcome
abbrev pub page_of : KitView → SiteView → Target → Reply
page_of kit site target.Front = page_with kit site (take 10 (published site.posts))
page_of kit site (target.Post id) = if is_some (public_post (post_at site.posts id)) then page_with kit site (id ∷ []) else not_found
page_of kit site (target.Json id) = post_reply kit site (public_post (post_at site.posts id))
page_of kit site (target.Result token) = result_reply (outcome_of token site.outcomes)

-- ---- what building a page shows: its output

abbrev pub Shows : Option State → Result (List ℕ) RunFault → Type 0
Shows found result = MatchResult result (λ body. (s : State) × (found ≡ Some s) × (s.output ≡ body)) (λ fault. Refuses fault found)
