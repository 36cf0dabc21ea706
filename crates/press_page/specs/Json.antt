-- Replies in JSON: a post with its title and content by their filters, and what became of a command
-- (REST API Handbook, Posts: `id`, `status`, `title.rendered`, `content.rendered`; the other fields, values and errors are own).
use Rattle.std.specs.Prelude.{ℕ, List, [], ◌∷◌, Option, Some, None, codes, decimal}
use Rattle.serde_json.specs.Data.{Data, number, object, member, no_members, string, unsigned}
use Rattle.serde_json.specs.Written.{compact_text}
use Rattle.press_posts.specs.declared.post.Post.{Post}
use Rattle.press_posts.specs.Transitions.{status_word}
use Rattle.press_site.specs.declared.token.Outcome.{Outcome}
use Rattle.press_site.specs.declared.token.Outcome.TheVariants.{Done, Refused}
use Rattle.press_site.specs.SiteView.{SiteView}
use Rattle.press_callbacks.specs.Kits.{KitView}
use Rattle.press_run.specs.Boot.{boot_actions}
use Rattle.press_run.specs.Links.{read_only}
use Rattle.press_run.specs.Run.{◌>>=◌, State, Meaning, apply_hook, callbacks_of, within}
use Rattle.press_page.specs.declared.filtered.Filtered.{Filtered}
use Rattle.press_page.specs.declared.reply.Reply.{Reply}
use Rattle.press_page.specs.declared.reply.ContentKind.TheVariants.{Json}
use Rattle.press_page.specs.Steps.{state_after_boot, fires}

-- ---- a post

-- the title and the content by their filters
unfoldable pub texts_of : Meaning → Post → State → Option Filtered
texts_of callback post s = do
  title ← apply_hook callback (codes "the_title") (post.title ∷ decimal post.id ∷ []) s
  content ← apply_hook callback (codes "the_content") (post.content ∷ []) title.state
  Some (record { title = title.text; content = content.text })

-- what is echoed on the way isn't shown
unfoldable pub filter_post : Meaning → Post → State → Option Filtered
filter_post callback post s = do
  loaded ← fires callback boot_actions s
  texts_of callback post loaded

abbrev pub rendered_data : List ℕ → Data
rendered_data text = object (member (codes "rendered") (string text) no_members)

-- the date is the moment as a number
abbrev pub post_data : Post → Filtered → Data
post_data post texts =
    object (member (codes "content") (rendered_data texts.content)
    (member (codes "date") (number (unsigned post.date))
    (member (codes "id") (number (unsigned post.id))
    (member (codes "status") (string (status_word post.status))
    (member (codes "title") (rendered_data texts.title) no_members)))))

-- its text, where that stays within the bytes
unfoldable pub post_body : Meaning → Post → State → Option (List ℕ)
post_body callback post s = do
  texts ← filter_post callback post s
  within (compact_text (post_data post texts))

-- ---- replies

abbrev pub json_reply : ℕ → Data → Reply
json_reply status d = record { status = status; kind = Json; body = compact_text d }

-- a status alone
abbrev pub status_data : ℕ → Data
status_data status = object (member (codes "code") (number (unsigned status)) no_members)

abbrev pub status_reply : ℕ → Reply
status_reply status = json_reply status (status_data status)

abbrev pub body_or_limit : Option (List ℕ) → Reply
body_or_limit None = status_reply 500
body_or_limit (Some body) = record { status = 200; kind = Json; body = body }

abbrev pub post_reply : KitView → SiteView → Option Post → Reply
post_reply kit site None = status_reply 404
post_reply kit site (Some post) = body_or_limit (post_body (callbacks_of read_only kit.scripts) post (state_after_boot kit site))

abbrev pub outcome_data : Outcome → Data
outcome_data (Done id) = object (member (codes "done") (number (unsigned id)) no_members)
outcome_data (Refused fault) = object (member (codes "refused") (number (unsigned fault)) no_members)

abbrev pub result_reply : Option Outcome → Reply
result_reply None = status_reply 404
result_reply (Some outcome) = json_reply 200 (outcome_data outcome)
