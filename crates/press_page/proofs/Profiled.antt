-- What is asked of a site in profile 1 is replied to as it was before there were profiles.
use Rattle.std.proofs.Common.{◌≡◌, refl, ap, ℕ, ◌++◌, List, [], ◌∷◌, take, if◌then◌else◌, codes, decimal, Option, Some, None}
use Rattle.std.specs.Prelude.{IfSome, is_some}
use Rattle.serde_json.specs.Written.{compact_text}
use Rattle.press_callbacks.specs.Kits.{KitView, Scripts}
use Rattle.press_posts.specs.declared.fire.Fire.{Fire}
use Rattle.press_posts.specs.declared.post.Post.{Post}
use Rattle.press_posts.specs.PostChange.{post_at}
use Rattle.press_posts.specs.Published.{published}
use Rattle.press_site.specs.SiteView.{SiteView}
use Rattle.press_run.specs.declared.job.Job.{Job}
use Rattle.press_run.specs.declared.job.Job.TheVariants as job
use Rattle.press_run.specs.Boot.{bare, boot_actions}
use Rattle.press_run.specs.Earlier as runs
use Rattle.press_run.specs.Earlier.{KeepsProfile}
use Rattle.press_run.specs.Links.{Changes, read_only}
use Rattle.press_run.specs.Outcome.{job_meaning}
use Rattle.press_run.specs.Run.{◌>>=◌, Answer, Meaning, State, apply_hook, callbacks_of, do_fires, within}
use Rattle.press_run.proofs.Profiled.{Alike, Any, any, binds, binds_same}
use Rattle.press_page.specs.declared.filtered.Filtered.{Filtered}
use Rattle.press_page.specs.declared.reply.Reply.{Reply}
use Rattle.press_page.specs.declared.reply.Target.{Target}
use Rattle.press_page.specs.declared.reply.Target.TheVariants as target
use Rattle.press_page.specs.Earlier as earlier
use Rattle.press_page.specs.Json.{body_or_limit, filter_post, post_body, post_data, post_reply, texts_of}
use Rattle.press_page.specs.Page.{article, article_body, article_head, articles, page_closing, not_found, page_opening, page_of, page_or_limit, page_with, public_post, puts_filtered, site_name, whole_page}
use Rattle.press_page.specs.Steps.{state_after_boot, fires, puts}
use Rattle.press_page.specs.Template.{after_content, after_title, article_part, end_part, heading_part, title_part}

-- ---- profile 1

abbrev pub First : State → Type 0
First s = s.site.profile ≡ 1

abbrev pub InFirst : Answer → Type 0
InFirst a = First a.state

-- what is put into the output leaves the site as it is
puts_alike : (text : List ℕ) (s : State) → First s → Alike First (puts text s) (puts text s)
puts_alike text s first =
    let put : List ℕ → Option State = λ output. Some (record s { output = output }) in
    binds_same Any First (within (s.output ++ text)) put put (any (within (s.output ++ text))) (λ output u. (refl, first))

-- ---- two meanings of callbacks, over which the runs are the same in profile 1, and leave it

abbrev pub AlikeActions : Meaning → Meaning → Type 0
AlikeActions m m' = (fs : List Fire) (s : State) → First s → Alike InFirst (do_fires m fs s) (do_fires m' fs s)

abbrev pub AlikeFilters : Meaning → Meaning → Type 0
AlikeFilters m m' = (hook : List ℕ) (args : List (List ℕ)) (s : State) → First s → Alike InFirst (apply_hook m hook args s) (apply_hook m' hook args s)

module _ (m m' : Meaning) (actions : AlikeActions m m') (filters : AlikeFilters m m') where
  -- ---- the parts of a page

  fires_alike : (fs : List Fire) (s : State) → First s → Alike First (fires m fs s) (fires m' fs s)
  fires_alike fs s first = binds InFirst First (do_fires m fs s) (do_fires m' fs s) (λ a. Some a.state) (λ a. Some a.state) (actions fs s first) (λ a f. (refl, f))

  opening_alike : (name : List ℕ) (s : State) → First s → Alike First (page_opening m name s) (page_opening m' name s)
  unfolding page_opening
  opening_alike name s first =
      let head = bare (codes "wp_head") ∷ [] in
      binds First First (fires m boot_actions s) (fires m' boot_actions s) (λ loaded. puts (title_part name) loaded >>= λ titled. fires m head titled >>= puts (heading_part name)) (λ loaded. puts (title_part name) loaded >>= λ titled. fires m' head titled >>= puts (heading_part name)) (fires_alike boot_actions s first)
      (λ loaded f. binds First First (puts (title_part name) loaded) (puts (title_part name) loaded) (λ titled. fires m head titled >>= puts (heading_part name)) (λ titled. fires m' head titled >>= puts (heading_part name)) (puts_alike (title_part name) loaded f)
      (λ titled g. binds First First (fires m head titled) (fires m' head titled) (puts (heading_part name)) (puts (heading_part name)) (fires_alike head titled g) (λ s' h. puts_alike (heading_part name) s' h)))

  puts_filtered_alike : (hook : List ℕ) (args : List (List ℕ)) (s : State) → First s → Alike First (puts_filtered m hook args s) (puts_filtered m' hook args s)
  unfolding puts_filtered
  puts_filtered_alike hook args s first = binds InFirst First (apply_hook m hook args s) (apply_hook m' hook args s) (λ a. puts a.text a.state) (λ a. puts a.text a.state) (filters hook args s first) (λ a f. puts_alike a.text a.state f)

  head_alike : (post : Post) (s : State) → First s → Alike First (article_head m post s) (article_head m' post s)
  unfolding article_head
  head_alike post s first =
      let args = post.title ∷ decimal post.id ∷ [] in
      binds First First (puts (article_part (decimal post.id)) s) (puts (article_part (decimal post.id)) s) (λ begun. puts_filtered m (codes "the_title") args begun >>= puts after_title) (λ begun. puts_filtered m' (codes "the_title") args begun >>= puts after_title) (puts_alike (article_part (decimal post.id)) s first)
      (λ begun f. binds First First (puts_filtered m (codes "the_title") args begun) (puts_filtered m' (codes "the_title") args begun) (puts after_title) (puts after_title) (puts_filtered_alike (codes "the_title") args begun f) (λ s' g. puts_alike after_title s' g))

  body_alike : (post : Post) (s : State) → First s → Alike First (article_body m post s) (article_body m' post s)
  unfolding article_body
  body_alike post s first =
      binds First First (puts_filtered m (codes "the_content") (post.content ∷ []) s) (puts_filtered m' (codes "the_content") (post.content ∷ []) s) (puts after_content) (puts after_content) (puts_filtered_alike (codes "the_content") (post.content ∷ []) s first) (λ s' f. puts_alike after_content s' f)

  article_alike : (o : Option Post) (s : State) → First s → Alike First (article m o s) (article m' o s)
  unfolding article
  article_alike None s first = (refl, first)
  article_alike (Some post) s first = binds First First (article_head m post s) (article_head m' post s) (article_body m post) (article_body m' post) (head_alike post s first) (λ s' f. body_alike post s' f)

  articles_alike : (posts : List (Option Post)) (ids : List ℕ) (s : State) → First s → Alike First (articles m posts ids s) (articles m' posts ids s)
  unfolding articles
  articles_alike posts [] s first = (refl, first)
  articles_alike posts (id ∷ ids) s first = binds First First (article m (post_at posts id) s) (article m' (post_at posts id) s) (articles m posts ids) (articles m' posts ids) (article_alike (post_at posts id) s first) (λ s' f. articles_alike posts ids s' f)

  closing_alike : (s : State) → First s → Alike First (page_closing m s) (page_closing m' s)
  closing_alike s first =
      let footer = bare (codes "wp_footer") ∷ [] in
      binds First First (fires m footer s) (fires m' footer s) (puts end_part) (puts end_part) (fires_alike footer s first) (λ s' f. puts_alike end_part s' f)

  whole_alike : (name : List ℕ) (posts : List (Option Post)) (ids : List ℕ) (s : State) → First s → Alike First (whole_page m name posts ids s) (whole_page m' name posts ids s)
  unfolding whole_page
  whole_alike name posts ids s first =
      binds First First (page_opening m name s) (page_opening m' name s) (λ opened. articles m posts ids opened >>= page_closing m) (λ opened. articles m' posts ids opened >>= page_closing m') (opening_alike name s first)
      (λ opened f. binds First First (articles m posts ids opened) (articles m' posts ids opened) (page_closing m) (page_closing m') (articles_alike posts ids opened f) (λ s' g. closing_alike s' g))

  -- ---- a post in JSON

  texts_alike : (post : Post) (s : State) → First s → Alike Any (texts_of m post s) (texts_of m' post s)
  unfolding texts_of
  texts_alike post s first =
      let args = post.title ∷ decimal post.id ∷ [] in
      let both : Answer → Answer → Option Filtered = λ title content. Some (record { title = title.text; content = content.text }) in
      binds InFirst Any (apply_hook m (codes "the_title") args s) (apply_hook m' (codes "the_title") args s) (λ title. apply_hook m (codes "the_content") (post.content ∷ []) title.state >>= both title) (λ title. apply_hook m' (codes "the_content") (post.content ∷ []) title.state >>= both title) (filters (codes "the_title") args s first)
      (λ title f. binds InFirst Any (apply_hook m (codes "the_content") (post.content ∷ []) title.state) (apply_hook m' (codes "the_content") (post.content ∷ []) title.state) (both title) (both title) (filters (codes "the_content") (post.content ∷ []) title.state f) (λ content g. (refl, tt)))

  filtered_alike : (post : Post) (s : State) → First s → Alike Any (filter_post m post s) (filter_post m' post s)
  unfolding filter_post
  filtered_alike post s first = binds First Any (fires m boot_actions s) (fires m' boot_actions s) (texts_of m post) (texts_of m' post) (fires_alike boot_actions s first) (λ loaded f. texts_alike post loaded f)

  post_body_alike : (post : Post) (s : State) → First s → post_body m post s ≡ post_body m' post s
  unfolding post_body
  post_body_alike post s first = ap (λ (o : Option Filtered). o >>= λ texts. within (compact_text (post_data post texts))) (filtered_alike post s first).0

-- ---- the laws of runs

abbrev pub SameRuns : Type 0
SameRuns = (changes : Changes) (scripts : Scripts) (job : Job) (s : State) → KeepsProfile changes → s.site.profile ≡ 1 → job_meaning changes scripts job s ≡ runs.job_meaning changes scripts job s

abbrev pub KeepingRuns : Type 0
KeepingRuns = (changes : Changes) (scripts : Scripts) (job : Job) (s : State) → KeepsProfile changes → s.site.profile ≡ 1 → IfSome (job_meaning changes scripts job s) (λ a. a.state.site.profile ≡ 1)

module _ (keeps : KeepsProfile read_only) (same : SameRuns) (keeping : KeepingRuns) (kit : KitView) (site : SiteView) where
  actions_alike : AlikeActions (callbacks_of read_only kit.scripts) (earlier.callbacks_on kit)
  actions_alike fs s first = (same read_only kit.scripts (job.Fires fs) s keeps first, keeping read_only kit.scripts (job.Fires fs) s keeps first)

  filters_alike : AlikeFilters (callbacks_of read_only kit.scripts) (earlier.callbacks_on kit)
  filters_alike hook args s first = (same read_only kit.scripts (job.Apply hook args) s keeps first, keeping read_only kit.scripts (job.Apply hook args) s keeps first)

  page_alike : (ids : List ℕ) → site.profile ≡ 1 → page_with kit site ids ≡ earlier.page_with kit site ids
  page_alike ids first = ap page_or_limit (whole_alike (callbacks_of read_only kit.scripts) (earlier.callbacks_on kit) actions_alike filters_alike (site_name site) site.posts ids (state_after_boot kit site) first).0

  reply_alike : (o : Option Post) → site.profile ≡ 1 → post_reply kit site o ≡ earlier.post_reply kit site o
  reply_alike None first = refl
  reply_alike (Some post) first = ap body_or_limit (post_body_alike (callbacks_of read_only kit.scripts) (earlier.callbacks_on kit) actions_alike filters_alike post (state_after_boot kit site) first)

  pub pages_alike : (asked : Target) → site.profile ≡ 1 → page_of kit site asked ≡ earlier.page_of kit site asked
  pages_alike target.Front first = page_alike (take 10 (published site.posts)) first
  pages_alike (target.Post id) first = ap (λ (r : Reply). if is_some (public_post (post_at site.posts id)) then r else not_found) (page_alike (id ∷ []) first)
  pages_alike (target.Json id) first = reply_alike (public_post (post_at site.posts id)) first
  pages_alike (target.Result token) first = refl
