-- Over two kits of which one extends the other each page of a site whose active plugins are the same in both is the same.
use Rattle.std.proofs.Common.{◌≡◌, refl, ◌∙◌, ap, ℕ, ◌++◌, List, [], ◌∷◌, take, if◌then◌else◌, codes, decimal, Option, Some, None}
use Rattle.std.specs.Prelude.{is_some}
use Rattle.serde_json.specs.Written.{compact_text}
use Rattle.press_callbacks.specs.Kits.{KitView}
use Rattle.press_posts.specs.declared.fire.Fire.{Fire}
use Rattle.press_posts.specs.declared.post.Post.{Post}
use Rattle.press_posts.specs.PostChange.{post_at}
use Rattle.press_posts.specs.Published.{published}
use Rattle.press_site.specs.SiteView.{SiteView}
use Rattle.press_run.specs.Boot.{LoadedTables, bare, boot_actions}
use Rattle.press_run.specs.Links.{read_only}
use Rattle.press_run.specs.Outcome.{state_at_start}
use Rattle.press_run.specs.Run.{◌>>=◌, Answer, Meaning, State, apply_hook, callbacks_of, do_fires, within}
use Rattle.press_run.proofs.Profiled.{Alike, Any, any, binds, binds_same}
use Rattle.press_page.specs.declared.desk.Desk.{Desk}
use Rattle.press_page.specs.declared.desk.Desk.TheVariants as desk
use Rattle.press_page.specs.declared.filtered.Filtered.{Filtered}
use Rattle.press_page.specs.declared.reply.Reply.{Reply}
use Rattle.press_page.specs.declared.reply.Target.{Target}
use Rattle.press_page.specs.declared.reply.Target.TheVariants as target
use Rattle.press_page.specs.Desk.{desk_of}
use Rattle.press_page.specs.Json.{body_or_limit, filter_post, post_body, post_data, post_reply, texts_of}
use Rattle.press_page.specs.Page.{article, article_body, article_head, articles, page_closing, not_found, page_opening, page_of, page_or_limit, page_with, public_post, puts_filtered, site_name, whole_page}
use Rattle.press_page.specs.Steps.{state_after_boot, fires, puts}
use Rattle.press_page.specs.Template.{after_content, after_title, article_part, end_part, heading_part, title_part}
use Rattle.press_upgrade.specs.Extends.{Extends, IsWhole, Knows}
use Rattle.press_upgrade.proofs.Applies.{ActiveAre, Same}
use Rattle.press_upgrade.proofs.Known.{boot_is, boots_same, same_scripts}
use Rattle.press_upgrade.proofs.Runs.{Fine, Keeps, actions_alike, filters_alike}

module _ (P : List ℕ → Type 0) where
  abbrev Good : State → Type 0
  Good s = Fine P Any s

  abbrev GoodAnswer : Answer → Type 0
  GoodAnswer a = Good a.state

  -- what is put into the output leaves the tables as they are
  puts_alike : (text : List ℕ) (s : State) → Good s → Alike Good (puts text s) (puts text s)
  puts_alike text s good =
      let put : List ℕ → Option State = λ output. Some (record s { output = output }) in
      binds_same Any Good (within (s.output ++ text)) put put (any (within (s.output ++ text))) (λ output u. (refl, good))

  abbrev AlikeActions : Meaning → Meaning → Type 0
  AlikeActions m m' = (fs : List Fire) (s : State) → Good s → Alike GoodAnswer (do_fires m fs s) (do_fires m' fs s)

  abbrev AlikeFilters : Meaning → Meaning → Type 0
  AlikeFilters m m' = (hook : List ℕ) (args : List (List ℕ)) (s : State) → Good s → Alike GoodAnswer (apply_hook m hook args s) (apply_hook m' hook args s)

module _ (P : List ℕ → Type 0) (m m' : Meaning) (actions : AlikeActions P m m') (filters : AlikeFilters P m m') where
  -- ---- the parts of a page

  fires_alike : (fs : List Fire) (s : State) → Good P s → Alike (Good P) (fires m fs s) (fires m' fs s)
  fires_alike fs s good = binds (GoodAnswer P) (Good P) (do_fires m fs s) (do_fires m' fs s) (λ a. Some a.state) (λ a. Some a.state) (actions fs s good) (λ a f. (refl, f))

  opening_alike : (name : List ℕ) (s : State) → Good P s → Alike (Good P) (page_opening m name s) (page_opening m' name s)
  unfolding page_opening
  opening_alike name s good =
      let head = bare (codes "wp_head") ∷ [] in
      binds (Good P) (Good P) (fires m boot_actions s) (fires m' boot_actions s) (λ loaded. puts (title_part name) loaded >>= λ titled. fires m head titled >>= puts (heading_part name)) (λ loaded. puts (title_part name) loaded >>= λ titled. fires m' head titled >>= puts (heading_part name)) (fires_alike boot_actions s good)
      (λ loaded f. binds (Good P) (Good P) (puts (title_part name) loaded) (puts (title_part name) loaded) (λ titled. fires m head titled >>= puts (heading_part name)) (λ titled. fires m' head titled >>= puts (heading_part name)) (puts_alike P (title_part name) loaded f)
      (λ titled g. binds (Good P) (Good P) (fires m head titled) (fires m' head titled) (puts (heading_part name)) (puts (heading_part name)) (fires_alike head titled g) (λ s' h. puts_alike P (heading_part name) s' h)))

  puts_filtered_alike : (hook : List ℕ) (args : List (List ℕ)) (s : State) → Good P s → Alike (Good P) (puts_filtered m hook args s) (puts_filtered m' hook args s)
  unfolding puts_filtered
  puts_filtered_alike hook args s good = binds (GoodAnswer P) (Good P) (apply_hook m hook args s) (apply_hook m' hook args s) (λ a. puts a.text a.state) (λ a. puts a.text a.state) (filters hook args s good) (λ a f. puts_alike P a.text a.state f)

  head_alike : (post : Post) (s : State) → Good P s → Alike (Good P) (article_head m post s) (article_head m' post s)
  unfolding article_head
  head_alike post s good =
      let args = post.title ∷ decimal post.id ∷ [] in
      binds (Good P) (Good P) (puts (article_part (decimal post.id)) s) (puts (article_part (decimal post.id)) s) (λ begun. puts_filtered m (codes "the_title") args begun >>= puts after_title) (λ begun. puts_filtered m' (codes "the_title") args begun >>= puts after_title) (puts_alike P (article_part (decimal post.id)) s good)
      (λ begun f. binds (Good P) (Good P) (puts_filtered m (codes "the_title") args begun) (puts_filtered m' (codes "the_title") args begun) (puts after_title) (puts after_title) (puts_filtered_alike (codes "the_title") args begun f) (λ s' g. puts_alike P after_title s' g))

  body_alike : (post : Post) (s : State) → Good P s → Alike (Good P) (article_body m post s) (article_body m' post s)
  unfolding article_body
  body_alike post s good =
      binds (Good P) (Good P) (puts_filtered m (codes "the_content") (post.content ∷ []) s) (puts_filtered m' (codes "the_content") (post.content ∷ []) s) (puts after_content) (puts after_content) (puts_filtered_alike (codes "the_content") (post.content ∷ []) s good) (λ s' f. puts_alike P after_content s' f)

  article_alike : (o : Option Post) (s : State) → Good P s → Alike (Good P) (article m o s) (article m' o s)
  unfolding article
  article_alike None s good = (refl, good)
  article_alike (Some post) s good = binds (Good P) (Good P) (article_head m post s) (article_head m' post s) (article_body m post) (article_body m' post) (head_alike post s good) (λ s' f. body_alike post s' f)

  articles_alike : (posts : List (Option Post)) (ids : List ℕ) (s : State) → Good P s → Alike (Good P) (articles m posts ids s) (articles m' posts ids s)
  unfolding articles
  articles_alike posts [] s good = (refl, good)
  articles_alike posts (id ∷ ids) s good = binds (Good P) (Good P) (article m (post_at posts id) s) (article m' (post_at posts id) s) (articles m posts ids) (articles m' posts ids) (article_alike (post_at posts id) s good) (λ s' f. articles_alike posts ids s' f)

  closing_alike : (s : State) → Good P s → Alike (Good P) (page_closing m s) (page_closing m' s)
  closing_alike s good =
      let footer = bare (codes "wp_footer") ∷ [] in
      binds (Good P) (Good P) (fires m footer s) (fires m' footer s) (puts end_part) (puts end_part) (fires_alike footer s good) (λ s' f. puts_alike P end_part s' f)

  whole_alike : (name : List ℕ) (posts : List (Option Post)) (ids : List ℕ) (s : State) → Good P s → Alike (Good P) (whole_page m name posts ids s) (whole_page m' name posts ids s)
  unfolding whole_page
  whole_alike name posts ids s good =
      binds (Good P) (Good P) (page_opening m name s) (page_opening m' name s) (λ opened. articles m posts ids opened >>= page_closing m) (λ opened. articles m' posts ids opened >>= page_closing m') (opening_alike name s good)
      (λ opened f. binds (Good P) (Good P) (articles m posts ids opened) (articles m' posts ids opened) (page_closing m) (page_closing m') (articles_alike posts ids opened f) (λ s' g. closing_alike s' g))

  -- ---- a post in JSON

  texts_alike : (post : Post) (s : State) → Good P s → Alike Any (texts_of m post s) (texts_of m' post s)
  unfolding texts_of
  texts_alike post s good =
      let args = post.title ∷ decimal post.id ∷ [] in
      let both : Answer → Answer → Option Filtered = λ title content. Some (record { title = title.text; content = content.text }) in
      binds (GoodAnswer P) Any (apply_hook m (codes "the_title") args s) (apply_hook m' (codes "the_title") args s) (λ title. apply_hook m (codes "the_content") (post.content ∷ []) title.state >>= both title) (λ title. apply_hook m' (codes "the_content") (post.content ∷ []) title.state >>= both title) (filters (codes "the_title") args s good)
      (λ title f. binds (GoodAnswer P) Any (apply_hook m (codes "the_content") (post.content ∷ []) title.state) (apply_hook m' (codes "the_content") (post.content ∷ []) title.state) (both title) (both title) (filters (codes "the_content") (post.content ∷ []) title.state f) (λ content g. (refl, tt)))

  filtered_alike : (post : Post) (s : State) → Good P s → Alike Any (filter_post m post s) (filter_post m' post s)
  unfolding filter_post
  filtered_alike post s good = binds (Good P) Any (fires m boot_actions s) (fires m' boot_actions s) (texts_of m post) (texts_of m' post) (fires_alike boot_actions s good) (λ loaded f. texts_alike post loaded f)

  post_body_alike : (post : Post) (s : State) → Good P s → post_body m post s ≡ post_body m' post s
  unfolding post_body
  post_body_alike post s good = ap (λ (o : Option Filtered). o >>= λ texts. within (compact_text (post_data post texts))) (filtered_alike post s good).0

-- ---- two kits

reads_keep : Keeps Any read_only
reads_keep site e stays q = tt

module _ (old new : KitView) (whole : IsWhole old) (extends : Extends old new) (site : SiteView) (active : ActiveAre (Same old new whole extends) site) where
  on_actions : AlikeActions (Knows old) (callbacks_of read_only old.scripts) (callbacks_of read_only new.scripts)
  on_actions fs s good = actions_alike (Knows old) Any read_only reads_keep old.scripts new.scripts (same_scripts old new whole extends) fs s good

  on_filters : AlikeFilters (Knows old) (callbacks_of read_only old.scripts) (callbacks_of read_only new.scripts)
  on_filters hook args s good = filters_alike (Knows old) Any read_only reads_keep old.scripts new.scripts (same_scripts old new whole extends) hook args s good

  begun : Good (Knows old) (state_after_boot old site)
  begun = let t = boot_is old whole site.active in (t.0, t.1, tt)

  begins_same : state_after_boot old site ≡ state_after_boot new site
  begins_same = ap (λ (t : LoadedTables). state_at_start t site) (boots_same old new site.active active)

  pub page_alike : (ids : List ℕ) → page_with old site ids ≡ page_with new site ids
  page_alike ids =
      let meant : Meaning → State → Reply = λ m s. page_or_limit (whole_page m (site_name site) site.posts ids s) in
      ap page_or_limit (whole_alike (Knows old) (callbacks_of read_only old.scripts) (callbacks_of read_only new.scripts) on_actions on_filters (site_name site) site.posts ids (state_after_boot old site) begun).0
      ∙ ap (meant (callbacks_of read_only new.scripts)) begins_same

  reply_alike : (o : Option Post) → post_reply old site o ≡ post_reply new site o
  reply_alike None = refl
  reply_alike (Some post) =
      ap body_or_limit (post_body_alike (Knows old) (callbacks_of read_only old.scripts) (callbacks_of read_only new.scripts) on_actions on_filters post (state_after_boot old site) begun)
      ∙ ap (λ (s : State). body_or_limit (post_body (callbacks_of read_only new.scripts) post s)) begins_same

  pub pages_alike : (asked : Target) → page_of old site asked ≡ page_of new site asked
  pages_alike target.Front = page_alike (take 10 (published site.posts))
  pages_alike (target.Post id) = ap (λ (r : Reply). if is_some (public_post (post_at site.posts id)) then r else not_found) (page_alike (id ∷ []))
  pages_alike (target.Json id) = reply_alike (public_post (post_at site.posts id))
  pages_alike (target.Result token) = refl

  pub desk_alike : (applied : ℕ) (asked : Desk) → (asked ≡ desk.Site → ⊥) → desk_of old site applied asked ≡ desk_of new site applied asked
  desk_alike applied (desk.Posts before count) other = refl
  desk_alike applied (desk.Post id) other = refl
  desk_alike applied (desk.Preview id) other = ap (λ (r : Reply). if is_some (post_at site.posts id) then r else not_found) (page_alike (id ∷ []))
  desk_alike applied desk.Site other = absurd (other refl)
