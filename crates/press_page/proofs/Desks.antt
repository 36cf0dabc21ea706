-- Posts from the greatest id down, and what is told of them has no number with a fraction.
use Rattle.std.proofs.Common.{ℕ, suc, ◌+◌, ◌-◌, ◌<◌, ◌≤◌, ◌≡◌, ◌∙◌, Bool, true, false, if◌then◌else◌, List, [], ◌∷◌, ◌++◌, length, map, take, slice_index_or, Option, None, Some, count_by, refl, sym, ap, subst, append-nil, append_assoc, length-append, add-zero, arith}
use Rattle.std.proofs.lemmas.List.{map-append}
use Rattle.std.proofs.lemmas.List.Sums.{count_by_more_no, count_by_more_yes}
use Rattle.serde_json.specs.Data.{Data, string}
use Rattle.serde_json.specs.View.{items_of, view}
use Rattle.serde_json.specs.declared.value.Value.{Value}
use Rattle.serde_json.specs.Written.{has_float, items_have_float}
use Rattle.press_posts.specs.declared.post.Post.{Post}
use Rattle.press_posts.specs.PostChange.{post_at}
use Rattle.press_site.specs.Options.{set_option_of}
use Rattle.press_site.specs.SiteView.{SiteView}
use Rattle.press_site.specs.declared.options.SetOption.{SetOption}
use Rattle.press_callbacks.specs.Kits.{KitView}
use Rattle.press_callbacks.specs.declared.plugin.Plugin.{Plugin}
use Rattle.press_page.specs.Desk.{before_others, event_data, has_status, kept_data, option_data, posts_data, posts_down, site_data}

-- ---- from one id down to the next

at_id : (posts : List (Option Post)) (next id : ℕ) (o : Option Post) → id ≡ suc next → post_at posts id ≡ o → posts_down posts id ≡ before_others o (posts_down posts next)
at_id posts next id o is e = subst (λ n. post_at posts n ≡ o → posts_down posts n ≡ before_others o (posts_down posts next)) (sym is) (λ f. ap (λ p. before_others p (posts_down posts next)) f) e

-- the post of the next id, if there is one, stands before the others
pub at_down : (posts : List (Option Post)) (from down : ℕ) (o : Option Post) → down < from → post_at posts (from - down) ≡ o →
    posts_down posts (from - down) ≡ before_others o (posts_down posts (from - (down + 1)))
at_down posts from down o h e = at_id posts (from - (down + 1)) (from - down) o (omega (arith, h)) e

pub at_end : (posts : List (Option Post)) (from down : ℕ) → from ≤ down → posts_down posts (from - down) ≡ []
at_end posts from down h =
    let e : from - down ≡ 0 = omega (arith, h) in
    rw e refl

-- ---- so many of them

-- one more is told
pub one_told : (told whole : List Data) (post : Post) (rest : List Post) (count n : ℕ) → n < count → told ++ map kept_data (take (count - n) (post ∷ rest)) ≡ whole →
    (told ++ (kept_data post ∷ [])) ++ map kept_data (take (count - (n + 1)) rest) ≡ whole
one_told told whole post rest count n h e =
    let m : count - n ≡ suc (count - (n + 1)) = omega (arith, h) in
    append_assoc told (kept_data post ∷ []) (map kept_data (take (count - (n + 1)) rest))
    ∙ subst (λ k. told ++ map kept_data (take k (post ∷ rest)) ≡ whole) m e

-- the post of the next id is told
pub post_told : (told whole : List Data) (posts : List (Option Post)) (from down : ℕ) (post : Post) (count n : ℕ) → down < from → n < count →
    post_at posts (from - down) ≡ Some post → told ++ map kept_data (take (count - n) (posts_down posts (from - down))) ≡ whole →
    (told ++ (kept_data post ∷ [])) ++ map kept_data (take (count - (n + 1)) (posts_down posts (from - (down + 1)))) ≡ whole
post_told told whole posts from down post count n h k found e =
    one_told told whole post (posts_down posts (from - (down + 1))) count n k
    (subst (λ ps. told ++ map kept_data (take (count - n) ps) ≡ whole) (at_down posts from down (Some post) h found) e)

-- and as values
pub value_told : (vs ws : List Value) (v : Value) (whole : List Data) (posts : List (Option Post)) (from down : ℕ) (post : Post) (count : ℕ) →
    ws ≡ vs ++ (v ∷ []) → view v ≡ kept_data post → down < from → length vs < count → post_at posts (from - down) ≡ Some post →
    map view vs ++ map kept_data (take (count - length vs) (posts_down posts (from - down))) ≡ whole →
    map view ws ++ map kept_data (take (count - length ws) (posts_down posts (from - (down + 1)))) ≡ whole
value_told vs ws v whole posts from down post count is v_is h k found e =
    let told : map view ws ≡ map view vs ++ (kept_data post ∷ []) = ap (map view) is ∙ map-append view vs (v ∷ []) ∙ ap (λ d. map view vs ++ (d ∷ [])) v_is in
    let long : length ws ≡ length vs + 1 = ap length is ∙ length-append vs (v ∷ []) in
    rw (told, long) (post_told (map view vs) whole posts from down post count (length vs) h k found e)

-- there is no post of the next id
pub none_told : (told whole : List Data) (posts : List (Option Post)) (from down k : ℕ) → down < from → post_at posts (from - down) ≡ None →
    told ++ map kept_data (take k (posts_down posts (from - down))) ≡ whole → told ++ map kept_data (take k (posts_down posts (from - (down + 1)))) ≡ whole
none_told told whole posts from down k h found e = subst (λ ps. told ++ map kept_data (take k ps) ≡ whole) (at_down posts from down None h found) e

-- all are told
pub all_told : (told whole : List Data) (rest : List Post) (count n : ℕ) → count ≤ n → told ++ map kept_data (take (count - n) rest) ≡ whole → told ≡ whole
all_told told whole rest count n h e =
    let m : count - n ≡ 0 = omega (arith, h) in
    sym (append-nil told) ∙ subst (λ k. told ++ map kept_data (take k rest) ≡ whole) m e

-- ---- how many have a status

-- one place further on
pub one_counted : (word : List ℕ) (posts : List (Option Post)) (place count : ℕ) → place < length posts → count ≡ count_by (has_status word) (take place posts) →
    count + (if has_status word (slice_index_or posts place None) then 1 else 0) ≡ count_by (has_status word) (take (place + 1) posts)
one_counted word posts place count h e = go (has_status word (slice_index_or posts place None)) refl
  where
    go : (b : Bool) → has_status word (slice_index_or posts place None) ≡ b → count + (if b then 1 else 0) ≡ count_by (has_status word) (take (place + 1) posts)
    go true t = ap (λ c. c + 1) e ∙ sym (count_by_more_yes (has_status word) posts place None h t)
    go false t = add-zero count ∙ e ∙ sym (count_by_more_no (has_status word) posts place None h t)

-- ---- options as they are set

pub options_told : (options : List (List ℕ × List ℕ)) → map (λ (o : SetOption). option_data (o.name, o.value)) (map set_option_of options) ≡ map option_data options
options_told [] = refl
options_told (o ∷ os) = ap (λ ds. option_data o ∷ ds) (options_told os)

-- ---- no number has a fraction

no_float_items : {A : Type 0} (f : A → Data) → ((x : A) → has_float (f x) ≡ false) → (xs : List A) → items_have_float (items_of (map f xs)) ≡ false
no_float_items f h [] = refl
no_float_items f h (x ∷ xs) = rw (h x, no_float_items f h xs) refl

pub no_float_posts : (posts : List Post) → has_float (posts_data posts) ≡ false
no_float_posts posts = rw (no_float_items kept_data (λ p. refl) posts) refl

pub no_float_site : (kit : KitView) (site : SiteView) (applied : ℕ) → has_float (site_data kit site applied) ≡ false
no_float_site kit site applied =
    rw (
      no_float_items string (λ t. refl) site.active,
      no_float_items event_data (λ e. refl) site.events,
      no_float_items option_data (λ o. refl) site.options,
      no_float_items (λ (plugin : Plugin). string plugin.name) (λ p. refl) kit.plugins,
    ) refl
