-- A step that stops stops what follows it; one article at a time; and a title before a content.
use Rattle.std.proofs.Common.{◌≡◌, ◌∙◌, refl, sym, ap, subst, ℕ, ◌+◌, ◌<◌, ◌≤◌, List, [], ◌∷◌, codes, decimal, drop, get_or, length, Option, Some, Result, add-one, drop-cons}
use Rattle.std.proofs.Math.ListN.{drop_of_length-le}
use Rattle.press_posts.specs.declared.post.Post.{Post}
use Rattle.press_posts.specs.PostChange.{post_at}
use Rattle.press_run.specs.declared.run_fault.RunFault.{RunFault}
use Rattle.press_run.specs.declared.run_fault.RunFault.TheVariants.{Limit, NoMemory}
use Rattle.press_run.specs.Run.{◌>>=◌, Answer, answer, State, Meaning, apply_hook}
use Rattle.press_page.specs.declared.filtered.Filtered.{Filtered}
use Rattle.press_page.specs.Json.{texts_of}
use Rattle.press_page.specs.Page.{article, articles}
use Rattle.press_run.specs.Outcome.{Refuses}
use Rattle.press_page.specs.Steps.{Steps}

pub stops_after : {A B : Type 0} (f : RunFault) (o : Option A) (rest : A → Option B) → Refuses f o → Refuses f (o >>= rest)
stops_after Limit o rest e = ap (λ x. x >>= rest) e
stops_after NoMemory o rest e = tt

pub goes_after : {A : Type 0} (o : Option A) (a : A) (rest : A → Option State) (after : State) (r : Result Unit RunFault) → o ≡ Some a → Steps (rest a) after r → Steps (o >>= rest) after r
goes_after o a rest after r e s = subst (λ x. Steps x after r) (sym (ap (λ x. x >>= rest) e)) s

-- ---- one article after another

one_article : (m : Meaning) (posts : List (Option Post)) (ids : List ℕ) (i : ℕ) (d : ℕ) (post : Option Post) (s : State) → i < length ids → post ≡ post_at posts (get_or ids i d) → articles m posts (drop i ids) s ≡ (article m post s >>= λ t. articles m posts (drop (i + 1) ids) t)
unfolding articles
one_article m posts ids i d post s lt found =
    let cut : drop i ids ≡ get_or ids i d ∷ drop (i + 1) ids = rw (add-one, drop-cons ids i d lt) refl in
    rw (cut, found) refl

pub articles_more : (m : Meaning) (posts : List (Option Post)) (ids : List ℕ) (i : ℕ) (d : ℕ) (post : Option Post) (s t : State) → i < length ids → post ≡ post_at posts (get_or ids i d) → article m post s ≡ Some t → articles m posts (drop i ids) s ≡ articles m posts (drop (i + 1) ids) t
articles_more m posts ids i d post s t lt found e = one_article m posts ids i d post s lt found ∙ ap (λ o. o >>= λ b. articles m posts (drop (i + 1) ids) b) e

-- what stops an article stops the rest, and so the whole
pub articles_stop : (f : RunFault) (m : Meaning) (posts : List (Option Post)) (ids : List ℕ) (i : ℕ) (d : ℕ) (post : Option Post) (s : State) (whole : Option State) → i < length ids → post ≡ post_at posts (get_or ids i d) → articles m posts (drop i ids) s ≡ whole → Refuses f (article m post s) → Refuses f whole
articles_stop Limit m posts ids i d post s whole lt found same e = sym same ∙ one_article m posts ids i d post s lt found ∙ ap (λ o. o >>= λ b. articles m posts (drop (i + 1) ids) b) e
articles_stop NoMemory m posts ids i d post s whole lt found same e = tt

pub articles_end : (m : Meaning) (posts : List (Option Post)) (ids : List ℕ) (i : ℕ) (s : State) → length ids ≤ i → articles m posts (drop i ids) s ≡ Some s
unfolding articles
articles_end m posts ids i s le = rw (drop_of_length-le ids le) refl

-- ---- a title, then a content

abbrev the_texts : List ℕ → List ℕ → Option Filtered
the_texts title content = Some (record { title = title; content = content })

pub texts_found : (m : Meaning) (post : Post) (s s' s'' : State) (title content : List ℕ) → apply_hook m (codes "the_title") (post.title ∷ decimal post.id ∷ []) s ≡ answer title s' → apply_hook m (codes "the_content") (post.content ∷ []) s' ≡ answer content s'' → texts_of m post s ≡ Some (record { title = title; content = content })
unfolding texts_of
texts_found m post s s' s'' title content t c =
    ap (λ (o : Option Answer). o >>= λ a. apply_hook m (codes "the_content") (post.content ∷ []) a.state >>= λ b. the_texts a.text b.text) t
    ∙ ap (λ (o : Option Answer). o >>= λ b. the_texts title b.text) c

pub texts_stop : (f : RunFault) (m : Meaning) (post : Post) (s s' : State) (title : List ℕ) → apply_hook m (codes "the_title") (post.title ∷ decimal post.id ∷ []) s ≡ answer title s' → Refuses f (apply_hook m (codes "the_content") (post.content ∷ []) s') → Refuses f (texts_of m post s)
unfolding texts_of
texts_stop Limit m post s s' title t c =
    ap (λ (o : Option Answer). o >>= λ a. apply_hook m (codes "the_content") (post.content ∷ []) a.state >>= λ b. the_texts a.text b.text) t
    ∙ ap (λ (o : Option Answer). o >>= λ b. the_texts title b.text) c
texts_stop NoMemory m post s s' title t c = tt
