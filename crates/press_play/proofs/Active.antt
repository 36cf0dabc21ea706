-- Plugins are active in the order of their names, whatever the order in which they are activated.
use Rattle.std.proofs.Common.{◌≡◌, refl, sym, ◌∙◌, ap, subst, ℕ, zero, suc, ◌+◌, ◌≤◌, Bool, true, false, not, cond, bytes_eq, List, [], ◌∷◌, length, Some, None, arith}
use Rattle.std.specs.Prelude.{◌&&◌, ◌||◌, insert, unwrap_or, nat_lt, Ok, Err}
use Rattle.std.specs.List.{list_all, prefix_len}
use Rattle.std.specs.List.Sorted.{IsPermutation}
use Rattle.std.proofs.lemmas.Bool.{ltb-false}
use Rattle.std.proofs.lemmas.List.Sorted.{IsPermutation-insert, list_any-IsPermutation}
use Rattle.std.proofs.lemmas.List.Sums.{prefix_len-le-length}
use Rattle.std.proofs.lemmas.Slice.Eq.{bytes_eq-Decides}
use Rattle.press_text.specs.NameOrder.{is_before}
use Rattle.press_site.specs.Plugins.{is_active, place_in}
use Rattle.press_site.specs.Effects.{no_site, with_plugins}
use Rattle.press_site.specs.declared.fault.SiteFault.TheVariants.{AlreadyActive}
use Rattle.press_run.specs.Links.{or_no_change}
use Rattle.press_site.specs.SiteView.{SiteView}
use Rattle.press_text.proofs.NameOrder.{weak, both, and, clash, behind}
use Rattle.press_play.specs.Sites.{one_active, all_active, site_with}

-- each name before all that follow it
abbrev rises : List (List ℕ) → Bool
rises [] = true
rises (n ∷ ns) = list_all (is_before n) ns && rises ns

-- ---- the order

itself : (n : List ℕ) → bytes_eq n n ≡ true
itself n = (bytes_eq-Decides n n).1 refl

not_itself : (n : List ℕ) → is_before n n ≡ false
not_itself n = go (is_before n n) refl
  where
    go : (b : Bool) → b ≡ is_before n n → is_before n n ≡ false
    go true e = weak.one_way n n (sym e)
    go false e = sym e

farther : (a b c : List ℕ) → is_before a b ≡ true → is_before b c ≡ true → is_before a c ≡ true
farther a b c e f = go (is_before a c) refl
  where
    go : (t : Bool) → t ≡ is_before a c → is_before a c ≡ true
    go true h = sym h
    go false h = clash (is_before b c) f (weak.chain b a c (weak.one_way a b e) (sym h))

all_farther : (a b : List ℕ) (ns : List (List ℕ)) → is_before a b ≡ true → list_all (is_before b) ns ≡ true → list_all (is_before a) ns ≡ true
all_farther a b [] e h = refl
all_farther a b (n ∷ ns) e h =
    let p = both (is_before b n) (list_all (is_before b) ns) h in
    and (is_before a n) (list_all (is_before a) ns) (farther a b n e p.0) (all_farther a b ns e p.1)

-- what stands behind a name is another
not_behind : (n : List ℕ) (ns : List (List ℕ)) → list_all (is_before n) ns ≡ true → is_active n ns ≡ false
not_behind n [] h = refl
not_behind n (m ∷ ns) h =
    let p = both (is_before n m) (list_all (is_before n) ns) h in
    rw (unlike (bytes_eq n m) refl p.0) (not_behind n ns p.1)
  where
    unlike : (b : Bool) → b ≡ bytes_eq n m → is_before n m ≡ true → bytes_eq n m ≡ false
    unlike true e f = clash (is_before n n) (ap (is_before n) ((bytes_eq-Decides n m).0 (sym e)) ∙ f) (not_itself n)
    unlike false e f = sym e

-- one of these stands behind what all stand behind
all_after : (a m : List ℕ) (ns : List (List ℕ)) → list_all (is_before a) ns ≡ true → is_active m ns ≡ true → is_before a m ≡ true
all_after a m [] h t = cc
all_after a m (n ∷ ns) h t =
    let p = both (is_before a n) (list_all (is_before a) ns) h in
    go (bytes_eq m n) refl p.0 (λ u. all_after a m ns p.1 u) t
  where
    go : (b : Bool) → b ≡ bytes_eq m n → is_before a n ≡ true → (is_active m ns ≡ true → is_before a m ≡ true) → (b || is_active m ns) ≡ true → is_before a m ≡ true
    go true e f again u = ap (is_before a) ((bytes_eq-Decides m n).0 (sym e)) ∙ f
    go false e f again u = again u

-- ---- names that rise are told by which there are

or_right : (a b : Bool) → a ≡ false → (a || b) ≡ b
or_right true b e = absurd (cc)
or_right false b e = refl

same_first : (x y : List ℕ) (xs ys : List (List ℕ)) → rises (x ∷ xs) ≡ true → rises (y ∷ ys) ≡ true →
    is_active x (y ∷ ys) ≡ true → is_active y (x ∷ xs) ≡ true → x ≡ y
same_first x y xs ys up up' h k = go (bytes_eq x y) (bytes_eq y x) refl refl h k
  where
    go : (b c : Bool) → b ≡ bytes_eq x y → c ≡ bytes_eq y x → (b || is_active x ys) ≡ true → (c || is_active y xs) ≡ true → x ≡ y
    go true c e f h k = (bytes_eq-Decides x y).0 (sym e)
    go false true e f h k = sym ((bytes_eq-Decides y x).0 (sym f))
    go false false e f h k =
        let p = both (list_all (is_before x) xs) (rises xs) up in
        let q = both (list_all (is_before y) ys) (rises ys) up' in
        clash (is_before x y) (all_after x y xs p.0 k) (weak.one_way y x (all_after y x ys q.0 h))

tail_same : (x : List ℕ) (xs ys : List (List ℕ)) → list_all (is_before x) xs ≡ true → list_all (is_before x) ys ≡ true →
    ((m : List ℕ) → is_active m (x ∷ xs) ≡ is_active m (x ∷ ys)) → (m : List ℕ) → is_active m xs ≡ is_active m ys
tail_same x xs ys p q h m = go (bytes_eq m x) refl
  where
    go : (b : Bool) → b ≡ bytes_eq m x → is_active m xs ≡ is_active m ys
    go true e =
        let same : x ≡ m = sym ((bytes_eq-Decides m x).0 (sym e)) in
        subst (λ n. is_active n xs ≡ is_active n ys) same (not_behind x xs p ∙ sym (not_behind x ys q))
    go false e = sym (or_right (bytes_eq m x) (is_active m xs) (sym e)) ∙ h m ∙ or_right (bytes_eq m x) (is_active m ys) (sym e)

first_active : (x : List ℕ) (xs : List (List ℕ)) → is_active x (x ∷ xs) ≡ true
first_active x xs = rw (itself x) refl

told : (xs ys : List (List ℕ)) → rises xs ≡ true → rises ys ≡ true → ((m : List ℕ) → is_active m xs ≡ is_active m ys) → xs ≡ ys
told [] [] up up' h = refl
told [] (y ∷ ys) up up' h = clash (is_active y (y ∷ ys)) (first_active y ys) (sym (h y))
told (x ∷ xs) [] up up' h = clash (is_active x (x ∷ xs)) (first_active x xs) (h x)
told (x ∷ xs) (y ∷ ys) up up' h =
    let first : x ≡ y = same_first x y xs ys up up' (sym (h x) ∙ first_active x xs) (h y ∙ first_active y ys) in
    let p = both (list_all (is_before x) xs) (rises xs) up in
    let q = both (list_all (is_before y) ys) (rises ys) up' in
    let low : list_all (is_before x) ys ≡ true = subst (λ n. list_all (is_before n) ys ≡ true) (sym first) q.0 in
    let alike : (m : List ℕ) → is_active m (x ∷ xs) ≡ is_active m (x ∷ ys) = subst (λ n. (m : List ℕ) → is_active m (x ∷ xs) ≡ is_active m (n ∷ ys)) (sym first) h in
    ap (λ n. n ∷ xs) first ∙ ap (λ ns. y ∷ ns) (told xs ys p.1 q.1 (tail_same x xs ys p.0 low alike))

-- ---- one more name

abbrev added : List ℕ → List (List ℕ) → List (List ℕ)
added n ns = cond (is_active n ns) ns (insert ns (place_in n ns) n)

least : (n l : ℕ) (b : Bool) → b ≡ nat_lt n l → n ≤ l → unwrap_or (cond b (Some n) None) l ≡ n
least n l true e h = refl
least n l false e h = let past : l ≤ n = ltb-false n l (sym e) in omega arith

abbrev slot : List ℕ → List (List ℕ) → ℕ
slot n ns = prefix_len (λ m. not (is_before n m)) ns

place_is : (n : List ℕ) (ns : List (List ℕ)) → place_in n ns ≡ slot n ns
place_is n ns = least (slot n ns) (length ns) (nat_lt (slot n ns) (length ns)) refl (prefix_len-le-length (λ m. not (is_before n m)) ns)

all_insert : (p : List ℕ → Bool) (n : List ℕ) (ns : List (List ℕ)) (i : ℕ) → list_all p ns ≡ true → p n ≡ true → list_all p (insert ns i n) ≡ true
all_insert p n [] zero e f = and (p n) true f refl
all_insert p n [] (suc i) e f = and (p n) true f refl
all_insert p n (m ∷ ns) zero e f = and (p n) (list_all p (m ∷ ns)) f e
all_insert p n (m ∷ ns) (suc i) e f =
    let b = both (p m) (list_all p ns) e in
    and (p m) (list_all p (insert ns i n)) b.0 (all_insert p n ns i b.1 f)

neither : (a b : Bool) → (a || b) ≡ false → (a ≡ false) × (b ≡ false)
neither true b e = absurd (cc)
neither false b e = (refl, e)

inserted : (n : List ℕ) (ns : List (List ℕ)) → rises ns ≡ true → is_active n ns ≡ false → rises (insert ns (slot n ns) n) ≡ true
inserted n [] up e = refl
inserted n (m ∷ ns) up e =
    let p = both (list_all (is_before m) ns) (rises ns) up in
    let d = neither (bytes_eq n m) (is_active n ns) e in
    let one : 1 + slot n ns ≡ suc (slot n ns) = omega arith in
    rw one (go (is_before n m) refl p.0 d.0 (inserted n ns p.1 d.1))
  where
    go : (b : Bool) → b ≡ is_before n m → list_all (is_before m) ns ≡ true → bytes_eq n m ≡ false → rises (insert ns (slot n ns) n) ≡ true →
        rises (insert (m ∷ ns) (cond (not b) (suc (slot n ns)) 0) n) ≡ true
    go true f low d again =
        and (list_all (is_before n) (m ∷ ns)) (rises (m ∷ ns))
        (and (is_before n m) (list_all (is_before n) ns) (sym f) (all_farther n m ns (sym f) low)) up
    go false f low d again =
        and (list_all (is_before m) (insert ns (slot n ns) n)) (rises (insert ns (slot n ns) n))
        (all_insert (is_before m) n ns (slot n ns) low (behind n m (sym f) d)) again

added_rises : (n : List ℕ) (ns : List (List ℕ)) → rises ns ≡ true → rises (added n ns) ≡ true
added_rises n ns up = go (is_active n ns) refl
  where
    go : (b : Bool) → b ≡ is_active n ns → rises (cond b ns (insert ns (place_in n ns) n)) ≡ true
    go true e = up
    go false e = rw (place_is n ns) (inserted n ns up (sym e))

added_has : (m n : List ℕ) (ns : List (List ℕ)) → is_active m (added n ns) ≡ (bytes_eq m n || is_active m ns)
added_has m n ns = go (is_active n ns) refl
  where
    there : (b : Bool) → b ≡ bytes_eq m n → is_active n ns ≡ true → is_active m ns ≡ (b || is_active m ns)
    there true e f = ap (λ x. is_active x ns) ((bytes_eq-Decides m n).0 (sym e)) ∙ f
    there false e f = refl

    go : (b : Bool) → b ≡ is_active n ns → is_active m (cond b ns (insert ns (place_in n ns) n)) ≡ (bytes_eq m n || is_active m ns)
    go true e = there (bytes_eq m n) refl (sym e)
    go false e = sym (list_any-IsPermutation (bytes_eq m) (n ∷ ns) (insert ns (place_in n ns) n) (IsPermutation-insert ns (place_in n ns) n))

-- ---- all names

abbrev all_added : List (List ℕ) → List (List ℕ) → List (List ℕ)
all_added [] ns = ns
all_added (n ∷ more) ns = all_added more (added n ns)

all_rise : (more ns : List (List ℕ)) → rises ns ≡ true → rises (all_added more ns) ≡ true
all_rise [] ns up = up
all_rise (n ∷ more) ns up = all_rise more (added n ns) (added_rises n ns up)

turned : (a b c : Bool) → (a || (b || c)) ≡ ((b || a) || c)
turned true true c = refl
turned true false c = refl
turned false true c = refl
turned false false c = refl

all_has : (m : List ℕ) (more ns : List (List ℕ)) → is_active m (all_added more ns) ≡ (is_active m more || is_active m ns)
all_has m [] ns = refl
all_has m (n ∷ more) ns =
    all_has m more (added n ns) ∙ ap (λ b. is_active m more || b) (added_has m n ns)
    ∙ turned (is_active m more) (bytes_eq m n) (is_active m ns)

added_as : (n : List ℕ) (site : SiteView) → one_active n site ≡ record site { active = added n site.active }
added_as n site = go (is_active n site.active)
  where
    go : (b : Bool) → (or_no_change site (with_plugins site (cond b (Err AlreadyActive) (Ok (insert site.active (place_in n site.active) n))))).0
        ≡ record site { active = cond b site.active (insert site.active (place_in n site.active) n) }
    go true = refl
    go false = refl

all_as : (more : List (List ℕ)) (site : SiteView) → all_active more site ≡ record site { active = all_added more site.active }
all_as [] site = refl
all_as (n ∷ more) site = ap (all_active more) (added_as n site) ∙ all_as more (record site { active = added n site.active })

pub in_any_order : (xs ys : List (List ℕ)) → IsPermutation xs ys → site_with ys ≡ site_with xs
in_any_order xs ys h =
    let same : (m : List ℕ) → is_active m (all_added ys []) ≡ is_active m (all_added xs []) =
    λ m. all_has m ys [] ∙ ap (λ b. b || false) (sym (list_any-IsPermutation (bytes_eq m) xs ys h)) ∙ sym (all_has m xs []) in
    all_as ys no_site
    ∙ ap (λ ns. record no_site { active = ns }) (told (all_added ys []) (all_added xs []) (all_rise ys [] refl) (all_rise xs [] refl) same)
    ∙ sym (all_as xs no_site)
