-- What a ring of places stands for, and after each change of it.
use Rattle.std.proofs.Common.{ℕ, zero, suc, ◌+◌, ◌-◌, ◌*◌, ◌/◌, ◌%◌, ◌<◌, ◌≤◌, ◌≡◌, ◌≢◌, inl, inr, Bool, true, false, cond, nat_lt, nat_le, List, [], length, get_or, set, Option, Some, None, refl, sym, ap, subst, ◌∙◌, arith}
use Rattle.std.proofs.lemmas.Bool.{and_from, and_parts, both_ways, cases_eq, cases_lt, cond-false, cond-true, cond_both, le-leb, leb-true, lt-ltb, ltb-true, true≢false}
use Rattle.std.proofs.lemmas.List.{get_or_past, get_or-set_same, get_or-set_other, length-set, set_past}
use Rattle.std.specs.Cmp.{eq_by_cmp_equiv}
use Rattle.std.specs.FinMap.{FinMap, empty, get, insert, retain_keys, get-empty, get-insert}
use Rattle.std.specs.Ordering.{eq_by_cmp}
use Rattle.press_wire.specs.declared.vote.Vote.{Vote}
use Rattle.press_learner.specs.InRing.{IsAlike, slot_and_member_of, without_slot_votes, has_place, place_of, vote_in_ring, votes_in, votes_to, with_perhaps}
use Rattle.press_learner.specs.Kept.{is_in_window, place_cmp}
use Rattle.press_learner.proofs.Places.{get_retained, other_place, places_total, same_place, same_votes}

-- ---- places

abbrev pub IsPlace : ℕ → ℕ → ℕ → ℕ → Type 0
IsPlace n a s m = (a < s) × (s ≤ a + 64) × (1 ≤ m) × (m ≤ n)

pub place_parts : (n a s m : ℕ) → has_place n a s m ≡ true → IsPlace n a s m
unfolding is_in_window
place_parts n a s m e =
    let p = and_parts (is_in_window a s) _ e in
    let w = and_parts (nat_lt a s) _ p.0 in
    let q = and_parts (nat_le 1 m) _ p.1 in
    (ltb-true a s w.0, leb-true s (a + 64) w.1, leb-true 1 m q.0, leb-true m n q.1)

pub place_from : (n a s m : ℕ) → IsPlace n a s m → has_place n a s m ≡ true
unfolding is_in_window
place_from n a s m p = and_from _ _ (and_from _ _ (lt-ltb a s p.0) (le-leb s (a + 64) p.1)) (and_from _ _ (le-leb 1 m p.2) (le-leb m n p.3))

-- no two of a window have one place
one_place : (n a s m x y : ℕ) → IsPlace n a s m → IsPlace n a x y → place_of x y ≡ place_of s m → ◌≡◌ {A = ℕ × ℕ} (x, y) (s, m)
unfolding place_of
one_place n a s m x y p q e =
    let slots : x ≡ s = omega arith in
    let members : y ≡ m = omega arith in
    λ i. (slots i, members i)

pub within_room : (n a s m l : ℕ) → IsPlace n a s m → l ≡ 64 * n → place_of s m < l
unfolding place_of
within_room n a s m l p e = omega arith

-- ---- numbers of places

apart : (a i j : ℕ) → slot_and_member_of a i ≡ slot_and_member_of a j → i ≡ j
unfolding slot_and_member_of
apart a i j e =
    let slots : a + 1 + i % 64 ≡ a + 1 + j % 64 = ap (λ (p : ℕ × ℕ). p.0) e in
    let members : 1 + i / 64 ≡ 1 + j / 64 = ap (λ (p : ℕ × ℕ). p.1) e in
    omega arith

is_counted : (n a i : ℕ) → i < 64 * n → IsPlace n a (slot_and_member_of a i).0 (slot_and_member_of a i).1
unfolding slot_and_member_of
is_counted n a i lt = (omega arith, omega arith, omega arith, omega arith)

slot_of : (a s m i : ℕ) → a < s → s ≤ a + 64 → i ≡ (m - 1) * 64 + (s - (a + 1)) → a + 1 + i % 64 ≡ s
slot_of a s m i low high e = omega arith

member_of : (a s m i : ℕ) → a < s → s ≤ a + 64 → 1 ≤ m → i ≡ (m - 1) * 64 + (s - (a + 1)) → 1 + i / 64 ≡ m
member_of a s m i low high some e = omega arith

number_of : (n a s m : ℕ) → IsPlace n a s m → (i : ℕ) × (i < 64 * n) × (◌≡◌ {A = ℕ × ℕ} (slot_and_member_of a i) (s, m))
unfolding slot_and_member_of
number_of n a s m p =
    let i : ℕ = (m - 1) * 64 + (s - (a + 1)) in
    let slot = slot_of a s m i p.0 p.1 refl in
    let member = member_of a s m i p.0 p.1 p.2 refl in
    (i, omega arith, λ j. (slot j, member j))

-- ---- the map of the first numbers

with_at : (votes : FinMap place_cmp Vote) (k : ℕ × ℕ) (o : Option Vote) (q : ℕ × ℕ) → get votes k ≡ None → get (with_perhaps votes k o) q ≡ cond (eq_by_cmp place_cmp q k) o (get votes q)
with_at votes k None q none = go (eq_by_cmp place_cmp q k) refl
  where
    go : (t : Bool) → eq_by_cmp place_cmp q k ≡ t → get votes q ≡ cond t None (get votes q)
    go true e = ap (get votes) (same_place q k e) ∙ none
    go false e = refl
with_at votes k (Some vote) q none = get-insert places_total votes k vote q

outside : (n a : ℕ) (ring : List (Option Vote)) (q : ℕ × ℕ) → ((i : ℕ) → i < n → slot_and_member_of a i ≢ q) → get (votes_to n a ring) q ≡ None
unfolding votes_to
outside zero a ring q out = get-empty place_cmp q
outside (suc n) a ring q out =
    with_at (votes_to n a ring) (slot_and_member_of a n) (vote_in_ring ring (slot_and_member_of a n).0 (slot_and_member_of a n).1) q (outside n a ring (slot_and_member_of a n) (λ i lt same. absurd (omega (arith, lt, apart a i n same))))
    ∙ cond-false _ _ _ (other_place q (slot_and_member_of a n) (λ same. out n (omega arith) (sym same)))
    ∙ outside n a ring q (λ i lt. out i (omega (arith, lt)))

inside : (n a : ℕ) (ring : List (Option Vote)) (i : ℕ) → i < n → get (votes_to n a ring) (slot_and_member_of a i) ≡ vote_in_ring ring (slot_and_member_of a i).0 (slot_and_member_of a i).1
unfolding votes_to
inside zero a ring i lt = absurd (omega (arith, lt))
inside (suc n) a ring i lt =
    with_at (votes_to n a ring) (slot_and_member_of a n) (vote_in_ring ring (slot_and_member_of a n).0 (slot_and_member_of a n).1) (slot_and_member_of a i) (outside n a ring (slot_and_member_of a n) (λ j less same. absurd (omega (arith, less, apart a j n same))))
    ∙ elim (cases_eq i n) [
      | inl same ↦ cond-true _ _ _ (ap (eq_by_cmp place_cmp (slot_and_member_of a i)) (ap (slot_and_member_of a) (sym same)) ∙ (eq_by_cmp_equiv places_total).refl (slot_and_member_of a i)) ∙ ap (λ j. vote_in_ring ring (slot_and_member_of a j).0 (slot_and_member_of a j).1) (sym same)
      | inr other ↦ cond-false _ _ _ (other_place (slot_and_member_of a i) (slot_and_member_of a n) (λ same. other (apart a i n same))) ∙ inside n a ring i (omega (arith, lt, other))
    ]

votes_are : (n a : ℕ) (ring : List (Option Vote)) → votes_in n a ring ≡ votes_to (64 * n) a ring
unfolding votes_in
votes_are n a ring = refl

-- the vote for a slot of the window is at its place
pub votes_at : (n a : ℕ) (ring : List (Option Vote)) (s m : ℕ) → get (votes_in n a ring) (s, m) ≡ cond (has_place n a s m) (vote_in_ring ring s m) None
votes_at n a ring s m = ap (λ (votes : FinMap place_cmp Vote). get votes (s, m)) (votes_are n a ring) ∙ go (has_place n a s m) refl
  where
    go : (t : Bool) → has_place n a s m ≡ t → get (votes_to (64 * n) a ring) (s, m) ≡ cond t (vote_in_ring ring s m) None
    go true e =
        let c = number_of n a s m (place_parts n a s m e) in
        subst (λ (q : ℕ × ℕ). get (votes_to (64 * n) a ring) q ≡ vote_in_ring ring q.0 q.1) c.2 (inside (64 * n) a ring c.0 c.1)
    go false e =
        outside (64 * n) a ring (s, m) (λ i lt same. both_ways (has_place n a s m) e (subst (λ (q : ℕ × ℕ). has_place n a q.0 q.1 ≡ true) same (place_from n a (slot_and_member_of a i).0 (slot_and_member_of a i).1 (is_counted n a i lt))))

-- ---- after each change

pub none_in : (n a : ℕ) → votes_in n a [] ≡ empty
none_in n a = same_votes (votes_in n a []) empty (λ s m.
    votes_at n a [] s m ∙ cond_both (has_place n a s m) (vote_in_ring [] s m) None (λ (o : Option Vote). o ≡ None) (λ _. refl) (λ _. refl) ∙ sym (get-empty place_cmp (s, m)))

pub alike_in : (n a : ℕ) (ring more : List (Option Vote)) → IsAlike ring more → votes_in n a more ≡ votes_in n a ring
alike_in n a ring more h = same_votes (votes_in n a more) (votes_in n a ring) (λ s m.
    votes_at n a more s m ∙ ap (λ (o : Option Vote). cond (has_place n a s m) o None) (h (place_of s m)) ∙ sym (votes_at n a ring s m))

pub put_in : (n a : ℕ) (ring : List (Option Vote)) (s m : ℕ) (vote : Vote) → IsPlace n a s m → length ring ≡ 64 * n → votes_in n a (set ring (place_of s m) (Some vote)) ≡ insert (votes_in n a ring) (s, m) vote
put_in n a ring s m vote p l = same_votes (votes_in n a (set ring (place_of s m) (Some vote))) (insert (votes_in n a ring) (s, m) vote) (λ x y.
    votes_at n a (set ring (place_of s m) (Some vote)) x y
    ∙ go x y (eq_by_cmp place_cmp (x, y) (s, m)) refl
    ∙ sym (get-insert places_total (votes_in n a ring) (s, m) vote (x, y) ∙ ap (cond (eq_by_cmp place_cmp (x, y) (s, m)) (Some vote)) (votes_at n a ring x y)))
  where
    here : has_place n a s m ≡ true
    here = place_from n a s m p

    there : (x y : ℕ) → ◌≢◌ {A = ℕ × ℕ} (x, y) (s, m) → (t : Bool) → has_place n a x y ≡ t → cond t (vote_in_ring (set ring (place_of s m) (Some vote)) x y) None ≡ cond t (vote_in_ring ring x y) None
    there x y other true e = get_or-set_other ring (place_of s m) (place_of x y) (Some vote) None (λ same. other (one_place n a s m x y p (place_parts n a x y e) same))
    there x y other false e = refl

    go : (x y : ℕ) (t : Bool) → eq_by_cmp place_cmp (x, y) (s, m) ≡ t → cond (has_place n a x y) (vote_in_ring (set ring (place_of s m) (Some vote)) x y) None ≡ cond t (Some vote) (cond (has_place n a x y) (vote_in_ring ring x y) None)
    go x y true e =
        subst (λ (q : ℕ × ℕ). cond (has_place n a q.0 q.1) (vote_in_ring (set ring (place_of s m) (Some vote)) q.0 q.1) None ≡ Some vote) (sym (same_place (x, y) (s, m) e))
        (cond-true _ _ _ here ∙ get_or-set_same ring (place_of s m) (Some vote) None (within_room n a s m (length ring) p l))
    go x y false e = there x y (λ same. true≢false (sym (subst (λ (q : ℕ × ℕ). eq_by_cmp place_cmp (x, y) q ≡ true) same ((eq_by_cmp_equiv places_total).refl (x, y))) ∙ e)) (has_place n a x y) refl

-- ---- a slot's places are emptied

none_set : (ring : List (Option Vote)) (i : ℕ) → get_or (set ring i None) i None ≡ None
none_set ring i = elim (cases_lt i (length ring)) [
  | inl lt ↦ get_or-set_same ring i None None lt
  | inr le ↦ ap (λ (xs : List (Option Vote)). get_or xs i None) (set_past ring i None le) ∙ get_or_past ring i None le
]

pub emptied_none : (slot : ℕ) (ring : List (Option Vote)) → ring ≡ without_slot_votes 0 slot ring
unfolding without_slot_votes
emptied_none slot ring = refl

pub emptied_more : (i slot place : ℕ) (old ring : List (Option Vote)) → ring ≡ without_slot_votes i slot old → place ≡ place_of slot (i + 1) → set ring place None ≡ without_slot_votes (i + 1) slot old
unfolding without_slot_votes
emptied_more i slot place old ring e f =
    let more : i + 1 ≡ suc i = omega arith in
    rw (f, e, more)

pub emptied_past : (i slot place : ℕ) (old ring : List (Option Vote)) → ring ≡ without_slot_votes i slot old → place ≡ place_of slot (i + 1) → length ring ≤ place → ring ≡ without_slot_votes (i + 1) slot old
emptied_past i slot place old ring e f past = sym (set_past ring place None past) ∙ emptied_more i slot place old ring e f

pub length_emptied : (k slot : ℕ) (ring : List (Option Vote)) → length (without_slot_votes k slot ring) ≡ length ring
unfolding without_slot_votes
length_emptied zero slot ring = refl
length_emptied (suc k) slot ring = length-set (without_slot_votes k slot ring) (place_of slot (suc k)) None ∙ length_emptied k slot ring

own_place : (k slot s m : ℕ) → s % 64 ≡ slot % 64 → m ≡ suc k → place_of s m ≡ place_of slot (suc k)
unfolding place_of
own_place k slot s m e f = omega arith

before_place : (k slot s m : ℕ) → 1 ≤ m → m ≤ k → s % 64 ≡ slot % 64 → place_of s m ≢ place_of slot (suc k)
unfolding place_of
before_place k slot s m some le e = λ same. omega arith

beside_place : (k slot s m : ℕ) → s % 64 ≢ slot % 64 → place_of s m ≢ place_of slot (suc k)
unfolding place_of
beside_place k slot s m other = λ same. other (omega arith)

emptied_own : (k slot : ℕ) (ring : List (Option Vote)) (s m : ℕ) → 1 ≤ m → m ≤ k → s % 64 ≡ slot % 64 → vote_in_ring (without_slot_votes k slot ring) s m ≡ None
unfolding without_slot_votes
emptied_own zero slot ring s m some le e = absurd (omega (arith, some, le))
emptied_own (suc k) slot ring s m some le e = elim (cases_eq m (suc k)) [
  | inl last ↦ none_at last
  | inr less ↦ get_or-set_other (without_slot_votes k slot ring) (place_of slot (suc k)) (place_of s m) None None (before_place k slot s m some (omega (arith, le, less)) e) ∙ emptied_own k slot ring s m some (omega (arith, le, less)) e
]
  where
    none_at : m ≡ suc k → vote_in_ring (set (without_slot_votes k slot ring) (place_of slot (suc k)) None) s m ≡ None
    none_at last = ap (λ i. get_or (set (without_slot_votes k slot ring) (place_of slot (suc k)) None) i None) (own_place k slot s m e last) ∙ none_set (without_slot_votes k slot ring) (place_of slot (suc k))

emptied_other : (k slot : ℕ) (ring : List (Option Vote)) (s m : ℕ) → s % 64 ≢ slot % 64 → vote_in_ring (without_slot_votes k slot ring) s m ≡ vote_in_ring ring s m
unfolding without_slot_votes
emptied_other zero slot ring s m other = refl
emptied_other (suc k) slot ring s m other = get_or-set_other (without_slot_votes k slot ring) (place_of slot (suc k)) (place_of s m) None None (beside_place k slot s m other) ∙ emptied_other k slot ring s m other

round_again : (a x : ℕ) → x ≡ a + 65 → x % 64 ≡ (a + 1) % 64
round_again a x e = omega arith

not_round : (a x : ℕ) → a + 1 < x → x ≤ a + 64 → x % 64 ≢ (a + 1) % 64
not_round a x low high = λ same. omega arith

pub advanced_in : (n a : ℕ) (ring : List (Option Vote)) → votes_in n (a + 1) (without_slot_votes n (a + 1) ring) ≡ retain_keys (votes_in n a ring) (λ (place : ℕ × ℕ). nat_lt (a + 1) place.0)
advanced_in n a ring = same_votes (votes_in n (a + 1) (without_slot_votes n (a + 1) ring)) (retain_keys (votes_in n a ring) (λ (place : ℕ × ℕ). nat_lt (a + 1) place.0)) (λ x y.
    votes_at n (a + 1) (without_slot_votes n (a + 1) ring) x y
    ∙ go x y (has_place n (a + 1) x y) refl (nat_lt (a + 1) x) refl (has_place n a x y) refl
    ∙ sym (get_retained (votes_in n a ring) (λ (place : ℕ × ℕ). nat_lt (a + 1) place.0) (x, y) ∙ ap (λ (o : Option Vote). cond (nat_lt (a + 1) x) o None) (votes_at n a ring x y)))
  where
    go : (x y : ℕ) (t : Bool) → has_place n (a + 1) x y ≡ t → (u : Bool) → nat_lt (a + 1) x ≡ u → (v : Bool) → has_place n a x y ≡ v → cond t (vote_in_ring (without_slot_votes n (a + 1) ring) x y) None ≡ cond u (cond v (vote_in_ring ring x y) None) None
    go x y true e true f true g = let p = place_parts n a x y g in emptied_other n (a + 1) ring x y (not_round a x (ltb-true (a + 1) x f) p.1)
    go x y true e true f false g =
        let p = place_parts n (a + 1) x y e in
        let last : x ≡ a + 65 = elim (cases_lt (a + 64) x) [
          | inl past ↦ omega (arith, p.1, past)
          | inr within ↦ absurd (both_ways (has_place n a x y) g (place_from n a x y (omega (arith, p.0), within, p.2, p.3)))
        ] in
        emptied_own n (a + 1) ring x y p.2 p.3 (round_again a x last)
    go x y true e false f v g = let p = place_parts n (a + 1) x y e in absurd (both_ways (nat_lt (a + 1) x) f (lt-ltb (a + 1) x p.0))
    go x y false e true f true g =
        let p = place_parts n a x y g in
        absurd (both_ways (has_place n (a + 1) x y) e (place_from n (a + 1) x y (ltb-true (a + 1) x f, omega (arith, p.1), p.2, p.3)))
    go x y false e true f false g = refl
    go x y false e false f v g = refl
