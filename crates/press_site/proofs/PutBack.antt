-- What stood at an option's name, put back over what it was set to.
use Rattle.std.proofs.Common.{◌≡◌, refl, ◌∙◌, ap, ℕ, Bool, true, false, cond, List, [], ◌∷◌, length, Option, Some, None}
use Rattle.std.specs.Prelude.{Result, Ok, Err, IfOk, IfErr, String, string_bytes, bytes_eq, nat_lt, if◌then◌else◌}
use Rattle.std.specs.BTreeMap.{is_at}
use Rattle.std.specs.Cmp.Lexicographic.{slice_cmp}
use Rattle.std.specs.Map.{keys_of, remove_entry, set_value}
use Rattle.std.specs.Ordering.{is_eq, nat_cmp, match_ordering}
use Rattle.std.specs.declared.cmp.Ordering.{Ordering}
use Rattle.std.specs.declared.cmp.Ordering.TheVariants.{Less, Equal, Greater}
use Rattle.std.specs.List.{AllByRecursion}
use Rattle.std.specs.List.Sorted.{IsStrictlySortedBy}
use Rattle.std.specs.String.{string_cmp}
use Rattle.std.proofs.lemmas.Map.Steps.{set_value_same}
use Rattle.std.proofs.lemmas.Cmp.{nat_list_cmp_total, tied_itself}
use Rattle.press_posts.specs.declared.fire.Fire.{Fire}
use Rattle.press_site.specs.declared.fault.SiteFault.{SiteFault}
use Rattle.press_site.specs.declared.fault.SiteFault.TheVariants.{NoMemory}
use Rattle.press_site.specs.declared.options.SetDone.{SetDone}
use Rattle.press_site.specs.Becomes.{MayGrow}
use Rattle.press_site.specs.Sets.{Changes, Sets, set_back}
use Rattle.press_site.specs.Options.{Values, by_bytes, option_of, put_back, put_option, set_option, set_over, option_update_fire}

module _ (name value : List ℕ) where
  abbrev out : Values → Values
  out es = remove_entry (is_at (slice_cmp nat_cmp name)) es

  -- a name that was put in
  pub name_out : (es : Values) → option_of name es ≡ None → out (put_option name value es) ≡ es
  name_out [] s = ap (λ (o : Ordering). cond (is_eq o) [] ((name, value) ∷ [])) (tied_itself nat_list_cmp_total name)
  name_out (e ∷ es) s = by (slice_cmp nat_cmp name e.0) refl s (name_out es)
    where
      by : (o : Ordering) → slice_cmp nat_cmp name e.0 ≡ o → cond (is_eq o) (Some e.1) (option_of name es) ≡ None → (option_of name es ≡ None → out (put_option name value es) ≡ es)
          → out (match_ordering o ((name, value) ∷ e ∷ es) ((e.0, value) ∷ es) (e ∷ put_option name value es)) ≡ e ∷ es
      by Less p s h = ap (λ (o : Ordering). cond (is_eq o) (e ∷ es) ((name, value) ∷ out (e ∷ es))) (tied_itself nat_list_cmp_total name)
      by Equal p s h = absurd (cc)
      by Greater p s h = ap (λ (o : Ordering). cond (is_eq o) (put_option name value es) (e ∷ out (put_option name value es))) p ∙ ap (λ (xs : Values). e ∷ xs) (h s)

-- a value that was set over another
pub value_back : (name value old : List ℕ) (es : Values) → option_of name es ≡ Some old → put_back name (Some old) (put_back name (Some value) es) ≡ es
value_back name value old [] s = absurd (cc)
value_back name value old (e ∷ es) s = by (is_at (slice_cmp nat_cmp name) e.0) refl s (value_back name value old es)
  where
    by : (b : Bool) → is_at (slice_cmp nat_cmp name) e.0 ≡ b → cond b (Some e.1) (option_of name es) ≡ Some old
        → (option_of name es ≡ Some old → put_back name (Some old) (put_back name (Some value) es) ≡ es)
        → put_back name (Some old) (cond b ((e.0, value) ∷ es) (e ∷ put_back name (Some value) es)) ≡ e ∷ es
    by true p s h =
        let same : old ≡ e.1 = cc in
        ap (λ (b : Bool). cond b ((e.0, old) ∷ es) ((e.0, value) ∷ put_back name (Some old) es)) p ∙ ap (λ (v : List ℕ). (e.0, v) ∷ es) same
    by false p s h =
        ap (λ (b : Bool). cond b ((e.0, old) ∷ put_back name (Some value) es) (e ∷ put_back name (Some old) (put_back name (Some value) es))) p ∙ ap (λ (xs : Values). e ∷ xs) (h s)

-- ---- entries by texts, read by the bytes of their names

pub replaced : {S : Type 0} (name value : List ℕ) (es : List (String S × List ℕ)) → by_bytes (set_value (is_at (λ (k : String S). slice_cmp nat_cmp name (string_bytes k))) es value) ≡ put_back name (Some value) (by_bytes es)
replaced name value [] = refl
replaced {S} name value (e ∷ es) = by (is_at (slice_cmp nat_cmp name) (string_bytes e.0)) (set_value (is_at (λ (k : String S). slice_cmp nat_cmp name (string_bytes k))) es value) (replaced name value es)
  where
    by : (b : Bool) (left : List (String S × List ℕ)) → by_bytes left ≡ put_back name (Some value) (by_bytes es) → by_bytes (cond b ((e.0, value) ∷ es) (e ∷ left)) ≡ cond b ((string_bytes e.0, value) ∷ by_bytes es) ((string_bytes e.0, e.1) ∷ put_back name (Some value) (by_bytes es))
    by true left h = refl
    by false left h = ap (λ (xs : Values). (string_bytes e.0, e.1) ∷ xs) h

pub removed : {S : Type 0} (name : List ℕ) (es : List (String S × List ℕ)) → by_bytes (remove_entry (is_at (λ (k : String S). slice_cmp nat_cmp name (string_bytes k))) es) ≡ put_back name None (by_bytes es)
removed name [] = refl
removed {S} name (e ∷ es) = by (is_at (slice_cmp nat_cmp name) (string_bytes e.0)) (remove_entry (is_at (λ (k : String S). slice_cmp nat_cmp name (string_bytes k))) es) (removed name es)
  where
    by : (b : Bool) (left : List (String S × List ℕ)) → by_bytes left ≡ put_back name None (by_bytes es) → by_bytes (cond b es (e ∷ left)) ≡ cond b (by_bytes es) ((string_bytes e.0, e.1) ∷ put_back name None (by_bytes es))
    by true left h = refl
    by false left h = ap (λ (xs : Values). (string_bytes e.0, e.1) ∷ xs) h

-- a name that is not there is given no value
pub unset : (name value : List ℕ) (es : Values) → option_of name es ≡ None → put_back name (Some value) es ≡ es
unset name value [] s = refl
unset name value (e ∷ es) s = by (is_at (slice_cmp nat_cmp name) e.0) s (unset name value es)
  where
    by : (b : Bool) → cond b (Some e.1) (option_of name es) ≡ None → (option_of name es ≡ None → put_back name (Some value) es ≡ es) → cond b ((e.0, value) ∷ es) (e ∷ put_back name (Some value) es) ≡ e ∷ es
    by true s h = absurd (cc)
    by false s h = ap (λ (xs : Values). e ∷ xs) (h s)

-- ---- of entries in their order, a name that is there keeps its place

none_behind : {S : Type 0} (name : List ℕ) (k : String S) (es : List (String S × List ℕ)) → slice_cmp nat_cmp name (string_bytes k) ≡ Less → AllByRecursion (λ y. string_cmp k y ≡ Less) (keys_of es) → option_of name (by_bytes es) ≡ None
none_behind name k [] p a = refl
none_behind name k (e ∷ es) p a =
    let less : slice_cmp nat_cmp name (string_bytes e.0) ≡ Less = nat_list_cmp_total.trans name (string_bytes k) (string_bytes e.0) p a.0 in
    ap (λ (o : Ordering). cond (is_eq o) (Some e.1) (option_of name (by_bytes es))) less ∙ none_behind name k es p a.1

pub put_over : {S : Type 0} (name value old : List ℕ) (es : List (String S × List ℕ)) → IsStrictlySortedBy string_cmp (keys_of es) → option_of name (by_bytes es) ≡ Some old → put_option name value (by_bytes es) ≡ put_back name (Some value) (by_bytes es)
unfolding IsStrictlySortedBy
put_over name value old [] s h = absurd (cc)
put_over {S} name value old (e ∷ es) s h = by (slice_cmp nat_cmp name (string_bytes e.0)) refl h (put_over name value old es s.1)
  where
    by : (o : Ordering) → slice_cmp nat_cmp name (string_bytes e.0) ≡ o → cond (is_eq o) (Some e.1) (option_of name (by_bytes es)) ≡ Some old
        → (option_of name (by_bytes es) ≡ Some old → put_option name value (by_bytes es) ≡ put_back name (Some value) (by_bytes es))
        → match_ordering o ((name, value) ∷ (string_bytes e.0, e.1) ∷ by_bytes es) ((string_bytes e.0, value) ∷ by_bytes es) ((string_bytes e.0, e.1) ∷ put_option name value (by_bytes es))
        ≡ cond (is_eq o) ((string_bytes e.0, value) ∷ by_bytes es) ((string_bytes e.0, e.1) ∷ put_back name (Some value) (by_bytes es))
    by Less p h later = let none = none_behind name e.0 es p s.0 in absurd (cc)
    by Equal p h later = refl
    by Greater p h later = ap (λ (xs : Values). (string_bytes e.0, e.1) ∷ xs) (later h)

-- ---- what the setting of an option that is there answers

pub chosen : (name value : List ℕ) (values : Values) (o : Option (List ℕ)) → nat_lt 4096 (length value) ≡ false → option_of name values ≡ o → set_over o name value values ≡ set_option name value values
chosen name value values o short is = rw (short, is) refl

module _ {S : Type 0} (name value old new : List ℕ) (es : List (String S × List ℕ)) (after : Values) where
  abbrev already : Result (Values × Option (List Fire)) SiteFault
  already = Ok (by_bytes es, None)

  abbrev over : Result (Values × Option (List Fire)) SiteFault
  over = Ok (put_option name value (by_bytes es), Some (option_update_fire name old value ∷ []))

  pub sets_there : (result : Result (Option SetDone) SiteFault) → IsStrictlySortedBy string_cmp (keys_of es) → option_of name (by_bytes es) ≡ Some old → after ≡ put_back name (Some new) (by_bytes es)
      → IfOk result (λ s. Changes name value s old new) → IfErr result (λ f. (f ≡ NoMemory) × (new ≡ old)) → Sets result (set_over (Some old) name value (by_bytes es)) (by_bytes es) after
  sets_there (Ok None) o s n c e = rw (c.0, n, c.1, set_value_same (is_at (slice_cmp nat_cmp name)) (by_bytes es) old s) refl
  sets_there (Ok (Some done)) o s n c e = rw (c.0, n, c.1, put_over name value old es o s, c.2) refl
  sets_there (Err f) o s n c e = rw (e.0, n, e.1, set_value_same (is_at (slice_cmp nat_cmp name)) (by_bytes es) old s) (grows (bytes_eq old value), refl)
    where
      grows : (b : Bool) → MayGrow (if b then already else over)
      grows true = tt
      grows false = tt

  pub back_there : (result : Result (Option SetDone) SiteFault) → option_of name (by_bytes es) ≡ Some old → after ≡ put_back name (Some new) (by_bytes es) → IfOk result (λ s. Changes name value s old new) → IfOk result (λ s. set_back name s after ≡ by_bytes es)
  back_there (Ok None) s n c = rw (n, c.1) (set_value_same (is_at (slice_cmp nat_cmp name)) (by_bytes es) old s)
  back_there (Ok (Some done)) s n c = rw (c.2, n, c.1) (value_back name value old (by_bytes es) s)
  back_there (Err f) s n c = tt
