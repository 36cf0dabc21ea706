-- Reading the items of a list one after the other, as a loop does.
use Rattle.std.proofs.Common.{◌≡◌, ℕ, ◌+◌, ◌<◌, ◌≤◌, List, [], ◌∷◌, ◌++◌, length, get_or, drop, map, Result, Ok, Err, Some, refl, sym, ap, ◌∙◌, append_assoc, append-nil, add-one, drop-cons}
use Rattle.serde_json.specs.Find.{as_array}
use Rattle.std.proofs.Math.ListN.{drop_of_length-le}
use Rattle.serde_json.specs.Data.{Data}
use Rattle.serde_json.specs.View.{items_of}
use Rattle.press_kit.specs.declared.place.Place.{Place}
use Rattle.press_kit.specs.declared.fault.KitFileFault.{KitFileFault}
use Rattle.press_kit.specs.declared.fault.KitFileFault.TheVariants.{NoMemory, BadKitFile}
use Rattle.press_kit.specs.Refusals.{Refuses}
use Rattle.press_kit.specs.Places.{item_of}
use Rattle.press_kit.specs.Fields.{◌>>=◌, each, list_of, list_in}

-- what was read before, and what is still read
abbrev pub with_front : {A : Type 0} → List A → Result (List A) Place → Result (List A) Place
with_front front read = read >>= λ xs. Ok (front ++ xs)

regroup : {A : Type 0} (front : List A) (x : A) (read : Result (List A) Place) → with_front front (read >>= λ xs. Ok (x ∷ xs)) ≡ with_front (front ++ x ∷ []) read
regroup front x (Ok xs) = ap (λ ys. Ok ys) (simp append_assoc)
regroup front x (Err place) = refl

module _ {A V : Type 0} (read : Place → Data → Result A Place) (at : Place) (view : V → Data) (vs : List V) where
  -- what is read from a place on
  abbrev pub rest : ℕ → Result (List A) Place
  rest i = each read at i (map view (drop i vs))

  pub goes_on : (front : List A) (i : ℕ) (v : V) (x : A) (total : Result (List A) Place) → i < length vs → v ≡ get_or vs i v → read (item_of at i) (view v) ≡ Ok x
      → with_front front (rest i) ≡ total → with_front (front ++ x ∷ []) (rest (i + 1)) ≡ total
  unfolding each
  goes_on front i v x total lt here h so_far =
      let cut : drop i vs ≡ v ∷ drop (i + 1) vs = rw (add-one, drop-cons vs i v lt, ← here) refl in
      let one : with_front front (rest i) ≡ with_front (front ++ x ∷ []) (rest (i + 1)) = rw (cut, h) (regroup front x (rest (i + 1))) in
      sym one ∙ so_far

  pub ends : (e : KitFileFault) (front : List A) (i : ℕ) (v : V) (total : Result (List A) Place) → i < length vs → v ≡ get_or vs i v → Refuses e (read (item_of at i) (view v))
      → with_front front (rest i) ≡ total → Refuses e total
  unfolding each
  ends NoMemory front i v total lt here h so_far = tt
  ends (BadKitFile place) front i v total lt here h so_far =
      let cut : drop i vs ≡ v ∷ drop (i + 1) vs = rw (add-one, drop-cons vs i v lt, ← here) refl in
      let one : with_front front (rest i) ≡ Err place = rw (cut, h) refl in
      sym so_far ∙ one

  pub is_done : (front : List A) (i : ℕ) (total : Result (List A) Place) → length vs ≤ i → with_front front (rest i) ≡ total → total ≡ Ok front
  unfolding each
  is_done front i total le so_far =
      let one : with_front front (rest i) ≡ Ok front = rw (drop_of_length-le vs le) (ap (λ ys. Ok ys) (append-nil front)) in
      sym so_far ∙ one

-- the items of an array are the list that they were made of
pub same_items : (ds : List Data) → list_of (items_of ds) ≡ ds
same_items [] = refl
same_items (d ∷ ds) = ap (λ (xs : List Data). d ∷ xs) (same_items ds)

pub listed : (d : Data) (ds : List Data) → Some (items_of ds) ≡ as_array d → Some ds ≡ list_in d
listed d ds e = rw (← e) (ap (λ (xs : List Data). Some xs) (sym (same_items ds)))
