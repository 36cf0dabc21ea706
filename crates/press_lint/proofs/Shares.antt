-- Several files and their shares, one after the other, as a loop takes them.
use Rattle.std.proofs.Common.{◌≡◌, ◌∙◌, ℕ, ◌+◌, ◌-◌, ◌<◌, ◌≤◌, true, false, List, [], ◌∷◌, ◌++◌, length, map, get_or, drop, take, arith, Result, Ok, Err, Option, Some, None, refl, sym, ap, append_assoc, append-nil, add-one, drop-cons}
use Rattle.std.proofs.Math.ListN.{drop_of_length-le}
use Rattle.std.proofs.lemmas.List.{length-drop, take_all}
use Rattle.press_kit.specs.KitFile.{kit_in}
use Rattle.press_kit.specs.declared.kit_parts.KitParts.{KitParts}
use Rattle.press_kit.specs.declared.place.Place.{Place}
use Rattle.press_lint.specs.Files.{FileMessage, file_front, first_slips, has_name, tell_own, sharer, side_before, slips_from, tell_at, message_from, turn_parts}
use Rattle.press_lint.specs.Joints.{File, Joint, Share as Part, file_of, files_of, read_behind, share_of, with_file}
use Rattle.press_lint.specs.declared.joint.NamedFile.{NamedFile}
use Rattle.press_lint.specs.declared.joint.Share.{Share}
use Rattle.press_lint.specs.declared.mistake.Mistake.{Mistake}
use Rattle.press_lint.specs.declared.turning.Side.TheVariants.{Own, Behind}

-- what is left of a list, seen through a function
pub cut : {A B : Type 0} (f : A → B) (xs : List A) (i : ℕ) (x : A) → i < length xs → x ≡ get_or xs i x → map f (drop i xs) ≡ f x ∷ map f (drop (i + 1) xs)
cut f xs i x lt here = rw (add-one, drop-cons xs i x lt, ← here) refl

pub done : {A B : Type 0} (f : A → B) (xs : List A) (i : ℕ) → length xs ≤ i → map f (drop i xs) ≡ []
done f xs i le = rw (drop_of_length-le xs le) refl

-- a slice to the end is what is left
pub behind_is : {A : Type 0} (xs : List A) (n : ℕ) → take (length xs - n) (drop n xs) ≡ drop n xs
behind_is xs n =
    let long : length (drop n xs) ≤ length xs - n = rw (length-drop n xs) (omega arith) in
    take_all (length xs - n) (drop n xs) long

-- a message that is of no file
abbrev pub of_nobody : List ℕ → FileMessage
of_nobody text = record { file = []; text = text }

module _ (files : List NamedFile) (total : Result Joint (File × Place)) (joint : Joint) (i : ℕ) where
  pub reads_on : (f : NamedFile) (kit : KitParts) → i < length files → f ≡ get_or files i f → kit_in f.bytes.items ≡ Ok kit
      → read_behind joint (files_of (drop i files)) ≡ total → read_behind (with_file joint (file_of f) kit) (files_of (drop (i + 1) files)) ≡ total
  unfolding read_behind
  reads_on f kit lt at_i is so_far =
      let one : read_behind joint (files_of (drop i files)) ≡ read_behind (with_file joint (file_of f) kit) (files_of (drop (i + 1) files)) = rw (cut file_of files i f lt at_i, is) refl in
      sym one ∙ so_far

  pub reads_bad : (f : NamedFile) (at : Place) → i < length files → f ≡ get_or files i f → kit_in f.bytes.items ≡ Err at
      → read_behind joint (files_of (drop i files)) ≡ total → total ≡ Err (file_of f, at)
  unfolding read_behind
  reads_bad f at lt at_i is so_far =
      let one : read_behind joint (files_of (drop i files)) ≡ Err (file_of f, at) = rw (cut file_of files i f lt at_i, is) refl in
      sym so_far ∙ one

  pub reads_all : length files ≤ i → read_behind joint (files_of (drop i files)) ≡ total → total ≡ Ok joint
  unfolding read_behind
  reads_all le so_far =
      let one : read_behind joint (files_of (drop i files)) ≡ Ok joint = rw (done file_of files i le) refl in
      sym so_far ∙ one

module _ (shares : List Share) (kit : KitParts) (i : ℕ) where
  -- the shares from a place on
  abbrev pub rest : ℕ → List Part
  rest n = map share_of (drop n shares)

  -- the share at the place
  abbrev pub here : Share → Part
  here d = share_of (get_or shares i d)

  found : (d : Share) → i < length shares → rest i ≡ here d ∷ rest (i + 1)
  found d lt = rw (add-one, drop-cons shares i d lt) refl

  pub shares_it : (at : Place) (name : List ℕ) (d : Share) (total : Option (List ℕ)) → i < length shares
      → has_name at name (here d) kit ≡ true → sharer at name (rest i) kit ≡ total → Some (here d).file ≡ total
  unfolding sharer
  shares_it at name d total lt has so_far =
      let one : sharer at name (rest i) kit ≡ Some (here d).file = rw (found d lt, has) refl in
      sym one ∙ so_far

  pub lacks_it : (at : Place) (name : List ℕ) (d : Share) (total : Option (List ℕ)) → i < length shares
      → has_name at name (here d) kit ≡ false → sharer at name (rest i) kit ≡ total → sharer at name (rest (i + 1)) (turn_parts (here d) kit) ≡ total
  unfolding sharer
  lacks_it at name d total lt has so_far =
      let one : sharer at name (rest i) kit ≡ sharer at name (rest (i + 1)) (turn_parts (here d) kit) = rw (found d lt, has) refl in
      sym one ∙ so_far

  pub nobody_has_it : (at : Place) (name : List ℕ) (total : Option (List ℕ)) → length shares ≤ i → sharer at name (rest i) kit ≡ total → None ≡ total
  unfolding sharer
  nobody_has_it at name total le so_far =
      let one : sharer at name (rest i) kit ≡ None = rw (done share_of shares i le) refl in
      sym one ∙ so_far

  pub tells_own : (m : Mistake) (at own : Place) (d : Share) (total : FileMessage) → i < length shares
      → side_before (rest (i + 1)) (here d) at ≡ Own own → message_from m at (rest i) kit ≡ total → tell_own m (here d) (rest (i + 1)) kit own ≡ total
  unfolding message_from
  tells_own m at own d total lt side so_far =
      let one : message_from m at (rest i) kit ≡ tell_own m (here d) (rest (i + 1)) kit own = rw (found d lt, side) refl in
      sym one ∙ so_far

  pub tells_behind : (m : Mistake) (at behind : Place) (d : Share) (total : FileMessage) → i < length shares
      → side_before (rest (i + 1)) (here d) at ≡ Behind behind → message_from m at (rest i) kit ≡ total → message_from m behind (rest (i + 1)) (turn_parts (here d) kit) ≡ total
  unfolding message_from
  tells_behind m at behind d total lt side so_far =
      let one : message_from m at (rest i) kit ≡ message_from m behind (rest (i + 1)) (turn_parts (here d) kit) = rw (found d lt, side) refl in
      sym one ∙ so_far

  pub tells_nobody : (m : Mistake) (at : Place) (total : FileMessage) → length shares ≤ i → message_from m at (rest i) kit ≡ total → of_nobody (tell_at kit m at) ≡ total
  unfolding message_from
  tells_nobody m at total le so_far =
      let one : message_from m at (rest i) kit ≡ of_nobody (tell_at kit m at) = rw (done share_of shares i le) refl in
      sym one ∙ so_far

  pub slips_on : (before told more : List ℕ) (d : Share) (total : List ℕ) → i < length shares → more ≡ first_slips (file_front before (here d).file) (here d) kit
      → told ++ slips_from before (rest i) kit ≡ total → (told ++ more) ++ slips_from before (rest (i + 1)) (turn_parts (here d) kit) ≡ total
  unfolding slips_from
  slips_on before told more d total lt is so_far =
      let one : slips_from before (rest i) kit ≡ more ++ slips_from before (rest (i + 1)) (turn_parts (here d) kit) = rw (found d lt, is) refl in
      append_assoc told more (slips_from before (rest (i + 1)) (turn_parts (here d) kit)) ∙ sym (ap (λ (ys : List ℕ). told ++ ys) one) ∙ so_far

  pub slips_end : (before told total : List ℕ) → length shares ≤ i → told ++ slips_from before (rest i) kit ≡ total → told ≡ total
  unfolding slips_from
  slips_end before told total le so_far =
      let one : told ++ slips_from before (rest i) kit ≡ told = rw (done share_of shares i le) (append-nil told) in
      sym one ∙ so_far
