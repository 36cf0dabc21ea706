-- The first of several files, as it is taken out of what was kept.
use Rattle.std.proofs.Common.{◌≡◌, ◌∙◌, ℕ, ◌+◌, ◌<◌, ◌^◌, List, [], ◌∷◌, ◌++◌, length, map, get_or, take, drop, refl, sym, ap, append_assoc, append-nil, arith}
use Rattle.std.proofs.Math.Seq.{take-append_seam, drop-append_seam}
use Rattle.std.proofs.lemmas.List.{length-append, map-append}
use Rattle.std.proofs.lemmas.Nat.{from_be_bytes-to_be_bytes_4}
use Rattle.std.specs.Int.{w32, from_be_bytes}
use Rattle.press_lint.specs.Joints.{File, file_of, files_of}
use Rattle.press_lint.specs.declared.joint.NamedFile.{NamedFile}
use Rattle.press_wire.specs.Spelling.{number4}
use Rattle.press_handover.specs.Kept.{AreShort, files_bytes, nameless}

abbrev read4 : List ℕ → ℕ
read4 xs = from_be_bytes w32 (get_or xs 0 0 ∷ get_or xs 1 0 ∷ get_or xs 2 0 ∷ get_or xs 3 0 ∷ [])

number_back : (n : ℕ) → n < 2 ^ 32 → read4 (number4 n) ≡ n
unfolding number4
number_back n lt = from_be_bytes-to_be_bytes_4 n lt

number_front : (n : ℕ) (xs : List ℕ) → take 4 (number4 n ++ xs) ≡ number4 n
unfolding number4
number_front n xs = refl

number_behind : (n : ℕ) (xs : List ℕ) → drop 4 (number4 n ++ xs) ≡ xs
unfolding number4
number_behind n xs = refl

number_long : (n : ℕ) (xs : List ℕ) → length (number4 n ++ xs) ≡ 4 + length xs
unfolding number4
number_long n xs = omega arith

module _ (bytes file behind : List ℕ) (lt : length file < 2 ^ 32) (are : bytes ≡ number4 (length file) ++ (file ++ behind)) where
  pub holds_length : length bytes < 4 → ⊥
  holds_length few =
      let long = number_long (length file) (file ++ behind) in
      let same = ap (λ (ys : List ℕ). length ys) are in
      omega arith

  pub length_is : (front : List ℕ) → front ≡ take 4 bytes → read4 front ≡ length file
  length_is front is = ap read4 (is ∙ ap (take 4) are ∙ number_front (length file) (file ++ behind)) ∙ number_back (length file) lt

  pub rest_is : (rest : List ℕ) → rest ≡ drop 4 bytes → rest ≡ file ++ behind
  rest_is rest is = is ∙ ap (drop 4) are ∙ number_behind (length file) (file ++ behind)

  pub holds_file : (rest : List ℕ) → rest ≡ drop 4 bytes → length rest < length file → ⊥
  holds_file rest is few =
      let same = ap (λ (ys : List ℕ). length ys) (rest_is rest is) in
      let both = length-append file behind in
      omega arith

  pub file_is : (rest : List ℕ) (long : ℕ) → rest ≡ drop 4 bytes → long ≡ length file → take long rest ≡ file
  file_is rest long is e = ap (λ (n : ℕ). take n rest) e ∙ ap (take (length file)) (rest_is rest is) ∙ take-append_seam file behind

  pub behind_is : (rest : List ℕ) (long : ℕ) → rest ≡ drop 4 bytes → long ≡ length file → drop long rest ≡ behind
  behind_is rest long is e = ap (λ (n : ℕ). drop n rest) e ∙ ap (drop (length file)) (rest_is rest is) ∙ drop-append_seam file behind

-- ---- file after file

-- what is left of the files, of which these were taken
pub record Left (files : List (List ℕ)) (taken : List NamedFile) (rest : List ℕ) : Type 0 where
  pub left : List (List ℕ)
  pub short : AreShort left
  pub rest_is : rest ≡ files_bytes left
  pub all : files_of taken ++ map nameless left ≡ map nameless files

pub left_first : (files : List (List ℕ)) (rest : List ℕ) → AreShort files → rest ≡ files_bytes files → Left files [] rest
left_first files rest short are = record { left = files; short = short; rest_is = are; all = refl }

same_file : (f : NamedFile) (x : List ℕ) → f.name.now ≡ [] → f.bytes.items ≡ x → file_of f ≡ nameless x
same_file f x name bytes = λ i. record { name = name i; bytes = bytes i }

-- one more was taken
pub left_on : (files : List (List ℕ)) (before after : List NamedFile) (f : NamedFile) (rest file behind : List ℕ) → Left files before rest → (length rest ≡ 0 → ⊥)
    → ((x more : List ℕ) → length x < 2 ^ 32 → rest ≡ number4 (length x) ++ (x ++ more) → (file ≡ x) × (behind ≡ more))
    → f.name.now ≡ [] → f.bytes.items ≡ file → after ≡ before ++ f ∷ [] → Left files after behind
left_on files before after f rest file behind l some next name bytes pushed = go l.left l.short l.rest_is l.all
  where
    go : (left : List (List ℕ)) → AreShort left → rest ≡ files_bytes left → files_of before ++ map nameless left ≡ map nameless files → Left files after behind
    go [] short are all = absurd (some (ap (λ (ys : List ℕ). length ys) are))
    go (x ∷ xs) short are all =
        let e = next x (files_bytes xs) short.0 are in
        let put : files_of after ≡ files_of before ++ (nameless x ∷ []) =
        ap files_of pushed ∙ map-append file_of before (f ∷ []) ∙ ap (λ (y : File). files_of before ++ (y ∷ [])) (same_file f x name (bytes ∙ e.0)) in
        record {
          left = xs;
          short = short.1;
          rest_is = e.1;
          all = ap (λ (ys : List File). ys ++ map nameless xs) put ∙ append_assoc (files_of before) (nameless x ∷ []) (map nameless xs) ∙ all;
        }

-- all were taken
pub left_end : (files : List (List ℕ)) (taken : List NamedFile) (rest : List ℕ) → Left files taken rest → length rest ≡ 0 → files_of taken ≡ map nameless files
left_end files taken rest l none = go l.left l.rest_is l.all
  where
    go : (left : List (List ℕ)) → rest ≡ files_bytes left → files_of taken ++ map nameless left ≡ map nameless files → files_of taken ≡ map nameless files
    go [] are all = sym (append-nil (files_of taken)) ∙ all
    go (x ∷ xs) are all =
        let long = number_long (length x) (x ++ files_bytes xs) in
        let same = ap (λ (ys : List ℕ). length ys) are in
        absurd (omega arith)
