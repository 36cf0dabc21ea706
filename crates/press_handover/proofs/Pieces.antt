-- Files put one behind the other, as a loop puts them and takes them.
use Rattle.std.proofs.Common.{◌≡◌, ◌∙◌, ℕ, zero, suc, ◌+◌, ◌<◌, ◌≤◌, ◌^◌, List, [], ◌∷◌, ◌++◌, length, map, get_or, drop, refl, sym, ap, subst, append_assoc, append-nil, add-one, drop-cons, arith}
use Rattle.std.proofs.Math.ListN.{drop_of_length-le}
use Rattle.press_lint.specs.Joints.{File, files_of}
use Rattle.press_lint.specs.declared.joint.NamedFile.{NamedFile}
use Rattle.press_wire.specs.Spelling.{number4}
use Rattle.press_handover.specs.Kept.{AreShort, files_bytes, with_file}

pub regroup : (a b c : List ℕ) → (a ++ b) ++ c ≡ a ++ (b ++ c)
regroup a b c = append_assoc a b c

-- what is left of a list
pub next_is : {A : Type 0} (xs : List A) (i : ℕ) (x : A) → i < length xs → x ≡ get_or xs i x → drop i xs ≡ x ∷ drop (i + 1) xs
next_is xs i x lt here = rw (add-one, drop-cons xs i x lt, ← here) refl

-- each of short files is short
pub short_at : (files : List NamedFile) (i : ℕ) (x : NamedFile) → i < length files → x ≡ get_or files i x
    → AreShort (map (λ (f : File). f.bytes) (files_of files)) → length x.bytes.items < 2 ^ 32
short_at [] i x lt here short = absurd (omega arith)
short_at (f ∷ fs) zero x lt here short = subst (λ (y : NamedFile). length y.bytes.items < 2 ^ 32) (sym here) short.0
short_at (f ∷ fs) (suc i) x lt here short = short_at fs i x (omega arith) here short.1

-- one more file is put
pub puts : (files : List NamedFile) (i : ℕ) (x : NamedFile) (kept more total : List ℕ) → i < length files → x ≡ get_or files i x
    → kept ++ files_bytes (map (λ (f : File). f.bytes) (files_of (drop i files))) ≡ total → more ≡ with_file kept x.bytes.items
    → more ++ files_bytes (map (λ (f : File). f.bytes) (files_of (drop (i + 1) files))) ≡ total
puts files i x kept more total lt here so_far is =
    let rest = files_bytes (map (λ (f : File). f.bytes) (files_of (drop (i + 1) files))) in
    let head = number4 (length x.bytes.items) in
    let one : files_bytes (map (λ (f : File). f.bytes) (files_of (drop i files))) ≡ head ++ (x.bytes.items ++ rest) =
    ap (λ (fs : List NamedFile). files_bytes (map (λ (f : File). f.bytes) (files_of fs))) (next_is files i x lt here) in
    let shifted : (kept ++ (head ++ x.bytes.items)) ++ rest ≡ kept ++ (head ++ (x.bytes.items ++ rest)) =
    append_assoc kept (head ++ x.bytes.items) rest ∙ ap (λ (ys : List ℕ). kept ++ ys) (append_assoc head x.bytes.items rest) in
    ap (λ (ys : List ℕ). ys ++ rest) is ∙ shifted ∙ sym (ap (λ (ys : List ℕ). kept ++ ys) one) ∙ so_far

-- all files are put
pub ends : (files : List NamedFile) (i : ℕ) (kept total : List ℕ) → length files ≤ i
    → kept ++ files_bytes (map (λ (f : File). f.bytes) (files_of (drop i files))) ≡ total → kept ≡ total
ends files i kept total le so_far =
    let none : kept ++ files_bytes (map (λ (f : File). f.bytes) (files_of (drop i files))) ≡ kept = rw (drop_of_length-le files le) (append-nil kept) in
    sym none ∙ so_far
