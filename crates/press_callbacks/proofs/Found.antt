-- The first thing of a name, as a list is walked.
use Rattle.std.proofs.Common.{◌≡◌, refl, sym, ◌∙◌, ap, ℕ, zero, suc, ◌+◌, ◌<◌, ◌≤◌, true, false, cond, bytes_eq, List, [], ◌∷◌, map, length, get_or, drop, Bool, Option, Some, None, arith, add-one, drop-cons}
use Rattle.std.specs.Prelude.{◌||◌, option_map, slice_get, IfSome, IsNone}
use Rattle.std.proofs.lemmas.Slice.Eq.{bytes_eq-Decides}
use Rattle.std.proofs.Math.ListN.{drop_of_length-le}
use Rattle.std.proofs.lemmas.List.{length-map}
use Rattle.press_callbacks.specs.declared.script.Op.{Op}
use Rattle.press_callbacks.specs.declared.plugin.Plugin.{Plugin}
use Rattle.press_callbacks.specs.Kits.{Scripts, script_of, script_at, name_at, is_named, plugin_of}
use Rattle.std.specs.List.{list_any}
use Rattle.press_callbacks.specs.Order.{place_of, has_two}
use Rattle.press_callbacks.proofs.Moved.{flip, neither}

script_step : {A : Type 0} (f : A → List ℕ × List Op) (id : List ℕ) (xs : List A) (i : ℕ) (x : A) → i < length xs → x ≡ get_or xs i x → script_of id (drop i (map f xs)) ≡ cond (bytes_eq (f x).0 id) (Some (f x).1) (script_of id (drop (i + 1) (map f xs)))
script_step f id [] i x h e = absurd (omega arith)
script_step f id (y ∷ ys) zero x h e = ap (λ z. cond (bytes_eq (f z).0 id) (Some (f z).1) (script_of id (map f ys))) (sym e)
script_step f id (y ∷ ys) (suc i) x h e =
    let k : suc i + 1 ≡ suc (i + 1) = omega arith in
    let lt : i < length ys = omega arith in
    rw k (script_step f id ys i x lt e)

pub found : {A : Type 0} (f : A → List ℕ × List Op) (id : List ℕ) (xs : List A) (i : ℕ) (x : A) → i < length xs → x ≡ get_or xs i x → bytes_eq (f x).0 id ≡ true → Some (f x).1 ≡ script_of id (drop i (map f xs))
found f id xs i x h e t = sym (script_step f id xs i x h e ∙ ap (λ b. cond b (Some (f x).1) (script_of id (drop (i + 1) (map f xs)))) t)

pub passed : {A : Type 0} (f : A → List ℕ × List Op) (id : List ℕ) (xs : List A) (i : ℕ) (x : A) → i < length xs → x ≡ get_or xs i x → bytes_eq (f x).0 id ≡ false → script_of id (drop (i + 1) (map f xs)) ≡ script_of id (drop i (map f xs))
passed f id xs i x h e t = sym (script_step f id xs i x h e ∙ ap (λ b. cond b (Some (f x).1) (script_of id (drop (i + 1) (map f xs)))) t)

-- what is at a place
pub placed : {A : Type 0} (f : A → List ℕ × List Op) (xs : List A) (i : ℕ) (x : A) → i < length xs → x ≡ get_or xs i x → script_at (Some i) (map f xs) ≡ Some (f x).1
placed f [] i x h e = absurd (omega arith)
placed f (y ∷ ys) zero x h e = ap (λ z. Some (f z).1) (sym e)
placed f (y ∷ ys) (suc i) x h e = let lt : i < length ys = omega arith in placed f ys i x lt e

pub placed_name : {A : Type 0} (f : A → List ℕ × List Op) (xs : List A) (i : ℕ) (x : A) → i < length xs → x ≡ get_or xs i x → name_at i (map f xs) ≡ Some (f x).0
placed_name f [] i x h e = absurd (omega arith)
placed_name f (y ∷ ys) zero x h e = ap (λ z. Some (f z).0) (sym e)
placed_name f (y ∷ ys) (suc i) x h e = let lt : i < length ys = omega arith in placed_name f ys i x lt e

-- nothing is found behind the end
pub walked : {A : Type 0} (f : A → List ℕ × List Op) (id : List ℕ) (xs : List A) (i : ℕ) → length xs ≤ i → script_of id (drop i (map f xs)) ≡ None
walked f id xs i le = ap (script_of id) (drop_of_length-le (map f xs) (rw (length-map xs f) le))

-- where no callback of a name is found, none has that name
unnamed : (b : Bool) (script : List Op) (rest : Option (List Op)) (named : Bool) → cond b (Some script) rest ≡ None → (rest ≡ None → named ≡ false) → (b || named) ≡ false
unnamed true script rest named e h = cc
unnamed false script rest named e h = h e

pub none_named : (id : List ℕ) (cs : Scripts) → script_of id cs ≡ None → is_named (λ c. c.0) cs id ≡ false
none_named id [] e = refl
none_named id (c ∷ cs) e = unnamed (bytes_eq c.0 id) c.1 (script_of id cs) (is_named (λ x. x.0) cs id) e (none_named id cs)

plugin_step : (name : List ℕ) (xs : List Plugin) (i : ℕ) (x : Plugin) → i < length xs → x ≡ get_or xs i x → plugin_of name (drop i xs) ≡ cond (bytes_eq x.name name) (Some x) (plugin_of name (drop (i + 1) xs))
plugin_step name xs i x h e = rw (add-one, drop-cons xs i x h, ← e) refl

pub plugin_found : (name : List ℕ) (xs : List Plugin) (i : ℕ) (x : Plugin) → i < length xs → x ≡ get_or xs i x → bytes_eq x.name name ≡ true → Some x ≡ plugin_of name (drop i xs)
plugin_found name xs i x h e t = sym (plugin_step name xs i x h e ∙ ap (λ b. cond b (Some x) (plugin_of name (drop (i + 1) xs))) t)

pub plugin_passed : (name : List ℕ) (xs : List Plugin) (i : ℕ) (x : Plugin) → i < length xs → x ≡ get_or xs i x → bytes_eq x.name name ≡ false → plugin_of name (drop (i + 1) xs) ≡ plugin_of name (drop i xs)
plugin_passed name xs i x h e t = sym (plugin_step name xs i x h e ∙ ap (λ b. cond b (Some x) (plugin_of name (drop (i + 1) xs))) t)

-- ---- the first of a name, by its place

script_later : (c : List ℕ × List Op) (cs : Scripts) (place : Option ℕ) → script_at (option_map suc place) (c ∷ cs) ≡ script_at place cs
script_later c cs None = refl
script_later c cs (Some i) = refl

script_where : (b : Bool) (c : List ℕ × List Op) (cs : Scripts) (place : Option ℕ) (rest : Option (List Op)) → script_at place cs ≡ rest → script_at (cond b (Some 0) (option_map suc place)) (c ∷ cs) ≡ cond b (Some c.1) rest
script_where true c cs place rest e = refl
script_where false c cs place rest e = script_later c cs place ∙ e

pub script_placed : {A : Type 0} (f : A → List ℕ × List Op) (id : List ℕ) (xs : List A) → script_at (place_of (λ x. (f x).0) id xs) (map f xs) ≡ script_of id (map f xs)
script_placed f id [] = refl
script_placed f id (x ∷ xs) = script_where (bytes_eq (f x).0 id) (f x) (map f xs) (place_of (λ x. (f x).0) id xs) (script_of id (map f xs)) (script_placed f id xs)

abbrev pub Names : Option ℕ → List ℕ → Scripts → Type 0
Names place id cs = IfSome place (λ i. name_at i cs ≡ Some id)

names_later : (c : List ℕ × List Op) (cs : Scripts) (id : List ℕ) (place : Option ℕ) → Names place id cs → Names (option_map suc place) id (c ∷ cs)
names_later c cs id None h = h
names_later c cs id (Some i) h = h

names_where : (b : Bool) (c : List ℕ × List Op) (cs : Scripts) (id : List ℕ) (place : Option ℕ) → b ≡ bytes_eq c.0 id → Names place id cs → Names (cond b (Some 0) (option_map suc place)) id (c ∷ cs)
names_where true c cs id place e h = ap (λ n. Some n) ((bytes_eq-Decides c.0 id).0 (sym e))
names_where false c cs id place e h = names_later c cs id place h

pub name_placed : {A : Type 0} (f : A → List ℕ × List Op) (id : List ℕ) (xs : List A) → Names (place_of (λ x. (f x).0) id xs) id (map f xs)
name_placed f id [] = tt
name_placed f id (x ∷ xs) = names_where (bytes_eq (f x).0 id) (f x) (map f xs) id (place_of (λ x. (f x).0) id xs) refl (name_placed f id xs)

abbrev pub plugin_at : Option ℕ → List Plugin → Option Plugin
plugin_at None ps = None
plugin_at (Some i) ps = slice_get ps i

plugin_where : (b : Bool) (p : Plugin) (ps : List Plugin) (name : List ℕ) (place : Option ℕ) (rest : Option Plugin) → plugin_at place ps ≡ rest → plugin_at (cond b (Some 0) (option_map suc place)) (p ∷ ps) ≡ cond b (Some p) rest
plugin_where true p ps name place rest e = refl
plugin_where false p ps name None rest e = e
plugin_where false p ps name (Some i) rest e = e

pub plugin_placed : (name : List ℕ) (ps : List Plugin) → plugin_at (place_of (λ p. p.name) name ps) ps ≡ plugin_of name ps
plugin_placed name [] = refl
plugin_placed name (p ∷ ps) = plugin_where (bytes_eq p.name name) p ps name (place_of (λ p. p.name) name ps) (plugin_of name ps) (plugin_placed name ps)

-- ---- where no name stands twice, what has the name is the first that has it

module _ (id : List ℕ) where
  other : {A : Type 0} (f : A → List ℕ × List Op) (n : List ℕ) (xs : List A) (i : ℕ) → list_any (λ y. bytes_eq (f y).0 n) xs ≡ false → option_map (λ x. (f x).0) (slice_get xs i) ≡ Some id → bytes_eq n id ≡ false
  other f n [] i e h = cc
  other f n (x ∷ xs) zero e h =
      let here : (f x).0 ≡ id = cc in
      flip n id ∙ ap (λ m. bytes_eq m n) (sym here) ∙ (neither (bytes_eq (f x).0 n) (list_any (λ y. bytes_eq (f y).0 n) xs) e).0
  other f n (x ∷ xs) (suc i) e h =
      other f n xs i (neither (bytes_eq (f x).0 n) (list_any (λ y. bytes_eq (f y).0 n) xs) e).1 h

  -- the script of what has the name
  pub script_seen : {A : Type 0} (f : A → List ℕ × List Op) (xs : List A) (i : ℕ) → has_two (λ x. (f x).0) xs ≡ false → option_map (λ x. (f x).0) (slice_get xs i) ≡ Some id → script_at (Some i) (map f xs) ≡ script_of id (map f xs)
  script_seen f [] i e h = cc
  script_seen f (x ∷ xs) zero e h =
      let same : (f x).0 ≡ id = cc in
      let here : bytes_eq (f x).0 id ≡ true = (bytes_eq-Decides (f x).0 id).1 same in
      sym (ap (λ b. cond b (Some (f x).1) (script_of id (map f xs))) here)
  script_seen f (x ∷ xs) (suc i) e h =
      let two = neither (list_any (λ y. bytes_eq (f y).0 (f x).0) xs) (has_two (λ y. (f y).0) xs) e in
      script_seen f xs i two.1 h
      ∙ sym (ap (λ b. cond b (Some (f x).1) (script_of id (map f xs))) (other f (f x).0 xs i two.0 h))

  -- its name
  pub name_seen : {A : Type 0} (f : A → List ℕ × List Op) (xs : List A) (i : ℕ) → option_map (λ x. (f x).0) (slice_get xs i) ≡ Some id → name_at i (map f xs) ≡ Some id
  name_seen f [] i h = cc
  name_seen f (x ∷ xs) zero h = h
  name_seen f (x ∷ xs) (suc i) h = name_seen f xs i h

-- what was looked at and goes by a name
pub looked : {A : Type 0} (name : A → List ℕ) (id : List ℕ) (xs : List A) (i : ℕ) (x : A) → i < length xs → x ≡ get_or xs i x → bytes_eq (name x) id ≡ true → option_map name (slice_get xs i) ≡ Some id
looked name id [] i x h e t = absurd (omega arith)
looked name id (y ∷ ys) zero x h e t =
    let same : name x ≡ id = (bytes_eq-Decides (name x) id).0 t in
    ap (λ z. Some (name z)) (sym e) ∙ ap (λ n. Some n) same
looked name id (y ∷ ys) (suc i) x h e t = let lt : i < length ys = omega arith in looked name id ys i x lt e t

-- no place, no script
pub nothing : (place : Option ℕ) (cs : Scripts) → IsNone place → script_at place cs ≡ None
nothing None cs h = refl
nothing (Some i) cs h = cc
