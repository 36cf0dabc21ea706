-- Values that count as the same are equal.
use Rattle.std.proofs.Common.{◌≡◌, refl, sym, ap, ◌∙◌, ℕ, true, ◌==◌, List, Option, Some, None, bytes_eq, unwrap_or, true≢false}
use Rattle.std.specs.Cmp.{unsigned_Decides}
use Rattle.std.proofs.lemmas.Bool.{and_from, and_parts}
use Rattle.std.proofs.lemmas.Slice.Eq.{bytes_eq-Decides}
use Rattle.press_posts.specs.declared.draft.Draft as post
use Rattle.press_posts.specs.declared.status.Status.{Status}
use Rattle.press_posts.specs.declared.status.Status.TheVariants.{Publish, Future, Draft, Pending, Private, Trash as InTrash}
use Rattle.press_posts.specs.Transitions.{status_named, status_word}
use Rattle.press_apply.specs.Kinds.{command_kind_of}
use Rattle.press_apply.specs.Same.{Parts, parts_of, are_same, is_same_command, is_same_stamped, is_same_value}
use Rattle.press_apply.specs.declared.command.Command.{Command}
use Rattle.press_apply.specs.declared.command.Command.TheVariants.{Insert, Update, Trash, Untrash, Delete, SetOption, Activate, Deactivate, Tick, Profile}
use Rattle.press_apply.specs.declared.command.Stamped.{Stamped}
use Rattle.press_apply.specs.declared.kind.CommandKind.{CommandKind}
use Rattle.press_apply.specs.declared.kind.CommandKind.TheVariants as kind
use Rattle.press_apply.specs.declared.value.Value.{Value}
use Rattle.press_apply.specs.declared.value.Value.TheVariants.{Noop, Cmd}

number : (n m : ℕ) → (n == m) ≡ true → n ≡ m
number n m = (unsigned_Decides n m).0

itself : (n : ℕ) → (n == n) ≡ true
itself n = (unsigned_Decides n n).1 refl

text : (x y : List ℕ) → bytes_eq x y ≡ true → x ≡ y
text x y = (bytes_eq-Decides x y).0

text_itself : (x : List ℕ) → bytes_eq x x ≡ true
text_itself x = (bytes_eq-Decides x x).1 refl

-- ---- a command is made again from its parts

abbrev told : List ℕ → Status
told word = unwrap_or (status_named word) Draft

told_back : (s : Status) → told (status_word s) ≡ s
told_back Publish = refl
told_back Future = refl
told_back Draft = refl
told_back Pending = refl
told_back Private = refl
told_back InTrash = refl

abbrev drafted : Parts → post.Draft
drafted p = record { title = p.first; content = p.second; status = told p.status; date = p.date }

drafted_back : (d : post.Draft) → record { title = d.title; content = d.content; status = told (status_word d.status); date = d.date } ≡ d
drafted_back d = λ i. record { title = d.title; content = d.content; status = told_back d.status i; date = d.date }

abbrev of_kind : Option CommandKind → Parts → Command
of_kind None p = Tick
of_kind (Some kind.Insert) p = Insert (drafted p)
of_kind (Some kind.Update) p = Update p.id_or_profile (drafted p)
of_kind (Some kind.Trash) p = Trash p.id_or_profile
of_kind (Some kind.Untrash) p = Untrash p.id_or_profile
of_kind (Some kind.Delete) p = Delete p.id_or_profile
of_kind (Some kind.SetOption) p = SetOption p.first p.second
of_kind (Some kind.Activate) p = Activate p.first
of_kind (Some kind.Deactivate) p = Deactivate p.first
of_kind (Some kind.Tick) p = Tick
of_kind (Some kind.Profile) p = Profile p.id_or_profile

abbrev of_parts : Parts → Command
of_parts p = of_kind (command_kind_of p.kind) p

back : (c : Command) → of_parts (parts_of c) ≡ c
back (Insert draft) = ap Insert (drafted_back draft)
back (Update id draft) = ap (Update id) (drafted_back draft)
back (Trash id) = refl
back (Untrash id) = refl
back (Delete id) = refl
back (SetOption name value) = refl
back (Activate plugin) = refl
back (Deactivate plugin) = refl
back Tick = refl
back (Profile to) = refl

-- ---- what counts as the same is equal

parts : (p q : Parts) → p.kind ≡ q.kind → p.id_or_profile ≡ q.id_or_profile → p.date ≡ q.date → p.status ≡ q.status → p.first ≡ q.first → p.second ≡ q.second → p ≡ q
parts p q a b c d e f = λ i. record { kind = a i; id_or_profile = b i; date = c i; status = d i; first = e i; second = f i }

parts_alike : (p q : Parts) → are_same p q ≡ true → p ≡ q
parts_alike p q h =
    let a = and_parts (p.kind == q.kind) _ h in
    let b = and_parts (p.id_or_profile == q.id_or_profile) _ a.1 in
    let c = and_parts (p.date == q.date) _ b.1 in
    let d = and_parts (bytes_eq p.status q.status) _ c.1 in
    let e = and_parts (bytes_eq p.first q.first) _ d.1 in
    parts p q (number p.kind q.kind a.0) (number p.id_or_profile q.id_or_profile b.0) (number p.date q.date c.0) (text p.status q.status d.0) (text p.first q.first e.0) (text p.second q.second e.1)

alike_parts : (p : Parts) → are_same p p ≡ true
alike_parts p =
    and_from (p.kind == p.kind) _ (itself p.kind) (and_from (p.id_or_profile == p.id_or_profile) _ (itself p.id_or_profile) (and_from (p.date == p.date) _ (itself p.date)
    (and_from (bytes_eq p.status p.status) _ (text_itself p.status) (and_from (bytes_eq p.first p.first) _ (text_itself p.first) (text_itself p.second)))))

command : (c d : Command) → is_same_command c d ≡ true → c ≡ d
command c d h = sym (back c) ∙ ap of_parts (parts_alike (parts_of c) (parts_of d) h) ∙ back d

stamped_of : (c d : Stamped) → c.token.editor ≡ d.token.editor → c.token.seq ≡ d.token.seq → c.at ≡ d.at → c.command ≡ d.command → c ≡ d
stamped_of c d a b e f = λ i. record { token = record { editor = a i; seq = b i }; at = e i; command = f i }

stamped : (c d : Stamped) → is_same_stamped c d ≡ true → c ≡ d
stamped c d h =
    let a = and_parts (bytes_eq c.token.editor d.token.editor) _ h in
    let b = and_parts (c.token.seq == d.token.seq) _ a.1 in
    let e = and_parts (c.at == d.at) _ b.1 in
    stamped_of c d (text c.token.editor d.token.editor a.0) (number c.token.seq d.token.seq b.0) (number c.at d.at e.0) (command c.command d.command e.1)

pub same : (v w : Value) → is_same_value v w ≡ true → v ≡ w
same (Noop at) (Noop when) h = ap Noop (number at when h)
same (Noop at) (Cmd d) h = absurd (true≢false (sym h))
same (Cmd c) (Noop when) h = absurd (true≢false (sym h))
same (Cmd c) (Cmd d) h = ap Cmd (stamped c d h)

pub same_itself : (v : Value) → is_same_value v v ≡ true
same_itself (Noop at) = itself at
same_itself (Cmd c) =
    and_from (bytes_eq c.token.editor c.token.editor) _ (text_itself c.token.editor) (and_from (c.token.seq == c.token.seq) _ (itself c.token.seq)
    (and_from (c.at == c.at) _ (itself c.at) (alike_parts (parts_of c.command))))
