-- What is said to members and by them keeps the order, and the endings.
use Rattle.std.proofs.Common.{ℕ, zero, suc, ◌≡◌, ◌+◌, ◌<◌, ◌≤◌, ◌⊎◌, inl, inr, Bool, true, false, if◌then◌else◌, nat_le, List, [], ◌∷◌, ◌++◌, length, length-append, max, Option, Some, None, slice_get, refl, sym, ap, subst, ◌∙◌, append_assoc, append-nil, arith}
use Rattle.std.proofs.lemmas.Bool.{leb-true}
use Rattle.std.proofs.lemmas.Option.{slice_get_within}
use Rattle.press_apply.specs.declared.command.Stamped.{Stamped}
use Rattle.press_site.specs.declared.token.Outcome.{Outcome}
use Rattle.press_site.specs.declared.token.Outcome.TheVariants as outcome
use Rattle.press_client.specs.Course.{Course, GoesOn, Stands, after_taken, after_told, after_ending, first_course, on_hold, is_drained, next_place, at_next_member}
use Rattle.press_client.specs.Delivering.{AreEndings, AreInOrder, Delivers, Ends, IsSettled, ending_of}
use Rattle.press_client.specs.Saying.{Adds, Has, Said, Says, SaysNothing, asks, sends}
use Rattle.press_client.specs.declared.ending.Ending.{Ending}
use Rattle.press_client.specs.declared.ending.Ending.TheVariants.{Done, NotTaken, Refused}
use Rattle.press_client.specs.declared.newsroom.FormAnswer.{FormAnswer}
use Rattle.press_client.specs.declared.newsroom.FormAnswer.TheVariants as taken
use Rattle.press_client.specs.declared.newsroom.OutcomeAnswer.{OutcomeAnswer}
use Rattle.press_client.specs.declared.newsroom.OutcomeAnswer.TheVariants as told

-- ---- what was said stays said

says_then : (a b c : Option (List Said)) (x y : List Said) → Says a b x → Says b c y → Says a c (y ++ x)
says_then None b c x y one two = tt
says_then (Some s) b c x y one two =
    let next : Says (Some (x ++ s)) c y = subst (λ (o : Option (List Said)). Says o c y) one two in
    next ∙ ap (λ l. Some l) (sym (append_assoc y x s))

ends_still : (one : Said) (said : List Said) (command : Stamped) (ending : Ending) → Ends said command ending → Ends (one ∷ said) command ending
ends_still one said command (Done id) h = (h.0, inr h.1)
ends_still one said command (Refused fault) h = (h.0, inr h.1)
ends_still one said command (NotTaken status) h = (h.0, inr h.1)

settled_still : (one : Said) (said : List Said) (place : ℕ) (command : Stamped) → IsSettled said place command → IsSettled (one ∷ said) place command
settled_still one said place command (inl h) = inl (h.0, ends_still one said command h.0 h.1)
settled_still one said place command (inr h) = inr (inr h)

endings_still : (one : Said) (commands : List Stamped) (said : List Said) (endings : List Ending) → AreEndings commands said endings → AreEndings commands (one ∷ said) endings
endings_still one commands said endings h i command ending is told = ends_still one said command ending (h i command ending is told)

-- ---- one more ending

got_later : {A : Type 0} (z : A) (xs : List A) (y : A) (i : ℕ) (x : A) → (slice_get xs i ≡ Some x) ⊎ ((i ≡ length xs) × (y ≡ x)) → (slice_get (z ∷ xs) (suc i) ≡ Some x) ⊎ ((suc i ≡ length (z ∷ xs)) × (y ≡ x))
got_later z xs y i x (inl h) = inl h
got_later z xs y i x (inr h) = inr (ap suc h.0, h.1)

got_more : {A : Type 0} (xs : List A) (y : A) (i : ℕ) (x : A) → slice_get (xs ++ y ∷ []) i ≡ Some x → (slice_get xs i ≡ Some x) ⊎ ((i ≡ length xs) × (y ≡ x))
got_more [] y zero x is = inr (refl, cc)
got_more [] y (suc i) x is = cc
got_more (z ∷ xs) y zero x is = inl is
got_more (z ∷ xs) y (suc i) x is = got_later z xs y i x (got_more xs y i x is)

-- the command of the next ending
ends_next : (commands : List Stamped) (said : List Said) (endings : List Ending) (next : Stamped) (last : Ending) → slice_get commands (length endings) ≡ Some next → Ends said next last →
    AreEndings commands said endings → (i : ℕ) (command : Stamped) (ending : Ending) → slice_get commands i ≡ Some command →
    (slice_get endings i ≡ Some ending) ⊎ ((i ≡ length endings) × (last ≡ ending)) → Ends said command ending
ends_next commands said endings next last is ends ended i command ending at (inl h) = ended i command ending at h
ends_next commands said endings next last is ends ended i command ending at (inr h) =
    let here : slice_get commands (length endings) ≡ Some command = subst (λ (k : ℕ). slice_get commands k ≡ Some command) h.0 at in
    let same : next ≡ command = cc in
    subst (λ (e : Ending). Ends said command e) h.1 (subst (λ (c : Stamped). Ends said c last) same ends)

endings_more : (commands : List Stamped) (said : List Said) (endings : List Ending) (next : Stamped) (last : Ending) → slice_get commands (length endings) ≡ Some next → Ends said next last →
    AreEndings commands said endings → AreEndings commands said (endings ++ last ∷ [])
endings_more commands said endings next last is ends ended i command ending at got =
    ends_next commands said endings next last is ends ended i command ending at (got_more endings last i ending got)

-- ---- how far it is

-- whoever has ended is settled at each place
settled_by_end : (said : List Said) (c : Course) → Stands said c → (i : ℕ) (command : Stamped) → i < length c.endings → slice_get c.commands i ≡ Some command → (ending : Ending) → slice_get c.endings i ≡ Some ending →
    (place : ℕ) → IsSettled said place command
settled_by_end said c stands i command less at ending got place = inl (ending, stands.ended i command ending at got)

got_within : {A : Type 0} (xs : List A) (i : ℕ) → i < length xs → (x : A) × (slice_get xs i ≡ Some x)
got_within [] i less = absurd (omega (arith, less))
got_within (x ∷ xs) zero less = (x, refl)
got_within (x ∷ xs) (suc i) less = got_within xs i (omega (arith, less))

turned_stands : (said : List Said) (c : Course) → Stands said c → Stands said (at_next_member c)
turned_stands said c stands = record {
  in_order = stands.in_order;
  ended = stands.ended;
  ahead = omega arith;
  within = omega (arith, stands.ahead, stands.within);
  settled = λ i command less at. let found = got_within c.endings i less in settled_by_end said c stands i command less at found.0 found.1 (next_place c);
}

-- whether no more goes to the member, and how often it was asked, is nothing that was said
held_stands : (said : List Said) (c : Course) (is_held : Bool) (waited : ℕ) → Stands said c → Stands said (record c { is_held = is_held; waited = waited })
held_stands said c is_held waited stands =
    record { in_order = stands.in_order; ended = stands.ended; ahead = stands.ahead; within = stands.within; settled = stands.settled }

-- something that is asked
asked : (place : ℕ) (token : _) (told : OutcomeAnswer) (said : List Said) (c : Course) → Stands said c → Stands (asks place token told ∷ said) c
asked place token told said c stands = record {
  in_order = stands.in_order;
  ended = endings_still (asks place token told) c.commands said c.endings stands.ended;
  ahead = stands.ahead;
  within = stands.within;
  settled = λ i command less at. settled_still (asks place token told) said c.place command (stands.settled i command less at);
}

-- the command that is next is sent
sent : (taken : FormAnswer) (command : Stamped) (said : List Said) (c : Course) → slice_get c.commands c.sent ≡ Some command → Stands said c → Stands (sends c.place command taken ∷ said) c
sent taken command said c is stands = record {
  in_order = ((c.sent, is, λ j earlier less at. stands.settled j earlier less at), stands.in_order);
  ended = endings_still (sends c.place command taken) c.commands said c.endings stands.ended;
  ahead = stands.ahead;
  within = stands.within;
  settled = λ i earlier less at. settled_still (sends c.place command taken) said c.place earlier (stands.settled i earlier less at);
}

-- one of those by now, or the next
settled_up_to : (said : List Said) (c : Course) (next : Stamped) → Stands said c → slice_get c.commands c.sent ≡ Some next → IsSettled said c.place next →
    (i : ℕ) (command : Stamped) → slice_get c.commands i ≡ Some command → (i < c.sent) ⊎ (i ≡ c.sent) → IsSettled said c.place command
settled_up_to said c next stands is settled i command at (inl less) = stands.settled i command less at
settled_up_to said c next stands is settled i command at (inr same) =
    let here : slice_get c.commands c.sent ≡ Some command = subst (λ (k : ℕ). slice_get c.commands k ≡ Some command) same at in
    let one : next ≡ command = cc in
    subst (λ (it : Stamped). IsSettled said c.place it) one settled

less_or_same : (i n : ℕ) → i < n + 1 → (i < n) ⊎ (i ≡ n)
less_or_same zero zero less = inr refl
less_or_same zero (suc n) less = inl (omega arith)
less_or_same (suc i) zero less = absurd (omega (arith, less))
less_or_same (suc i) (suc n) less = raised (less_or_same i n (omega (arith, less)))
  where
    raised : (i < n) ⊎ (i ≡ n) → (suc i < suc n) ⊎ (suc i ≡ suc n)
    raised (inl h) = inl (omega (arith, h))
    raised (inr h) = inr (ap suc h)

queued : (command : Stamped) (said : List Said) (c : Course) → slice_get c.commands c.sent ≡ Some command → Has said (sends c.place command taken.Queued) → Stands said c → Stands said (after_taken taken.Queued c)
queued command said c is has stands = record {
  in_order = stands.in_order;
  ended = stands.ended;
  ahead = omega (arith, stands.ahead);
  within = omega (arith, slice_get_within c.commands c.sent command is);
  settled = λ i earlier less at. settled_up_to said c command stands is (inr has) i earlier at (less_or_same i c.sent less);
}

-- one below the greater of two
below_max : (i m n : ℕ) → i < max m (n + 1) → (i < m) ⊎ ((i < n) ⊎ (i ≡ n))
below_max i m n less = grind arith

settled_behind : (said : List Said) (c : Course) (next : Stamped) (last : Ending) → Stands said c → slice_get c.commands (length c.endings) ≡ Some next → Ends said next last →
    (i : ℕ) (command : Stamped) → slice_get c.commands i ≡ Some command → (i < c.sent) ⊎ ((i < length c.endings) ⊎ (i ≡ length c.endings)) → IsSettled said c.place command
settled_behind said c next last stands is ends i command at (inl less) = stands.settled i command less at
settled_behind said c next last stands is ends i command at (inr (inl less)) =
    let found = got_within c.endings i less in
    settled_by_end said c stands i command less at found.0 found.1 c.place
settled_behind said c next last stands is ends i command at (inr (inr same)) =
    let here : slice_get c.commands (length c.endings) ≡ Some command = subst (λ (k : ℕ). slice_get c.commands k ≡ Some command) same at in
    let one : next ≡ command = cc in
    inl (last, subst (λ (it : Stamped). Ends said it last) one ends)

ended : (command : Stamped) (last : Ending) (said : List Said) (c : Course) → slice_get c.commands (length c.endings) ≡ Some command → Ends said command last → Stands said c → Stands said (after_ending last c)
ended command last said c is ends stands =
    let longer : length (c.endings ++ last ∷ []) ≡ length c.endings + 1 = length-append c.endings (last ∷ []) in
    let room : length c.endings < length c.commands = slice_get_within c.commands (length c.endings) command is in
    record {
      in_order = stands.in_order;
      ended = endings_more c.commands said c.endings command last is ends stands.ended;
      ahead = omega (arith, longer);
      within = omega (arith, room, stands.within);
      settled = λ i earlier less at. settled_behind said c command last stands is ends i earlier at (below_max i c.sent (length c.endings) less);
    }

-- ---- a step

ends_by : (place : ℕ) (command : Stamped) (o : Outcome) (said : List Said) → Ends (asks place command.token (told.Outcome o) ∷ said) command (ending_of o)
ends_by place command (outcome.Done id) said = (place, inl refl)
ends_by place command (outcome.Refused fault) said = (place, inl refl)

-- of two courses each stands
either : (said : List Said) (b : Bool) (one other : Course) → Stands said one → Stands said other → Stands said (if b then one else other)
either said true one other stands also = stands
either said false one other stands also = also

heard : (t : OutcomeAnswer) (command : Stamped) (said : List Said) (c : Course) → slice_get c.commands (length c.endings) ≡ Some command → Stands said c → Stands (asks c.place command.token t ∷ said) (after_told t c)
heard (told.Outcome o) command said c is stands =
    ended command (ending_of o) (asks c.place command.token (told.Outcome o) ∷ said) c is (ends_by c.place command o said) (asked c.place command.token (told.Outcome o) said c stands)
heard told.NotYet command said c is stands =
    let now = asked c.place command.token told.NotYet said c stands in
    either _ (nat_le 1000 c.waited) (at_next_member c) (record c { waited = c.waited + 1 }) (turned_stands _ c now) (held_stands _ c c.is_held (c.waited + 1) now)
heard told.Lost command said c is stands = turned_stands _ c (asked c.place command.token told.Lost said c stands)

-- a refusal holds where the member has none of the commands that hasn't ended
refused : (status : ℕ) (command : Stamped) (said : List Said) (c : Course) → slice_get c.commands c.sent ≡ Some command → Stands (sends c.place command (taken.Refused status) ∷ said) c →
    (b : Bool) → is_drained c ≡ b → Stands (sends c.place command (taken.Refused status) ∷ said) (if b then after_ending (NotTaken status) c else on_hold c)
refused status command said c is stands true is_true =
    let within : c.sent ≤ length c.endings = leb-true c.sent (length c.endings) is_true in
    let drained : c.sent ≡ length c.endings = omega (arith, within, stands.ahead) in
    ended command (NotTaken status) _ c (subst (λ (k : ℕ). slice_get c.commands k ≡ Some command) drained is) (c.place, inl refl) stands
refused status command said c is stands false is_false = held_stands _ c true c.waited stands

went : (t : FormAnswer) (command : Stamped) (said : List Said) (c : Course) → slice_get c.commands c.sent ≡ Some command → Stands said c → Stands (sends c.place command t ∷ said) (after_taken t c)
went taken.Queued command said c is stands = queued command _ c is (inl refl) (sent taken.Queued command said c is stands)
went taken.Busy command said c is stands =
    let now = sent taken.Busy command said c is stands in
    either _ (is_drained c) (at_next_member c) (on_hold c) (turned_stands _ c now) (held_stands _ c true c.waited now)
went (taken.Refused status) command said c is stands = refused status command said c is (sent (taken.Refused status) command said c is stands) (is_drained c) refl
went taken.Lost command said c is stands = turned_stands _ c (sent taken.Lost command said c is stands)

same_either : (b : Bool) (one other : Course) (commands : List Stamped) → one.commands ≡ commands → other.commands ≡ commands → (if b then one else other).commands ≡ commands
same_either true one other commands same also = same
same_either false one other commands same also = also

same_taken : (t : FormAnswer) (c : Course) → (after_taken t c).commands ≡ c.commands
same_taken taken.Queued c = refl
same_taken taken.Busy c = same_either (is_drained c) (at_next_member c) (on_hold c) c.commands refl refl
same_taken (taken.Refused status) c = same_either (is_drained c) (after_ending (NotTaken status) c) (on_hold c) c.commands refl refl
same_taken taken.Lost c = refl

same_told : (t : OutcomeAnswer) (c : Course) → (after_told t c).commands ≡ c.commands
same_told (told.Outcome o) c = refl
same_told told.NotYet c = same_either (nat_le 1000 c.waited) (at_next_member c) (record c { waited = c.waited + 1 }) c.commands refl refl
same_told told.Lost c = refl

pub sending : (t : FormAnswer) (command : Stamped) (x y z : Option (List Said)) (before after : Course) → slice_get before.commands before.sent ≡ Some command → Adds x y (sends before.place command t) → after ≡ after_taken t before →
    SaysNothing y z → GoesOn x z before after
sending t command x y z before after is adds takes nothing = (
  ap (λ (c : Course). c.commands) takes ∙ same_taken t before,
  λ said stands. (sends before.place command t ∷ [], says_then x y z (sends before.place command t ∷ []) [] adds nothing, subst (λ (c : Course). Stands (sends before.place command t ∷ said) c) (sym takes) (went t command said before is stands)),
)

pub asking : (t : OutcomeAnswer) (command : Stamped) (x y z : Option (List Said)) (before after : Course) → slice_get before.commands (length before.endings) ≡ Some command → Adds x y (asks before.place command.token t) →
    after ≡ after_told t before → SaysNothing y z → GoesOn x z before after
asking t command x y z before after is adds hears nothing = (
  ap (λ (c : Course). c.commands) hears ∙ same_told t before,
  λ said stands. (asks before.place command.token t ∷ [], says_then x y z (asks before.place command.token t ∷ []) [] adds nothing, subst (λ (c : Course). Stands (asks before.place command.token t ∷ said) c) (sym hears) (heard t command said before is stands)),
)

pub resting : (x y : Option (List Said)) (c : Course) → SaysNothing x y → GoesOn x y c c
resting x y c nothing = (refl, λ said stands. ([], nothing, stands))

pub rests : (x : Option (List Said)) (c : Course) → GoesOn x x c c
rests None c = (refl, λ said stands. ([], tt, stands))
rests (Some s) c = (refl, λ said stands. ([], refl, stands))

pub going_on : (x y z : Option (List Said)) (first mid last : Course) → GoesOn x y first mid → GoesOn y z mid last → GoesOn x z first last
going_on x y z first mid last one two = (
  two.0 ∙ one.0,
  λ said stands.
      let a = one.1 said stands in
      let b = two.1 (a.0 ++ said) a.2 in
      (b.0 ++ a.0, says_then x y z a.0 b.0 a.1 b.1, subst (λ (l : List Said). Stands l last) (sym (append_assoc b.0 a.0 said)) b.2),
)

-- ---- the whole

new_stands : (commands : List Stamped) (members : ℕ) → Stands [] (first_course commands members)
new_stands commands members = record {
  in_order = tt;
  ended = λ i command ending at got. cc;
  ahead = omega arith;
  within = omega arith;
  settled = λ i command less at. absurd (omega (arith, less));
}

few_of : (x y : Option (List Said)) (commands : List Stamped) (members : ℕ) (last : Course) → GoesOn x y (first_course commands members) last → length last.endings ≤ length commands
few_of x y commands members last goes =
    let a = goes.1 [] (new_stands commands members) in
    let same : length last.commands ≡ length commands = ap length goes.0 in
    omega (arith, a.2.ahead, a.2.within, same)

delivered_of : (x y : Option (List Said)) (commands : List Stamped) (members : ℕ) (last : Course) → GoesOn x y (first_course commands members) last → Delivers commands last.endings x y
delivered_of x y commands members last goes =
    let a = goes.1 [] (new_stands commands members) in
    let stands : Stands a.0 last = subst (λ (l : List Said). Stands l last) (append-nil a.0) a.2 in
    record {
      said = a.0;
      says = a.1;
      in_order = subst (λ (cs : List Stamped). AreInOrder cs a.0) goes.0 stands.in_order;
      ended = subst (λ (cs : List Stamped). AreEndings cs a.0 last.endings) goes.0 stands.ended;
    }

pub few : (x y : Option (List Said)) (commands : List Stamped) (members : ℕ) (first last : Course) → first ≡ first_course commands members → GoesOn x y first last → (endings : List Ending) → endings ≡ last.endings → length endings ≤ length commands
few x y commands members first last is goes endings same =
    let begins : GoesOn x y (first_course commands members) last = subst (λ (c : Course). GoesOn x y c last) is goes in
    let short = few_of x y commands members last begins in
    let long : length endings ≡ length last.endings = ap length same in
    omega (arith, short, long)

pub delivered : (x y : Option (List Said)) (commands : List Stamped) (members : ℕ) (first last : Course) → first ≡ first_course commands members → GoesOn x y first last → (endings : List Ending) → endings ≡ last.endings → Delivers commands endings x y
delivered x y commands members first last is goes endings same =
    let begins : GoesOn x y (first_course commands members) last = subst (λ (c : Course). GoesOn x y c last) is goes in
    subst (λ (es : List Ending). Delivers commands es x y) (sym same) (delivered_of x y commands members last begins)
