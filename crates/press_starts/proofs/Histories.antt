-- What a file told it has.
use Rattle.std.proofs.Common.{◌≡◌, ◌≢◌, ℕ, ◌⊎◌, inl, inr, subst, Option, None, Some, Bool, true, false, List, [], ◌∷◌, ◌++◌, take, refl, arith}
use Rattle.std.specs.Prelude.{IfSome, if◌then◌else◌}
use Rattle.std.specs.List.{Contains}
use Rattle.std.proofs.lemmas.Grind.{common_steps}
use Rattle.std.proofs.lemmas.List.Elements.{Contains-append_cases, Contains-push_cases}
use Rattle.press_starts.proofs.Marks.{made_after_save, made_itself}
use Rattle.press_starts.specs.Files.{has_made, lacks}
use Rattle.press_starts.specs.Histories.{Deed, begins, saves, tells, file_after, told_in}
use Rattle.press_starts.specs.Peers.{hearing, has_answered, is_stale, known_hearing}
use Rattle.press_starts.specs.declared.hearing.Hearing.TheVariants.{Heard, Stale, Unanswered, Forgotten}
use Rattle.press_starts.specs.declared.mark.Mark.{Mark}
use Rattle.press_starts.specs.declared.peer.Peer.{Peer}
use Rattle.press_starts.specs.declared.recall.Recall.{Recall}

made_by_name : (name : ℕ) (file : List Mark) (mark : Mark) → has_made file mark ≡ true → has_made (record { start = name; saves = 0 } ∷ file) mark ≡ true
made_by_name name file mark made = grind (arith, common_steps, made)

one_later : (deed : Deed) (deeds : List Deed) (mark : Mark) → has_made (file_after deeds) mark ≡ true → has_made (file_after (deed ∷ deeds)) mark ≡ true
one_later (begins name) deeds mark made = made_by_name name (file_after deeds) mark made
one_later saves deeds mark made = made_after_save (file_after deeds) mark made
one_later tells deeds mark made = made

-- it has what it had
pub made_later : (later deeds : List Deed) (mark : Mark) → has_made (file_after deeds) mark ≡ true → has_made (file_after (later ++ deeds)) mark ≡ true
made_later [] deeds mark made = made
made_later (deed ∷ later) deeds mark made = one_later deed (later ++ deeds) mark (made_later later deeds mark made)

none_among : (mark : Mark) → Contains [] mark → ⊥
none_among mark among = absurd (omega (arith, among.1))

first_made : (first : Mark) (earlier : List Mark) (mark : Mark) → Contains [] mark ⊎ (first ≡ mark) → has_made (first ∷ earlier) mark ≡ true
first_made first earlier mark (inl among) = absurd (none_among mark among)
first_made first earlier mark (inr same) = subst (λ m. has_made (first ∷ earlier) m ≡ true) same (made_itself first earlier)

made_now : (file : List Mark) (mark : Mark) → Contains (take 1 file) mark → has_made file mark ≡ true
made_now [] mark among = absurd (none_among mark among)
made_now (first ∷ earlier) mark among = first_made first earlier mark (Contains-push_cases [] first mark among)

cases : (file : List Mark) (told : List Mark) (mark : Mark) → (Contains told mark → has_made file mark ≡ true) → Contains (take 1 file) mark ⊎ Contains told mark → has_made file mark ≡ true
cases file told mark before (inl now) = made_now file mark now
cases file told mark before (inr earlier) = before earlier

pub made_when_told : (deeds : List Deed) (mark : Mark) → Contains (told_in deeds) mark → has_made (file_after deeds) mark ≡ true
made_when_told [] mark among = absurd (none_among mark among)
made_when_told (begins name ∷ deeds) mark among = made_by_name name (file_after deeds) mark (made_when_told deeds mark among)
made_when_told (saves ∷ deeds) mark among = made_after_save (file_after deeds) mark (made_when_told deeds mark among)
made_when_told (tells ∷ deeds) mark among =
    cases (file_after deeds) (told_in deeds) mark (made_when_told deeds mark) (Contains-append_cases (take 1 (file_after deeds)) (told_in deeds) mark among)

-- it lacks nothing that it told
has_told : (deeds later : List Deed) (heard : Option Mark) → IfSome heard (Contains (told_in deeds)) → lacks (file_after (later ++ deeds)) heard ≡ false
has_told deeds later None told = refl
has_told deeds later (Some mark) told = let made = made_later later deeds mark (made_when_told deeds mark told) in grind (arith, made)

stays_known : (is_old is_answered : Bool) → (if is_old then Stale else (if is_answered then Heard else Unanswered)) ≢ Forgotten
stays_known true is_answered = λ e. cc
stays_known false true = λ e. cc
stays_known false false = λ e. cc

by_lack : (is_lacking : Bool) (peer : Peer) (recall : Recall) → is_lacking ≡ false → (if is_lacking then Forgotten else known_hearing peer recall) ≢ Forgotten
by_lack true peer recall lacks = λ e. cc
by_lack false peer recall lacks = stays_known (is_stale peer.known peer.number recall) (has_answered peer.known recall)

pub never_forgotten : (deeds later : List Deed) (peer : Peer) (recall : Recall) → IfSome recall.heard (Contains (told_in deeds)) → hearing (file_after (later ++ deeds)) peer recall ≢ Forgotten
never_forgotten deeds later peer recall told = by_lack (lacks (file_after (later ++ deeds)) recall.heard) peer recall (has_told deeds later recall.heard told)
