-- Messages: what is read is spelled so, and what is spelled so is read.
use Rattle.std.proofs.Common.{◌≡◌, ℕ, zero, suc, ◌+◌, ◌<◌, ◌≤◌, Bool, true, false, ◌||◌, nat_lt, eqb, List, [], ◌∷◌, ◌++◌, length, Some, Result, Ok, Err, refl, sym, ap, subst, ◌∙◌, append_assoc, arith}
use Rattle.std.proofs.lemmas.List.{append-nil, nil_from_length}
use Rattle.std.proofs.lemmas.Bool.{eqb-true, ltb-false}
use Rattle.std.proofs.lemmas.Bool.Decides.{nat_tests}
use Rattle.press_apply.specs.declared.value.Value.{Value}
use Rattle.press_wire.specs.declared.ballot.Ballot.{Ballot}
use Rattle.press_wire.specs.declared.fault.WireFault.{WireFault}
use Rattle.press_wire.specs.declared.fault.WireFault.TheVariants.{BadKind, BadField}
use Rattle.press_wire.specs.declared.kind.MessageKind.{MessageKind}
use Rattle.press_wire.specs.declared.kind.MessageKind.TheVariants as about
use Rattle.press_wire.specs.declared.message.Body.{Body}
use Rattle.press_wire.specs.declared.message.Body.TheVariants.{Prepare, Promise, Nack, Accept, Accepted, Query}
use Rattle.press_wire.specs.declared.message.Message.{Message}
use Rattle.press_wire.specs.declared.vote.Vote.{Vote}
use Rattle.press_wire.specs.Fields.{◌>>=◌, byte_at, slot_at, checked_at}
use Rattle.std.specs.Prelude.{IfOk}
use Rattle.press_text.specs.Gives.{Gives}
use Rattle.press_wire.specs.Refusals.{Refuses}
use Rattle.press_wire.specs.Held.{IsBytes, IsRound, IsNode, IsSlot, IsBallot, IsValue, AreVotes, IsBody, IsMessage, IsInForm, IsFormed}
use Rattle.press_wire.specs.Kinds.{message_number, message_kind_of, kind_of_body, may_be_about}
use Rattle.press_wire.specs.Ranges.{only, is_at_most, is_between}
use Rattle.press_wire.specs.Votes.{IsWithin}
use Rattle.press_wire.specs.declared.votes.SlotVote.{SlotVote}
use Rattle.press_wire.specs.Reading.{or_extra, inside, read_value, value_at, vote_at, slot_vote_at, slot_votes_at, report_at, slot_for, promise_at, nack_at, accept_at, body_at, message_at, read_message}
use Rattle.press_wire.specs.Spelling.{number4, text, value, vote, slot_vote, slot_votes, report, body, spelled_command, spelled_message, longest, most_votes, is_too_long, has_long_vote, is_too_long_body, is_too_long_message}
use Rattle.press_wire.proofs.Codec.{IsBytes-front, IsBytes-back, Takes, Codec, step, step_again, join, bind_ok, ok_is, checked_codec, or_next, or_none, only_named, only_passes, passes_only, recast, mapped_codec, paired_codec}
use Rattle.press_wire.proofs.FieldLaws.{one, byte_codec, round_codec, node_codec, slot_codec, ballot_codec, sized_codec}
use Rattle.press_wire.proofs.ValueLaws.{FitsValue, ended_ok, whole_takes, whole_again, is_value, fits_value}

-- ---- a value inside a message

text_is : (s : List ℕ) → text s ≡ number4 (length s) ++ s
unfolding text
text_is s = refl

inside_ok : {A : Type 0} (r : Result A WireFault) (rest : List ℕ) (y : A × List ℕ) → inside r rest ≡ Ok y → (r ≡ Ok y.0) × (rest ≡ y.1)
inside_ok (Ok x) rest y e = let same = ok_is (x, rest) y e in (ap (λ (p : _ × List ℕ). Ok p.0) same, ap (λ (p : _ × List ℕ). p.1) same)
inside_ok (Err d) rest y e = absurd cc

abbrev FitsInside : Value → Type 0
FitsInside v = FitsValue v × (length (spelled_command v) ≤ longest)

value_takes : (bytes : List ℕ) (v : Value) (rest : List ℕ) → IsBytes bytes → value_at bytes ≡ Ok (v, rest) → Takes value FitsInside bytes v rest
unfolding value_at value
value_takes bytes v rest fits e =
    let s = step (sized_codec longest (omega arith)) _ (v, rest) bytes fits e in
    let b = inside_ok (read_value s.value) s.rest (v, rest) s.next in
    let all_bytes : IsBytes (text s.value ++ s.rest) = subst IsBytes s.took.parts fits in
    let within : IsBytes s.value = IsBytes-back (number4 (length s.value)) s.value (subst IsBytes (text_is s.value) (IsBytes-front (text s.value) s.rest all_bytes)) in
    let w = whole_takes s.value v within b.0 in
    record {
      parts = s.took.parts ∙ ap (λ (t : List ℕ). text t ++ s.rest) w.1 ∙ ap (λ (t : List ℕ). text (spelled_command v) ++ t) b.1;
      rest_fits = subst IsBytes b.1 s.took.rest_fits;
      fits = (w.0, subst (λ (t : List ℕ). length t ≤ longest) w.1 s.took.fits);
    }

value_again : (v : Value) (rest : List ℕ) → FitsInside v → value_at (value v ++ rest) ≡ Ok (v, rest)
unfolding value_at value
value_again v rest fits = step_again (sized_codec longest (omega arith)) _ (spelled_command v) rest fits.1 ∙ rw (whole_again v fits.0) refl

value_codec : Codec value_at value FitsInside
value_codec = record { takes = value_takes; again = value_again }

-- ---- votes

abbrev FitsVote : Vote → Type 0
FitsVote v = IsBallot v.ballot × FitsInside v.value

vote_codec : Codec vote_at vote FitsVote
unfolding vote_at vote
vote_codec = paired_codec ballot_codec value_codec (λ b v. record { ballot = b; value = v }) vote FitsVote (λ b v. refl) (λ b v good fits. (good, fits)) (λ v fits. (v.ballot, v.value, refl, fits.0, fits.1))

-- ---- votes of a block

abbrev FitsSlotVote : ℕ → ℕ → SlotVote → Type 0
FitsSlotVote first last v = IsSlot v.slot × ((first ≤ v.slot) × (v.slot < last)) × FitsVote v.vote

abbrev same_slot : ℕ → ℕ
same_slot n = n

between_codec : (first last : ℕ) → Codec (checked_at BadField (only (is_between first last)) slot_at) number4 (λ n. IsSlot n × ((first ≤ n) × (n < last)))
between_codec first last = recast (checked_codec slot_codec BadField (only (is_between first last)) same_slot (only_named (is_between first last))) (checked_at BadField (only (is_between first last)) slot_at) number4 (λ n. IsSlot n × ((first ≤ n) × (n < last)))
    (λ bytes. refl) (λ n. refl) (λ n fits. let t = only_passes (is_between first last) n n fits.1 in (fits.0, (grind (arith, nat_tests), grind (arith, nat_tests))))
    (λ n fits. (fits.0, passes_only (is_between first last) n (grind (arith, nat_tests))))

slot_vote_codec : (first last : ℕ) → Codec (slot_vote_at first last) slot_vote (FitsSlotVote first last)
unfolding slot_vote_at slot_vote
slot_vote_codec first last = paired_codec (between_codec first last) vote_codec (λ n v. record { slot = n; vote = v }) slot_vote (FitsSlotVote first last) (λ n v. refl) (λ n v good fits. (good.0, good.1, fits)) (λ v fits. (v.slot, v.vote, refl, (fits.0, fits.1), fits.2))

-- slots that rise
abbrev FitsVotes : ℕ → ℕ → List SlotVote → Type 0
FitsVotes first last [] = Unit {0}
FitsVotes first last (v ∷ votes) = FitsSlotVote first last v × FitsVotes (v.slot + 1) last votes

abbrev FitsSome : ℕ → ℕ → ℕ → List SlotVote → Type 0
FitsSome count first last votes = (length votes ≡ count) × FitsVotes first last votes

votes_nil : slot_votes [] ≡ []
unfolding slot_votes
votes_nil = refl

votes_cons : (v : SlotVote) (votes : List SlotVote) → slot_votes (v ∷ votes) ≡ slot_vote v ++ slot_votes votes
unfolding slot_votes
votes_cons v votes = refl

some_takes : (count first last : ℕ) (bytes : List ℕ) (votes : List SlotVote) (rest : List ℕ) → IsBytes bytes → slot_votes_at count first last bytes ≡ Ok (votes, rest) → Takes slot_votes (FitsSome count first last) bytes votes rest
unfolding slot_votes_at
some_takes zero first last bytes votes rest fits e =
    subst (λ (p : List SlotVote × List ℕ). Takes slot_votes (FitsSome 0 first last) bytes p.0 p.1) (ok_is ([], bytes) (votes, rest) e)
    (record { parts = ap (λ (t : List ℕ). t ++ bytes) (sym votes_nil); rest_fits = fits; fits = (refl, tt) })
some_takes (suc more) first last bytes votes rest fits e =
    let s = step (slot_vote_codec first last) _ (votes, rest) bytes fits e in
    let b = bind_ok (slot_votes_at more (s.value.slot + 1) last s.rest) _ (votes, rest) s.next in
    let t = some_takes more (s.value.slot + 1) last s.rest b.0.0 b.0.1 s.took.rest_fits b.1 in
    subst (λ (p : List SlotVote × List ℕ). Takes slot_votes (FitsSome (suc more) first last) bytes p.0 p.1) (ok_is (s.value ∷ b.0.0, b.0.1) (votes, rest) b.2) (record {
      parts = join bytes (slot_vote s.value) s.rest (slot_votes b.0.0) b.0.1 s.took.parts t.parts ∙ ap (λ (l : List ℕ). l ++ b.0.1) (sym (votes_cons s.value b.0.0));
      rest_fits = t.rest_fits;
      fits = (ap suc t.fits.0, (s.took.fits, t.fits.1));
    })

some_again : (count first last : ℕ) (votes : List SlotVote) (rest : List ℕ) → FitsSome count first last votes → slot_votes_at count first last (slot_votes votes ++ rest) ≡ Ok (votes, rest)
unfolding slot_votes_at
some_again zero first last [] rest fits = ap (λ (t : List ℕ). slot_votes_at 0 first last (t ++ rest)) votes_nil
some_again zero first last (v ∷ votes) rest fits = absurd (omega (arith, fits.0))
some_again (suc more) first last [] rest fits = absurd (omega (arith, fits.0))
some_again (suc more) first last (v ∷ votes) rest fits =
    ap (slot_votes_at (suc more) first last) (ap (λ (t : List ℕ). t ++ rest) (votes_cons v votes) ∙ append_assoc (slot_vote v) (slot_votes votes) rest)
    ∙ step_again (slot_vote_codec first last) _ v (slot_votes votes ++ rest) fits.1.0
    ∙ rw (some_again more (v.slot + 1) last votes rest (omega (arith, fits.0), fits.1.1)) refl

some_codec : (count first last : ℕ) → Codec (slot_votes_at count first last) slot_votes (FitsSome count first last)
some_codec count first last = record { takes = some_takes count first last; again = some_again count first last }

abbrev FitsReport : ℕ → List SlotVote → Type 0
FitsReport block votes = (length votes ≤ most_votes) × FitsVotes block (block + 16) votes

count_codec : Codec (checked_at BadField (only (is_at_most most_votes)) byte_at) one (λ n. n ≤ most_votes)
count_codec = recast (checked_codec byte_codec BadField (only (is_at_most most_votes)) same_slot (only_named (is_at_most most_votes))) (checked_at BadField (only (is_at_most most_votes)) byte_at) one (λ n. n ≤ most_votes)
    (λ bytes. refl) (λ n. refl) (λ n fits. let t = only_passes (is_at_most most_votes) n n fits.1 in grind (arith, nat_tests))
    (λ n fits. (omega (arith, fits), passes_only (is_at_most most_votes) n (grind (arith, nat_tests))))

report_is : (votes : List SlotVote) → report votes ≡ one (length votes) ++ slot_votes votes
unfolding report
report_is votes = refl

report_takes : (block : ℕ) (bytes : List ℕ) (votes : List SlotVote) (rest : List ℕ) → IsBytes bytes → report_at block bytes ≡ Ok (votes, rest) → Takes report (FitsReport block) bytes votes rest
unfolding report_at
report_takes block bytes votes rest fits e =
    let s = step count_codec _ (votes, rest) bytes fits e in
    let t = some_takes s.value block (block + 16) s.rest votes rest s.took.rest_fits s.next in
    record {
      parts = join bytes (one s.value) s.rest (slot_votes votes) rest s.took.parts t.parts ∙ ap (λ (n : ℕ). (one n ++ slot_votes votes) ++ rest) (sym t.fits.0) ∙ ap (λ (l : List ℕ). l ++ rest) (sym (report_is votes));
      rest_fits = t.rest_fits;
      fits = (subst (λ n. n ≤ most_votes) (sym t.fits.0) s.took.fits, t.fits.1);
    }

report_again : (block : ℕ) (votes : List SlotVote) (rest : List ℕ) → FitsReport block votes → report_at block (report votes ++ rest) ≡ Ok (votes, rest)
unfolding report_at
report_again block votes rest fits =
    ap (report_at block) (ap (λ (l : List ℕ). l ++ rest) (report_is votes) ∙ append_assoc (one (length votes)) (slot_votes votes) rest)
    ∙ step_again count_codec _ (length votes) (slot_votes votes ++ rest) fits.0
    ∙ some_again (length votes) block (block + 16) votes rest (refl, fits.1)

report_codec : (block : ℕ) → Codec (report_at block) report (FitsReport block)
report_codec block = record { takes = report_takes block; again = report_again block }

-- ---- bodies of a kind

abbrev FitsBody : ℕ → Body → Type 0
FitsBody slot (Prepare round) = IsRound round
FitsBody slot (Promise b votes) = IsBallot b × FitsReport slot votes
FitsBody slot (Nack refused promised) = IsBallot refused × IsBallot promised
FitsBody slot (Accept round v) = IsRound round × FitsInside v
FitsBody slot (Accepted v) = FitsVote v
FitsBody slot Query = Unit {0}

abbrev FitsBodyKind : MessageKind → ℕ → Body → Type 0
FitsBodyKind k slot b = FitsBody slot b × (kind_of_body b ≡ k)

back_prepare : (slot : ℕ) (b : Body) → FitsBodyKind about.Prepare slot b → (round : ℕ) × (b ≡ Prepare round) × IsRound round
back_prepare slot (Prepare round) fits = (round, refl, fits.0)
back_prepare slot other fits = let e = fits.1 in absurd cc

back_promise : (slot : ℕ) (b : Body) → FitsBodyKind about.Promise slot b → (c : Ballot) × (votes : List SlotVote) × (b ≡ Promise c votes) × IsBallot c × FitsReport slot votes
back_promise slot (Promise c votes) fits = (c, votes, refl, fits.0.0, fits.0.1)
back_promise slot other fits = let e = fits.1 in absurd cc

back_nack : (slot : ℕ) (b : Body) → FitsBodyKind about.Nack slot b → (refused promised : Ballot) × (b ≡ Nack refused promised) × IsBallot refused × IsBallot promised
back_nack slot (Nack refused promised) fits = (refused, promised, refl, fits.0.0, fits.0.1)
back_nack slot other fits = let e = fits.1 in absurd cc

back_accept : (slot : ℕ) (b : Body) → FitsBodyKind about.Accept slot b → (round : ℕ) × (v : Value) × (b ≡ Accept round v) × IsRound round × FitsInside v
back_accept slot (Accept round v) fits = (round, v, refl, fits.0.0, fits.0.1)
back_accept slot other fits = let e = fits.1 in absurd cc

back_accepted : (slot : ℕ) (b : Body) → FitsBodyKind about.Accepted slot b → (v : Vote) × (b ≡ Accepted v) × FitsVote v
back_accepted slot (Accepted v) fits = (v, refl, fits.0)
back_accepted slot other fits = let e = fits.1 in absurd cc

query_is : (slot : ℕ) (b : Body) → FitsBodyKind about.Query slot b → b ≡ Query
query_is slot Query fits = refl
query_is slot other fits = let e = fits.1 in absurd cc

no_body : body Query ≡ []
unfolding body
no_body = refl

body_codec : (k : MessageKind) (slot : ℕ) → Codec (body_at k slot) body (FitsBodyKind k slot)
unfolding body_at promise_at nack_at accept_at body
body_codec about.Prepare slot = mapped_codec round_codec Prepare body (FitsBodyKind about.Prepare slot) (λ round. refl) (λ round fits. (fits, refl)) (back_prepare slot)
body_codec about.Promise slot = paired_codec ballot_codec (report_codec slot) Promise body (FitsBodyKind about.Promise slot) (λ b v. refl) (λ b v good fits. ((good, fits), refl)) (back_promise slot)
body_codec about.Nack slot = paired_codec ballot_codec ballot_codec Nack body (FitsBodyKind about.Nack slot) (λ a b. refl) (λ a b good fits. ((good, fits), refl)) (back_nack slot)
body_codec about.Accept slot = paired_codec round_codec value_codec Accept body (FitsBodyKind about.Accept slot) (λ round v. refl) (λ round v good fits. ((good, fits), refl)) (back_accept slot)
body_codec about.Accepted slot = mapped_codec vote_codec Accepted body (FitsBodyKind about.Accepted slot) (λ v. refl) (λ v fits. (fits, refl)) (back_accepted slot)
body_codec about.Query slot = record {
  takes = λ bytes v rest fits e.
      subst (λ (p : Body × List ℕ). Takes body (FitsBodyKind about.Query slot) bytes p.0 p.1) (ok_is (Query, bytes) (v, rest) e) (record { parts = ap (λ (t : List ℕ). t ++ bytes) (sym no_body); rest_fits = fits; fits = (tt, refl) });
  again = λ v rest fits. rw (query_is slot v fits) refl;
}

-- the slot of a message of a kind
for_codec : (k : MessageKind) → Codec (slot_for k) number4 (λ n. IsSlot n × (may_be_about k n ≡ true))
unfolding slot_for
for_codec k = recast (checked_codec slot_codec BadField (only (may_be_about k)) same_slot (only_named (may_be_about k))) (slot_for k) number4 (λ n. IsSlot n × (may_be_about k n ≡ true))
    (λ bytes. refl) (λ n. refl) (λ n fits. (fits.0, only_passes (may_be_about k) n n fits.1))
    (λ n fits. (fits.0, passes_only (may_be_about k) n fits.1))

-- ---- whole messages

message_named : (n : ℕ) (k : MessageKind) → message_kind_of n ≡ Some k → n ≡ message_number k
message_named n k =
    or_next message_number n 1 about.Prepare k _ refl (or_next message_number n 2 about.Promise k _ refl (or_next message_number n 3 about.Nack k _ refl
    (or_next message_number n 4 about.Accept k _ refl (or_next message_number n 5 about.Accepted k _ refl (or_next message_number n 6 about.Query k _ refl (or_none message_number n k))))))

message_known : (k : MessageKind) → (message_number k < 256) × (message_kind_of (message_number k) ≡ Some k)
message_known about.Prepare = (omega arith, refl)
message_known about.Promise = (omega arith, refl)
message_known about.Nack = (omega arith, refl)
message_known about.Accept = (omega arith, refl)
message_known about.Accepted = (omega arith, refl)
message_known about.Query = (omega arith, refl)

message_kind_codec : Codec (checked_at BadKind message_kind_of byte_at) (λ k. one (message_number k)) (λ k. Unit {0})
message_kind_codec = recast (checked_codec byte_codec BadKind message_kind_of message_number message_named) (checked_at BadKind message_kind_of byte_at) (λ k. one (message_number k)) (λ k. Unit {0})
    (λ bytes. refl) (λ k. refl) (λ k fits. tt) (λ k fits. message_known k)

abbrev pub FitsMessage : Message → Type 0
FitsMessage m = IsNode m.from × IsNode m.to × (IsSlot m.slot × (may_be_about (kind_of_body m.body) m.slot ≡ true)) × FitsBody m.slot m.body

message_takes : (bytes : List ℕ) (v : Message) (rest : List ℕ) → IsBytes bytes → message_at bytes ≡ Ok (v, rest) → Takes spelled_message FitsMessage bytes v rest
unfolding message_at spelled_message
message_takes bytes v rest fits e =
    let k = step message_kind_codec _ (v, rest) bytes fits e in
    let a = step node_codec _ (v, rest) k.rest k.took.rest_fits k.next in
    let b = step node_codec _ (v, rest) a.rest a.took.rest_fits a.next in
    let c = step (for_codec k.value) _ (v, rest) b.rest b.took.rest_fits b.next in
    let d = step (body_codec k.value c.value) _ (v, rest) c.rest c.took.rest_fits c.next in
    let made : Message = record { from = a.value; to = b.value; slot = c.value; body = d.value } in
    let all = join bytes (one (message_number k.value)) k.rest (one a.value ++ (one b.value ++ (number4 c.value ++ body d.value))) d.rest k.took.parts
    (join k.rest (one a.value) a.rest (one b.value ++ (number4 c.value ++ body d.value)) d.rest a.took.parts
    (join a.rest (one b.value) b.rest (number4 c.value ++ body d.value) d.rest b.took.parts (join b.rest (number4 c.value) c.rest (body d.value) d.rest c.took.parts d.took.parts))) in
    subst (λ (p : Message × List ℕ). Takes spelled_message FitsMessage bytes p.0 p.1) (ok_is (made, d.rest) (v, rest) d.next) (record {
      parts = all ∙ ap (λ (l : MessageKind). message_number l ∷ a.value ∷ b.value ∷ ((number4 c.value ++ body d.value) ++ d.rest)) (sym d.took.fits.1);
      rest_fits = d.took.rest_fits;
      fits = (a.took.fits, b.took.fits, (c.took.fits.0, subst (λ (l : MessageKind). may_be_about l c.value ≡ true) (sym d.took.fits.1) c.took.fits.1), d.took.fits.0);
    })

message_again : (m : Message) (rest : List ℕ) → FitsMessage m → message_at (spelled_message m ++ rest) ≡ Ok (m, rest)
unfolding message_at spelled_message
message_again m rest fits =
    let regrouped = ap (λ (t : List ℕ). message_number (kind_of_body m.body) ∷ m.from ∷ m.to ∷ t) (append_assoc (number4 m.slot) (body m.body) rest) in
    ap message_at regrouped
    ∙ step_again message_kind_codec _ (kind_of_body m.body) _ tt
    ∙ step_again node_codec _ m.from _ fits.0
    ∙ step_again node_codec _ m.to _ fits.1
    ∙ step_again (for_codec (kind_of_body m.body)) _ m.slot _ fits.2
    ∙ step_again (body_codec (kind_of_body m.body) m.slot) _ m.body rest (fits.3, refl)

message_codec : Codec message_at spelled_message FitsMessage
message_codec = record { takes = message_takes; again = message_again }

message_takes_all : (bytes : List ℕ) (m : Message) → IsBytes bytes → read_message bytes ≡ Ok m → FitsMessage m × (bytes ≡ spelled_message m)
unfolding read_message
message_takes_all bytes m fits e =
    let s = step message_codec or_extra m bytes fits e in
    let g = ended_ok (s.value, s.rest) (eqb (length s.rest) 0) m s.next in
    let nothing : s.rest ≡ [] = nil_from_length s.rest (eqb-true _ _ g.0) in
    subst (λ (x : Message). FitsMessage x × (bytes ≡ spelled_message x)) g.1 (s.took.fits, s.took.parts ∙ ap (λ (t : List ℕ). spelled_message s.value ++ t) nothing ∙ append-nil (spelled_message s.value))

message_again_all : (m : Message) → FitsMessage m → read_message (spelled_message m) ≡ Ok m
unfolding read_message
message_again_all m fits = ap (λ (t : List ℕ). message_at t >>= or_extra) (sym (append-nil (spelled_message m))) ∙ step_again message_codec or_extra m [] fits

-- ---- what the types hold

fits_inside : (v : Value) → IsValue v → is_too_long v ≡ false → FitsInside v
fits_inside v is short = (fits_value v is short, ltb-false longest (length (spelled_command v)) short)

or_false : (a b : Bool) → (a || b) ≡ false → (a ≡ false) × (b ≡ false)
or_false true b e = cc
or_false false b e = (refl, e)

fits_votes : (first last : ℕ) (votes : List SlotVote) → AreVotes votes → IsWithin first last votes → has_long_vote votes ≡ false → FitsVotes first last votes
fits_votes first last [] are within short = tt
fits_votes first last (v ∷ votes) are within short =
    let o = or_false (is_too_long v.vote.value) (has_long_vote votes) short in
    ((are.0, (within.0, within.1), (are.1.0, fits_inside v.vote.value are.1.1 o.0)), fits_votes (v.slot + 1) last votes are.2 within.2 o.1)

fits_body : (slot : ℕ) (b : Body) → IsBody b → IsInForm slot b → is_too_long_body b ≡ false → FitsBody slot b
fits_body slot (Prepare round) is form short = is
fits_body slot (Promise b votes) is form short =
    let o = or_false (nat_lt most_votes (length votes)) (has_long_vote votes) short in
    (is.0, (ltb-false most_votes (length votes) o.0, fits_votes slot (slot + 16) votes is.1 form.1 o.1))
fits_body slot (Nack refused promised) is form short = is
fits_body slot (Accept round v) is form short = (is.0, fits_inside v is.1 short)
fits_body slot (Accepted v) is form short = (is.0, fits_inside v.value is.1 short)
fits_body slot Query is form short = tt

-- the slot of a message in form
in_form_about : (slot : ℕ) (b : Body) → IsInForm slot b → may_be_about (kind_of_body b) slot ≡ true
in_form_about slot (Prepare round) form = form
in_form_about slot (Promise b votes) form = form.0
in_form_about slot (Nack refused promised) form = refl
in_form_about slot (Accept round v) form = refl
in_form_about slot (Accepted v) form = refl
in_form_about slot Query form = refl

are_votes : (first last : ℕ) (votes : List SlotVote) → FitsVotes first last votes → AreVotes votes × IsWithin first last votes
are_votes first last [] fits = (tt, tt)
are_votes first last (v ∷ votes) fits =
    let more = are_votes (v.slot + 1) last votes fits.1 in
    ((fits.0.0, (fits.0.2.0, is_value v.vote.value fits.0.2.1.0), more.0), (fits.0.1.0, fits.0.1.1, more.1))

is_body : (slot : ℕ) (b : Body) → FitsBody slot b → IsBody b
is_body slot (Prepare round) fits = fits
is_body slot (Promise b votes) fits = (fits.0, (are_votes slot (slot + 16) votes fits.1.1).0)
is_body slot (Nack refused promised) fits = fits
is_body slot (Accept round v) fits = (fits.0, is_value v fits.1.0)
is_body slot (Accepted v) fits = (fits.0, is_value v.value fits.1.0)
is_body slot Query fits = tt

in_form : (slot : ℕ) (b : Body) → may_be_about (kind_of_body b) slot ≡ true → FitsBody slot b → IsInForm slot b
in_form slot (Prepare round) right fits = right
in_form slot (Promise b votes) right fits = (right, (are_votes slot (slot + 16) votes fits.1.1).1)
in_form slot (Nack refused promised) right fits = tt
in_form slot (Accept round v) right fits = tt
in_form slot (Accepted v) right fits = tt
in_form slot Query right fits = tt

-- ---- the laws

pub reads_back : (m : Message) → IsMessage m → IsFormed m → is_too_long_message m ≡ false → read_message (spelled_message m) ≡ Ok m
reads_back m is form short = message_again_all m (is.0, is.1, (is.2, in_form_about m.slot m.body form), fits_body m.slot m.body is.3 form short)

pub is_read : (bytes : List ℕ) (m : Message) → IsBytes bytes → read_message bytes ≡ Ok m → (IsMessage m × IsFormed m) × (bytes ≡ spelled_message m)
is_read bytes m fits e =
    let w = message_takes_all bytes m fits e in
    (((w.0.0, w.0.1, w.0.2.0, is_body m.slot m.body w.0.3), in_form m.slot m.body w.0.2.1 w.0.3), w.1)

pub is_given : (bytes : List ℕ) (r : Result Message WireFault) → IsBytes bytes → Gives Refuses Ok r (read_message bytes) → IfOk r (λ m. bytes ≡ spelled_message m)
is_given bytes (Ok m) fits given = (is_read bytes m fits given).1
is_given bytes (Err fault) fits given = tt
