-- The votes of a block, read and written one by one.
use Rattle.std.proofs.Common.{ℕ, suc, ◌+◌, ◌-◌, ◌<◌, ◌≤◌, ◌≡◌, Bool, true, false, ◌||◌, length, drop, slice_index_or, List, [], ◌∷◌, ◌++◌, Result, Ok, Err, refl, sym, ap, ◌∙◌, append_assoc, arith, add-one, drop-cons}
use Rattle.std.proofs.Math.ListN.{drop_of_length-le}
use Rattle.std.proofs.lemmas.List.{append-nil}
use Rattle.press_wire.specs.Fields.{◌>>=◌}
use Rattle.press_wire.specs.Reading.{slot_vote_at, slot_votes_at}
use Rattle.press_wire.specs.Refusals.{Refuses}
use Rattle.press_wire.specs.Spelling.{has_long_vote, is_too_long, slot_vote, slot_votes}
use Rattle.press_wire.specs.declared.fault.WireFault.{WireFault}
use Rattle.press_wire.specs.declared.fault.WireFault.TheVariants as fault
use Rattle.press_wire.specs.declared.votes.SlotVote.{SlotVote}

-- what is read comes behind these votes
abbrev pub behind : List SlotVote → Result (List SlotVote × List ℕ) WireFault → Result (List SlotVote × List ℕ) WireFault
behind votes (Ok r) = Ok (votes ++ r.0, r.1)
behind votes (Err fault) = Err fault

behind_none : (r : Result (List SlotVote × List ℕ) WireFault) → behind [] r ≡ r
behind_none (Ok r) = refl
behind_none (Err fault) = refl

pub starts : (count first last : ℕ) (bytes : List ℕ) → behind [] (slot_votes_at (count - 0) first last bytes) ≡ slot_votes_at count first last bytes
starts count first last bytes = behind_none (slot_votes_at (count - 0) first last bytes) ∙ ap (λ n. slot_votes_at n first last bytes) (omega arith)

behind_one : (votes : List SlotVote) (v : SlotVote) (r : Result (List SlotVote × List ℕ) WireFault) → behind votes (r >>= λ x. Ok (v ∷ x.0, x.1)) ≡ behind (votes ++ v ∷ []) r
behind_one votes v (Ok r) = ap (λ xs. Ok (xs, r.1)) (sym (append_assoc votes (v ∷ []) r.0))
behind_one votes v (Err fault) = refl

pub one_read : (count counter least last : ℕ) (votes : List SlotVote) (bytes rest : List ℕ) (v : SlotVote) → counter < count → slot_vote_at least last bytes ≡ Ok (v, rest) → behind votes (slot_votes_at (count - counter) least last bytes) ≡ behind (votes ++ v ∷ []) (slot_votes_at (count - (counter + 1)) (v.slot + 1) last rest)
unfolding slot_votes_at
one_read count counter least last votes bytes rest v left is =
    let k : count - counter ≡ suc (count - (counter + 1)) = omega (arith, left) in
    ap (λ n. behind votes (slot_votes_at n least last bytes)) k
    ∙ ap (λ (r : Result (SlotVote × List ℕ) WireFault). behind votes (r >>= λ vote. slot_votes_at (count - (counter + 1)) (vote.0.slot + 1) last vote.1 >>= λ xs. Ok (vote.0 ∷ xs.0, xs.1))) is
    ∙ behind_one votes v (slot_votes_at (count - (counter + 1)) (v.slot + 1) last rest)

none_read : (count counter least last : ℕ) (votes : List SlotVote) (bytes : List ℕ) (f : WireFault) → counter < count → slot_vote_at least last bytes ≡ Err f → behind votes (slot_votes_at (count - counter) least last bytes) ≡ Err f
unfolding slot_votes_at
none_read count counter least last votes bytes f left is =
    let k : count - counter ≡ suc (count - (counter + 1)) = omega (arith, left) in
    ap (λ n. behind votes (slot_votes_at n least last bytes)) k
    ∙ ap (λ (r : Result (SlotVote × List ℕ) WireFault). behind votes (r >>= λ vote. slot_votes_at (count - (counter + 1)) (vote.0.slot + 1) last vote.1 >>= λ xs. Ok (vote.0 ∷ xs.0, xs.1))) is

pub refused : (count counter least last : ℕ) (votes : List SlotVote) (bytes : List ℕ) (whole : Result (List SlotVote × List ℕ) WireFault) (f : WireFault) → counter < count → behind votes (slot_votes_at (count - counter) least last bytes) ≡ whole → Refuses f (slot_vote_at least last bytes) → Refuses f whole
refused count counter least last votes bytes whole fault.NoMemory left is refuses = tt
refused count counter least last votes bytes whole fault.TooLong left is refuses = sym is ∙ none_read count counter least last votes bytes fault.TooLong left refuses
refused count counter least last votes bytes whole fault.Short left is refuses = sym is ∙ none_read count counter least last votes bytes fault.Short left refuses
refused count counter least last votes bytes whole fault.BadKind left is refuses = sym is ∙ none_read count counter least last votes bytes fault.BadKind left refuses
refused count counter least last votes bytes whole fault.BadField left is refuses = sym is ∙ none_read count counter least last votes bytes fault.BadField left refuses
refused count counter least last votes bytes whole fault.Extra left is refuses = sym is ∙ none_read count counter least last votes bytes fault.Extra left refuses

pub none_left : (count counter least last : ℕ) (votes : List SlotVote) (bytes : List ℕ) → count ≤ counter → behind votes (slot_votes_at (count - counter) least last bytes) ≡ Ok (votes, bytes)
unfolding slot_votes_at
none_left count counter least last votes bytes over =
    let k : count - counter ≡ 0 = omega (arith, over) in
    ap (λ n. behind votes (slot_votes_at n least last bytes)) k ∙ ap (λ xs. Ok (xs, bytes)) (append-nil votes)

-- ---- written

drop_at : (votes : List SlotVote) (i : ℕ) (v : SlotVote) → i < length votes → v ≡ slice_index_or votes i v → drop i votes ≡ v ∷ drop (i + 1) votes
drop_at votes i v within is = rw (add-one, drop-cons votes i v within, ← is) refl

pub one_written : (start bytes more : List ℕ) (votes : List SlotVote) (i : ℕ) (v : SlotVote) → i < length votes → v ≡ slice_index_or votes i v → (has_long_vote (drop i votes) ≡ false) × (bytes ++ slot_votes (drop i votes) ≡ start ++ slot_votes votes) → more ≡ bytes ++ slot_vote v → (has_long_vote (drop (i + 1) votes) ≡ false) × (more ++ slot_votes (drop (i + 1) votes) ≡ start ++ slot_votes votes)
unfolding slot_votes
one_written start bytes more votes i v within is kept wrote = (long.1, ap (λ (b : List ℕ). b ++ slot_votes (drop (i + 1) votes)) wrote ∙ append_assoc bytes (slot_vote v) (slot_votes (drop (i + 1) votes)) ∙ ap (λ vs. bytes ++ slot_votes vs) (sym cut) ∙ kept.1)
  where
    cut : drop i votes ≡ v ∷ drop (i + 1) votes
    cut = drop_at votes i v within is

    or_false : (a b : Bool) → (a || b) ≡ false → (a ≡ false) × (b ≡ false)
    or_false true b e = cc
    or_false false b e = (refl, e)

    long : (is_too_long v.vote.value ≡ false) × (has_long_vote (drop (i + 1) votes) ≡ false)
    long = or_false (is_too_long v.vote.value) (has_long_vote (drop (i + 1) votes)) (sym (ap has_long_vote cut) ∙ kept.0)

pub all_written : (start bytes : List ℕ) (votes : List SlotVote) (i : ℕ) → length votes ≤ i → bytes ++ slot_votes (drop i votes) ≡ start ++ slot_votes votes → bytes ≡ start ++ slot_votes votes
unfolding slot_votes
all_written start bytes votes i over kept = sym (append-nil bytes) ∙ ap (λ vs. bytes ++ slot_votes vs) (sym (drop_of_length-le votes over)) ∙ kept
