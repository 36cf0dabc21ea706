-- The oldest connection of a rank, among more and more of them.
use Rattle.std.proofs.Common.{◌≡◌, ◌≤◌, ◌<◌, ◌⊎◌, inl, inr, ◌∙◌, ap, sym, subst, ℕ, List, length, MatchOption, IfSome, IsSomeAnd, Option, Some, None, slice_get, unwrap_or, arith, ◌+◌}
use Rattle.std.proofs.Math.Nat.{eq-or-lt_of_le}
use Rattle.std.proofs.lemmas.Option.{slice_get_within}
use Rattle.press_net.specs.declared.connections.Rank.{Rank}
use Rattle.press_net.specs.declared.connections.Intake.{Intake}
use Rattle.press_net.specs.declared.connection.Connection.{Connection}
use Rattle.press_net.specs.Talking.{HasNone, HasRank, IsOldest, MayGo}

-- what was found is the oldest of those before a place, with its number
abbrev pub Found : Rank → Intake → List (Option Connection) → ℕ → Option (ℕ × ℕ) → Type 0
Found rank intake slots end found = MatchOption found
    ((place : ℕ) (connection : Connection) → place < end → MayGo rank intake slots place connection → ⊥)
    (λ f. (connection : Connection) × MayGo rank intake slots f.0 connection × (f.1 ≡ connection.arrival.number)
    × ((other : ℕ) (next : Connection) → other < end → MayGo rank intake slots other next → f.1 ≤ next.arrival.number))

one_of : {A : Type 0} (a b : A) → Some a ≡ Some b → a ≡ b
one_of a b = ap (λ found. unwrap_or found a)

-- the connection at the place that comes next
same : (slots : List (Option Connection)) (end other : ℕ) (slot : Option Connection) (next : Connection) → slice_get slots end ≡ Some slot → other ≡ end → slice_get slots other ≡ Some (Some next) → slot ≡ Some next
same slots end other slot next is e there = one_of slot (Some next) (sym is ∙ ap (slice_get slots) (sym e) ∙ there)

pub found_older : (rank : Rank) (intake : Intake) (slots : List (Option Connection)) (end : ℕ) (found : Option (ℕ × ℕ)) (slot : Option Connection) → slice_get slots end ≡ Some slot → ((connection : Connection) → slot ≡ Some connection → HasRank intake.now rank connection → connection.arrival.number < intake.first → IsSomeAnd found (λ f. f.1 ≤ connection.arrival.number)) → Found rank intake slots end found → Found rank intake slots (end + 1) found
found_older rank intake slots end None slot is older before = λ place connection lt there.
    go place connection there (eq-or-lt_of_le (omega arith))
  where
    go : (place : ℕ) (connection : Connection) → MayGo rank intake slots place connection → (place ≡ end) ⊎ (place < end) → ⊥
    go place connection there (inl e) = older connection (same slots end place slot connection is e there.0) there.1 there.2
    go place connection there (inr lt) = before place connection lt there
found_older rank intake slots end (Some f) slot is older before = (before.0, before.1, before.2, λ other next lt there. go other next there (eq-or-lt_of_le (omega arith)))
  where
    go : (other : ℕ) (next : Connection) → MayGo rank intake slots other next → (other ≡ end) ⊎ (other < end) → f.1 ≤ next.arrival.number
    go other next there (inl e) = older next (same slots end other slot next is e there.0) there.1 there.2
    go other next there (inr lt) = before.3 other next lt there

pub found_newer : (rank : Rank) (intake : Intake) (slots : List (Option Connection)) (end : ℕ) (found : Option (ℕ × ℕ)) (slot : Option Connection) (number : ℕ) → slice_get slots end ≡ Some slot → ((connection : Connection) × (slot ≡ Some connection) × HasRank intake.now rank connection × (connection.arrival.number < intake.first) × (number ≡ connection.arrival.number) × IfSome found (λ f. number < f.1)) → Found rank intake slots end found → Found rank intake slots (end + 1) (Some (end, number))
found_newer rank intake slots end found slot number is new before =
    (new.0, (is ∙ ap Some new.1, new.2, new.3), new.4, λ other next lt there. go found new.5 before other next there (eq-or-lt_of_le (omega arith)))
  where
    here : (other : ℕ) (next : Connection) → MayGo rank intake slots other next → other ≡ end → number ≤ next.arrival.number
    here other next there e =
        let it : new.0 ≡ next = one_of new.0 next (sym new.1 ∙ same slots end other slot next is e there.0) in
        let number_is : number ≡ next.arrival.number = new.4 ∙ ap (λ (connection : Connection). connection.arrival.number) it in
        omega arith

    go : (found : Option (ℕ × ℕ)) → IfSome found (λ f. number < f.1) → Found rank intake slots end found → (other : ℕ) (next : Connection) → MayGo rank intake slots other next → (other ≡ end) ⊎ (other < end) → number ≤ next.arrival.number
    go found less before other next there (inl e) = here other next there e
    go None less before other next there (inr lt) = absurd (before other next lt there)
    go (Some f) less before other next there (inr lt) =
        let most : f.1 ≤ next.arrival.number = before.3 other next lt there in
        omega arith

-- at the end it is the oldest of all
pub found_all : (rank : Rank) (intake : Intake) (slots : List (Option Connection)) (end : ℕ) (found : Option (ℕ × ℕ)) → length slots ≤ end → Found rank intake slots end found → MatchOption found (HasNone rank intake slots) (λ f. IsOldest rank intake slots f.0)
found_all rank intake slots end None whole before = λ place connection there. before place connection (within place (Some connection) there.0) there
  where
    within : (place : ℕ) (slot : Option Connection) → slice_get slots place ≡ Some slot → place < end
    within place slot there = let lt = slice_get_within slots place slot there in omega arith
found_all rank intake slots end (Some f) whole before = (before.0, before.1, λ other next there. subst (λ n. n ≤ next.arrival.number) before.2 (before.3 other next (within other (Some next) there.0) there))
  where
    within : (place : ℕ) (slot : Option Connection) → slice_get slots place ≡ Some slot → place < end
    within place slot there = let lt = slice_get_within slots place slot there in omega arith
