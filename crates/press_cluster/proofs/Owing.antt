-- Looks and questions whose ends are to be told, as far as 32 bits count them, and that they are.
use Rattle.std.proofs.Common.{ℕ, ◌≡◌, ◌+◌, Bool, true, false, List, [], ◌∷◌, ◌++◌, IsTrue, MatchOption, Option, None, Some, if◌then◌else◌, min, arith, subst, sym}
use Rattle.press_acceptor.specs.Seen.{Seen}
use Rattle.press_member.specs.declared.input.Input.TheVariants.{Ended}
use Rattle.press_member.specs.declared.member.Member.{Member}
use Rattle.press_net.specs.Answering.{Credit}
use Rattle.press_cluster.specs.Going.{AreKept, GoOut, u32_count, is_query, question_count}
use Rattle.press_cluster.specs.Living.{HearsReply, IsToldOfEnd, MemberLives, MemberTakes}
use Rattle.press_cluster.specs.declared.lanes.Waiting.{Waiting}
use Rattle.press_wire.specs.Ranges.{member_id_of}

-- one is counted, and so is what is put to it
pub counted_more : (asked count more added : ℕ) → asked ≡ u32_count count → added ≡ more → min (asked + added) 4294967295 ≡ u32_count (count + more)
counted_more asked count more added is same = grind (arith, is, same)

pub questions_behind : (items : List Waiting) (last : Waiting) → question_count (items ++ last ∷ []) ≡ question_count items + (if is_query last.message.body then 1 else 0)
questions_behind [] last = omega arith
questions_behind (first ∷ rest) last = omega (arith, questions_behind rest last)

-- so many questions wait more
pub kept_more : (before questions looks lost more all : ℕ) → AreKept before (questions + looks + lost) → all ≡ questions + more → AreKept (before + more) (all + looks + lost)
kept_more before questions looks lost more all kept is = grind (arith, kept, is)

-- what went out and is given up is owed again
pub given_up : (asked before between after : ℕ) → GoOut asked before between → AreKept (between + asked) after → AreKept before after
given_up asked before between after out kept = grind (arith, out.1, out.2, kept)

-- a member that is told last of an end
pub told_last : {S : Type 0} {t : _} {F : _} {g : _} (seen : S → Seen) (credit : Credit) (old between new : Member S t F g) (to : ℕ) (is_taken : Bool)
    → member_id_of (credit.place + 1) ≡ Some to → (IsTrue is_taken → HearsReply seen to credit.reply old between) → MemberLives seen old between → MemberTakes seen (Ended to credit.errand.asked is_taken) between new → IsToldOfEnd seen credit old new
told_last {S = S} {t = t} {F = F} {g = g} seen credit old between new to is_taken is heard lives takes =
    subst (λ found. MatchOption found (new ≡ old) (λ to. (is_taken : Bool) × (between : Member S t F g) × (IsTrue is_taken → HearsReply seen to credit.reply old between) × MemberLives seen old between × MemberTakes seen (Ended to credit.errand.asked is_taken) between new))
    (sym is) (is_taken, between, heard, lives, takes)
