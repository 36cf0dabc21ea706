-- A member that hears one other member alone.
use Rattle.std.proofs.Common.{ℕ, ◌≡◌, ◌==◌, Bool, true, false, List, [], ◌∷◌, ◌++◌, IfSome, MatchOption, None, Option, Some, if◌then◌else◌, refl, rules, subst, sym}
use Rattle.press_acceptor.specs.Seen.{Seen}
use Rattle.press_batch.specs.Carried.{carried_by}
use Rattle.press_batch.specs.declared.batch.Batch.{Batch}
use Rattle.press_member.specs.Acts.{view_of}
use Rattle.press_member.specs.Lives.{Step}
use Rattle.press_member.specs.declared.input.Input.{Input}
use Rattle.press_member.specs.declared.input.Input.TheVariants.{Message as Letter}
use Rattle.press_member.specs.declared.member.Member.{Member}
use Rattle.press_cluster.specs.Living.{AreOf, HearsOnly, HearsReply, IsOf, MemberTakes, TakesAll, inputs_in, letters, more_come, one_comes}
use Rattle.press_cluster.specs.Members.{IsSaid}
use Rattle.press_wire.specs.declared.message.Message.{Message}

are_more : {N : Type 0} (from : ℕ) (first last : List (Step N)) → AreOf from first → AreOf from last → AreOf from (first ++ last)
are_more from [] last early late = late
are_more from (step ∷ first) last early late = (early.0, are_more from first last early.1 late)

-- one that is of it
pub hears_one : {S : Type 0} {t : _} {F : _} {g : _} (seen : S → Seen) (from : ℕ) (input : Input) (old new : Member S t F g)
    → IsOf from input → MemberTakes seen input old new → HearsOnly seen from old new
unfolding one_comes
hears_one seen from input old new is takes = (one_comes (view_of old) (view_of new) input takes.result takes.acts takes.moves, (is, tt))

-- and one more
pub hears_more : {S : Type 0} {t : _} {F : _} {g : _} (seen : S → Seen) (from : ℕ) (input : Input) (old next new : Member S t F g)
    → HearsOnly seen from old next → IsOf from input → MemberTakes seen input next new → HearsOnly seen from old new
unfolding more_come
hears_more seen from input old next new early is takes =
    let late = hears_one seen from input next new is takes in (
      more_come (view_of old) (view_of next) (view_of new) early.0 late.0,
      are_more from early.0.steps late.0.steps early.1 late.1,
    )

-- nothing comes
pub hears_none : {S : Type 0} {t : _} {F : _} {g : _} (seen : S → Seen) (from : ℕ) (only : Member S t F g) → HearsOnly seen from only only
hears_none seen from only = (record { steps = []; lives = refl }, tt)

-- some, and then some
pub hears_both : {S : Type 0} {t : _} {F : _} {g : _} (seen : S → Seen) (from : ℕ) (old next new : Member S t F g)
    → HearsOnly seen from old next → HearsOnly seen from next new → HearsOnly seen from old new
unfolding more_come
hears_both seen from old next new early late = (
  more_come (view_of old) (view_of next) (view_of new) early.0 late.0,
  are_more from early.0.steps late.0.steps early.1 late.1,
)

-- the first of these messages is in its name, and comes before the others
pub takes_own : {S : Type 0} {t : _} {F : _} {g : _} (seen : S → Seen) (from : ℕ) (message : Message) (left still : List Message) (old next last : Member S t F g)
    → left ≡ message ∷ still → message.from ≡ from → MemberTakes seen (Letter message) old next → TakesAll seen (letters from still) next last → TakesAll seen (letters from left) old last
takes_own seen from message left still old next last splits is takes rest =
    let own : (message.from == from) ≡ true = search rules in
    subst (λ all. TakesAll seen (letters from all) old last) (sym splits)
    (subst (λ own. TakesAll seen (if own then Letter message ∷ letters from still else letters from still) old last) (sym own) (next, takes, rest))

-- it isn't, and is passed over
pub takes_others : {S : Type 0} {t : _} {F : _} {g : _} (seen : S → Seen) (from : ℕ) (message : Message) (left still : List Message) (old last : Member S t F g)
    → left ≡ message ∷ still → (message.from == from) ≡ false → TakesAll seen (letters from still) old last → TakesAll seen (letters from left) old last
takes_others seen from message left still old last splits is rest =
    subst (λ all. TakesAll seen (letters from all) old last) (sym splits)
    (subst (λ own. TakesAll seen (if own then Letter message ∷ letters from still else letters from still) old last) (sym is) rest)

-- none is left
pub takes_none : {S : Type 0} {t : _} {F : _} {g : _} (seen : S → Seen) (from : ℕ) (left : List Message) (only : Member S t F g) → left ≡ [] → TakesAll seen (letters from left) only only
takes_none seen from left only none = subst (λ all. TakesAll seen (letters from all) only only) (sym none) refl

-- what a member said back was heard
pub reply_heard : {S : Type 0} {t : _} {F : _} {g : _} (seen : S → Seen) (to : ℕ) (reply : List ℕ) (said : Option Batch) (old new : Member S t F g)
    → IfSome said (λ batch. batch.head.from ≡ to) → IfSome said (λ batch. IsSaid reply (carried_by batch))
    → MatchOption said ⊥ (λ batch. (batch.head.report.digests ≡ (view_of old).digests) × TakesAll seen (inputs_in (carried_by batch)) old new)
    → HearsReply seen to reply old new
reply_heard seen to reply None old new from is heard = absurd heard
reply_heard seen to reply (Some batch) old new from is heard = (carried_by batch, from, is, heard.0, heard.1)
