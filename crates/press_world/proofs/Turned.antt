-- What the code of a turn writes down is a step of the stored world.
use Rattle.std.proofs.Common.{ℕ, ◌+◌, ◌≡◌, List, ◌++◌, length, slice_get, Option, Some, sym, subst, ap, ◌∙◌}
use Rattle.press_wire.specs.declared.message.Message.{Message}
use Rattle.press_node.specs.declared.event.Event.{Event}
use Rattle.press_node.specs.declared.fault.NodeFault.{NodeFault}
use Rattle.press_node.specs.Faults.{stops}
use Rattle.press_world.specs.Acts.{DoesAt, FailsAt}
use Rattle.press_world.specs.Changes.{IsActed}
use Rattle.press_world.specs.Seen.{seen_at, entry_between, with_entry, proposal_entry, IsAbout}
use Rattle.press_world.specs.Refusing.{event_refusal}
use Rattle.press_world.specs.Stepped.{FailsBy}
use Rattle.press_world.specs.Stored.{StoredWorld, stored_does}
use Rattle.press_world.specs.Worlds.{Place}
use Rattle.press_world.specs.declared.entry.Entry.{Entry}
use Rattle.press_world.specs.declared.seen.Seen.{Seen}
use Rattle.press_world.specs.declared.step.Cut.{Cut}
use Rattle.press_world.proofs.Changed.{get_set_here}
use Rattle.press_world.proofs.Taking.{written, left, does_step, fails_step}

between_is : (before after x y : Seen) (member m which slot : ℕ) (e : Option Entry) → before ≡ x → after ≡ y → member ≡ m → e ≡ entry_between before after member which slot → e ≡ entry_between x y m which slot
between_is before after x y member m which slot e b a k h =
    h ∙ ap (λ z. entry_between z after member which slot) b ∙ ap (λ z. entry_between x z member which slot) a ∙ ap (λ z. entry_between x y z which slot) k

-- the entry of the save, by what was seen
saved_entry : (index : ℕ) (old new : List Place) (Did : Place → Place → Type 0) (acted : IsActed index old new Did) (before after : Seen) (member which slot : ℕ) (e : Option Entry) →
    ((p : Place) → slice_get old index ≡ Some p → before ≡ seen_at p.store slot) → ((p : Place) → slice_get new index ≡ Some p → after ≡ seen_at p.store slot) → member ≡ index + 1 → e ≡ entry_between before after member which slot →
    e ≡ entry_between (seen_at acted.before.store slot) (seen_at acted.after.store slot) (index + 1) which slot
saved_entry index old new Did acted before after member which slot e b a k h =
    between_is before after (seen_at acted.before.store slot) (seen_at acted.after.store slot) member (index + 1) which slot e (b acted.before acted.at) (a acted.after (ap (λ x. slice_get x index) acted.set ∙ get_set_here old index acted.after acted.before acted.at)) k h

pub turn_done : (n : ℕ) (s t : StoredWorld) (which index slot member : ℕ) (event : Event) (cut : Option Cut) (out : List Message) (before after : Seen) (e : Option Entry) (middle : List Entry) →
    IsActed index s.places t.places (λ old new. DoesAt n (index + 1) old.store old.up event cut out new) →
    ((p : Place) → slice_get s.places index ≡ Some p → IsAbout p.up event slot) →
    ((p : Place) → slice_get s.places index ≡ Some p → before ≡ seen_at p.store slot) → ((p : Place) → slice_get t.places index ≡ Some p → after ≡ seen_at p.store slot) → member ≡ index + 1 → e ≡ entry_between before after member which slot →
    middle ≡ with_entry s.entries e → t.entries ≡ with_entry middle (proposal_entry out (length s.sent)) → t.sent ≡ s.sent ++ out →
    t ≡ stored_does n s which index (slice_get s.places index) event cut
turn_done n s t which index slot member event cut out before after e middle acted about b a k h m f g =
    let w : e ≡ entry_between (seen_at acted.before.store slot) (seen_at acted.after.store slot) (index + 1) which slot =
    saved_entry index s.places t.places (λ old new. DoesAt n (index + 1) old.store old.up event cut out new) acted before after member which slot e b a k h in
    let entries = f ∙ ap (λ x. with_entry x (proposal_entry out (length s.sent))) (m ∙ ap (with_entry s.entries) w) in
    let same : t ≡ written n s which index slot acted.before.store acted.after out = λ i. record { places = acted.set i; sent = g i; entries = entries i } in
    same ∙ does_step n s which index slot acted.before.store acted.before.up event cut out acted.after acted.at (about acted.before acted.at) acted.did

pub turn_refused : (n : ℕ) (s t : StoredWorld) (which index slot member : ℕ) (event : Event) (cut : Option Cut) (fault : NodeFault) (before after : Seen) (e : Option Entry) →
    IsActed index s.places t.places (λ old new. FailsAt n (index + 1) old.store old.up event cut fault new) →
    ((p : Place) → slice_get s.places index ≡ Some p → IsAbout p.up event slot) →
    ((p : Place) → slice_get s.places index ≡ Some p → before ≡ seen_at p.store slot) → ((p : Place) → slice_get t.places index ≡ Some p → after ≡ seen_at p.store slot) → member ≡ index + 1 → e ≡ entry_between before after member which slot →
    t.entries ≡ with_entry s.entries e → t.sent ≡ s.sent →
    FailsBy s (λ cut. stored_does n s which index (slice_get s.places index) event cut) (event_refusal (slice_get s.places index) event cut) fault (stops fault) t
turn_refused n s t which index slot member event cut fault before after e acted about b a k h f g =
    let w : e ≡ entry_between (seen_at acted.before.store slot) (seen_at acted.after.store slot) (index + 1) which slot =
    saved_entry index s.places t.places (λ old new. FailsAt n (index + 1) old.store old.up event cut fault new) acted before after member which slot e b a k h in
    let entries = f ∙ ap (with_entry s.entries) w in
    let same : t ≡ left n s which index slot acted.before.store acted.after = λ i. record { places = acted.set i; sent = g i; entries = entries i } in
    subst (FailsBy s (λ cut. stored_does n s which index (slice_get s.places index) event cut) (event_refusal (slice_get s.places index) event cut) fault (stops fault)) (sym same)
    (fails_step n s which index slot acted.before.store acted.before.up event cut fault acted.after acted.at (about acted.before acted.at) acted.did)
