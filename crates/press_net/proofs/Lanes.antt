-- A lane that changes, and the one of which a request goes out (own).
use Rattle.std.proofs.Common.{◌≡◌, ◌++◌, ◌∷◌, [], ◌+◌, List, replicate, append_assoc, ℕ, true, map, slice_get, slice_index_or, slice_set, Some, ap, sym, ◌∙◌, option_map, unwrap_or}
use Rattle.std.proofs.Math.Seq.{map-set_same}
use Rattle.std.proofs.lemmas.List.{map-append, map-set, replicate-append-replicate}
use Rattle.std.proofs.lemmas.List.Quantifiers.{position-Some}
use Rattle.std.proofs.lemmas.Option.{get_or_from_slice_get, slice_get-map}
use Rattle.press_net.specs.declared.outgoing_connections.OutgoingConnections.{OutgoingConnections}
use Rattle.press_net.specs.declared.outgoing_connections.Lane.{Lane}
use Rattle.press_net.specs.Lanes.{Queue, empty_queue, queue_of, queues, changed_at, is_ready, ready_lane}

-- another lane in its place is a change of its queue
pub changes : (calls : OutgoingConnections) (place : ℕ) (lane other : Lane) (change : Queue → Queue) → slice_get calls.lanes.items place ≡ Some lane → queue_of other ≡ change (queue_of lane) → map queue_of (slice_set calls.lanes.items place other) ≡ changed_at change place (queues calls)
changes calls place lane other change is by =
    map-set queue_of calls.lanes.items place other
    ∙ ap (slice_set (queues calls) place) by
    ∙ sym (ap (λ found. unwrap_or (option_map (λ queue. slice_set (queues calls) place (change queue)) found) (queues calls)) (slice_get-map queue_of calls.lanes.items place ∙ ap (option_map queue_of) is))

-- another lane with the same queue in its place is no change
pub stays : (lanes : List Lane) (place : ℕ) (lane other : Lane) → slice_index_or lanes place lane ≡ lane → queue_of other ≡ queue_of lane → map queue_of (slice_set lanes place other) ≡ map queue_of lanes
stays lanes place lane other item same = map-set_same queue_of lanes place other lane (same ∙ ap queue_of (sym item))

-- another lane with the same connection in its place keeps the same connections
pub keeps : (lanes : List Lane) (place : ℕ) (lane other : Lane) → slice_index_or lanes place lane ≡ lane → other.kept ≡ lane.kept → map (λ (l : Lane). l.kept) (slice_set lanes place other) ≡ map (λ (l : Lane). l.kept) lanes
keeps lanes place lane other item same = map-set_same (λ (l : Lane). l.kept) lanes place other lane (same ∙ ap (λ (l : Lane). l.kept) (sym item))

-- the first that is ready is ready
pub first_is_ready : (calls : OutgoingConnections) (place : ℕ) (lane : Lane) → ready_lane calls ≡ Some place → slice_get calls.lanes.items place ≡ Some lane → is_ready (queue_of lane) ≡ true
first_is_ready calls place lane first is =
    ap (λ (l : Lane). is_ready (queue_of l)) (sym (get_or_from_slice_get calls.lanes.items place lane lane is))
    ∙ (position-Some (λ (l : Lane). is_ready (queue_of l)) calls.lanes.items place lane first).1

-- a lane that nothing waits for at the end is an empty queue more
pub grows : (lanes : List Lane) (all : List Queue) (count : ℕ) (lane : Lane) → map queue_of lanes ≡ all ++ replicate count empty_queue → queue_of lane ≡ empty_queue → map queue_of (lanes ++ lane ∷ []) ≡ all ++ replicate (count + 1) empty_queue
grows lanes all count lane so is =
    map-append queue_of lanes (lane ∷ [])
    ∙ ap (λ queue. map queue_of lanes ++ queue ∷ []) is
    ∙ ap (λ front. front ++ empty_queue ∷ []) so
    ∙ append_assoc all (replicate count empty_queue) (empty_queue ∷ [])
    ∙ ap (λ end. all ++ end) (replicate-append-replicate count 1 empty_queue)
