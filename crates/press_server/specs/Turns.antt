-- A turn of a server: what a connection, and behind a command that was taken a wake with the node's
-- own messages, make of a node (own). A fault of any event ends it there.
use Rattle.std.specs.Prelude.{◌≡◌, ◌≢◌, ◌⊎◌, ◌<◌, ◌≤◌, ℕ, zero, suc, false, List, [], ◌∷◌, ◌++◌, Option, None, Some, Result, Ok, Err}
use Rattle.press_acceptor.specs.Seen.{Seen}
use Rattle.press_acceptor.specs.declared.fault.StoreFault.{StoreFault}
use Rattle.press_http.specs.declared.fault.HttpFault.{HttpFault}
use Rattle.press_wire.specs.declared.message.Message.{Message}
use Rattle.press_node.specs.declared.event.Event.TheVariants.{Wake, Deliver}
use Rattle.press_node.specs.declared.fault.NodeFault.{NodeFault}
use Rattle.press_node.specs.declared.fault.NodeFault.TheVariants.{NoMemory}
use Rattle.press_node.specs.declared.node.Node.{Node}
use Rattle.press_node.specs.declared.serve.Served.{Served}
use Rattle.press_node.specs.Faults.{of_store, stops}
use Rattle.press_node.specs.Nodes.{NodeMove, node_move}
use Rattle.press_node.specs.Serving.{Serves}

-- so many deliveries at most follow a wake
abbrev pub most_deliveries : ℕ
most_deliveries = 22

abbrev pub fault_of : {T : Type 0} → Result T NodeFault → Option NodeFault
fault_of (Ok done) = None
fault_of (Err fault) = Some fault

-- over a kind of node, by what is said of one before and after
module _ {N : Type 0} (moved : N → N → NodeMove) where
  -- it goes on with what was sent, where there is memory for it; a fault ends it
  abbrev pub GoesOn : (List Message → Type 0) → N → N → Option NodeFault → Result (List Message) NodeFault → Type 0
  GoesOn on next after fault (Ok sent) = on sent ⊎ ((after ≡ next) × (fault ≡ Some NoMemory))
  GoesOn on next after fault (Err met) = (after ≡ next) × (fault ≡ Some met)

  -- what waits is delivered, the oldest first, so many at most
  abbrev pub Delivers : ℕ → List Message → N → N → Option NodeFault → Type 0
  Delivers zero waiting node after fault = (after ≡ node) × (fault ≡ None)
  Delivers (suc most) [] node after fault = (after ≡ node) × (fault ≡ None)
  Delivers (suc most) (message ∷ rest) node after fault =
      (outcome : Result (List Message) NodeFault) × (next : N) × (moved node next).plays (Deliver message) outcome
      × GoesOn (λ sent. Delivers most (rest ++ sent) next after fault) next after fault outcome

  -- a wake, and what comes of it
  abbrev pub Wakes : N → N → Option NodeFault → Type 0
  Wakes node after fault =
      (outcome : Result (List Message) NodeFault) × (next : N) × (moved node next).plays Wake outcome
      × GoesOn (λ sent. Delivers most_deliveries sent next after fault) next after fault outcome

  -- It is woken until a wake applies nothing more or is refused; what stops it ends that with a
  -- fault. The function counts what a node has applied.
  pub data CatchesUp (count : N → ℕ) : N → N → Option StoreFault → Type 0 where
    rests : (node after : N) → Wakes node after None → count after ≤ count node → CatchesUp count node after None
    is_refused : (node after : N) (fault : NodeFault) → Wakes node after (Some fault) → stops fault ≡ false → CatchesUp count node after None
    is_stopped : (node after : N) (stop : StoreFault) → Wakes node after (Some (of_store stop)) → CatchesUp count node after (Some stop)
    goes_on : (node next after : N) (stop : Option StoreFault) → Wakes node next None → count node < count next → CatchesUp count next after stop → CatchesUp count node after stop

  -- it began so, and has caught up with its store
  abbrev pub HasCaughtUp : (N → ℕ) → (N → Type 0) → N → Type 0
  HasCaughtUp count Began node = (fresh : N) × Began fresh × CatchesUp count fresh node None

  -- behind 202 there is a wake, whatever comes of it, and behind any other status nothing
  abbrev pub WakesAfter : ℕ → N → N → Type 0
  WakesAfter status next after = (status ≡ 202 → (fault : Option NodeFault) × Wakes next after fault) × (status ≢ 202 → after ≡ next)

  -- the status is returned, or the fault
  abbrev pub Ends : N → N → Result Served HttpFault → Result ℕ HttpFault → Type 0
  Ends next after (Ok served) result = (result ≡ Ok served.status) × WakesAfter served.status next after
  Ends next after (Err fault) result = (result ≡ Err fault) × (after ≡ next)

  -- the connection is served as by itself
  abbrev pub ServesTurn : N → N → Option (List ℕ) → Option (List ℕ) → Option (List ℕ) → Option (List ℕ) → Result ℕ HttpFault → Type 0
  ServesTurn node after ahead left old new result =
      (served : Result Served HttpFault) × (next : N) × Serves (moved node next) ahead left old new served × Ends next after served result

-- any number of steps
pub data Chain {T : Type 0} (Step : T → T → Type 0) : T → T → Type 0 where
  rests : (only : T) → Chain Step only only
  goes_on : (old next new : T) → Step old next → Chain Step next new → Chain Step old new

-- none
pub stays : {T : Type 0} {Step : T → T → Type 0} (only : T) → Chain Step only only
stays only = rests only

-- one
pub single : {T : Type 0} {Step : T → T → Type 0} (old new : T) → Step old new → Chain Step old new
single old new step = goes_on old new new step (rests new)

-- some, and then some
pub joined_chain : {T : Type 0} {Step : T → T → Type 0} (old next new : T) → Chain Step old next → Chain Step next new → Chain Step old new
joined_chain old next new (rests only) rest = rest
joined_chain old next new (goes_on first second last step chain) rest = goes_on first second new step (joined_chain second last new chain rest)

-- a connection is served to these bytes, by a node over the same kit
pub record HasTurn {N : Type 0} (moved : N → N → NodeMove) (old new : N) : Type 0 where
  pub kit : (moved new new).kit ≡ (moved old old).kit
  pub request : List ℕ
  pub left : List ℕ
  pub before : List ℕ
  pub told : List ℕ
  pub result : Result ℕ HttpFault
  pub turn : ServesTurn moved old new (Some request) (Some left) (Some before) (Some told) result

-- what becomes of a node by itself: turns
abbrev pub NodeLives : {S : Type 0} {t : _} {F : _} {g : _} → (S → Seen) → Node S t F g → Node S t F g → Type 0
NodeLives seen = Chain (HasTurn (λ a b. node_move seen a b))
