-- What a proposer keeps in memory, and what an event makes of it.
use Rattle.std.specs.Prelude.{ℕ, Option, None, List, []}
use Rattle.press_acceptor.specs.StoreMap.{StoreMap, Save, with_any_save}
use Rattle.press_apply.specs.declared.command.Stamped.{Stamped}
use Rattle.press_wire.specs.declared.message.Message.{Message}
use Rattle.press_proposer.specs.declared.phase.Phase.{Phase}
use Rattle.press_proposer.specs.declared.phase.Phase.TheVariants.{Idle}

pub record ProposerState : Type 0 where
  pub id : ℕ
  pub members : ℕ
  -- the commands that wait to be chosen, the first that came first
  pub queue : List Stamped
  pub phase : Phase
  -- the greatest round that a Nack reported since the start; at the start the last round that was saved
  pub nacked : ℕ

-- at most one save, then the proposer after it, then messages
pub record Turn : Type 0 where
  pub save : Option Save
  pub after : ProposerState
  pub out : List Message

-- a proposer at the start: only the store stays
abbrev pub new_proposer : ℕ → ℕ → ℕ → ProposerState
new_proposer id members last_round = record { id = id; members = members; queue = []; phase = Idle; nacked = last_round }

abbrev pub in_phase : ProposerState → Phase → ProposerState
in_phase p phase = record { id = p.id; members = p.members; queue = p.queue; phase = phase; nacked = p.nacked }

abbrev pub with_queue : ProposerState → List Stamped → ProposerState
with_queue p queue = record { id = p.id; members = p.members; queue = queue; phase = p.phase; nacked = p.nacked }

-- nothing is saved or sent
abbrev pub quiet : ProposerState → Turn
quiet p = record { save = None; after = p; out = [] }

-- the store after the turn
abbrev pub left_by : StoreMap → Turn → StoreMap
left_by store turn = with_any_save store turn.save
