-- What a batch carries (own).
use Rattle.std.specs.Prelude.{List}
use Rattle.press_wire.specs.declared.message.Message.{Message}
use Rattle.press_batch.specs.declared.batch.Batch.{Batch}
use Rattle.press_batch.specs.declared.head.Head.{Head}

pub record BatchContent : Type 0 where
  pub head : Head
  pub messages : List Message

abbrev pub carried_by : Batch → BatchContent
carried_by b = record { head = b.head; messages = b.messages.items }
