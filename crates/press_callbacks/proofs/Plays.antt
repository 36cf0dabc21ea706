-- What a call gives, where its turns are the script's.
use Rattle.std.proofs.Common.{◌≡◌, List, IfOk, Result, Ok, Err}
use Rattle.std.specs.declared.alloc.AllocError.{AllocError}
use Rattle.press_callbacks.specs.declared.script.CallIn.{CallIn}
use Rattle.press_callbacks.specs.declared.script.Op.{Op}
use Rattle.press_callbacks.specs.declared.script.Turn.{Turn}
use Rattle.press_callbacks.specs.Turns.{turn_of, PlaysScript}

pub plays_gives : (may : CallIn → Result Turn AllocError → Type 0) (script : List Op) (call : CallIn) (r : Result Turn AllocError) → PlaysScript may script → may call r → IfOk r (λ t. t ≡ turn_of script call)
plays_gives may script call (Ok t) h m = h call t m
plays_gives may script call (Err e) h m = tt
