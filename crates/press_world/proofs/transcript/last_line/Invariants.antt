use Rattle.std.proofs.Common.{◌≡◌, ◌++◌, take, codes, string_bytes, flat_map}
use Rattle.press_world.specs.Transcript.{node_text}
use Rattle.press_world.proofs.transcript.last_line.Given as goal

abbrev pub invariant-loop-applied : goal.invariant-loop-applied
invariant-loop-applied l = string_bytes l.line ≡ codes "end" ++ flat_map node_text (take l.applied-index l.nodes)
