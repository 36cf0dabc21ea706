use Rattle.std.proofs.Common.{◌≡◌, drop}
use Rattle.press_cluster.specs.Digests.{behind_bytes}
use Rattle.press_cluster.proofs.digest.behind_bytes.Given as goal

abbrev pub invariant-loop-byte : goal.invariant-loop-byte
invariant-loop-byte l = behind_bytes l.digest (drop l.byte-index l.bytes) ≡ behind_bytes l.fn.digest l.bytes
