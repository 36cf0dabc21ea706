use Rattle.std.proofs.Common.{◌≡◌, ◌++◌, take, string_bytes, flat_map}
use Rattle.press_operator.specs.Metrics.{count_line, requests_head}
use Rattle.press_operator.proofs.metrics.of_requests.Given as goal

abbrev pub invariant-loop-count : goal.invariant-loop-count
invariant-loop-count l = string_bytes l.text ≡ requests_head ++ flat_map count_line (take l.count-index l.counts)
