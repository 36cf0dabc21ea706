use Rattle.std.proofs.Common.{◌≡◌, ◌≢◌, ◌++◌, map, drop}
use Rattle.httparse.specs.Spans.{header_bytes}
use Rattle.press_http.specs.Bodies.{values_of, found_list}
use Rattle.press_http.specs.declared.fields.Values.TheVariants as values
use Rattle.press_http.proofs.fields.values_of.Given as goal

abbrev pub invariant-loop-field : goal.invariant-loop-field
invariant-loop-field l = record {
  all : values_of l.name (map (header_bytes l.buf) l.fields) ≡ found_list l.found ++ values_of l.name (map (header_bytes l.buf) (drop l.field-index l.fields));
  few : l.found ≢ values.More;
}
