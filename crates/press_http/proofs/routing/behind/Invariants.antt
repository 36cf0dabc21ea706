use Rattle.std.proofs.Common.{◌≡◌, ◌-◌}
use denote.Shadow.{shadow}
use denote.Text.{Utf8}
use Rattle.press_http.specs.Routes.{behind}
use Rattle.press_http.proofs.routing.behind.Given as goal

abbrev pub invariant-loop-slash : goal.invariant-loop-slash
invariant-loop-slash l = record {
  left : behind (l.slashes - l.slash) l.rest ≡ behind l.slashes l.path;
  text : shadow (Utf8 l.rest);
}
