use Rattle.std.proofs.Common.{◌≡◌, ap, sym, bytes_eq, to_z, of_z, w64}
use Rattle.std.specs.List.{list_any}
use Rattle.std.proofs.lemmas.Int.{to_z-of_z}
use Rattle.press_hooks.proofs.ByPriority.{has_found, at_missing}
use Rattle.press_hooks.proofs.groups.has.Goals as goal

pub returns-in-Ok : goal.returns-in-Ok
returns-in-Ok c =
    let z : to_z w64 (of_z w64 c.args.priority) ≡ c.args.priority = to_z-of_z w64 c.args.priority c.ranges.priority in
    let found = rw z at c.in-Ok.ensures in
    has_found c.args.priority c.args.callback c.args.groups.now c.in-Ok.place c.index-groups-place.result c.requires found.0 found.1 c.index-groups-place.is c.has.ensures

pub returns-in-Err : goal.returns-in-Err
returns-in-Err c =
    let z : to_z w64 (of_z w64 c.args.priority) ≡ c.args.priority = to_z-of_z w64 c.args.priority c.ranges.priority in
    let missing = rw z at c.in-Err.ensures in
    ap (list_any (λ e. bytes_eq e.callback c.args.callback)) (sym (at_missing c.args.priority c.args.groups.now c.in-Err.field-0 missing.1))
