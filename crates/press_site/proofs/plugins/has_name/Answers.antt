use Rattle.std.proofs.Common.{sym, subst, length}
use Rattle.std.specs.Prelude.{◌≡◌, false}
use Rattle.std.specs.List.{AllWithin}
use Rattle.press_site.proofs.Halves.{none_before, not_behind, tells}
use Rattle.press_site.proofs.plugins.has_name.Goals as goal

pub returns-then-place-eq0 : goal.returns-then-place-eq0
returns-then-place-eq0 c =
    sym (none_before c.args.name.now c.args.names.now
    (subst (λ i. AllWithin (λ n. not_behind c.args.name.now n ≡ false) c.args.names.now i (length c.args.names.now)) c.if-place-eq0.true c.place_of-place.ensures.parts.1))

pub returns : goal.returns
returns c =
    tells c.args.name.now c.args.names.now c.place_of-place.result c.index-names-place.result c.is.result c.requires
    c.place_of-place.ensures.parts.0 c.place_of-place.ensures.parts.1 c.if-place-eq0.false c.place_of-place.ensures.within c.index-names-place.is c.is.ensures
