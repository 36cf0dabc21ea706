use Rattle.std.proofs.Common.{◌≡◌, ◌+◌, ◌-◌, ◌≤◌, ap, subst, sym, length, length-take-le, arith}
use Rattle.std.specs.Prelude.{take}
use Rattle.std.specs.Str.{IsUtf8}
use Rattle.std.proofs.lemmas.Slice.{take-put_mid}
use Rattle.std.proofs.lemmas.Str.{IsUtf8-append}
use Rattle.press_text.proofs.short.Short.push.Goals as goal

pub invariant_of-self : goal.invariant_of-self
invariant_of-self g c =
    let end = c.self.inside.len + length c.args.more.now in
    let put : c.copy_from_slice.new.self ≡ c.args.more.now = cc in
    let long : end ≡ c.self.inside.len + length c.copy_from_slice.new.self = ap (λ xs. c.self.inside.len + length xs) (sym put) in
    let room : c.self.inside.len ≤ length c.self.inside.cells = omega arith in
    let few : length (take c.self.inside.len c.self.inside.cells) + length c.args.more.now ≤ g.row.N = rw (← c.self.view_is) at c.requires.short in
    let all : length (take c.self.inside.len c.self.inside.cells) ≡ c.self.inside.len = length-take-le c.self.inside.len c.self.inside.cells room in (
      omega arith,
      subst IsUtf8
          (sym (take-put_mid c.self.inside.len (end - c.self.inside.len) c.self.inside.cells c.copy_from_slice.new.self end long room))
          (IsUtf8-append (take c.self.inside.len c.self.inside.cells) c.copy_from_slice.new.self c.self.invariant.1 (subst IsUtf8 (sym put) c.utf8.more)),
    )
