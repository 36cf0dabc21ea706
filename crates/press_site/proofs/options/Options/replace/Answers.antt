use Rattle.std.proofs.Common.{◌≡◌, ◌∙◌, sym, ap, None, Some}
use Rattle.std.specs.Option.{option_copied_mut}
use Rattle.press_site.specs.Options.{by_bytes, option_of, put_back}
use Rattle.press_site.specs.contracts.options.Options.{the_view}
use Rattle.press_site.proofs.Bytes.{found}
use Rattle.press_site.proofs.PutBack.{replaced, unset}
use Rattle.press_site.proofs.options.Options.replace.Goals.{in-Some, in_default}
use Rattle.press_site.proofs.options.Options.replace.Goals as goal

pub returns : goal.returns
returns c = elim c.match-get_mut.branch [
  | in-Some w ↦
      ap the_view w.self-inside-is
      ∙ ap by_bytes (c.get_mut.follows.holds c.args.value).0
      ∙ replaced c.args.name.now c.args.value c.self.inside.values.entries
      ∙ ap (put_back c.args.name.now (Some c.args.value)) c.self.view_is
  | in_default w ↦
      let absent : option_of c.args.name.now (by_bytes c.self.inside.values.entries) ≡ None =
      sym (found c.args.name.now c.self.inside.values.entries) ∙ sym c.get_mut.ensures.value ∙ ap option_copied_mut w.in_default.is in
      ap the_view w.self-inside-is
      ∙ ap (λ m. by_bytes m.entries) c.get_mut.follows.holds-at-none
      ∙ sym (unset c.args.name.now c.args.value (by_bytes c.self.inside.values.entries) absent)
      ∙ ap (put_back c.args.name.now (Some c.args.value)) c.self.view_is
]
