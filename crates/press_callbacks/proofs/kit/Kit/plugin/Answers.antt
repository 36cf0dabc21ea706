use Rattle.std.proofs.Common.{◌≡◌, ◌∙◌, sym, ap, refl}
use Rattle.press_callbacks.specs.Kits.{plugins_in}
use Rattle.press_callbacks.specs.Order.{place_of}
use Rattle.press_callbacks.proofs.Found.{plugin_at, plugin_placed}
use Rattle.press_callbacks.proofs.kit.Kit.plugin.Goals as goal

pub returns-in-Some : goal.returns-in-Some
returns-in-Some g c =
    let found : c.place_of.result ≡ place_of (λ p. p.name) c.args.name.now (plugins_in c.args.self.now) = rw (c.place_of.ensures, c.as_slice.ensures.value, c.as_bytes.ensures.value, c.as_str.ensures.value) refl in
    c.plugin_at.ensures ∙ ap (λ o. plugin_at o (plugins_in c.args.self.now)) (sym c.in-Some.is ∙ found) ∙ plugin_placed c.args.name.now (plugins_in c.args.self.now)

pub returns-in-None : goal.returns-in-None
returns-in-None g c =
    let found : c.place_of.result ≡ place_of (λ p. p.name) c.args.name.now (plugins_in c.args.self.now) = rw (c.place_of.ensures, c.as_slice.ensures.value, c.as_bytes.ensures.value, c.as_str.ensures.value) refl in
    ap (λ o. plugin_at o (plugins_in c.args.self.now)) (sym c.in-None.is ∙ found) ∙ plugin_placed c.args.name.now (plugins_in c.args.self.now)
