use Rattle.std.proofs.Common.{refl, subst}
use Rattle.press_upgrade.specs.Differences.{callback_title, plugin_title}
use Rattle.press_upgrade.specs.Parts.{AreKept, IsFirstLost}
use Rattle.press_upgrade.proofs.Parts.{extends_keeps, kept_extends, lost}
use Rattle.press_upgrade.proofs.extension.extends.Goals as goal

pub returns-in-Some-clause-ok : goal.returns-in-Some-clause-ok
returns-in-Some-clause-ok c =
    let old = c.args.old.now in
    let new = c.args.new.now in
    let among : IsFirstLost callback_title new.callbacks c.as_slice.result.now c.in-Some.callback.now c.in-Some.loss = subst (λ xs. IsFirstLost callback_title xs c.as_slice.result.now c.in-Some.callback.now c.in-Some.loss) c.as_slice-2.ensures c.in-Some.ensures in
    let first : IsFirstLost callback_title new.callbacks old.callbacks c.in-Some.callback.now c.in-Some.loss = subst (λ xs. IsFirstLost callback_title new.callbacks xs c.in-Some.callback.now c.in-Some.loss) c.as_slice.ensures among in (
      λ h. cc,
      λ e. absurd (lost callback_title new.callbacks old.callbacks c.in-Some.callback.now c.in-Some.loss first (extends_keeps old new e).0),
    )

pub returns-in-Some-first_loss-clause-ok : goal.returns-in-Some-first_loss-clause-ok
returns-in-Some-first_loss-clause-ok c =
    let old = c.args.old.now in
    let new = c.args.new.now in
    let among : IsFirstLost plugin_title new.plugins c.as_slice-3.result.now c.in-Some-first_loss.plugin.now c.in-Some-first_loss.loss = subst (λ xs. IsFirstLost plugin_title xs c.as_slice-3.result.now c.in-Some-first_loss.plugin.now c.in-Some-first_loss.loss) c.as_slice-4.ensures c.in-Some-first_loss.ensures in
    let first : IsFirstLost plugin_title new.plugins old.plugins c.in-Some-first_loss.plugin.now c.in-Some-first_loss.loss = subst (λ xs. IsFirstLost plugin_title new.plugins xs c.in-Some-first_loss.plugin.now c.in-Some-first_loss.loss) c.as_slice-3.ensures among in (
      λ h. cc,
      λ e. absurd (lost plugin_title new.plugins old.plugins c.in-Some-first_loss.plugin.now c.in-Some-first_loss.loss first (extends_keeps old new e).1),
    )

pub returns-clause-ok : goal.returns-clause-ok
returns-clause-ok c =
    let old = c.args.old.now in
    let new = c.args.new.now in
    let callbacks : AreKept callback_title new.callbacks old.callbacks = rw (c.as_slice.ensures, c.as_slice-2.ensures) at c.in_default.ensures in
    let plugins : AreKept plugin_title new.plugins old.plugins = rw (c.as_slice-3.ensures, c.as_slice-4.ensures) at c.in_default-first_loss.ensures in
    (λ t. kept_extends old new callbacks plugins, λ e. refl)
