use Rattle.std.proofs.Common.{◌≡◌, ◌∙◌, ap, ap₂, sym, List, map, None}
use Rattle.std.proofs.lemmas.Result.{err_from_is_err_and}
use Rattle.press_callbacks.specs.declared.plugin.Plugin.{Plugin}
use Rattle.press_callbacks.specs.Kits.{Scripts, kit_fault_by}
use Rattle.press_callbacks.proofs.Moved.{fault_moved, whole_apart, sorted_is}
use Rattle.press_callbacks.proofs.Naturals.{fault-map, by_name-map, refused}
use Rattle.press_callbacks.proofs.kit.Kit.build.Goals as goal

pub returns-in-Some-clause-builds : goal.returns-in-Some-clause-builds
returns-in-Some-clause-builds g c =
    refused _ c.in-Some.fault (rw c.in-Some.is at c.fault_of.ensures.own)
    (fault-map (λ s. (s.id, s.script)) (λ e. e.0) (λ e. e.1) c.args.callbacks.items c.args.plugins.items
    ∙ fault_moved (λ s. s.id) (λ s. s.script) _ _ _ _ c.sorted_by_name-callbacks.ensures.moved c.sorted_by_name-plugins.ensures.moved
    ∙ rw (← c.as_slice.ensures.value, ← c.as_slice-2.ensures.value) (sym c.fault_of.ensures.fault ∙ c.in-Some.is))

pub returns-in_err-hints-clause-builds : goal.returns-in_err-hints-clause-builds
returns-in_err-hints-clause-builds g c =
    let whole : kit_fault_by (λ s. s.id) (λ s. s.script) c.args.callbacks.items c.args.plugins.items ≡ None =
    fault_moved (λ s. s.id) (λ s. s.script) _ _ _ _ c.sorted_by_name-callbacks.ensures.moved c.sorted_by_name-plugins.ensures.moved
    ∙ rw (← c.as_slice.ensures.value, ← c.as_slice-2.ensures.value) (sym c.fault_of.ensures.fault ∙ c.in_default.is) in
    let p = err_from_is_err_and c.from_residual.result c.from_residual.ensures.1 in
    rw (p.1, p.2) (fault-map (λ s. (s.id, s.script)) (λ e. e.0) (λ e. e.1) c.args.callbacks.items c.args.plugins.items ∙ whole)

pub returns-clause-builds : goal.returns-clause-builds
returns-clause-builds g c =
    let whole : kit_fault_by (λ s. s.id) (λ s. s.script) c.args.callbacks.items c.args.plugins.items ≡ None =
    fault_moved (λ s. s.id) (λ s. s.script) _ _ _ _ c.sorted_by_name-callbacks.ensures.moved c.sorted_by_name-plugins.ensures.moved
    ∙ rw (← c.as_slice.ensures.value, ← c.as_slice-2.ensures.value) (sym c.fault_of.ensures.fault ∙ c.in_default.is) in
    let apart = whole_apart (λ s. s.id) (λ s. s.script) c.args.callbacks.items c.args.plugins.items whole in (
      fault-map (λ s. (s.id, s.script)) (λ e. e.0) (λ e. e.1) c.args.callbacks.items c.args.plugins.items ∙ whole,
      ap₂ (λ (a : Scripts) (b : List Plugin). record { scripts = a; plugins = b })
          (ap (map (λ s. (s.id, s.script))) (sorted_is (λ s. s.id) _ _ c.sorted_by_name-callbacks.ensures.moved c.sorted_by_name-callbacks.ensures.sorted apart.0)
          ∙ by_name-map (λ s. (s.id, s.script)) (λ e. e.0) c.args.callbacks.items)
          (sorted_is (λ (p : Plugin). p.name) _ _ c.sorted_by_name-plugins.ensures.moved c.sorted_by_name-plugins.ensures.sorted apart.1),
    )

pub returns-clause-kept : goal.returns-clause-kept
returns-clause-kept g c =
    let whole : kit_fault_by (λ s. s.id) (λ s. s.script) c.args.callbacks.items c.args.plugins.items ≡ None =
    fault_moved (λ s. s.id) (λ s. s.script) _ _ _ _ c.sorted_by_name-callbacks.ensures.moved c.sorted_by_name-plugins.ensures.moved
    ∙ rw (← c.as_slice.ensures.value, ← c.as_slice-2.ensures.value) (sym c.fault_of.ensures.fault ∙ c.in_default.is) in
    sorted_is (λ s. s.id) _ _ c.sorted_by_name-callbacks.ensures.moved c.sorted_by_name-callbacks.ensures.sorted
    (whole_apart (λ s. s.id) (λ s. s.script) c.args.callbacks.items c.args.plugins.items whole).0
