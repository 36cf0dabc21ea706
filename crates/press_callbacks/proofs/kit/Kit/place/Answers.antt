use Rattle.std.proofs.Common.{◌≡◌, ◌∙◌, sym, ap, not, Some, option_map, slice_get}
use Rattle.press_callbacks.specs.Kits.{scripts_in, script_at, script_of}
use Rattle.press_callbacks.proofs.Found.{script_placed, name_placed, script_seen, name_seen, none_named, nothing}
use Rattle.press_callbacks.proofs.kit.Kit.place.Goals as goal

pub returns-in-Some-clause-script : goal.returns-in-Some-clause-script
returns-in-Some-clause-script g c =
    let seen : option_map (λ s. s.id) (slice_get c.args.self.now.callbacks.items c.in-Some.place) ≡ Some c.args.id = rw (← c.as_slice-callbacks.ensures.value) c.in-Some.ensures in
    script_seen c.args.id (λ s. (s.id, s.script)) c.args.self.now.callbacks.items c.in-Some.place c.args.self.now.callbacks_apart seen

pub returns-in-Some-clause-named : goal.returns-in-Some-clause-named
returns-in-Some-clause-named g c =
    let seen : option_map (λ s. s.id) (slice_get c.args.self.now.callbacks.items c.in-Some.place) ≡ Some c.args.id = rw (← c.as_slice-callbacks.ensures.value) c.in-Some.ensures in
    name_seen c.args.id (λ s. (s.id, s.script)) c.args.self.now.callbacks.items c.in-Some.place seen

pub returns-clause-script : goal.returns-clause-script
returns-clause-script g c =
    rw (c.place_of-2.ensures, c.as_slice-callbacks.ensures.value)
    (script_placed (λ s. (s.id, s.script)) c.args.id c.args.self.now.callbacks.items)

pub returns-clause-named : goal.returns-clause-named
returns-clause-named g c =
    rw (c.place_of-2.ensures, c.as_slice-callbacks.ensures.value)
    (name_placed (λ s. (s.id, s.script)) c.args.id c.args.self.now.callbacks.items)

pub returns-clause-missing : goal.returns-clause-missing
returns-clause-missing g c h =
    let script : script_at c.place_of-2.result (scripts_in c.args.self.now) ≡ script_of c.args.id (scripts_in c.args.self.now) = returns-clause-script g c in
    ap not (none_named c.args.id (scripts_in c.args.self.now) (sym script ∙ nothing c.place_of-2.result (scripts_in c.args.self.now) h))
