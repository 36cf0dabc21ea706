use Rattle.std.proofs.Common.{◌≡◌, ◌∙◌, sym, ap, subst, rules, None, Some, length, nat_lt, false}
use Rattle.std.specs.Option.{option_copied_mut}
use Rattle.press_site.specs.Options.{SetsSome, Values, by_bytes, option_of, put_back, set_option, set_over}
use Rattle.press_site.specs.Sets.{Sets, set_back}
use Rattle.press_site.proofs.Bytes.{found}
use Rattle.press_site.proofs.PutBack.{back_there, chosen, replaced, sets_there}
use Rattle.press_site.proofs.Unchanged.{none_sets, other_sets}
use Rattle.press_site.proofs.options.Options.set.Goals as goal
use Rattle.std.specs.Prelude.{IfOk, OnErr, bytes_eq}

pub add-requires : goal.add-requires
add-requires c =
    ap (λ m. option_of c.args.name.now (by_bytes m.entries)) c.get_mut.follows.holds-at-none
    ∙ ap (λ n. option_of n (by_bytes c.self.inside.values.entries)) (sym c.as_str.ensures.value)
    ∙ sym (found c.as_str.result.now c.self.inside.values.entries) ∙ sym c.get_mut.ensures.value ∙ ap option_copied_mut c.in_default.is

pub returns-in_default-clause-does : goal.returns-in_default-clause-does
returns-in_default-clause-does c =
    let short : nat_lt 4096 (length c.args.value) ≡ false = search rules in
    let es : Values = by_bytes c.self.inside.values.entries in
    let absent : option_of c.args.name.now es ≡ None =
    ap (λ n. option_of n es) (sym c.as_str.ensures.value) ∙ sym (found c.as_str.result.now c.self.inside.values.entries) ∙ sym c.get_mut.ensures.value ∙ ap option_copied_mut c.in_default.is in
    let same = ap (λ m. by_bytes m.entries) c.get_mut.follows.holds-at-none in
    subst (λ (v : Values). Sets c.add.result (set_option c.args.name.now c.args.value v) v c.add.new.self) c.self.view_is
    (subst (λ m. Sets c.add.result m es c.add.new.self) (chosen c.args.name.now c.args.value es None short absent)
    (subst (λ (v : Values). Sets c.add.result (set_over None c.args.name.now c.args.value v) v c.add.new.self) same c.add.ensures.does))

pub returns-clause-does : goal.returns-clause-does
returns-clause-does c =
    let short : nat_lt 4096 (length c.args.value) ≡ false = search rules in
    let es : Values = by_bytes c.self.inside.values.entries in
    let there : option_of c.args.name.now es ≡ Some c.in-Some.stands.now =
    ap (λ n. option_of n es) (sym c.as_str.ensures.value) ∙ sym (found c.as_str.result.now c.self.inside.values.entries) ∙ sym c.get_mut.ensures.value ∙ ap option_copied_mut c.in-Some.is in
    let after : by_bytes (c.get_mut.follows.lender c.change.new.stands).entries ≡ put_back c.args.name.now (Some c.change.new.stands) es =
    ap by_bytes (c.get_mut.follows.holds c.change.new.stands).0
    ∙ replaced c.as_str.result.now c.change.new.stands c.self.inside.values.entries
    ∙ ap (λ n. put_back n (Some c.change.new.stands) es) c.as_str.ensures.value in
    subst (λ (v : Values). Sets c.change.result (set_option c.args.name.now c.args.value v) v (by_bytes (c.get_mut.follows.lender c.change.new.stands).entries)) c.self.view_is
    (subst (λ m. Sets c.change.result m es (by_bytes (c.get_mut.follows.lender c.change.new.stands).entries)) (chosen c.args.name.now c.args.value es (Some c.in-Some.stands.now) short there)
    (sets_there c.args.name.now c.args.value c.in-Some.stands.now c.change.new.stands c.self.inside.values.entries (by_bytes (c.get_mut.follows.lender c.change.new.stands).entries) c.change.result c.get_mut.ensures.ordered there after c.change.ensures.ok c.change.ensures.err))

pub returns-clause-back : goal.returns-clause-back
returns-clause-back c =
    let es : Values = by_bytes c.self.inside.values.entries in
    let there : option_of c.args.name.now es ≡ Some c.in-Some.stands.now =
    ap (λ n. option_of n es) (sym c.as_str.ensures.value) ∙ sym (found c.as_str.result.now c.self.inside.values.entries) ∙ sym c.get_mut.ensures.value ∙ ap option_copied_mut c.in-Some.is in
    let after : by_bytes (c.get_mut.follows.lender c.change.new.stands).entries ≡ put_back c.args.name.now (Some c.change.new.stands) es =
    ap by_bytes (c.get_mut.follows.holds c.change.new.stands).0
    ∙ replaced c.as_str.result.now c.change.new.stands c.self.inside.values.entries
    ∙ ap (λ n. put_back n (Some c.change.new.stands) es) c.as_str.ensures.value in
    subst (λ (v : Values). IfOk c.change.result (λ s. set_back c.args.name.now s (by_bytes (c.get_mut.follows.lender c.change.new.stands).entries) ≡ v)) c.self.view_is
    (back_there c.args.name.now c.args.value c.in-Some.stands.now c.change.new.stands c.self.inside.values.entries (by_bytes (c.get_mut.follows.lender c.change.new.stands).entries) c.change.result there after c.change.ensures.ok)

pub returns-in_default-clause-memory : goal.returns-in_default-clause-memory
returns-in_default-clause-memory c = λ e.
    let short : nat_lt 4096 (length c.args.value) ≡ false = search rules in
    let es : Values = by_bytes c.self.inside.values.entries in
    let absent : option_of c.args.name.now es ≡ None =
    ap (λ n. option_of n es) (sym c.as_str.ensures.value) ∙ sym (found c.as_str.result.now c.self.inside.values.entries) ∙ sym c.get_mut.ensures.value ∙ ap option_copied_mut c.in_default.is in
    let same = ap (λ m. by_bytes m.entries) c.get_mut.follows.holds-at-none in
    let added = subst (λ (v : Values). Sets c.add.result (set_over None c.args.name.now c.args.value v) v c.add.new.self) same c.add.ensures.does in
    subst (λ (v : Values). SetsSome (set_option c.args.name.now c.args.value v)) c.self.view_is
    (subst SetsSome (chosen c.args.name.now c.args.value es None short absent)
    (none_sets c.args.name.now c.args.value es (subst (λ r. Sets r (set_over None c.args.name.now c.args.value es) es c.add.new.self) e added).0))

pub returns-clause-memory : goal.returns-clause-memory
returns-clause-memory c = λ e.
    let short : nat_lt 4096 (length c.args.value) ≡ false = search rules in
    let es : Values = by_bytes c.self.inside.values.entries in
    let there : option_of c.args.name.now es ≡ Some c.in-Some.stands.now =
    ap (λ n. option_of n es) (sym c.as_str.ensures.value) ∙ sym (found c.as_str.result.now c.self.inside.values.entries) ∙ sym c.get_mut.ensures.value ∙ ap option_copied_mut c.in-Some.is in
    let other : bytes_eq c.in-Some.stands.now c.args.value ≡ false = subst (λ r. OnErr r (bytes_eq c.in-Some.stands.now c.args.value ≡ false)) e c.change.ensures.memory in
    subst (λ (v : Values). SetsSome (set_option c.args.name.now c.args.value v)) c.self.view_is
    (subst SetsSome (chosen c.args.name.now c.args.value es (Some c.in-Some.stands.now) short there)
    (other_sets c.in-Some.stands.now c.args.name.now c.args.value es other))
