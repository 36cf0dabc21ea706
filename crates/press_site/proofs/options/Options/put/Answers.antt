use Rattle.std.proofs.Common.{◌≡◌, ◌∙◌, ap, None}
use Rattle.press_site.specs.Options.{Values, by_bytes, option_of, put_back, put_option}
use Rattle.press_site.proofs.Bytes.{put}
use Rattle.press_site.proofs.PutBack.{name_out}
use Rattle.press_site.proofs.options.Options.put.Goals as goal

pub returns-clause-ok : goal.returns-clause-ok
returns-clause-ok c =
    ap by_bytes c.in_ok-insert.ensures.entries
    ∙ put c.self.inside.values.entries c.in_ok-name.name c.args.value
    ∙ ap (λ n. put_option n c.args.value (by_bytes c.self.inside.values.entries)) c.in_ok-name.ensures.ok
    ∙ ap (put_option c.args.name.now c.args.value) c.self.view_is

pub returns-clause-back : goal.returns-clause-back
returns-clause-back c =
    let es : Values = by_bytes c.self.inside.values.entries in
    let new : by_bytes c.insert.new.self.entries ≡ put_option c.args.name.now c.args.value es =
    ap by_bytes c.in_ok-insert.ensures.entries
    ∙ put c.self.inside.values.entries c.in_ok-name.name c.args.value
    ∙ ap (λ n. put_option n c.args.value es) c.in_ok-name.ensures.ok in
    ap (put_back c.args.name.now None) new
    ∙ name_out c.args.name.now c.args.value es (ap (option_of c.args.name.now) c.self.view_is ∙ c.requires)
    ∙ c.self.view_is
