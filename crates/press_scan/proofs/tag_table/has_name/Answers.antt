use Rattle.std.proofs.Common.{◌≡◌, ◌∙◌, sym, bytes_eq}
use Rattle.std.specs.List.{list_any}
use Rattle.press_scan.specs.Tags.{names_of}
use Rattle.press_scan.proofs.Names.{any_names, registered_true, registered_from}
use Rattle.press_scan.proofs.tag_table.has_name.Goals as goal

pub returns : goal.returns
returns c =
    let e : c.has_row.result ≡ list_any (bytes_eq c.args.name.now) (names_of c.args.rows.now) = c.has_row.ensures ∙ any_names c.args.name.now c.args.rows.now in
    (λ h. registered_true _ _ (sym e ∙ h), λ h. e ∙ registered_from _ _ h)
