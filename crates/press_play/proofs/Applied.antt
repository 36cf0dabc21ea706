-- Commands one after the other, as a loop does.
use Rattle.std.proofs.Common.{◌≡◌, ℕ, List, ◌∷◌, ◌++◌, ◌∙◌, append_assoc}
use Rattle.press_site.specs.SiteView.{SiteView}
use Rattle.press_callbacks.specs.Kits.{KitView}
use Rattle.press_apply.specs.Apply.{applied}
use Rattle.press_apply.specs.declared.command.Stamped.{Stamped}
use Rattle.press_apply.specs.declared.value.Value.TheVariants.{Cmd}
use Rattle.press_page.specs.Json.{outcome_data}
use Rattle.press_play.specs.Commands.{outcome_lines, site_after}
use Rattle.press_play.specs.Lines.{line}

module _ (kit : KitView) where
  pub after_one : (c : Stamped) (left cs : List Stamped) (s s' end : SiteView) → left ≡ c ∷ cs → s' ≡ (applied kit s (Cmd c)).0 → site_after kit left s ≡ end → site_after kit cs s' ≡ end
  after_one c left cs s s' end cut here so_far =
      let one : site_after kit (c ∷ cs) s ≡ end = rw cut at so_far in
      rw here one

  pub told_one : (old new : List ℕ) (c : Stamped) (left cs : List Stamped) (s s' : SiteView) (total : List ℕ) → left ≡ c ∷ cs
      → s' ≡ (applied kit s (Cmd c)).0 → new ≡ old ++ line (outcome_data (applied kit s (Cmd c)).1) → old ++ outcome_lines kit left s ≡ total → new ++ outcome_lines kit cs s' ≡ total
  told_one old new c left cs s s' total cut here written so_far =
      let one : old ++ outcome_lines kit (c ∷ cs) s ≡ total = rw cut at so_far in
      let two : (old ++ line (outcome_data (applied kit s (Cmd c)).1)) ++ outcome_lines kit cs (applied kit s (Cmd c)).0 ≡ total =
      append_assoc old (line (outcome_data (applied kit s (Cmd c)).1)) (outcome_lines kit cs (applied kit s (Cmd c)).0) ∙ one in
      rw (written, here) two
