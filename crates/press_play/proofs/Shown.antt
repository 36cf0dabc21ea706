-- Pages one after the other, as a loop does.
use Rattle.std.proofs.Common.{◌≡◌, ℕ, List, ◌∷◌, ◌++◌, ◌∙◌, append_assoc}
use Rattle.press_site.specs.SiteView.{SiteView}
use Rattle.press_callbacks.specs.Kits.{KitView}
use Rattle.press_page.specs.declared.reply.Target.{Target}
use Rattle.press_page.specs.Page.{page_of}
use Rattle.press_play.specs.Lines.{line}
use Rattle.press_play.specs.Pages.{page_lines, reply_data}

pub shown_one : (kit : KitView) (site : SiteView) (old new : List ℕ) (t : Target) (left ts : List Target) (total : List ℕ) → left ≡ t ∷ ts
    → new ≡ old ++ line (reply_data (page_of kit site t)) → old ++ page_lines kit site left ≡ total → new ++ page_lines kit site ts ≡ total
shown_one kit site old new t left ts total cut written so_far =
    let one : old ++ page_lines kit site (t ∷ ts) ≡ total = rw cut at so_far in
    let two : (old ++ line (reply_data (page_of kit site t))) ++ page_lines kit site ts ≡ total =
    append_assoc old (line (reply_data (page_of kit site t))) (page_lines kit site ts) ∙ one in
    rw written two
