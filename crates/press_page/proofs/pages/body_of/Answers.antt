use Rattle.std.proofs.Common.{◌∙◌, sym}
use Rattle.press_page.specs.Rendering.{state_in}
use Rattle.press_page.proofs.pages.body_of.Goals as goal

pub returns-clause-shows : goal.returns-clause-shows
returns-clause-shows g c =
    let shown = rw (c.as_str.ensures.value, c.in_ok-name.ensures, c.site.ensures) at c.in_ok-whole_page.ensures.steps in
    (state_in c.whole_page.new.self, shown, sym (c.in_ok-body.ensures.value ∙ c.take_text.ensures.text))
