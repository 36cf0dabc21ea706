use Rattle.press_scan.proofs.Heads.{made_next}
use Rattle.press_scan.proofs.next.shortcode_in.Goals as goal

pub returns-then-closes_itself : goal.returns-then-closes_itself
returns-then-closes_itself c = made_next _ _ _ c.in-Some.opening _ c.in-Some.ensures.some.0 c.self_closing_shortcode.ensures

pub returns-in-Some-find_closing : goal.returns-in-Some-find_closing
returns-in-Some-find_closing c = made_next _ _ _ c.in-Some.opening _ c.in-Some.ensures.some.0 c.enclosing_shortcode.ensures

pub returns-in-None-find_closing : goal.returns-in-None-find_closing
returns-in-None-find_closing c = made_next _ _ _ c.in-Some.opening _ c.in-Some.ensures.some.0 c.lone_shortcode.ensures
