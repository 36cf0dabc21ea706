-- The lines of pages: the status and the body of each by *Page*, as a line of JSON (own).
use Rattle.std.specs.Prelude.{ℕ, List, [], ◌∷◌, ◌++◌, codes}
use Rattle.serde_json.specs.Data.{Data, string, number, unsigned, object, member, no_members}
use Rattle.press_site.specs.SiteView.{SiteView}
use Rattle.press_callbacks.specs.Kits.{KitView}
use Rattle.press_page.specs.declared.reply.Reply.{Reply}
use Rattle.press_page.specs.declared.reply.Target.{Target}
use Rattle.press_page.specs.Page.{page_of}
use Rattle.press_play.specs.Lines.{line}

abbrev pub reply_data : Reply → Data
reply_data r = object (member (codes "body") (string r.body) (member (codes "status") (number (unsigned r.status)) no_members))

abbrev pub page_lines : KitView → SiteView → List Target → List ℕ
page_lines kit site [] = []
page_lines kit site (t ∷ ts) = line (reply_data (page_of kit site t)) ++ page_lines kit site ts
