use Rattle.press_http.specs.Reads.{seen_by}
use Rattle.press_http.specs.Requests.{EndsBy, IsRequest, Refuses}
use Rattle.press_http.proofs.Joined.{fault_alone}
use Rattle.press_http.proofs.reading.read_request.Goals as goal

pub returns : goal.returns
returns g c =
    let t = c.read_pieces.ensures in
    (seen_by t.0, t.2, t.3, fault_alone _ (IsRequest (seen_by t.0)) (λ e. Refuses e (seen_by t.0) (g.R.Read.remaining c.read_pieces.new.reader)) (λ e. EndsBy e t.0) t.4)
