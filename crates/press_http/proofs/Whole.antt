-- A request with its body, or one that is cut.
use Rattle.std.proofs.Common.{◌≡◌, ℕ, ◌+◌, ◌<◌, ◌≤◌, List, ◌++◌, length, take, ap, ◌∙◌, arith, append_assoc, length-append, inr}
use Rattle.std.specs.Prelude.{Option}
use Rattle.httparse.specs.Grammar.{RequestHead, print_request}
use Rattle.press_http.specs.declared.fault.HttpFault.{HttpFault}
use Rattle.press_http.specs.declared.fault.HttpFault.TheVariants as fault
use Rattle.press_http.specs.declared.request.Request.{Request}
use Rattle.press_http.specs.declared.start.Start.{Start}
use Rattle.press_http.specs.Heads.{ReadsHead, longest_head}
use Rattle.press_http.specs.Bodies.{RefusesBody}
use Rattle.press_http.specs.Requests.{IsCut, IsRequest, IsStart, Refuses, longest_request}
use Rattle.press_http.proofs.Starts.{few_bytes, some_print}

longer : (seen more rest : List ℕ) (h : RequestHead) → ReadsHead seen h rest → ReadsHead (seen ++ more) h (rest ++ more)
longer seen more rest h r =
    ((r.0.0, ap (λ (l : List ℕ). l ++ more) r.0.1 ∙ append_assoc (print_request h) rest more), r.1, r.2)

pub whole : (seen more : List ℕ) (s : Start) (r : Request) → IsStart seen s → length seen ≤ longest_head → length more ≤ s.count
    → s.count ≤ length s.rest + length more → r.method ≡ s.method → r.target ≡ s.target → r.body ≡ take s.count (s.rest ++ more)
    → IsRequest (seen ++ more) r
whole seen more s r start short few there method target body =
    let fits : s.count ≤ length (s.rest ++ more) = omega (arith, there, length-append s.rest more) in
    let read : length (seen ++ more) ≤ longest_head + s.count = omega (arith, short, few, length-append seen more) in
    (start.0, s.rest ++ more, s.count, longer seen more s.rest start.0 start.1, start.2, fits, method ∙ start.3, target ∙ start.4, body, read)

pub cut : (seen more : List ℕ) (s : Start) → IsStart seen s → length s.rest + length more < s.count → IsCut (seen ++ more)
cut seen more s start short =
    (start.0, s.rest ++ more, s.count, longer seen more s.rest start.0 start.1, start.2, omega (arith, short, length-append s.rest more))

some_there : (seen more : List ℕ) (s : Start) → IsStart seen s → 0 < length (seen ++ more)
some_there seen more s start =
    omega (arith, some_print start.0, ap length start.1.0.1, length-append (print_request start.0) s.rest, length-append seen more)

pub refused : (e : HttpFault) (seen more : List ℕ) (s : Start) (left : Option (List ℕ)) → IsStart seen s → RefusesBody e s.count s.rest more left → Refuses e (seen ++ more) left
refused fault.NoMemory seen more s left start r = some_there seen more s start
refused fault.ReadFault seen more s left start r = inr (cut seen more s start r)
refused fault.Ended seen more s left start r = inr (cut seen more s start r.0, r.1)
refused fault.WriteFault seen more s left start r = absurd r
refused fault.BadHead seen more s left start r = absurd r
refused fault.BadForm seen more s left start r = absurd r
refused fault.BadPeer seen more s left start r = absurd r
refused fault.NotFound seen more s left start r = absurd r
refused fault.NotAllowed seen more s left start r = absurd r
refused fault.NoLength seen more s left start r = absurd r
refused fault.TooBig seen more s left start r = absurd r
refused fault.FieldsTooLarge seen more s left start r = absurd r
refused fault.NotDone seen more s left start r = absurd r

pub fits : (seen more : List ℕ) (s : Start) → IsStart seen s → length seen ≤ longest_head → length more ≤ s.count → length (seen ++ more) ≤ longest_request
fits seen more s start short few =
    let small = few_bytes start.0 s.count start.2 in
    omega (arith, small, short, few, length-append seen more)
