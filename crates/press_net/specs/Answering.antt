-- What a server hands on to what it serves, and what comes of it (own).
use Rattle.std.specs.Prelude.{ℕ, List, Result}
use Rattle.std.specs.declared.net.ip_addr.IpAddr.{IpAddr}
use Rattle.press_http.specs.declared.fault.HttpFault.{HttpFault}
use Rattle.press_net.specs.declared.answers.Errand.{Errand}

-- a request of an address, what was there of the reply before and after, and the status or why
-- there is none
pub record Exchange : Type 0 where
  pub from : IpAddr
  pub request : List ℕ
  pub before : List ℕ
  pub told : List ℕ
  pub result : Result ℕ HttpFault

abbrev pub exchange : IpAddr → List ℕ → List ℕ → List ℕ → Result ℕ HttpFault → Exchange
exchange from request before told result = record { from = from; request = request; before = before; told = told; result = result }

-- a request that went to a member has ended with a reply, an empty one where it is lost
pub record Credit : Type 0 where
  pub place : ℕ
  pub errand : Errand
  pub reply : List ℕ

abbrev pub credit : ℕ → Errand → List ℕ → Credit
credit place errand reply = record { place = place; errand = errand; reply = reply }
