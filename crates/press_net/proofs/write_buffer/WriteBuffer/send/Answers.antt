use Rattle.std.proofs.Common.{rules, ◌≡◌, ◌≤◌, ◌<◌, ◌∙◌, ◌+◌, ◌-◌, ap, sym, subst, length, take, drop, arith, length-drop}
use Rattle.std.specs.Io.KnownBytes.{Appends}
use Rattle.press_net.proofs.Sent.{wrote_more}
use Rattle.press_net.proofs.write_buffer.WriteBuffer.send.Goals as goal

pub loop-self-preserved : goal.loop-self-preserved
loop-self-preserved g c =
    let i = c.loop-self.invariant in
    let old = c.args.self.now.sent in
    let bytes = c.args.self.now.bytes.items in
    let items : c.loop-self.self.bytes.items ≡ c.args.self.now.bytes.items = search rules in
    let rest : length c.rest.result.now ≡ length c.loop-self.self.bytes.items - c.loop-self.self.sent = ap length c.rest.ensures ∙ length-drop c.loop-self.self.sent c.loop-self.self.bytes.items in
    let same : length c.loop-self.self.bytes.items ≡ length c.args.self.now.bytes.items = search rules in
    let some : 0 < length c.rest.result.now = search rules in
    let fits : length c.args.self.now.bytes.items < 18446744073709551616 = search rules in
    let most : c.in-Ok.n ≤ length c.rest.result.now = c.in-Ok.ensures.bound in
    let inside : c.loop-self.self.sent + c.in-Ok.n ≤ length c.args.self.now.bytes.items = omega arith in
    let whole : c.saturating_add-self.result ≡ c.loop-self.self.sent + c.in-Ok.n = search rules in
    let before : c.loop-self.self.sent ≤ length c.args.self.now.bytes.items = omega arith in
    let wrote : c.args.self.now.sent ≤ length c.args.self.now.bytes.items → Appends (g.W.Outlet.contents c.args.writer.now) (g.W.Outlet.contents c.put.new.self) (take (c.saturating_add-self.result - c.args.self.now.sent) (drop c.args.self.now.sent c.args.self.now.bytes.items)) = λ start.
    let left : c.rest.result.now ≡ drop c.loop-self.self.sent c.args.self.now.bytes.items = c.rest.ensures ∙ ap (drop c.loop-self.self.sent) items in
    subst (λ n. Appends (g.W.Outlet.contents c.args.writer.now) (g.W.Outlet.contents c.put.new.self) (take (n - old) (drop old bytes))) (sym whole)
    (wrote_more _ _ _ bytes old c.loop-self.self.sent c.in-Ok.n i.1 before (i.3 start)
    (subst (λ part. Appends (g.W.Outlet.contents c.loop-self.writer) (g.W.Outlet.contents c.put.new.self) (take c.in-Ok.n part)) left c.in-Ok.ensures.bytes)) in
    (i.0, omega arith, λ start. omega arith, wrote)
