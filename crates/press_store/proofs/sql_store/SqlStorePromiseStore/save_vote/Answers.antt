use Rattle.std.proofs.Common.{ℕ, Some, Ok, Err, subst, arith}
use Rattle.std.specs.Prelude.{IfSome}
use Rattle.sqlite.specs.declared.error.Error.{Error}
use Rattle.sqlite.specs.Held.{state}
use Rattle.press_acceptor.specs.declared.fault.StoreFault.{StoreFault}
use Rattle.press_acceptor.specs.StoreMap.{with_vote}
use Rattle.press_store.specs.Attempt.{Saved}
use Rattle.press_store.specs.Kept.{Kept}
use Rattle.press_store.specs.Counting.{SavesCounted}
use Rattle.press_store.proofs.Running.{count_goes_on, count_saved, count_stays, count_told, told_err, told_ok}
use Rattle.press_store.proofs.Told.{failed_told, saved_told}
use Rattle.press_store.proofs.sql_store.SqlStorePromiseStore.save_vote.Goals as goal

pub returns-in-Err-put_vote-clause-saves : goal.returns-in-Err-put_vote-clause-saves
returns-in-Err-put_vote-clause-saves g c honest =
    failed_told g.D.Store c.args.self.now (record { conn = c.put_vote.new.conn; faults = c.count_fault.new.faults; is_ours = c.self.inside.is_ours; mark = c.self.inside.mark }) (λ store. with_vote store c.args.slot c.args.vote.now) c.in-Err-put_vote.error
    (subst (λ (k : Kept _). Saved {A = Unit {0}} (λ store. with_vote store c.args.slot c.args.vote.now) (state g.D.Store k.conn) (state g.D.Store c.put_vote.new.conn) (Err c.in-Err-put_vote.error)) c.self.view_is (c.in-Err-put_vote.ensures.saves honest.0 (c.self.invariant.1 honest.1).0))

pub returns-in-Err-next_count-clause-calls : goal.returns-in-Err-next_count-clause-calls
returns-in-Err-next_count-clause-calls g c = record { honest = λ is. is; counts = (omega arith, λ disk. absurd (c.in-Err-next_count.ensures.fault disk)); ends = tt }

pub invariant_of-self-in-Ok-count_vote : goal.invariant_of-self-in-Ok-count_vote
invariant_of-self-in-Ok-count_vote g c = count_goes_on g.D.Store c.self.inside.conn c.count_vote.new.conn c.self.inside.mark c.in-Some.mark c.in-Ok-next_count.count.mark (λ store. with_vote store c.args.slot c.args.vote.now) c.in-Ok-next_count.count.heard.items c.in-Some.is c.in-Ok-next_count.ensures.next c.self.invariant.0 c.count_vote.ensures.clean c.in-Ok-count_vote.field-0 c.in-Ok-count_vote.ensures.counts c.self.invariant.1

pub returns-in-Ok-count_vote-clause-saves : goal.returns-in-Ok-count_vote-clause-saves
returns-in-Ok-count_vote-clause-saves g c honest =
    saved_told g.D.Store c.args.self.now (record { conn = c.count_vote.new.conn; faults = c.self.inside.faults; is_ours = c.self.inside.is_ours; mark = Some c.in-Ok-next_count.count.mark }) (λ store. with_vote store c.args.slot c.args.vote.now) c.in-Ok-count_vote.field-0
    (subst (λ (k : Kept _). Saved {A = Unit {0}} (λ store. with_vote store c.args.slot c.args.vote.now) (state g.D.Store k.conn) (state g.D.Store c.count_vote.new.conn) (Ok c.in-Ok-count_vote.field-0)) c.self.view_is
    (count_saved g.D.Store c.self.inside.conn c.count_vote.new.conn c.self.inside.mark c.in-Some.mark c.in-Ok-next_count.count.mark (λ store. with_vote store c.args.slot c.args.vote.now) c.in-Ok-next_count.count.heard.items c.in-Some.is c.in-Ok-next_count.ensures.next c.self.invariant.0 c.count_vote.ensures.clean (Ok c.in-Ok-count_vote.field-0) c.in-Ok-count_vote.ensures.counts (c.self.invariant.1 honest.1).0 (c.self.invariant.1 honest.1).1 honest.0))

pub returns-in-Ok-count_vote-clause-counted : goal.returns-in-Ok-count_vote-clause-counted
returns-in-Ok-count_vote-clause-counted g c honest =
    subst (λ (k : Kept _). IfSome k.mark (λ mark. SavesCounted g.D.Store k.conn c.count_vote.new.conn {A = Unit {0}} {F = StoreFault} (λ store. with_vote store c.args.slot c.args.vote.now) mark (Ok tt))) c.self.view_is
    (told_ok (Unit {0}) (Unit {0}) Error StoreFault (state g.D.Store c.self.inside.conn) (state g.D.Store c.count_vote.new.conn) (λ store. with_vote store c.args.slot c.args.vote.now) c.self.inside.mark c.in-Ok-count_vote.field-0 tt
    (count_told g.D.Store c.self.inside.conn c.count_vote.new.conn c.self.inside.mark c.in-Some.mark c.in-Ok-next_count.count.mark (λ store. with_vote store c.args.slot c.args.vote.now) c.in-Ok-next_count.count.heard.items c.in-Some.is c.in-Ok-next_count.ensures.next c.self.invariant.0 c.count_vote.ensures.clean (Ok c.in-Ok-count_vote.field-0) c.in-Ok-count_vote.ensures.counts (c.self.invariant.1 honest.1).0 (c.self.invariant.1 honest.1).1 honest.0))

pub invariant_of-self-in-Err-count_vote : goal.invariant_of-self-in-Err-count_vote
invariant_of-self-in-Err-count_vote g c = count_stays g.D.Store c.self.inside.conn c.count_vote.new.conn c.self.inside.mark c.in-Some.mark c.in-Ok-next_count.count.mark (λ store. with_vote store c.args.slot c.args.vote.now) c.in-Ok-next_count.count.heard.items c.in-Some.is c.in-Ok-next_count.ensures.next c.self.invariant.0 c.count_vote.ensures.clean c.in-Err-count_vote.error c.in-Err-count_vote.ensures.counts c.self.invariant.1

pub returns-clause-saves : goal.returns-clause-saves
returns-clause-saves g c honest =
    failed_told g.D.Store c.args.self.now (record { conn = c.count_vote.new.conn; faults = c.count_fault-in-Err-count_vote.new.faults; is_ours = c.self.inside.is_ours; mark = c.self.inside.mark }) (λ store. with_vote store c.args.slot c.args.vote.now) c.in-Err-count_vote.error
    (subst (λ (k : Kept _). Saved {A = Unit {0}} (λ store. with_vote store c.args.slot c.args.vote.now) (state g.D.Store k.conn) (state g.D.Store c.count_vote.new.conn) (Err c.in-Err-count_vote.error)) c.self.view_is
    (count_saved g.D.Store c.self.inside.conn c.count_vote.new.conn c.self.inside.mark c.in-Some.mark c.in-Ok-next_count.count.mark (λ store. with_vote store c.args.slot c.args.vote.now) c.in-Ok-next_count.count.heard.items c.in-Some.is c.in-Ok-next_count.ensures.next c.self.invariant.0 c.count_vote.ensures.clean (Err c.in-Err-count_vote.error) c.in-Err-count_vote.ensures.counts (c.self.invariant.1 honest.1).0 (c.self.invariant.1 honest.1).1 honest.0))

pub returns-clause-counted : goal.returns-clause-counted
returns-clause-counted g c honest =
    subst (λ (k : Kept _). IfSome k.mark (λ mark. SavesCounted g.D.Store k.conn c.count_vote.new.conn {A = Unit {0}} {F = StoreFault} (λ store. with_vote store c.args.slot c.args.vote.now) mark (Err c.count_fault-in-Err-count_vote.result))) c.self.view_is
    (told_err (Unit {0}) (Unit {0}) Error StoreFault (state g.D.Store c.self.inside.conn) (state g.D.Store c.count_vote.new.conn) (λ store. with_vote store c.args.slot c.args.vote.now) c.self.inside.mark c.in-Err-count_vote.error c.count_fault-in-Err-count_vote.result
    (count_told g.D.Store c.self.inside.conn c.count_vote.new.conn c.self.inside.mark c.in-Some.mark c.in-Ok-next_count.count.mark (λ store. with_vote store c.args.slot c.args.vote.now) c.in-Ok-next_count.count.heard.items c.in-Some.is c.in-Ok-next_count.ensures.next c.self.invariant.0 c.count_vote.ensures.clean (Err c.in-Err-count_vote.error) c.in-Err-count_vote.ensures.counts (c.self.invariant.1 honest.1).0 (c.self.invariant.1 honest.1).1 honest.0))
