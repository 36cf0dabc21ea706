use Rattle.std.proofs.Common.{ap, Err}
use Rattle.std.proofs.lemmas.Result.{err_from_is_err_and}
use Rattle.press_text.specs.declared.streams.ReadLimitedFault.{ReadLimitedFault}
use Rattle.press_world.specs.ScheduleFile.{schedule_in}
use Rattle.press_world.proofs.Readings.{file_missed, found, long_schedule, not_read}
use Rattle.press_world.proofs.reading.read_schedule.Goals as goal

pub returns-in_err-bytes-clause-gives : goal.returns-in_err-bytes-clause-gives
returns-in_err-bytes-clause-gives g c =
    let p = err_from_is_err_and c.from_residual.result c.from_residual.ensures.1 in
    rw (p.1, p.2) (not_read (schedule_in c.args.kits) (g.R.Read.remaining c.args.reader.now) c.in_err-bytes.field-0.0 (long_schedule c.args.kits) (λ too. c.in_err-bytes.ensures.over (ap (λ (f : ReadLimitedFault). Err f) too)))

pub returns-in_err-read_schedule_file-clause-gives : goal.returns-in_err-read_schedule_file-clause-gives
returns-in_err-read_schedule_file-clause-gives g c =
    let p = err_from_is_err_and c.from_residual-in_err-read_schedule_file.result c.from_residual-in_err-read_schedule_file.ensures.1 in
    rw (p.1, p.2) (file_missed (schedule_in c.args.kits) (g.R.Read.remaining c.args.reader.now) c.in_ok-bytes.bytes.items c.deref.result.now c.in_err-read_schedule_file.field-0.0
    c.deref.ensures.value c.in_ok-bytes.ensures.whole c.in_err-read_schedule_file.ensures.gives)

pub returns-clause-gives : goal.returns-clause-gives
returns-clause-gives g c =
    found (schedule_in c.args.kits) (g.R.Read.remaining c.args.reader.now) c.in_ok-bytes.bytes.items c.deref.result.now c.in_ok-read_schedule_file.field-0 c.deref.ensures.value
    c.in_ok-bytes.ensures.whole c.in_ok-read_schedule_file.ensures.gives
