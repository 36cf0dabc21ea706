use Rattle.press_lint.proofs.Alone.{alone_slips, tell_alone}
use Rattle.press_lint.proofs.files.one_file_is_told_as_alone.Goals as goal

pub returns-clause-mistakes : goal.returns-clause-mistakes
returns-clause-mistakes c = λ file kit m. tell_alone file kit m.at m.why

pub returns-clause-slips : goal.returns-clause-slips
returns-clause-slips c = λ before file kit. alone_slips before file kit
