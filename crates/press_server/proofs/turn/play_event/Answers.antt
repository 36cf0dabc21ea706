use Rattle.press_server.proofs.turn.play_event.Goals as goal

pub returns-in-Ok-clause-plays : goal.returns-in-Ok-clause-plays
returns-in-Ok-clause-plays g c = let e = c.in-Ok.ensures in record { member = e.member; whole = e.whole; plays = e.plays }

pub returns-in-Err-clause-plays : goal.returns-in-Err-clause-plays
returns-in-Err-clause-plays g c = let e = c.in-Err.ensures in record { member = e.member; whole = e.whole; plays = e.plays }
