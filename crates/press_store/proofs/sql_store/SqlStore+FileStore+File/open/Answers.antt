use Rattle.std.proofs.Common.{inl, refl}
use Rattle.press_store.proofs.sql_store.SqlStore+FileStore+File.open.Goals as goal

pub returns-in-Ok-clause-ours : goal.returns-in-Ok-clause-ours
returns-in-Ok-clause-ours c clean = c.in-Ok.ensures.ours clean (inl (inl (inl refl)))
