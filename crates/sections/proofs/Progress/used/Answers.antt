-- `sections::Progress::used` meets its contract.
-- Assumes nothing.
use Rattle.sections.proofs.Defaults.{or_default}
use Rattle.sections.proofs.Progress.used.Goals as goal

pub returns : goal.returns
returns c =
    let p = c.args.self in
    let irep = or_default (record { records = 0; handlers = 0; pool = 0; symbols = 0 }) _ _ p.irep (λ z. rw (z.0, z.1.0, z.1.1.0, z.1.1.1)) c.unwrap_or_default-irep.ensures in
    let lvar = or_default (record { strings = 0; names = 0; visits = 0 }) _ _ p.lvar (λ z. rw (z.0, z.1.0, z.1.1)) c.unwrap_or_default-lvar.ensures in
    let dbg = or_default (record { file_names = 0; files = 0; lines = 0 }) _ _ p.dbg (λ z. rw (z.0, z.1.0, z.1.1)) c.unwrap_or_default-dbg.ensures in
    rw (irep, lvar, dbg)
