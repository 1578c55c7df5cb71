-- `debug::Entries::read_files` meets its contract.
-- Assumes nothing.
use Rattle.std.proofs.Common.{rules, ◌≡◌, ◌+◌, ◌-◌, ◌∙◌, arith}
use Rattle.refusal.specs.Number.{number}
use Rattle.debug.specs.Records.{tabs, filed_of, files_of}
use Rattle.debug.proofs.Laws.{files_go, files_no}
use Rattle.debug.proofs.Entries.read_files.Goals as goal

pub returns-in_err-file : goal.returns-in_err-file
returns-in_err-file c =
    let a = c.args in let l = c.loop-i in let new = c.read_file.new in
    let e =
    files_no a.self.now.part.bytes.now a.self.now.names (a.n - l._i) (filed_of l.file l.files l.lines) (number c.in_err-file.field-0.0) (tabs new.files new.lines)
    (omega arith) c.in_err-file.ensures
    ∙ l.invariant in
    search rules

pub loop-i-preserved : goal.loop-i-preserved
loop-i-preserved c =
    let a = c.args in let l = c.loop-i in let new = c.read_file.new in
    let k : a.n - (l._i + 1) ≡ a.n - l._i - 1 = omega arith in
    rw k
    (files_go a.self.now.part.bytes.now a.self.now.names (a.n - l._i) (filed_of l.file l.files l.lines) (filed_of c.in_ok-file.file new.files new.lines)
    (omega arith) c.in_ok-file.ensures
    ∙ l.invariant)

pub returns : goal.returns
unfolding files_of
returns c = let k : c.args.n - c.loop-i._i ≡ 0 = omega arith in rw k at c.loop-i.invariant
