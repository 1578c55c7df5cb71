-- A loaded pattern, as the definitions have it.
-- Assumes nothing.
use Rattle.std.specs.Prelude.{ℕ}
use Rattle.format.specs.Pattern.{Record, Pattern}
use Rattle.exam.specs.View.{record_at, records_between, pattern_at, Ready}
use Rattle.exam.specs.declared.loaded.Pattern as loaded

-- record row r
abbrev pub record_of : loaded.Pattern → ℕ → Record
record_of t r = record_at t.file.now t.records.now t.handlers.now t.lines.now r

-- the records from one on, up to but not with another
abbrev pub between : loaded.Pattern → ℕ → ℕ → Pattern
between t from to = records_between t.file.now t.records.now t.handlers.now t.lines.now from to

abbrev pub pattern_of : loaded.Pattern → Pattern
pattern_of t = pattern_at t.file.now t.records.now t.handlers.now t.lines.now t.n

-- that pattern passes
abbrev pub Examined : loaded.Pattern → Type 0
Examined t = Ready t.file.now t.records.now t.handlers.now t.lines.now t.n
