-- A record of which only what a move sees is given: its instruction bytes and its handlers' targets.
-- Assumes nothing.
use Rattle.std.specs.Prelude.{ℕ, List, []}
use Rattle.format.specs.Lookup.{record_word}
use Rattle.format.specs.Pattern.{Record}
use Rattle.exam.specs.View.{code_at, targets}

abbrev pub part : List ℕ → List ℕ → Record
part c ts = record { nregs = 0; rlen = 0; npool = 0; nsyms = 0; code = c; handlers = ts; lines = [] }

-- of record row r
abbrev pub part_at : List ℕ → List ℕ → List ℕ → ℕ → Record
part_at f recs hs r = part (code_at f recs r) (targets hs (record_word recs r 7) (record_word recs r 8))
