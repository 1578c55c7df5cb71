-- `lvar::visits` meets its contract.
-- Assumes nothing.
use Rattle.std.proofs.Common.{◌≡◌, ◌+◌}
use Rattle.lvar.specs.Names.{visits_over, in_word}
use Rattle.lvar.proofs.Sums.{left}
use Rattle.lvar.proofs.visits.Given as goal

-- the visits counted so far, with those to the children of the records left
abbrev pub invariant-loop-i : goal.invariant-loop-i
invariant-loop-i l = in_word (l.sum + left l.records l.n l.i) ≡ in_word (visits_over l.records l.n)
