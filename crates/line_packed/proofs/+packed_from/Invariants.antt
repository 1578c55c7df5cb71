-- `line_packed::packed_from` meets its contract. The measure is the number of bytes that may still come.
-- Assumes nothing.
use Rattle.line_packed.proofs.+packed_from.Given as goal

abbrev pub decreases-packed_from : goal.decreases-packed_from
decreases-packed_from l = l.left
