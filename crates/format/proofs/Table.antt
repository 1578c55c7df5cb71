-- A rule of every opcode byte is one test that is computed over the table of opcodes.
-- Assumes nothing.
use Prim.Native.Nat.{ℕ, zero, suc}
use mathlib.Core.Path.{◌≡◌}
use mathlib.Core.Bool.{Bool, true, ◌&&◌}
use mathlib.Core.List.{List, [], ◌∷◌}
use lib.Dec.{T, eqb, eqb→eq}
use lib.Ieee.Fits.{and_l, and_r}
use lib.ListN.{length, get_or}
use Rattle.format.specs.Insn.{NOP, Z, on, Row, op, fields, kind, roles, table, row}

-- `search both` takes a passed `&&` apart
pub ruleset both = (and_l, and_r)

abbrev pub every : (Row → Bool) → List Row → Bool
every f [] = true
every f (r ∷ rs) = f r && every f rs

every_at : (f : Row → Bool) (l : List Row) (d : Row) → T (every f l) → T (f d) → (i : ℕ) → T (f (get_or l i d))
every_at f [] d t z i = z
every_at f (r ∷ l) d t z zero = search both
every_at f (r ∷ l) d t z (suc i) = every_at f l d (search both) z i

-- a test that passes at each row, and at that of a byte above 118, passes at every byte
pub by_test : (f : Row → Bool) → T (every f table && f (op NOP Z [] on)) → (b : ℕ) → T (f (row b))
unfolding row
by_test f t b = every_at f table (op NOP Z [] on) (search both) (search both) b

-- as many roles as the kind has operands
arities : Row → Bool
arities r = eqb (length (roles r)) (length (fields (kind r)))

pub roles_length : (b : ℕ) → length (roles (row b)) ≡ length (fields (kind (row b)))
unfolding arities table row
roles_length b = eqb→eq _ _ (by_test arities tt b)
