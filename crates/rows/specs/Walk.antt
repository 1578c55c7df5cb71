-- The walk over the records in pre-order, for LVAR and DBG alike, over any state. A step reads the record that the state is at, and `kids` is
-- the number of that record's children.
-- Assumes nothing.
use Rattle.std.specs.Prelude.{ℕ, zero, suc, ◌+◌, Bool, cond, leb}

-- a reader goes on with a state, or stops by a refusal's number with what the tables hold then
pub data Run (S T : Type 0) : Type 0 where
  go : S → Run S T
  stop : ℕ → T → Run S T

-- one reader after another
abbrev pub bind : {S T U : Type 0} → Run S T → (S → Run U T) → Run U T
bind (go s) k = k s
bind (stop c t) k = stop c t

-- `left` records are left and `pending` visits are to be made. With no record left a visit reads nothing, nor where what is read is spent.
-- The children of a record are visited before the visits that were pending.
unfoldable pub walk : {S T : Type 0} (step : S → Run S T) (kids : S → ℕ) (spent : S → Bool) → ℕ → ℕ → S → Run S T
walk step kids spent zero pending s = go s
walk step kids spent (suc left) zero s = go s
walk step kids spent (suc left) (suc pending) s =
    cond (spent s) (go s) (bind (step s) (walk step kids spent left (kids s + pending)))

-- f so many times in turn
unfoldable pub repeat : {S T : Type 0} (f : S → Run S T) → ℕ → S → Run S T
repeat f zero s = go s
repeat f (suc k) s = bind (f s) (repeat f k)

-- A visit as it calls itself: past the last record, or where what is read is spent, it reads nothing; else it takes the step and visits the
-- children in turn. The first number bounds how deep the calls go; more than the number of the records left is enough.
unfoldable pub visit : {S T : Type 0} (step : S → Run S T) (kids : S → ℕ) (spent : S → Bool) (rec : S → ℕ) (count : ℕ) → ℕ → S → Run S T
visit step kids spent rec count zero s = go s
visit step kids spent rec count (suc deep) s =
    cond (leb count (rec s)) (go s) (cond (spent s) (go s) (bind (step s) (repeat (visit step kids spent rec count deep) (kids s))))
