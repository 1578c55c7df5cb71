-- The walk over the records, for LVAR and DBG alike. Paper 01, 'Loading': "the walk from record 0"; a visited record is read, "then its
-- rlen children are visited in turn; a visit past the last record reads nothing". Paper 02, m): how many visits it makes.
-- Assumes nothing.
use Rattle.std.specs.Prelude.{ℕ, zero, suc, ◌+◌, Bool, cond, List, [], ◌∷◌, map}
use Rattle.format.specs.Bytes.{ok}
use Rattle.format.specs.Reading.{Read, reading, Part, add, and_then}
use Rattle.format.specs.Irep.{Rec}

-- how many children each record has
abbrev pub rlens : List Rec → List ℕ
rlens rs = map (λ (r : Rec). r.head.rlen) rs

-- The records left are rs, and `pending` visits are still to be made: a record's children come before the visits that were pending. Where
-- what is read is spent, a visit reads nothing. A record's rows are a list of their own, so the first list is record 0's, and so on.
unfoldable pub walk : {R : Type 0} → (Rec → ℕ → Part (List R)) → (ℕ → Bool) → List Rec → ℕ → ℕ → Read (List R)
walk visit spent [] pending at = reading [] (ok at)
walk visit spent (r ∷ rs) zero at = reading [] (ok at)
walk visit spent (r ∷ rs) (suc pending) at =
    cond (spent at) (reading [] (ok at))
    (let v = visit r at in add v.it (and_then v.end (walk visit spent rs (r.head.rlen + pending))))

-- Paper 02, m): "the number of visits that the .. walk made, those past the last record included". The records left are rs, and `pending` visits
-- are still to be made, as in `walk`: where no record is left, each of them is made and reads nothing.
unfoldable pub visits : List Rec → ℕ → ℕ
visits [] pending = pending
visits (r ∷ rs) zero = 0
visits (r ∷ rs) (suc pending) = suc (visits rs (r.head.rlen + pending))
