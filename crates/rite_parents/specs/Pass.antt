-- The pass over the record rows as steps over the table and a stack of open records: each of them with how many of its children are still to be
-- visited.
-- Assumes nothing.
use Rattle.std.specs.Prelude.{ℕ, zero, suc, ◌+◌, ◌-◌, Bool, cond, ◌||◌, List, eqb, ltb, get_or, set}
use Rattle.format.specs.Tree.{no_parent}
use Rattle.rite_parents.specs.declared.Open.{Open}
use Rattle.rite_parents.specs.Nodes.{rlen_in, node, node_in}

abbrev pub opened : ℕ → ℕ → Open
opened rec left = record { rec = rec; left = left }

-- the open record at a place of the stack
abbrev pub open_at : List Open → ℕ → Open
open_at o k = get_or o k (opened 0 0)

-- how many records stay open when those on top that have no child left are closed
unfoldable pub pop_to : List Open → ℕ → ℕ
pop_to o zero = zero
pop_to o (suc k) = cond (eqb (open_at o k).left 0) (pop_to o k) (suc k)

-- a visit: the parent of the record visited, and the open records with the children that are left then
pub record Visit : Type 0 where
  pub parent : ℕ
  pub stack : List Open

abbrev pub visit : ℕ → List Open → Visit
visit p o = record { parent = p; stack = o }

-- the visit of a child of the record on top; where none is open, there is no parent
abbrev pub visit_of : List Open → ℕ → Visit
visit_of o top =
    let x = open_at o (top - 1) in
    cond (eqb top 0) (visit no_parent o) (visit x.rec (set o (top - 1) (opened x.rec (x.left - 1))))

-- record 0 is reached, and each child of an open record
abbrev pub reaches : ℕ → ℕ → Bool
reaches i top = eqb i 0 || ltb 0 top

-- the table, the open records, and how many are open
pub record State : Type 0 where
  pub table : List ℕ
  pub stack : List Open
  pub height : ℕ

abbrev pub state : List ℕ → List Open → ℕ → State
state t o n = record { table = t; stack = o; height = n }

-- record i's depth is how many are open when it is visited; where it is reached, it is open then
unfoldable pub step_of : ℕ → State → State
step_of i s =
    let top = pop_to s.stack s.height in
    let v = visit_of s.stack top in
    let t = node_in s.table i (node top v.parent) in
    cond (reaches i top) (state t (set v.stack top (opened i (rlen_in s.table i))) (top + 1)) (state t v.stack 0)

-- n records from i on
unfoldable pub steps : ℕ → ℕ → State → State
steps zero i s = s
steps (suc n) i s = steps n (i + 1) (step_of i s)
