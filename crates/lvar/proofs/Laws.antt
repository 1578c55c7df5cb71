-- The laws of the walk, for LVAR: a record's entries, a visit, its children in turn.
-- Assumes nothing.
use Rattle.std.proofs.Common.{◌≡◌, ℕ, ◌+◌, ◌-◌, ◌<◌, ◌≤◌, Bool, true, false, cond, eqb, List, sym, refl, ap, arith}
use Rattle.format.specs.Bytes.{Answer, ok, refused}
use Rattle.rows.specs.declared.Row.TheVariants.{Name}
use Rattle.rows.specs.declared.Rows.{Rows}
use Rattle.rows.specs.Table.{Out, out, times}
use Rattle.rows.specs.Rows.{row_of}
use Rattle.rows.specs.Walk.{Run, go, stop, bind}
use Rattle.rows.proofs.Walk.{same_go, stop_go, walk_rec, walk_one, walk_began, walk_past, walk_child, walk_done}
use Rattle.lvar.specs.Names.{Tables, State, tables, nlocals_of, with_names, lv_step, lv_kids, never, lv_walk}

with_next : (st : State) (n : ℕ) (r : Answer Rows) (t : List ℕ) (st' : State) → with_names st n (out r t) ≡ go st' → st'.rec ≡ st.rec + 1
with_next st n (ok r) t st' e = ap (λ (x : State). x.rec) (sym (same_go _ st' e))
with_next st n (refused k) t st' e = absurd (stop_go k _ st' e)

module _ (f : List ℕ) (base strings : ℕ) where
  lv_next : (st st' : State) → lv_step f base strings st ≡ go st' → st'.rec ≡ st.rec + 1
  unfolding lv_step
  lv_next st st' e =
      by_zero (eqb (nlocals_of st.records st.rec) 0) (times (row_of f base (Name strings)) (nlocals_of st.records st.rec - 1) st.at st.used st.names) e
    where
      by_zero : (b : Bool) (o : Out)
          → cond b (stop 11 (tables st.records st.names)) (with_names st (nlocals_of st.records st.rec - 1) o) ≡ go st' → st'.rec ≡ st.rec + 1
      by_zero true o h = absurd (stop_go 11 (tables st.records st.names) st' h)
      by_zero false o h = with_next st (nlocals_of st.records st.rec - 1) o.ans o.tab st' h

  module _ (count : ℕ) where
    pub lv_past : (p : ℕ) (st : State) → count ≤ st.rec → lv_walk f base strings count p st ≡ go st
    lv_past p st h = walk_past (lv_step f base strings) lv_kids never (λ x. x.rec) lv_next count p st h

    pub lv_one : (st : State) (o : Run State Tables) → st.rec < count → o ≡ lv_step f base strings st
        → lv_walk f base strings count 1 st ≡ bind o (λ s. lv_walk f base strings count (lv_kids st) s)
    lv_one st o h e = walk_one (lv_step f base strings) lv_kids never (λ x. x.rec) lv_next count st o h refl e

    -- the record's own entries are read: what is left of the walk is the visits of its children
    pub lv_began : (st s : State) → st.rec < count → go s ≡ lv_step f base strings st
        → (s.rec ≡ st.rec + 1) × (lv_walk f base strings count 1 st ≡ lv_walk f base strings count (lv_kids st) s)
    lv_began st s h e = walk_began (lv_step f base strings) lv_kids never (λ x. x.rec) lv_next count st s h refl e

    pub lv_child : (n k : ℕ) (st : State) (o : Run State Tables) → k < n → o ≡ lv_walk f base strings count 1 st
        → lv_walk f base strings count (n - k) st ≡ bind o (λ st'. lv_walk f base strings count (n - (k + 1)) st')
    lv_child n k st o h e = walk_child (lv_step f base strings) lv_kids never (λ x. x.rec) lv_next count n k st o h e

    pub lv_done : (n k : ℕ) (st : State) → n ≤ k → lv_walk f base strings count (n - k) st ≡ go st
    lv_done n k st h = walk_done (lv_step f base strings) lv_kids never (λ x. x.rec) lv_next count (count - st.rec) n k st h

    pub lv_rec : (p : ℕ) (st st' : State) → go st' ≡ lv_walk f base strings count p st → st.rec ≤ st'.rec
    lv_rec p st st' e = (walk_rec (lv_step f base strings) lv_kids never (λ x. x.rec) lv_next count (count - st.rec) p st st' (sym e)).0

    pub lv_inside : (p : ℕ) (st st' : State) → st.rec ≤ count → go st' ≡ lv_walk f base strings count p st → st'.rec ≤ count
    lv_inside p st st' h e = omega (arith, (walk_rec (lv_step f base strings) lv_kids never (λ x. x.rec) lv_next count (count - st.rec) p st st' (sym e)).1)
