-- Laws of the transformers, which the readers' proofs cite.
-- Assumes nothing.
use Prim.Native.Nat.{ℕ, zero, suc, ◌+◌, ◌-◌, ◌*◌, ◌<◌, ◌≤◌}
use native.Mathlib.Omega.{arith}
use mathlib.Core.Path.{◌≡◌, refl, sym, ap}
use mathlib.Core.Bool.{Bool, true, false, ◌||◌, cond}
use mathlib.Core.List.{List}
use mathlib.Core.Option.{none}
use lib.Dec.{leb, eqb}
use lib.ListN.{length}
use borrow.Author.Tests.{leb-true, leb-false}
use Rattle.format.specs.Bytes.{has, u16_at, u32_at}
use Rattle.format.specs.Rows.{record_width}
use Rattle.rows.specs.Walk.{Run, go, stop}
use Rattle.rows.specs.Walk as generic
use Rattle.rows.proofs.Walk.{same_go, stop_go, spent_walk, walk_past, walk_one, walk_began, walk_child, walk_done, walk_rec}
use Rattle.linemap.specs.Lines.{on_run}
use Rattle.linemap.proofs.Laws.{nothing}
use Rattle.debug.specs.Records.{Tabs, Spot, spot, Held, held, State, state, Filed, filed, file_of, files_of, put_ranges, step_of, kids_of, used_up, reads_nothing, walk_of}

-- the files of a record: what the next file answers
module _ (s : List ℕ) (names : ℕ) where
  pub files_go : (n : ℕ) (f g : Filed) → 0 < n → go g ≡ file_of s names f → files_of s names (n - 1) g ≡ files_of s names n f
  unfolding files_of
  files_go zero f g p h = elim (nothing p) [ ]
  files_go (suc n) f g p h = let k : suc n - 1 ≡ n = omega arith in rw (k, ← h)

  pub files_no : (n : ℕ) (f : Filed) (k : ℕ) (t : Tabs) → 0 < n → stop k t ≡ file_of s names f → stop k t ≡ files_of s names n f
  unfolding files_of
  files_no zero f k t p h = elim (nothing p) [ ]
  files_no (suc n) f k t p h = rw (← h)

-- a step takes the next record
pub step_next : (s : List ℕ) (names : ℕ) (st st' : State) → step_of s names st ≡ go st' → st'.rec ≡ st.rec + 1
unfolding step_of
step_next s names st st' e =
    by_files (has s st.spot.at 6) (files_of s names (u16_at s (st.spot.at + 4)) (filed none (spot (st.spot.at + 6) st.spot.used st.spot.tabs))) e
  where
    by_size : (q : Bool) (rs : List ℕ) (sp : Spot) (h : Held) → cond q (go (state (st.rec + 1) rs sp)) (stop 12 h) ≡ go st' → st'.rec ≡ st.rec + 1
    by_size true rs sp h e = ap (λ (x : State). x.rec) (sym (same_go _ st' e))
    by_size false rs sp h e = absurd (stop_go 12 h st' e)

    by_files : (p : Bool) (o : Run Spot Tabs)
        → cond p
        (on_run o
        (λ sp.
        cond (eqb (sp.at - st.spot.at) (u32_at s st.spot.at))
        (go (state (st.rec + 1) (put_ranges st.records (st.rec * record_width) st.spot.used sp.used) sp))
        (stop 12 (held st.records sp.tabs)))
        (λ k t. stop k (held st.records t)))
        (stop 7 (held st.records st.spot.tabs))
        ≡ go st' → st'.rec ≡ st.rec + 1
    by_files false o e = absurd (stop_go 7 _ st' e)
    by_files true (stop k t) e = absurd (stop_go k _ st' e)
    by_files true (go sp) e = by_size (eqb (sp.at - st.spot.at) (u32_at s st.spot.at)) _ sp _ e

-- the walk's laws, of DBG
module _ (s : List ℕ) (names count : ℕ) where
  -- where a visit reads something, there is a record, and the section is not used up
  pub in_records : (at rec : ℕ) → reads_nothing s at count rec ≡ false → rec < count
  in_records at rec h = by_test (leb count rec) refl h
    where
      by_test : (q : Bool) → leb count rec ≡ q → (q || leb (length s) at) ≡ false → rec < count
      by_test true e z = absurd (let w : ◌≡◌ {A = ℕ} 0 1 = cc in omega arith)
      by_test false e z = leb-false count rec e

  pub in_section : (at rec : ℕ) → reads_nothing s at count rec ≡ false → leb (length s) at ≡ false
  in_section at rec h = by_test (leb count rec) h
    where
      by_test : (q : Bool) → (q || leb (length s) at) ≡ false → leb (length s) at ≡ false
      by_test true z = absurd (let w : ◌≡◌ {A = ℕ} 0 1 = cc in omega arith)
      by_test false z = z

  pub visit_none : (p : ℕ) (st : State) → reads_nothing s st.spot.at count st.rec ≡ true → walk_of s names count p st ≡ go st
  visit_none p st h = by_test (leb count st.rec) refl h
    where
      by_test : (q : Bool) → leb count st.rec ≡ q → (q || leb (length s) st.spot.at) ≡ true → walk_of s names count p st ≡ go st
      by_test true e z = walk_past (step_of s names) kids_of (used_up s) (λ x. x.rec) (step_next s names) count p st (leb-true count st.rec e)
      by_test false e z = spent_walk (step_of s names) kids_of (used_up s) (λ x. x.rec) (step_next s names) count (count - st.rec) p st z

  pub visit_one : (st : State) (o : Run State Held) → reads_nothing s st.spot.at count st.rec ≡ false → o ≡ step_of s names st
      → walk_of s names count 1 st ≡ generic.bind o (λ st'. walk_of s names count (kids_of st) st')
  visit_one st o h e =
      walk_one (step_of s names) kids_of (used_up s) (λ x. x.rec) (step_next s names) count st o (in_records st.spot.at st.rec h) (in_section st.spot.at st.rec h) e

  -- the record's own files are read: what is left of the walk is the visits of its children
  pub visit_began : (st st' : State) → reads_nothing s st.spot.at count st.rec ≡ false → go st' ≡ step_of s names st
      → (st'.rec ≡ st.rec + 1) × (walk_of s names count 1 st ≡ walk_of s names count (kids_of st) st')
  visit_began st st' h e =
      walk_began (step_of s names) kids_of (used_up s) (λ x. x.rec) (step_next s names) count st st' (in_records st.spot.at st.rec h) (in_section st.spot.at st.rec h) e

  pub visit_child : (n k : ℕ) (st : State) (o : Run State Held) → k < n → o ≡ walk_of s names count 1 st
      → walk_of s names count (n - k) st ≡ generic.bind o (λ st'. walk_of s names count (n - (k + 1)) st')
  visit_child n k st o h e = walk_child (step_of s names) kids_of (used_up s) (λ x. x.rec) (step_next s names) count n k st o h e

  pub visit_done : (n k : ℕ) (st : State) → n ≤ k → walk_of s names count (n - k) st ≡ go st
  visit_done n k st h = walk_done (step_of s names) kids_of (used_up s) (λ x. x.rec) (step_next s names) count (count - st.rec) n k st h

  pub visit_rec : (p : ℕ) (st st' : State) → go st' ≡ walk_of s names count p st → st.rec ≤ st'.rec
  visit_rec p st st' e = (walk_rec (step_of s names) kids_of (used_up s) (λ x. x.rec) (step_next s names) count (count - st.rec) p st st' (sym e)).0
