-- Paper 02, m): how far the name walk goes. What the load of a file says of the visits that its LVAR walk made.
-- Assumes nothing.
use Prim.Native.Nat.{ℕ, suc, ◌≤◌, ◌<◌}
use native.Mathlib.Omega.{arith}
use mathlib.Core.Path.{◌≡◌, sym, subst, ◌∙◌}
use mathlib.Core.Logic.{◌↔◌}
use mathlib.Core.List.{List}
use mathlib.Core.Option.{Option, none, some}
use lib.ListN.{length, get_or, take, drop}
use Rattle.format.specs.Bytes.{ok, u32_at}
use Rattle.format.specs.Irep.{Rec}
use Rattle.format.specs.Walk.{rlens, visits}
use Rattle.format.specs.Lvar.{Lvar, record_names}
use Rattle.format.specs.Allowance.{Allowance, granted}
use Rattle.format.specs.File.{Content, content}
use Rattle.format.specs.Load.{Nine, records_of, names_of, files_of, tables_of, used, visits_of, loading, load}
use Rattle.format.specs.Tree.{total, Whole, span}
use Rattle.format.specs.Pattern.{pattern_of}
use Rattle.format.specs.Pattern as pattern
use Rattle.format.specs.Exam.{Passes}
use Rattle.format.proofs.Places.{records_length}
use Rattle.format.proofs.Walk.{visits_sum, visits_inside, visits_beyond, visits_whole, walk_span}
use Rattle.bounds.proofs.Bounds.{visits_few}
use Rattle.layout.proofs.Inside.{loading_reading, loading_held}
use Rattle.runs.proofs.Tree.{whole_iff}
use Rattle.runs.proofs.Exact.{good_file}
use Rattle.runs.proofs.Refusal.{passes_iff}
use Rattle.laws.proofs.Walk.{LvarOf, reading_lvar, lvar_walked}
use Rattle.laws.proofs.Demand3.{pattern_rlens}

-- LVAR has a list of names for each record of the first tree: those that its walk visits
names_visited : (f : List ℕ) (l : Lvar) (r : Option (List Rec)) (o : Option Lvar) → LvarOf f r o → o ≡ some l
    → length (names_of (content r o none)) ≡ span 1 (rlens (records_of (content r o none)))
names_visited f l r none x q = let z : ◌≡◌ {A = ℕ} 0 1 = cc in absurd (omega arith)
names_visited f l none (some _) x q = absurd x
names_visited f l (some rs) (some _) x q =
    let g = drop x.at f in
    let w = lvar_walked g x.at rs x.size x.ends in
    rw (← x.it, w.names) (walk_span (record_names g (u32_at g 8)) rs 1 w.at w.end w.ends)

module _ (f : List ℕ) (m : Nine) (a : Allowance) (c : Content) (loads : loading f m a ≡ ok c) where
  -- "The load result carries the number of visits that the LVAR walk made"
  pub carried : (load f m a).answer ≡ ok (record { rows = used (tables_of c); visits = visits_of c })
  unfolding load
  carried = rw loads

  -- "Without an LVAR section it is 0"
  pub without_lvar : c.lvar ≡ none → visits_of c ≡ 0
  without_lvar e = rw e

  -- at most 1 + 1,024 * 65,535 of them, whatever the bytes: 32 bits hold it
  pub at_most : ((i : ℕ) → get_or f i 0 < 256) → visits_of c ≤ 67107841
  at_most bytes =
      let x = loading_reading f m a c loads in
      let n = records_length c in
      let few : length (records_of c) ≤ 1024 = omega (arith, n, (loading_held f m a c loads).few) in
      let all : length (records_of c) ≤ 1024 → visits_of c ≤ 67107841 =
      subst (λ (d : Content). length (records_of d) ≤ 1024 → visits_of d ≤ 67107841) x.0 (visits_few f bytes (granted a)) in
      all few

  -- with an LVAR section l: its names are lists, one for each record visited
  module _ (l : Lvar) (there : c.lvar ≡ some l) where
    visits_are : visits_of c ≡ visits (records_of c) 1
    visits_are = rw there

    pub visited : length l.names ≡ span 1 (rlens (records_of c))
    visited =
        let x = loading_reading f m a c loads in
        let is : LvarOf f c.irep c.lvar = subst (λ (d : Content). LvarOf f d.irep d.lvar) x.0 (reading_lvar f (granted a) x.1.0 x.1.1) in
        rw there at (names_visited f l c.irep c.lvar is there)

    -- "else 1 plus the rlens of the records visited"
    pub one_plus_rlens : visits_of c ≡ suc (total (take (length l.names) (rlens (records_of c))))
    one_plus_rlens = rw (visits_are, visited) (omega (arith, visits_sum (records_of c) 1))

    -- "which is the number of records where the tree is whole", and only there
    pub whole_tree : (visits_of c ≡ length (records_of c)) ↔ Whole (rlens (records_of c))
    whole_tree =
        let t = visits_whole (records_of c) 1 in
        let w = whole_iff (rlens (records_of c)) in
        (λ e. w.0 (t.0 (sym visits_are ∙ e)), λ x. visits_are ∙ t.1 (w.1 x))

    -- no more visits than records: so many records are visited, and the others never reached
    pub not_reached : visits_of c ≤ length (records_of c) → length l.names ≡ visits_of c
    not_reached h = rw (visited, visits_are) (visits_inside (records_of c) 1 (rw visits_are at h))

    -- no fewer: every record is visited, and the other visits are past the last record
    pub past_the_last : length (records_of c) ≤ visits_of c → length l.names ≡ length (records_of c)
    past_the_last h = rw visited (visits_beyond (records_of c) 1 (rw visits_are at h))

    -- so a file that passes makes one visit to each record
    pub passing_visits : (q : List ℕ) → Passes q (pattern_of f c) → visits_of c ≡ length (records_of c)
    passing_visits q p =
        let tree = (whole_iff (pattern.rlens (pattern_of f c))).0 (good_file q (pattern_of f c) ((passes_iff q (pattern_of f c)).1 p)).tree in
        whole_tree.1 (rw (pattern_rlens f (records_of c) (files_of c)) at tree)
