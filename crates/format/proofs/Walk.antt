-- How many visits a walk makes: by the rlens of the records that it visits, at most, against the number of records, and in a whole tree.
-- Assumes nothing.
use Prim.Native.Nat.{ℕ, zero, suc, ◌+◌, ◌≤◌, suc-le-suc}
use native.Mathlib.Nat.{le_of_suc-le-suc}
use native.Mathlib.Omega.{arith}
use mathlib.Core.Path.{◌≡◌, refl, ap}
use mathlib.Core.Bool.{false}
use mathlib.Core.Logic.{◌↔◌}
use mathlib.Core.List.{List, [], ◌∷◌}
use lib.Dec.{T}
use lib.ListN.{length, take}
use Rattle.format.specs.Bytes.{Answer, ok, refused}
use Rattle.format.specs.Reading.{Read, Part, and_then}
use Rattle.format.specs.Irep.{Rec}
use Rattle.format.specs.Walk.{rlens, walk, visits}
use Rattle.format.specs.Tree.{total, layout, span}
use Rattle.format.proofs.Answers.{ok_refused}

-- a record's children before the visits that were pending, or behind them
children_first : (r : Rec) (p : ℕ) → r.head.rlen + p ≡ p + r.head.rlen
children_first r p = omega arith

-- the visits pending, and "the rlens of the records visited": those of the first p trees
pub visits_sum : (rs : List Rec) (p : ℕ) → visits rs p ≡ p + total (take (span p (rlens rs)) (rlens rs))
unfolding visits span total
visits_sum [] zero = refl
visits_sum [] (suc p) = omega arith
visits_sum (r ∷ rs) zero = refl
visits_sum (r ∷ rs) (suc p) = rw (children_first r p) (omega (arith, visits_sum rs (p + r.head.rlen)))

-- never more than the rlens of all records
pub visits_most : (rs : List Rec) (p : ℕ) → visits rs p ≤ p + total (rlens rs)
unfolding visits total
visits_most [] p = omega arith
visits_most (r ∷ rs) zero = omega arith
visits_most (r ∷ rs) (suc p) = omega (arith, visits_most rs (r.head.rlen + p))

-- no more records than there are
pub span_most : (rs : List Rec) (p : ℕ) → span p (rlens rs) ≤ length rs
unfolding span
span_most [] zero = omega arith
span_most [] (suc p) = omega arith
span_most (r ∷ rs) zero = omega arith
span_most (r ∷ rs) (suc p) = suc-le-suc (span_most rs (p + r.head.rlen))

-- as many visits as records, or fewer: so many records are visited, and no visit is past the last
pub visits_inside : (rs : List Rec) (p : ℕ) → visits rs p ≤ length rs → span p (rlens rs) ≡ visits rs p
unfolding visits span
visits_inside [] zero h = refl
visits_inside [] (suc p) h = absurd (omega arith)
visits_inside (r ∷ rs) zero h = refl
visits_inside (r ∷ rs) (suc p) h = rw (children_first r p) (ap suc (visits_inside rs (p + r.head.rlen) (le_of_suc-le-suc (rw (children_first r p) at h))))

-- as many, or more: every record is visited, and the other visits are past the last
pub visits_beyond : (rs : List Rec) (p : ℕ) → length rs ≤ visits rs p → span p (rlens rs) ≡ length rs
unfolding visits span
visits_beyond [] zero h = refl
visits_beyond [] (suc p) h = refl
visits_beyond (r ∷ rs) zero h = absurd (omega arith)
visits_beyond (r ∷ rs) (suc p) h = ap suc (visits_beyond rs (p + r.head.rlen) (le_of_suc-le-suc (rw (children_first r p) at h)))

-- "the number of records where the tree is whole", and only there
pub visits_whole : (rs : List Rec) (p : ℕ) → (visits rs p ≡ length rs) ↔ T (layout p (rlens rs))
unfolding visits layout
visits_whole rs p = (there rs p, back rs p)
  where
    there : (rs : List Rec) (p : ℕ) → visits rs p ≡ length rs → T (layout p (rlens rs))
    there [] zero e = tt
    there [] (suc p) e = absurd (omega arith)
    there (r ∷ rs) zero e = absurd (omega arith)
    there (r ∷ rs) (suc p) e = there rs (p + r.head.rlen) (omega (arith, rw (children_first r p) at e))

    back : (rs : List Rec) (p : ℕ) → T (layout p (rlens rs)) → visits rs p ≡ length rs
    back [] zero t = refl
    back [] (suc p) t = absurd t
    back (r ∷ rs) zero t = absurd t
    back (r ∷ rs) (suc p) t = rw (children_first r p) (ap suc (back rs (p + r.head.rlen) t))

-- a walk that nothing refuses and nothing spends reads a list of rows for each record of the first p trees
pub walk_span : {R : Type 0} (visit : Rec → ℕ → Part (List R)) (rs : List Rec) (p at to : ℕ) → (walk visit (λ _. false) rs p at).end ≡ ok to
    → length (walk visit (λ _. false) rs p at).rows ≡ span p (rlens rs)
unfolding walk span
walk_span visit [] zero at to e = refl
walk_span visit [] (suc p) at to e = refl
walk_span visit (r ∷ rs) zero at to e = refl
walk_span {R = R} visit (r ∷ rs) (suc p) at to e = go (visit r at).end (walk_span visit rs (r.head.rlen + p)) e
  where
    more : ℕ → Read (List R)
    more = walk visit (λ _. false) rs (r.head.rlen + p)

    go : (a : Answer ℕ) → ((at to : ℕ) → (more at).end ≡ ok to → length (more at).rows ≡ span (r.head.rlen + p) (rlens rs)) → (and_then a more).end ≡ ok to
        → suc (length (and_then a more).rows) ≡ suc (span (p + r.head.rlen) (rlens rs))
    go (ok b) ih e = rw (← children_first r p) (ap suc (ih b to e))
    go (refused n) ih e = absurd (ok_refused e)

-- so it makes the visits that were pending and one for each child of a record that it reads
pub walk_visits : {R : Type 0} (visit : Rec → ℕ → Part (List R)) (rs : List Rec) (p at to : ℕ) → (walk visit (λ _. false) rs p at).end ≡ ok to
    → visits rs p ≡ p + total (take (length (walk visit (λ _. false) rs p at).rows) (rlens rs))
walk_visits visit rs p at to e = rw (walk_span visit rs p at to e) (visits_sum rs p)
