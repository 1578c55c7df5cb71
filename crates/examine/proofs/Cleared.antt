-- An examination that clears the tables on a refusal, from the one that keeps what was loaded.
-- Assumes nothing.
use Prim.Native.Nat.{ℕ, ◌≤◌}
use native.Mathlib.Omega.{arith}
use mathlib.Core.Path.{◌≡◌, refl, ap, ◌∙◌}
use mathlib.Core.Bool.{Bool, true, false}
use mathlib.Core.List.{List}
use lib.Dec.{eqb, leb→le}
use lib.ListN.{length}
use borrow.Author.Tests.{le-leb}
use Rattle.format.specs.Bytes.{Answer, ok, refused, bind}
use Rattle.format.specs.Allowance.{Allowance}
use Rattle.format.specs.File.{Content, nothing}
use Rattle.format.specs.Load as format
use Rattle.format.specs.Load.{Nine, records_of, tables_of, Counts, fits, Words, words_of, loading, laid, load}
use Rattle.format.specs.Pattern.{pattern_of}
use Rattle.format.specs.Exam.{passing, examining, examining_single, examine, examine_one}
use Rattle.format.proofs.Table.{both}
use Rattle.format.proofs.Places.{records_length}
use Rattle.layout.proofs.Inside.{loading_reading}
use Rattle.std.specs.Prelude.{Result, Ok, Err}
use Rattle.refusal.specs.declared.Refusal.{Refusal}
use Rattle.sections.specs.declared.Used.{Used}
use Rattle.rite.specs.Answers.{loaded_of}
use Rattle.examine_asked.specs.declared.Asked.{Asked}
use Rattle.examine_asked.specs.declared.Asked.TheVariants as asked
use Rattle.examine_asked.specs.Asked.{examine_asked}
use Rattle.examine_kept.specs.Kept.{asked_in, Examined, examine_kept, kept_of}
use Rattle.examine_kept.specs.declared.Failure.{Failure}
use Rattle.examine_kept.specs.declared.Failure.TheVariants.{Load, Examination}
use Rattle.examine_kept.proofs.Keeping.{answering_is}

-- what is answered where the tables are cleared once a condition is met
abbrev clearing : Nine → Answer (Answer Counts) → Words → format.Loaded
clearing m (ok (ok k)) t = record { answer = ok k; tables = t }
clearing m (ok (refused n)) t = record { answer = refused n; tables = words_of m (tables_of nothing) }
clearing m (refused n) t = record { answer = refused n; tables = t }

module _ (x : Asked) (f : List ℕ) (m : Nine) (allow : Allowance) (q : List ℕ) where
  abbrev cleared : Examined → format.Loaded
  cleared e = clearing m e.answer e.tables

  cleared_is : cleared (examine_kept x f m allow q) ≡ laid m (asked_in x f m allow q)
  unfolding load examine_kept
  cleared_is = go (loading f m allow) refl
    where
      go : (a : Answer Content) → loading f m allow ≡ a → cleared (examine_kept x f m allow q) ≡ laid m (asked_in x f m allow q)
      go (refused k) l = rw l
      go (ok c) l = at (eqb (examine_asked x q (pattern_of f c)) 0) refl
        where
          at : (b : Bool) → eqb (examine_asked x q (pattern_of f c)) 0 ≡ b → cleared (examine_kept x f m allow q) ≡ laid m (asked_in x f m allow q)
          at true e = rw (l, answering_is x q f c, e)
          at false e = rw (l, answering_is x q f c, e)

  module _ (w : Words) where
    told : (s : Result Used Failure) → kept_of s w ≡ examine_kept x f m allow q → cleared (kept_of s w) ≡ laid m (asked_in x f m allow q)
    told s e = ap cleared e ∙ cleared_is

    -- nothing is met: the rows stay
    pub went : (u : Used) → kept_of (Ok u) w ≡ examine_kept x f m allow q → loaded_of (Ok u) w ≡ laid m (asked_in x f m allow q)
    went u e = told (Ok u) e

    -- a condition is met: the tables are cleared
    pub met_cleared : (r : Refusal) → kept_of (Err (Examination r)) w ≡ examine_kept x f m allow q → (w' : Words) → w' ≡ words_of m (tables_of nothing)
        → loaded_of (Err r) w' ≡ laid m (asked_in x f m allow q)
    met_cleared r e w' z = ap (loaded_of (Err r)) z ∙ told (Err (Examination r)) e

    -- the load is refused: the tables are zeros already
    pub stopped : (r : Refusal) → kept_of (Err (Load r)) w ≡ examine_kept x f m allow q → loaded_of (Err r) w ≡ laid m (asked_in x f m allow q)
    stopped r e = told (Err (Load r)) e

module _ (f : List ℕ) (m : Nine) (allow : Allowance) (q : List ℕ) where
  -- at most 1,024 records are loaded, so a bound of 1,024 is none
  whole_is : asked_in (asked.Whole 1024) f m allow q ≡ examining f m allow q
  unfolding examining fits
  whole_is = go (loading f m allow) refl
    where
      go : (a : Answer Content) → loading f m allow ≡ a → asked_in (asked.Whole 1024) f m allow q ≡ bind (loading f m allow) (passing q f)
      go (ok c) l =
          let t = (loading_reading f m allow c l).2 in
          let limit = leb→le (length (tables_of c).records) 1024 (search both depth 12) in
          let few : length (records_of c) ≤ 1024 = omega (arith, limit, records_length c) in
          rw (l, le-leb (length (records_of c)) 1024 few)
      go (refused n) l = rw l

  pub as_whole : (r : Result Used Refusal) (w : Words) → loaded_of r w ≡ laid m (asked_in (asked.Whole 1024) f m allow q) → loaded_of r w ≡ examine f m allow q
  unfolding examine
  as_whole r w e = e ∙ ap (laid m) whole_is

  -- a single record is what its call examines
  single_is : (i : ℕ) → asked_in (asked.Single i) f m allow q ≡ examining_single f m allow q i
  unfolding examining_single
  single_is i = refl

  pub as_single : (i : ℕ) (r : Result Used Refusal) (w : Words) → loaded_of r w ≡ laid m (asked_in (asked.Single i) f m allow q) → loaded_of r w ≡ examine_one f m allow q i
  unfolding examine_one
  as_single i r w e = e ∙ ap (laid m) (single_is i)
