-- What an examination that answers 0 gives of each record.
-- Assumes nothing.
use Prim.Native.Nat.{ℕ, zero, suc, ◌<◌}
use native.Mathlib.Nat.{le_of_suc-le-suc, zero-add}
use native.Mathlib.Omega.{arith}
use mathlib.Core.Path.{◌≡◌, refl}
use mathlib.Core.Bool.{Bool, true, false, not, cond}
use mathlib.Core.List.{List, [], ◌∷◌}
use lib.Dec.{T, ltb, ltb→lt}
use lib.ListN.{length, get_or}
use Rattle.format.specs.Line.{rising}
use Rattle.format.specs.Tree.{whole}
use Rattle.format.specs.Pattern.{Record, Pattern, ilen, clen, rec_at, blank, begins, rlens}
use Rattle.format.specs.Bytes.{refuse}
use Rattle.format.specs.Permitted.{permitted_at}
use Rattle.format.specs.Exam.{stray, readable, bounded, follows, first_at, at16, at32, at1718, exam16, exam32, exam1718, exam19, exam20}
use Rattle.format.specs.Exam.{examine_record, examine_all, examine_pattern}
use Rattle.format.proofs.Answers.{first_zero, refuse_zero}
use Rattle.runs.proofs.Tests.{first_at_zero, first_of_zero}

pub record Good (r : Record) : Type 0 where
  pub filled : 0 < ilen r
  pub paired : (o : ℕ) → T (begins r.code o) → T (not (stray r.code o))
  pub reads : (o : ℕ) → T (begins r.code o) → T (readable r.code o)
  pub fit : (o : ℕ) → T (begins r.code o) → T (bounded r o)
  pub go : (o : ℕ) → T (begins r.code o) → T (follows r.code o)
  pub caught : (h : ℕ) → h < clen r → T (begins r.code (get_or r.handlers h 0))
  pub rise : T (rising r.lines)

-- at an instruction a test that answers 0 from the record's start on answers 0
each : (f : ℕ → ℕ) (c : List ℕ) → first_at f c 0 0 ≡ 0 → (o : ℕ) → T (begins c o) → f o ≡ 0
each f c e o t = rw zero-add at (first_at_zero f c 0 0 e o t)

-- neither 16 nor 25 at an instruction
pub none_met : (s b : Bool) → cond s 25 (refuse 16 b) ≡ 0 → T (not s) × T b
none_met true b e = absurd (omega arith)
none_met false b e = (tt, refuse_zero 15 b e)

pub met_none : (s b : Bool) → T (not s) → T b → cond s 25 (refuse 16 b) ≡ 0
met_none true b t u = absurd t
met_none false true t u = refl
met_none false false t u = absurd u

pub filled_16 : (c : List ℕ) → exam16 c ≡ 0 → 0 < length c
unfolding exam16
filled_16 c e = ltb→lt 0 (length c) (refuse_zero 15 (ltb 0 (length c)) (first_zero (refuse 16 (ltb 0 (length c))) _ e).0)

pub each_16 : (c : List ℕ) → exam16 c ≡ 0 → (o : ℕ) → T (begins c o) → T (not (stray c o)) × T (readable c o)
unfolding exam16
each_16 c e o t = none_met (stray c o) (readable c o) (each (at16 c) c (first_zero (refuse 16 (ltb 0 (length c))) _ e).1 o t)

pub good : (q : List ℕ) (r : Record) → examine_record q r ≡ 0 → Good r
unfolding examine_record exam1718 exam19 exam20
good q r e =
    let a = first_zero (exam16 r.code) _ e in
    let b = first_zero (exam1718 r) _ (first_zero (exam32 q r.code) _ a.1).1 in
    let c = first_zero (exam19 r) _ b.1 in
    let i = each (at1718 r) r.code b.0 in
    let j = each_16 r.code a.0 in
    record {
      filled = filled_16 r.code a.0;
      paired = λ o t. (j o t).0;
      reads = λ o t. (j o t).1;
      fit = λ o t. refuse_zero 16 (bounded r o) (first_zero (refuse 17 (bounded r o)) _ (i o t)).0;
      go = λ o t. refuse_zero 17 (follows r.code o) (first_zero (refuse 17 (bounded r o)) (refuse 18 (follows r.code o)) (i o t)).1;
      caught = λ h g. refuse_zero 18 (begins r.code (get_or r.handlers h 0)) (first_of_zero (λ (t : ℕ). refuse 19 (begins r.code t)) r.handlers c.0 h g);
      rise = refuse_zero 19 (rising r.lines) c.1;
    }

-- and the list permits each of its instructions
abbrev pub Permitting : List ℕ → Record → Type 0
Permitting q r = (o : ℕ) → T (begins r.code o) → T (permitted_at q r.code o)

pub each_32 : (q : List ℕ) (r : Record) → exam32 q r.code ≡ 0 → Permitting q r
unfolding exam32
each_32 q r e o t = refuse_zero 31 (permitted_at q r.code o) (each (at32 q r.code) r.code e o t)

pub permitting : (q : List ℕ) (r : Record) → examine_record q r ≡ 0 → Permitting q r
unfolding examine_record
permitting q r e =
    let a = first_zero (exam16 r.code) _ e in
    each_32 q r (first_zero (exam32 q r.code) _ a.1).0

pub all_zero : (q : List ℕ) (rs : List Record) → examine_all q rs ≡ 0 → (i : ℕ) → i < length rs → examine_record q (get_or rs i blank) ≡ 0
unfolding examine_all
all_zero q [] e i h = omega arith
all_zero q (r ∷ rs) e zero h = (first_zero (examine_record q r) (examine_all q rs) e).0
all_zero q (r ∷ rs) e (suc i) h = all_zero q rs (first_zero (examine_record q r) (examine_all q rs) e).1 i (le_of_suc-le-suc h)

pub record GoodFile (F : Pattern) : Type 0 where
  pub tree : T (whole (rlens F))
  pub each_rec : (i : ℕ) → i < length F → Good (rec_at F i)

pub good_file : (q : List ℕ) (F : Pattern) → examine_pattern q F ≡ 0 → GoodFile F
unfolding examine_pattern
good_file q F e =
    let a = first_zero (refuse 15 (whole (rlens F))) _ e in
    record { tree = refuse_zero 14 (whole (rlens F)) a.0; each_rec = λ i h. good q (rec_at F i) (all_zero q F a.1 i h) }

abbrev pub PermittingFile : List ℕ → Pattern → Type 0
PermittingFile q F = (i : ℕ) → i < length F → Permitting q (rec_at F i)

pub permitting_file : (q : List ℕ) (F : Pattern) → examine_pattern q F ≡ 0 → PermittingFile q F
unfolding examine_pattern
permitting_file q F e i h = permitting q (rec_at F i) (all_zero q F (first_zero (refuse 15 (whole (rlens F))) _ e).1 i h)
