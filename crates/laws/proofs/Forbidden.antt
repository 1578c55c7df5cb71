-- When 32 is met: paper 02, n). An examination and a run answer 32 exactly where the first record that has a number meets neither 16 nor 25 and holds an
-- opcode that is not permitted; a load never does; and no frame of a run of a passing file stands at such an opcode.
-- Assumes nothing.
use Prim.Native.Nat.{ℕ, zero, suc, ◌/◌, ◌≤◌, ◌<◌, suc-le-suc}
use native.Mathlib.Nat.{zero-add, le_of_suc-le-suc}
use native.Mathlib.Omega.{arith}
use mathlib.Core.Path.{◌≡◌, refl, sym, ap, subst, ◌∙◌}
use mathlib.Core.Logic.{◌↔◌, ◌⊎◌, inl, inr}
use mathlib.Core.Bool.{Bool, true, false, not}
use mathlib.Core.List.{List, [], ◌∷◌}
use lib.Dec.{T, not_T, leb}
use lib.Ieee.Fits.{and_l, and_r}
use lib.ListN.{length, get_or, length-map}
use borrow.Author.Tests.{leb-true, le-leb}
use Rattle.format.specs.Bytes.{Answer, ok, refused, bind, byte, refuse, first}
use Rattle.format.specs.Allowance.{Allowance}
use Rattle.format.specs.File.{Content}
use Rattle.format.specs.Load.{Nine, records_of, loading, laid, load}
use Rattle.format.specs.Insn.{opcode}
use Rattle.format.specs.Tree.{Whole, whole}
use Rattle.format.specs.Pattern.{Record, Pattern, pattern_of, rec_at, blank, rlens, begins}
use Rattle.format.specs.Line.{rising}
use Rattle.format.specs.Permitted.{permits, permitted_at, Everything}
use Rattle.format.specs.Exam.{bounded, follows, Bad16, Bad25, Bad32, RecordPasses, Passes, FilePasses, at1718, exam16, exam32, exam1718, exam19, exam20}
use Rattle.format.specs.Exam.{examine_record, examine_all, examine_pattern, passing, examining, examine, examine_single, passing_single, examining_single, examine_one}
use Rattle.format.specs.Run.{Choice, frame, code_of, run, choices, kind, Standing, standing, frame_table, following, Followed, follow}
use Rattle.format.proofs.Answers.{ok_refused, refused_same, refuse_pass, refuse_hit, Refuses, weaker, answered, tested, chained}
use Rattle.runs.proofs.Tests.{first_at_hit, first_of_hit}
use Rattle.runs.proofs.Tree.{whole_iff}
use Rattle.runs.proofs.Safe.{begins_zero}
use Rattle.runs.proofs.Exact.{filled_16, permitting_file}
use Rattle.runs.proofs.Refusal.{told_16, told_32, clear_16, clear_32, record_iff, single_by, single_inside, passes_iff, by_record_lem}
use Rattle.laws.proofs.Exact.{InRecord, by16, by32, by1718, by19, by20, InOrder, by15, by_record, in_record, in_order, refused_iff, single_is}
use Rattle.laws.proofs.Numbers.{Among}
use Rattle.laws.proofs.Refusals.{load_number, behind_load}
use Rattle.laws.proofs.Demand3.{choices_21, claim_anywhere}
use Rattle.laws.proofs.Allowance.{refused_load}
use Rattle.laws.proofs.Permitted.{permits_iff, missing_is_no, none_held}

-- Of a record.
module _ (q : List ℕ) (r : Record) where
  -- "32 when a record holds an opcode not permitted"
  pub holds_32 : (exam32 q r.code ≡ 32) ↔ Bad32 q r
  holds_32 = (λ e. (told_32 q r 31 e).1, λ b. go b (exam32 q r.code) refl)
    where
      go : Bad32 q r → (k : ℕ) → exam32 q r.code ≡ k → exam32 q r.code ≡ 32
      go b zero e = absurd ((clear_32 q r).0 e b)
      go b (suc k) e = e ∙ sym (told_32 q r k e).0

  -- "after 16 and 25 over that record": either comes first, whatever is permitted
  pub after_16 : ¬ (exam16 r.code ≡ 0) → examine_record q r ≡ exam16 r.code
  unfolding examine_record
  after_16 h = go (exam16 r.code) refl
    where
      go : (k : ℕ) → exam16 r.code ≡ k → examine_record q r ≡ exam16 r.code
      go zero e = absurd (h e)
      go (suc k) e = rw e

  -- "before any 17 there": 32 comes first, whatever 17 to 20 say
  pub before_17 : ¬ Bad16 r → ¬ Bad25 r → Bad32 q r → examine_record q r ≡ 32
  unfolding examine_record
  before_17 g h b = rw ((clear_16 r).1 (g, h), holds_32.1 b)

-- no other test of a record answers 32
module _ (r : Record) where
  not_by_16 : ¬ (exam16 r.code ≡ 32)
  not_by_16 e = elim (told_16 r 31 e) [ inl b ↦ absurd (omega (arith, b.0)) | inr b ↦ absurd (omega (arith, b.0)) ]

  not_by_1718 : ¬ (exam1718 r ≡ 32)
  unfolding exam1718
  not_by_1718 e =
      let i = first_at_hit (at1718 r) r.code 0 0 31 e in
      go (bounded r i.at) (follows r.code i.at) (rw zero-add at i.gives)
    where
      go : (b d : Bool) → first (refuse 17 b) (refuse 18 d) ≡ 32 → ⊥
      go true true e = omega arith
      go true false e = omega arith
      go false d e = omega arith

  not_by_19 : ¬ (exam19 r ≡ 32)
  unfolding exam19
  not_by_19 e =
      let i = first_of_hit (λ (t : ℕ). refuse 19 (begins r.code t)) r.handlers 31 e in
      omega (arith, (refuse_hit 19 31 (begins r.code (get_or r.handlers i.at 0)) i.gives).0)

  not_by_20 : ¬ (exam20 r ≡ 32)
  unfolding exam20
  not_by_20 e = omega (arith, (refuse_hit 20 31 (rising r.lines) e).0)

-- so a record's number is 32 exactly where it meets neither 16 nor 25 and holds an opcode that is not permitted
pub record ForbidsRecord (q : List ℕ) (r : Record) : Type 0 where
  pub none_16 : ¬ Bad16 r
  pub none_25 : ¬ Bad25 r
  pub holds : Bad32 q r

forbids_by : (q : List ℕ) (r : Record) → InRecord q r 32 → ForbidsRecord q r
forbids_by q r (by16 e) = absurd (not_by_16 r e)
forbids_by q r (by32 x e) = let c = (clear_16 r).0 x in record { none_16 = c.0; none_25 = c.1; holds = (holds_32 q r).0 e }
forbids_by q r (by1718 x y e) = absurd (not_by_1718 r e)
forbids_by q r (by19 x y z e) = absurd (not_by_19 r e)
forbids_by q r (by20 x y z w e) = absurd (not_by_20 r e)

pub record_32 : (q : List ℕ) (r : Record) → (examine_record q r ≡ 32) ↔ ForbidsRecord q r
record_32 q r = (λ e. forbids_by q r (in_record q r 31 e), λ x. before_17 q r x.none_16 x.none_25 x.holds)

-- and so is that of record i of a pattern, where it is there
numbered_32 : (q : List ℕ) (i : ℕ) (p : Pattern) → (examine_single q i p ≡ 32) ↔ ((i < length p) × ForbidsRecord q (rec_at p i))
numbered_32 q i p = (
  single_by q i p (λ (k : ℕ). k ≡ 32 → (i < length p) × ForbidsRecord q (rec_at p i)) (λ h e. (h, (record_32 q (rec_at p i)).0 e)) (λ _ e. absurd (omega arith)),
  λ x. single_inside q i p x.0 ∙ (record_32 q (rec_at p i)).1 x.1,
)

-- Of a pattern: the tree is whole, the records before one meet no condition, that one meets neither 16 nor 25 and holds an opcode that is not permitted.
pub record Forbids (q : List ℕ) (p : Pattern) : Type 0 where
  pub tree : Whole (rlens p)
  pub rec : ℕ
  pub inside : rec < length p
  pub before : (j : ℕ) → j < rec → RecordPasses q (rec_at p j)
  pub forbids : ForbidsRecord q (rec_at p rec)

-- the number of the first record that has one
module _ (q : List ℕ) (n : ℕ) where
  first_record : (rs : List Record) (i : ℕ) → i < length rs → ((j : ℕ) → j < i → examine_record q (get_or rs j blank) ≡ 0)
      → examine_record q (get_or rs i blank) ≡ suc n → examine_all q rs ≡ suc n
  unfolding examine_all
  first_record [] i h z e = absurd (omega arith)
  first_record (r ∷ rs) zero h z e = rw e
  first_record (r ∷ rs) (suc i) h z e = rw (z 0 (omega arith)) (first_record rs i (le_of_suc-le-suc h) (λ j g. z (suc j) (suc-le-suc g)) e)

  pub by_first : (p : Pattern) → Whole (rlens p) → (i : ℕ) → i < length p → ((j : ℕ) → j < i → examine_record q (rec_at p j) ≡ 0)
      → examine_record q (rec_at p i) ≡ suc n → examine_pattern q p ≡ suc n
  unfolding examine_pattern
  by_first p w i h z e = rw (refuse_pass 15 (whole (rlens p)) ((whole_iff (rlens p)).1 w)) (first_record p i h z e)

pub pattern_32 : (q : List ℕ) (p : Pattern) → (examine_pattern q p ≡ 32) ↔ Forbids q p
pattern_32 q p = (λ e. there (in_order q p 31 e), back)
  where
    back : Forbids q p → examine_pattern q p ≡ 32
    back x =
        let r = rec_at p x.rec in
        by_first q 31 p x.tree x.rec x.inside (λ j g. (record_iff q (rec_at p j)).1 (x.before j g)) ((record_32 q r).1 x.forbids)

    there : InOrder q p 32 → Forbids q p
    there (by15 w e) = absurd (omega arith)
    there (by_record w i h z x) = record { tree = w; rec = i; inside = h; before = λ j g. (record_iff q (rec_at p j)).0 (z j g); forbids = forbids_by q (rec_at p i) x }

-- Of a call. A load takes no list, and has no 32.
pub never_32_load : (f : List ℕ) (m : Nine) (a : Allowance) → ¬ ((load f m a).answer ≡ refused 32)
never_32_load f m a e = load_number f m a 32 e

-- what was loaded is refused by its pattern's number, or passes
module _ (q f : List ℕ) (c : Content) where
  passed : examine_pattern q (pattern_of f c) ≡ 0 → passing q f c ≡ ok c
  unfolding passing
  passed z = rw z

  passing_number : (n : ℕ) → (passing q f c ≡ refused (suc n)) ↔ (examine_pattern q (pattern_of f c) ≡ suc n)
  unfolding passing
  passing_number n = refused_iff c (examine_pattern q (pattern_of f c)) n

  passing_32 : (passing q f c ≡ refused 32) ↔ Forbids q (pattern_of f c)
  passing_32 = (λ e. (pattern_32 q (pattern_of f c)).0 ((passing_number 31).0 e), λ x. (passing_number 31).1 ((pattern_32 q (pattern_of f c)).1 x))

module _ (f : List ℕ) (m : Nine) (a : Allowance) (q : List ℕ) where
  -- "32 when a record holds an opcode not permitted, after 16 and 25 over that record, before any 17 there"
  pub examine_32 : ((examine f m a q).answer ≡ refused 32) ↔ ((c : Content) × (loading f m a ≡ ok c) × Forbids q (pattern_of f c))
  unfolding examine examining
  examine_32 = (
    λ e. let x = behind_load f m a (passing q f) 32 (λ z. z) e in (x.0, x.1, (passing_32 q f x.0).0 x.2),
    λ x. let l = x.1 in let h = (passing_32 q f x.0).1 x.2 in rw (l, h),
  )

  -- i): of a single record, that record's opcodes alone: what the tree and the other records are does not count
  pub single_32 : (i : ℕ) → ((examine_one f m a q i).answer ≡ refused 32)
      ↔ ((c : Content) × (loading f m a ≡ ok c) × (i < length (pattern_of f c)) × ForbidsRecord q (rec_at (pattern_of f c) i))
  unfolding examine_one examining_single passing_single
  single_32 i = (there, λ x. let p = pattern_of f x.0 in let l = x.1 in let h = (numbered_32 q i p).1 (x.2, x.3) in rw (l, h))
    where
      there : (laid m (bind (loading f m a) (passing_single q i f))).answer ≡ refused 32
          → (c : Content) × (loading f m a ≡ ok c) × (i < length (pattern_of f c)) × ForbidsRecord q (rec_at (pattern_of f c) i)
      there e =
          let x = behind_load f m a (passing_single q i f) 32 (λ z. z) e in
          let p = pattern_of f x.0 in
          let y = (numbered_32 q i p).0 ((refused_iff x.0 (examine_single q i p) 31).0 x.2) in
          (x.0, x.1, y.0, y.1)

  -- follow "tests its frame table" before it examines
  pub follow_32 : (n : ℕ) (bs : List ℕ) → ((follow f m a q n bs).answer ≡ refused 32)
      ↔ ((c : Content) × (loading f m a ≡ ok c) × (length (records_of c) ≤ n / 2) × Forbids q (pattern_of f c))
  unfolding follow following
  follow_32 n bs = (λ e. there e (loading f m a) refl, λ x. back x.0 x.1 x.2 x.3)
    where
      back : (c : Content) → loading f m a ≡ ok c → length (records_of c) ≤ n / 2 → Forbids q (pattern_of f c) → (follow f m a q n bs).answer ≡ refused 32
      back c l h x = rw (l, le-leb (length (records_of c)) (n / 2) h, (passing_32 q f c).1 x)

      -- where a loaded file is followed and 32 answered
      At32 : Content → ℕ → Type 0
      At32 c e = e ≡ 32 → (length (records_of c) ≤ n / 2) × (passing q f c ≡ refused 32)

      by_passing : (c : Content) → length (records_of c) ≤ n / 2 → (x : Answer Content) → passing q f c ≡ x → Refuses (At32 c) x
      by_passing c h (ok d) e = tt
      by_passing c h (refused k) e = λ z. (h, e ∙ ap refused z)

      behind : (c : Content) → loading f m a ≡ ok c → Refuses (At32 c) (following f m a q n bs)
      behind c l =
          rw l
          (tested _ _ (leb (length (records_of c)) (n / 2)) _ 14 (λ z. absurd (omega arith)) (λ t.
          chained _ _ _ (passing q f c) _ (by_passing c (leb-true _ _ t) (passing q f c) refl) (λ _ _.
          chained _ _ _ (choices bs) _ (weaker _ _ _ (choices bs) (choices_21 bs kind) (λ e x z. absurd (omega arith))) (λ _ _. tt))))

      there : (follow f m a q n bs).answer ≡ refused 32 → (x : Answer Content) → loading f m a ≡ x
          → (c : Content) × (loading f m a ≡ ok c) × (length (records_of c) ≤ n / 2) × Forbids q (pattern_of f c)
      there e (ok c) l =
          let R = At32 c in
          let y = subst (Refuses R) e (answered _ _ (λ (x : Followed). Refuses R x.answer) (following f m a q n bs) _ _ (behind c l) (λ _ _. tt) (λ _ r. r)) refl in
          (c, l, y.0, (passing_32 q f c).0 y.1)
      there e (refused k) l = absurd (never_32_load f m a (refused_load f m a k l ∙ ap refused (refused_same (rw l at e))))

-- A list that permits nothing, as the empty one does by `missing_is_no`: record 0 of a whole tree has a first instruction, or meets 16.
abbrev pub nothing_numbers : List ℕ
nothing_numbers = 16 ∷ 25 ∷ 32 ∷ []

module _ (q : List ℕ) (none_permitted : (b : ℕ) → ¬ T (permits q b)) where
  nothing_there : (c : List ℕ) (o : ℕ) → T (not (permitted_at q c o))
  unfolding permitted_at
  nothing_there c o = not_T (permitted_at q c o) (λ t. none_permitted (byte c o) (and_l (permits q (byte c o)) (permits q (opcode c o)) t))

  nothing_record : (r : Record) → Among nothing_numbers (examine_record q r)
  nothing_record r = go (exam16 r.code) refl
    where
      is : {n : ℕ} → examine_record q r ≡ n → Among nothing_numbers n → Among nothing_numbers (examine_record q r)
      is e t = subst (Among nothing_numbers) (sym e) t

      go : (k : ℕ) → exam16 r.code ≡ k → Among nothing_numbers (examine_record q r)
      go zero e =
          let c = (clear_16 r).0 e in
          let b : Bad32 q r = record { at = 0; starts = begins_zero r.code (filled_16 r.code e); forbidden = nothing_there r.code 0 } in
          is (before_17 q r c.0 c.1 b) tt
      go (suc k) e =
          let h = after_16 q r (λ (z : exam16 r.code ≡ 0). absurd (omega arith)) ∙ e in
          elim (told_16 r k e) [ inl b ↦ is (h ∙ sym b.0) tt | inr b ↦ is (h ∙ sym b.0) tt ]

  -- i): so a record that is there is refused by one of these
  pub nothing_single : (f : List ℕ) (m : Nine) (a : Allowance) (c : Content) → loading f m a ≡ ok c → (i : ℕ) → i < length (pattern_of f c)
      → (e : ℕ) × ((examine_one f m a q i).answer ≡ refused e) × Among nothing_numbers e
  nothing_single f m a c l i h = go (examine_record q r) refl (nothing_record r)
    where
      r : Record
      r = rec_at (pattern_of f c) i

      go : (k : ℕ) → examine_record q r ≡ k → Among nothing_numbers k → (e : ℕ) × ((examine_one f m a q i).answer ≡ refused e) × Among nothing_numbers e
      go zero e t = absurd t
      go (suc n) e t =
          let z = (refused_iff c (examine_record q r) n).1 e in
          (suc n, rw (single_is f m a q c l i, single_inside q i (pattern_of f c) h, z), t)

  nothing_pattern : (p : Pattern) → Whole (rlens p) → (n : ℕ) × (examine_pattern q p ≡ suc n) × Among nothing_numbers (suc n)
  nothing_pattern p w = go (examine_record q (rec_at p 0)) refl (nothing_record (rec_at p 0))
    where
      go : (k : ℕ) → examine_record q (rec_at p 0) ≡ k → Among nothing_numbers k → (n : ℕ) × (examine_pattern q p ≡ suc n) × Among nothing_numbers (suc n)
      go zero e t = absurd t
      go (suc n) e t =
          let h : 0 < length p = omega (arith, w.sums, length-map p (λ (x : Record). x.rlen)) in
          (n, by_first q n p w 0 h (λ j g. absurd (omega arith)) e, t)

  -- a file that loads and has a whole tree is refused by 16, 25 or 32
  pub nothing_examine : (f : List ℕ) (m : Nine) (a : Allowance) (c : Content) → loading f m a ≡ ok c → Whole (rlens (pattern_of f c))
      → (e : ℕ) × ((examine f m a q).answer ≡ refused e) × Among nothing_numbers e
  unfolding examine examining
  nothing_examine f m a c l w = let x = nothing_pattern (pattern_of f c) w in (suc x.0, rw (l, (passing_number q f c x.0).1 x.1), x.2)

  -- so no file passes
  pub nothing_passes : (f : List ℕ) (a : Allowance) → ¬ FilePasses f a q
  nothing_passes f a x =
      let p = pattern_of f x.content in
      let e = (passes_iff q p).1 x.passes in
      let y = nothing_pattern p ((by_record_lem q p).0 e).0 in
      omega (arith, y.1)

-- with everything permitted there is no 32
module _ (q : List ℕ) (all : Everything q) where
  none_forbidden : (r : Record) → ¬ ForbidsRecord q r
  none_forbidden r x = none_held q all r ((clear_16 r).1 (x.none_16, x.none_25)) x.holds

  pub never_32_examine : (f : List ℕ) (m : Nine) (a : Allowance) → ¬ ((examine f m a q).answer ≡ refused 32)
  never_32_examine f m a e = none_forbidden _ ((examine_32 f m a q).0 e).2.forbids

  pub never_32_single : (f : List ℕ) (m : Nine) (a : Allowance) (i : ℕ) → ¬ ((examine_one f m a q i).answer ≡ refused 32)
  never_32_single f m a i e = none_forbidden _ ((single_32 f m a q i).0 e).3

  pub never_32_follow : (f : List ℕ) (m : Nine) (a : Allowance) (n : ℕ) (bs : List ℕ) → ¬ ((follow f m a q n bs).answer ≡ refused 32)
  never_32_follow f m a n bs e = none_forbidden _ ((follow_32 f m a q n bs).0 e).3.forbids

-- Of a file that passes. The opcode of the instruction at o is b, or its prefix is.
abbrev pub Uses : List ℕ → ℕ → ℕ → Type 0
Uses c o b = (opcode c o ≡ b) ⊎ (byte c o ≡ b)

uses_permitted : (q c : List ℕ) (o b : ℕ) → T (permits q (opcode c o)) → T (permits q (byte c o)) → Uses c o b → T (permits q b)
uses_permitted q c o b t s (inl e) = subst (λ (k : ℕ). T (permits q k)) e t
uses_permitted q c o b t s (inr e) = subst (λ (k : ℕ). T (permits q k)) e s

-- no record of it "holds an opcode not permitted", whether or not a run comes there
pub holds_permitted : (q : List ℕ) (p : Pattern) → Passes q p → (i : ℕ) → i < length p → (o : ℕ) → T (begins (rec_at p i).code o)
    → (b : ℕ) → Uses (rec_at p i).code o b → T (permits q b)
unfolding permitted_at
holds_permitted q p h i n o t b u =
    let c = (rec_at p i).code in
    let y = permitting_file q p ((passes_iff q p).1 h) i n o t in
    uses_permitted q c o b (and_r (permits q (byte c o)) (permits q (opcode c o)) y) (and_l (permits q (byte c o)) (permits q (opcode c o)) y) u

-- "Runs of a passing file meet permitted opcodes only": in any tables in which it loads, along every list of choices, in every frame
module _ (f : List ℕ) (a : Allowance) (q : List ℕ) (x : FilePasses f a q) (m : Nine) (c : Content) (l : loading f m a ≡ ok c) (cs : List Choice)
    (i : ℕ) (h : i < length (run (pattern_of f c) cs)) (b : ℕ)
    (u : let g = get_or (run (pattern_of f c) cs) i (frame 0 0) in Uses (code_of (pattern_of f c) g) g.at b) where
  pub run_permitted : T (permits q b)
  run_permitted =
      let y = (claim_anywhere f a q x m c l cs).frames i h in
      let g = get_or (run (pattern_of f c) cs) i (frame 0 0) in
      uses_permitted q (code_of (pattern_of f c) g) g.at b y.opcode_permitted y.prefix_permitted u

  -- so none stands at one whose byte in the list is 0 or missing
  pub never_forbidden : (¬ (get_or q b 0 ≡ 0)) × (¬ (length q ≤ b))
  never_forbidden = (λ z. omega (arith, ((permits_iff q b).0 run_permitted).1), λ n. missing_is_no q b n run_permitted)

-- and of a call of follow that is not refused: the frames that it answers and lays in its table
pub record FollowPermitted (f : List ℕ) (m : Nine) (a : Allowance) (q : List ℕ) (n : ℕ) (bs : List ℕ) : Type 0 where
  pub content : Content
  pub taken : List Choice
  pub loads : loading f m a ≡ ok content
  pub chosen : choices bs ≡ ok taken
  pub answers : (follow f m a q n bs).answer ≡ ok (standing (pattern_of f content) (run (pattern_of f content) taken))
  pub table : (follow f m a q n bs).frames ≡ frame_table n (run (pattern_of f content) taken)
  pub permitted : (i : ℕ) → i < length (run (pattern_of f content) taken) → (b : ℕ)
      → let g = get_or (run (pattern_of f content) taken) i (frame 0 0) in Uses (code_of (pattern_of f content) g) g.at b → T (permits q b)

module _ (f : List ℕ) (m : Nine) (a : Allowance) (q : List ℕ) (n : ℕ) (bs : List ℕ) where
  pub follow_permitted : (s : Standing) → (follow f m a q n bs).answer ≡ ok s → FollowPermitted f m a q n bs
  unfolding follow following
  follow_permitted s e = by_load (loading f m a) refl
    where
      by_choices : (c : Content) → loading f m a ≡ ok c → leb (length (records_of c)) (n / 2) ≡ true → examine_pattern q (pattern_of f c) ≡ 0
          → passing q f c ≡ ok c → (x : Answer (List Choice)) → choices bs ≡ x → FollowPermitted f m a q n bs
      by_choices c l r z p (ok cs) k =
          let x : FilePasses f a q = record { tables = m; content = c; loads = l; passes = (passes_iff q (pattern_of f c)).0 z } in
          record {
            content = c;
            taken = cs;
            loads = l;
            chosen = k;
            answers = rw (l, r, p, k);
            table = rw (l, r, p, k);
            permitted = run_permitted f a q x m c l cs;
          }
      by_choices c l r z p (refused j) k = absurd (ok_refused (rw (l, r, p, k) at e))

      by_number : (c : Content) → loading f m a ≡ ok c → leb (length (records_of c)) (n / 2) ≡ true → (k : ℕ) → examine_pattern q (pattern_of f c) ≡ k
          → FollowPermitted f m a q n bs
      by_number c l r zero z = by_choices c l r z (passed q f c z) (choices bs) refl
      by_number c l r (suc k) z = absurd (ok_refused (rw (l, r, (passing_number q f c k).1 z) at e))

      by_room : (c : Content) → loading f m a ≡ ok c → (t : Bool) → leb (length (records_of c)) (n / 2) ≡ t → FollowPermitted f m a q n bs
      by_room c l true r = by_number c l r (examine_pattern q (pattern_of f c)) refl
      by_room c l false r = absurd (ok_refused (rw (l, r) at e))

      by_load : (x : Answer Content) → loading f m a ≡ x → FollowPermitted f m a q n bs
      by_load (ok c) l = by_room c l (leb (length (records_of c)) (n / 2)) refl
      by_load (refused k) l = absurd (ok_refused (rw l at e))
