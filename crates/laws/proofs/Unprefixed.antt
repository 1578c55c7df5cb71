-- Request b): a pattern in which no prefix begins an instruction is judged as by paper 01's reading, where an instruction's first byte is its opcode,
-- by every list of permitted opcodes; so what passes by that passes.
-- Assumes nothing.
use Prim.Native.Nat.{ℕ, zero, suc, ◌+◌, ◌-◌, ◌<◌, suc-le-suc}
use native.Mathlib.Nat.{add-zero, add-suc, suc-add, zero-add, le_of_suc-le-suc}
use native.Mathlib.Omega.{arith}
use mathlib.Core.Path.{◌≡◌, refl, sym, ap, subst, ◌∙◌}
use mathlib.Core.Bool.{Bool, true, false, ◌&&◌, not, cond}
use mathlib.Core.List.{List, [], ◌∷◌}
use lib.Dec.{T, leb, ltb, eqb}
use lib.ListN.{length, get_or}
use Rattle.format.specs.Bytes.{ok, refused, byte, refuse, first}
use Rattle.format.specs.File.{Content}
use Rattle.format.specs.Insn.{fields, width, name, kind, roles, flow, row, size, known, prefix, signed16, last_of, operands, opcode, operands_at, rest}
use Rattle.format.specs.Insn.{jump, target}
use Rattle.format.specs.Registers.{registers_of}
use Rattle.format.specs.Line.{rising}
use Rattle.format.specs.Tree.{whole}
use Rattle.format.specs.Pattern.{Record, Pattern, pattern_of, rec_at, blank, rlens, reach, begins, lands}
use Rattle.format.specs.Permitted.{permits, permitted_at}
use Rattle.format.specs.Exam.{stray, readable, all_below, operands_below, range_below, bounded, leads, follows, first_at, first_of, at16, at32, at1718}
use Rattle.format.specs.Exam.{exam16, exam32, exam1718, exam19, exam20, examine_record, examine_all, examine_pattern, passing}
use Rattle.format.proofs.Answers.{first_zero, refuse_zero}
use Rattle.format.proofs.Prefix.{no_widening}
use Rattle.runs.proofs.Next.{next_alone, opcode_alone}

-- Examination by paper 01's reading, with the table's roles: sizes, places where instructions begin, operands, targets
reach01 : List ℕ → ℕ → ℕ → Bool
reach01 [] left o = false
reach01 (b ∷ bs) zero zero = true
reach01 (b ∷ bs) zero (suc o) = reach01 bs (width (kind (row b))) o
reach01 (b ∷ bs) (suc left) zero = false
reach01 (b ∷ bs) (suc left) (suc o) = reach01 bs left o

first_at01 : (ℕ → ℕ) → List ℕ → ℕ → ℕ → ℕ
first_at01 f [] left o = 0
first_at01 f (b ∷ bs) zero o = first (f o) (first_at01 f bs (width (kind (row b))) (suc o))
first_at01 f (b ∷ bs) (suc left) o = first_at01 f bs left (suc o)

abbrev begins01 : List ℕ → ℕ → Bool
begins01 c o = reach01 c 0 o

abbrev next01 : List ℕ → ℕ → ℕ
next01 c o = o + size (byte c o)

abbrev operands_at01 : List ℕ → ℕ → List ℕ
operands_at01 c o = operands (fields (kind (row (byte c o)))) c (o + 1)

abbrev jump01 : List ℕ → ℕ → ℕ
jump01 c o = next01 c o + signed16 (last_of (operands_at01 c o))

abbrev lands01 : List ℕ → ℕ → Bool
lands01 c o = leb 65536 (jump01 c o) && begins01 c (jump01 c o - 65536)

-- 16, 32, and 17 before 18, at an instruction
abbrev readable01 : List ℕ → ℕ → Bool
readable01 c o = known (byte c o) && not (prefix (byte c o)) && leb (next01 c o) (length c)

abbrev test16 : List ℕ → ℕ → ℕ
test16 c o = refuse 16 (readable01 c o)

abbrev test32 : List ℕ → List ℕ → ℕ → ℕ
test32 q c o = refuse 32 (permits q (byte c o))

abbrev tests01 : Record → ℕ → ℕ
tests01 r o =
    first (refuse 17 (all_below r (roles (row (byte r.code o))) (operands_at01 r.code o)
    && range_below r (registers_of (name (row (byte r.code o))) (operands_at01 r.code o))))
    (refuse 18 (leads (flow (row (byte r.code o))) (begins01 r.code (next01 r.code o)) (lands01 r.code o)))

abbrev examine_record01 : List ℕ → Record → ℕ
examine_record01 q r =
    first (first (refuse 16 (ltb 0 (length r.code))) (first_at01 (test16 r.code) r.code 0 0))
    (first (first_at01 (test32 q r.code) r.code 0 0)
    (first (first_at01 (tests01 r) r.code 0 0)
    (first (first_of (λ (t : ℕ). refuse 19 (begins01 r.code t)) r.handlers) (refuse 20 (rising r.lines)))))

examine_all01 : List ℕ → List Record → ℕ
examine_all01 q [] = 0
examine_all01 q (r ∷ rs) = first (examine_record01 q r) (examine_all01 q rs)

pub examine_pattern01 : List ℕ → Pattern → ℕ
examine_pattern01 q p = first (refuse 15 (whole (rlens p))) (examine_all01 q p)

-- no prefix begins an instruction
abbrev pub NoPrefix : List ℕ → Type 0
NoPrefix c = (o : ℕ) → T (begins c o) → prefix (byte c o) ≡ false

-- then instructions begin where paper 01 has them
rest_alone : (b : ℕ) (bs : List ℕ) → prefix b ≡ false → rest b bs ≡ width (kind (row b))
unfolding rest opcode
rest_alone b bs e = rw (no_widening b e, e) (zero-add _)

-- where no prefix begins one by both readings
reach_same : (bs : List ℕ) (left : ℕ) → ((j : ℕ) → T (reach bs left j) → T (reach01 bs left j) → prefix (byte bs j) ≡ false)
    → (o : ℕ) → reach bs left o ≡ reach01 bs left o
unfolding reach reach01
reach_same [] left h o = refl
reach_same (b ∷ bs) zero h zero = refl
reach_same (b ∷ bs) zero h (suc o) =
    let e = rest_alone b bs (h 0 tt tt) in
    rw e (reach_same bs (width (kind (row b))) (λ j t u. h (suc j) (subst (λ (n : ℕ). T (reach bs n j)) (sym e) t) u) o)
reach_same (b ∷ bs) (suc left) h zero = refl
reach_same (b ∷ bs) (suc left) h (suc o) = reach_same bs left (λ j t u. h (suc j) t u) o

first_same : (f g : ℕ → ℕ) (bs : List ℕ) (left o : ℕ) → ((j : ℕ) → T (reach bs left j) → prefix (byte bs j) ≡ false)
    → ((j : ℕ) → T (reach bs left j) → f (o + j) ≡ g (o + j)) → first_at f bs left o ≡ first_at01 g bs left o
unfolding reach first_at first_at01
first_same f g [] left o h e = refl
first_same f g (b ∷ bs) zero o h e =
    let here : f o ≡ g o = rw add-zero at (e 0 tt) in
    let later = first_same f g bs (rest b bs) (suc o) (λ j t. h (suc j) t) (λ j t. rw (add-suc, ← suc-add) at (e (suc j) t)) in
    rw (here, later, rest_alone b bs (h 0 tt))
first_same f g (b ∷ bs) (suc left) o h e =
    first_same f g bs left (suc o) (λ j t. h (suc j) t) (λ j t. rw (add-suc, ← suc-add) at (e (suc j) t))

-- and the tests answer what they answer there
module _ (c : List ℕ) (n : NoPrefix c) where
  begins_same : (t : ℕ) → begins c t ≡ begins01 c t
  begins_same t = reach_same c 0 (λ j b u. n j b) t

  module _ (o : ℕ) (p : prefix (byte c o) ≡ false) where
    operands_same : operands_at c o ≡ operands_at01 c o
    operands_same = rw (opcode_alone c o p, no_widening (byte c o) p, p, add-zero)

    jump_same : jump c o ≡ jump01 c o
    unfolding jump
    jump_same = rw (next_alone c o p, operands_same)

    lands_same : lands c o ≡ lands01 c o
    unfolding lands target
    lands_same = rw (jump_same, begins_same)

    at16_same : at16 c o ≡ refuse 16 (readable01 c o)
    unfolding stray readable
    at16_same = rw (p, opcode_alone c o p, next_alone c o p) (ap (refuse 16) (go (known (byte c o)) (leb (next01 c o) (length c))))
      where
        go : (a d : Bool) → (a && d) ≡ (a && true && d)
        go true d = refl
        go false d = refl

    at32_same : (q : List ℕ) → at32 q c o ≡ test32 q c o
    unfolding permitted_at
    at32_same q = rw (opcode_alone c o p) (ap (refuse 32) (go (permits q (byte c o))))
      where
        go : (b : Bool) → (b && b) ≡ b
        go true = refl
        go false = refl

module _ (r : Record) (n : NoPrefix r.code) where
  tests_same : (o : ℕ) → prefix (byte r.code o) ≡ false → at1718 r o ≡ tests01 r o
  unfolding bounded operands_below follows
  tests_same o p =
      let c = r.code in
      let w = opcode_alone c o p in
      rw (operands_same c n o p, lands_same c n o p, next_alone c o p, begins_same c n, w)

  handlers_same : (ts : List ℕ) → first_of (λ (t : ℕ). refuse 19 (begins r.code t)) ts ≡ first_of (λ (t : ℕ). refuse 19 (begins01 r.code t)) ts
  unfolding first_of
  handlers_same [] = refl
  handlers_same (t ∷ ts) = rw (begins_same r.code n t, handlers_same ts)

  record_same : (q : List ℕ) → examine_record q r ≡ examine_record01 q r
  unfolding examine_record exam16 exam32 exam1718 exam19 exam20
  record_same q =
      let c = r.code in
      let a = first_same (at16 c) (test16 c) c 0 0 n (λ j t. rw zero-add (at16_same c n j (n j t))) in
      let b = first_same (at32 q c) (test32 q c) c 0 0 n (λ j t. rw zero-add (at32_same c n j (n j t) q)) in
      let d = first_same (at1718 r) (tests01 r) c 0 0 n (λ j t. rw zero-add (tests_same j (n j t))) in
      rw (a, b, d, handlers_same r.handlers)

all_same : (q : List ℕ) (rs : List Record) → ((i : ℕ) → i < length rs → NoPrefix (get_or rs i blank).code) → examine_all q rs ≡ examine_all01 q rs
unfolding examine_all examine_all01
all_same q [] n = refl
all_same q (r ∷ rs) n = rw (record_same r (n 0 (omega arith)) q, all_same q rs (λ i h. n (suc i) (suc-le-suc h)))

-- the same number, and so the same answer for the file
pub judged_as_before : (q : List ℕ) (p : Pattern) → ((i : ℕ) → i < length p → NoPrefix (rec_at p i).code) → examine_pattern q p ≡ examine_pattern01 q p
unfolding examine_pattern examine_pattern01
judged_as_before q p n = rw (all_same q p n)

pub passing_as_before : (q f : List ℕ) (c : Content) → let p = pattern_of f c in ((i : ℕ) → i < length p → NoPrefix (rec_at p i).code)
    → passing q f c ≡ cond (eqb (examine_pattern01 q (pattern_of f c)) 0) (ok c) (refused (examine_pattern01 q (pattern_of f c)))
unfolding passing
passing_as_before q f c n = rw (judged_as_before q (pattern_of f c) n)

-- A pattern that passes by paper 01's reading has no prefix where an instruction begins, by that reading and so by this one.
first_zero01 : (f : ℕ → ℕ) (bs : List ℕ) (left o : ℕ) → first_at01 f bs left o ≡ 0 → (j : ℕ) → T (reach01 bs left j) → f (o + j) ≡ 0
unfolding reach01 first_at01
first_zero01 f [] left o e j t = absurd t
first_zero01 f (b ∷ bs) zero o e zero t = rw add-zero (first_zero (f o) _ e).0
first_zero01 f (b ∷ bs) zero o e (suc j) t = rw (add-suc, ← suc-add) (first_zero01 f bs (width (kind (row b))) (suc o) (first_zero (f o) _ e).1 j t)
first_zero01 f (b ∷ bs) (suc left) o e zero t = absurd t
first_zero01 f (b ∷ bs) (suc left) o e (suc j) t = rw (add-suc, ← suc-add) (first_zero01 f bs left (suc o) e j t)

no_prefix01 : (c : List ℕ) (o : ℕ) → T (readable01 c o) → prefix (byte c o) ≡ false
no_prefix01 c o t = go (known (byte c o)) (prefix (byte c o)) t
  where
    go : (a p : Bool) → T (a && not p && leb (next01 c o) (length c)) → p ≡ false
    go true true t = absurd t
    go true false t = refl
    go false p t = absurd t

record_plain : (q : List ℕ) (r : Record) → examine_record01 q r ≡ 0 → NoPrefix r.code
record_plain q r e o t =
    let c = r.code in
    let a = (first_zero (first (refuse 16 (ltb 0 (length c))) (first_at01 (test16 c) c 0 0)) _ e).0 in
    let b = (first_zero (refuse 16 (ltb 0 (length c))) _ a).1 in
    at b o (subst T (reach_same c 0 (λ j x y. at b j y) o) t)
  where
    at : first_at01 (test16 r.code) r.code 0 0 ≡ 0 → (j : ℕ) → T (begins01 r.code j) → prefix (byte r.code j) ≡ false
    at b j u =
        let c = r.code in
        no_prefix01 c j (refuse_zero 15 (readable01 c j) (rw zero-add at (first_zero01 (test16 c) c 0 0 b j u)))

all_plain : (q : List ℕ) (rs : List Record) → examine_all01 q rs ≡ 0 → (i : ℕ) → i < length rs → NoPrefix (get_or rs i blank).code
unfolding examine_all01
all_plain q [] e i h = absurd (omega arith)
all_plain q (r ∷ rs) e zero h = record_plain q r (first_zero (examine_record01 q r) _ e).0
all_plain q (r ∷ rs) e (suc i) h = all_plain q rs (first_zero (examine_record01 q r) _ e).1 i (le_of_suc-le-suc h)

-- so what passes by that reading passes
pub passes_still : (q : List ℕ) (p : Pattern) → examine_pattern01 q p ≡ 0 → examine_pattern q p ≡ 0
unfolding examine_pattern01
passes_still q p e =
    judged_as_before q p (all_plain q p (first_zero (refuse 15 (whole (rlens p))) _ e).1) ∙ e
