-- A record's parts are the record, the records of a table are the pattern.
-- Assumes nothing.
use Prim.Native.Nat.{ℕ, zero, suc, ◌+◌, ◌-◌, ◌*◌, ◌/◌, ◌≤◌, ◌<◌}
use native.Mathlib.Nat.{zero-add}
use native.Mathlib.Omega.{arith}
use mathlib.Core.Path.{◌≡◌, refl, sym, ap, ◌∙◌, fun_ext}
use mathlib.Core.Bool.{Bool, true, false}
use mathlib.Core.List.{List, [], ◌∷◌}
use lib.Dec.{eqb}
use lib.ListN.{length, get_or, take, drop, length-drop}
use lib.Seq.{length-take-le, get_or-take, get_or-drop}
use Rattle.std.specs.List.{slice_range}
use borrow.Author.Tests.{ne_eqb}
use Rattle.format.specs.Bytes.{refuse, first}
use Rattle.format.specs.Insn.{Role, reg, pool, sym as symbol, child, plain, roles, row_at, operands_at}
use Rattle.format.specs.Registers.{Range, registers_at}
use Rattle.format.specs.Line.{rows_from, line_row_at, map_of}
use Rattle.format.specs.Lookup.{record_word}
use Rattle.format.specs.Tree.{layout, whole}
use Rattle.format.specs.Pattern.{Record, rlens}
use Rattle.format.specs.Exam.{below, all_below, operands_below, range_below, bounded, follows, first_at, exam1718, exam19, exam20, examine_record, examine_all, examine_pattern}
use Rattle.format.proofs.RowsFrom.{rows_from_map, rows_start, rows_turn, rows_end}
use Rattle.runs.proofs.Lists.{same_permits}
use Rattle.flags.specs.Flags.{bare}
use Rattle.examine_list.specs.Full.{bytes_of, Written}
use Rattle.examine_list.proofs.Full.{written_permits}
use borrow.Author.Rules.{rules}
use Rattle.refusal.specs.declared.Refusal.{Refusal}
use Rattle.refusal.specs.Number.{number}
use Rattle.exam.specs.View.{RowFits, target_at, targets, entries, record_at, records_between, pattern_at, rlens_at}
use Rattle.exam.specs.Part.{targets_of, examine_part}
use Rattle.scan.proofs.First.{first_none, first_some, first_assoc}

-- of a record only the bytes and the counts matter to 17 and 18
record Same (l : List ℕ) (R : Record) : Type 0 where
  pub regs : (bare l []).nregs ≡ R.nregs
  pub constants : (bare l []).npool ≡ R.npool
  pub symbols : (bare l []).nsyms ≡ R.nsyms
  pub children : (bare l []).rlen ≡ R.rlen

module _ (l : List ℕ) (R : Record) (s : Same l R) where
  below_same : (x : Role) (v : ℕ) → below (bare l R.code) x v ≡ below R x v
  unfolding below
  below_same reg v = rw s.regs
  below_same pool v = rw s.constants
  below_same symbol v = rw s.symbols
  below_same child v = rw s.children
  below_same plain v = refl

  all_same : (xs : List Role) (vs : List ℕ) → all_below (bare l R.code) xs vs ≡ all_below R xs vs
  unfolding all_below
  all_same [] vs = refl
  all_same (x ∷ xs) [] = refl
  all_same (x ∷ xs) (v ∷ vs) = rw (below_same x v, all_same xs vs)

  range_same : (x : Range) → range_below (bare l R.code) x ≡ range_below R x
  unfolding range_below
  range_same x = rw s.regs

  bounded_same : (o : ℕ) → bounded (bare l R.code) o ≡ bounded R o
  unfolding bounded operands_below
  bounded_same o = rw (all_same (roles (row_at R.code o)) (operands_at R.code o), range_same (registers_at R.code o))

  bare_same : exam1718 (bare l R.code) ≡ exam1718 R
  unfolding exam1718
  bare_same =
      ap (λ (f : ℕ → ℕ). first_at f R.code 0 0)
      (fun_ext (λ o. ap (λ (b : Bool). first (refuse 17 b) (refuse 18 (follows R.code o))) (bounded_same o)))

-- the words that the code reads, and two that it counts
abbrev pub limits_at : List ℕ → ℕ → ℕ → ℕ → List ℕ
limits_at recs r p t = 65536 ∷ record_word recs r 2 ∷ record_word recs r 10 ∷ record_word recs r 12 ∷ record_word recs r 3 ∷ p ∷ t ∷ []

-- rows of a part of a table are rows of the table
rows_same : {R : Type 0} (f g : ℕ → R) (a b n : ℕ) → ((i : ℕ) → i < n → f (a + i) ≡ g (b + i)) → rows_from f a n ≡ rows_from g b n
unfolding rows_from
rows_same f g a b zero e = refl
rows_same {R} f g a b (suc n) e =
    let u : a + 0 ≡ a = omega arith in
    let v : b + 0 ≡ b = omega arith in
    let x : f a ≡ g b = rw (u, v) at (e 0 (omega arith)) in
    let y : rows_from f (suc a) n ≡ rows_from g (suc b) n = rows_same f g (suc a) (suc b) n (λ i h.
    let p : suc a + i ≡ a + suc i = omega arith in
    let q : suc b + i ≡ b + suc i = omega arith in
    rw (p, q) (e (suc i) (omega arith))) in
    rw (x, y)

module _ (t : List ℕ) (s e : ℕ) where
  slice_length : s ≤ e → e ≤ length t → length (slice_range t s e) ≡ e - s
  slice_length h l = length-take-le (e - s) (drop s t) (rw length-drop (omega arith))

  slice_word : (k : ℕ) → k < e - s → get_or (slice_range t s e) k 0 ≡ get_or t (s + k) 0
  slice_word k h = get_or-take (e - s) (drop s t) k 0 h ∙ get_or-drop s t k 0

-- the parts of the handler table and the line table that a record's words name
part_targets : (hs : List ℕ) (h n : ℕ) → (h + n) * 4 ≤ length hs → targets_of (slice_range hs (h * 4) ((h + n) * 4)) ≡ targets hs h n
part_targets hs h n b =
    let e : length (slice_range hs (h * 4) ((h + n) * 4)) / 4 ≡ n = omega (arith, slice_length hs (h * 4) ((h + n) * 4) (omega arith) b) in
    rw e (rows_same (target_at (slice_range hs (h * 4) ((h + n) * 4))) (target_at hs) 0 h n (λ i l.
    let p : h * 4 + (i * 4 + 3) ≡ (h + i) * 4 + 3 = omega arith in
    rw zero-add (slice_word hs (h * 4) ((h + n) * 4) (i * 4 + 3) (omega arith) ∙ rw p)))

part_entries : (ls : List ℕ) (i n : ℕ) → (i + n) * 2 ≤ length ls → map_of (slice_range ls (i * 2) ((i + n) * 2)) ≡ entries ls i n
part_entries ls i n b =
    let e : length (slice_range ls (i * 2) ((i + n) * 2)) / 2 ≡ n = omega (arith, slice_length ls (i * 2) ((i + n) * 2) (omega arith) b) in
    rw e (rows_same (line_row_at (slice_range ls (i * 2) ((i + n) * 2))) (line_row_at ls) 0 i n (λ k l.
    let p : i * 2 + k * 2 ≡ (i + k) * 2 = omega arith in
    let q : i * 2 + (k * 2 + 1) ≡ (i + k) * 2 + 1 = omega arith in
    rw (zero-add, slice_word ls (i * 2) ((i + n) * 2) (k * 2) (omega arith), slice_word ls (i * 2) ((i + n) * 2) (k * 2 + 1) (omega arith), p, q)))

module _ (q f recs hs ls : List ℕ) (r : ℕ) (fits : RowFits f recs hs ls r) where
  pub record_is : (a e h hn l ln n p t : ℕ) → a ≡ record_word recs r 6 → n ≡ record_word recs r 5 → e ≡ a + n
      → h ≡ record_word recs r 7 → hn ≡ record_word recs r 8 → l ≡ record_word recs r 17 → ln ≡ record_word recs r 18
      → examine_part (limits_at recs r p t) q (take (e - a) (drop a f)) (slice_range hs (h * 4) ((h + hn) * 4)) (slice_range ls (l * 2) ((l + ln) * 2))
      ≡ examine_record q (record_at f recs hs ls r)
  unfolding examine_record exam19 exam20
  record_is a e h hn l ln n p t ea en ee eh ehn el eln =
      let d : e - a ≡ record_word recs r 5 = omega arith in
      let s : Same (limits_at recs r p t) (record_at f recs hs ls r) = record { regs = refl; constants = refl; symbols = refl; children = refl } in
      rw (
        first_assoc,
        first_assoc,
        d,
        ea,
        eh,
        ehn,
        el,
        eln,
        bare_same (limits_at recs r p t) (record_at f recs hs ls r) s,
        part_targets hs (record_word recs r 7) (record_word recs r 8) fits.handling,
        part_entries ls (record_word recs r 17) (record_word recs r 18) fits.lined,
      )

-- 15, at the record i with p trees to go
abbrev rlen_at : List ℕ → ℕ → ℕ
rlen_at recs r = record_word recs r 3

pub record Laid (recs : List ℕ) (n i p : ℕ) : Type 0 where
  pub inside : i ≤ n
  pub bounded : p ≤ 1 + 4294967296 * i
  pub so : whole (rlens_at recs n) ≡ layout p (rows_from (rlen_at recs) i (n - i))

layout_less : (p x : ℕ) (l : List ℕ) → (p ≡ 0 → ⊥) → layout p (x ∷ l) ≡ layout (p - 1 + x) l
unfolding layout
layout_less zero x l z = absurd (z refl)
layout_less (suc p) x l z = let e : suc p - 1 ≡ p = omega arith in rw e

layout_none : (x : ℕ) (l : List ℕ) (p : ℕ) → p ≡ 0 → false ≡ layout p (x ∷ l)
unfolding layout
layout_none x l zero e = refl
layout_none x l (suc p) e = absurd (omega arith)

layout_nil : (p : ℕ) → eqb p 0 ≡ layout p []
unfolding layout
layout_nil zero = refl
layout_nil (suc p) = ne_eqb (suc p) 0 (λ e. omega arith)

module _ {recs : List ℕ} {n : ℕ} where
  module _ {i p : ℕ} (h : i < n) (g : Laid recs n i p) where
    pub laid_turn : {x : ℕ} → (p ≡ 0 → ⊥) → x ≡ rlen_at recs i → x < 4294967296 → Laid recs n (i + 1) (p - 1 + x)
    laid_turn {x} z e b = record {
      inside = omega arith;
      bounded = omega (arith, g.bounded);
      so = g.so ∙ rw (rows_turn (rlen_at recs) i n h, ← e) (layout_less p x (rows_from (rlen_at recs) (i + 1) (n - (i + 1))) z);
    }

    pub laid_bad : p ≡ 0 → false ≡ whole (rlens_at recs n)
    laid_bad e = layout_none (rlen_at recs i) (rows_from (rlen_at recs) (i + 1) (n - (i + 1))) p e ∙ sym (g.so ∙ rw (rows_turn (rlen_at recs) i n h))

  pub laid_end : {i p : ℕ} → n ≤ i → Laid recs n i p → eqb p 0 ≡ whole (rlens_at recs n)
  laid_end {i} {p} h g = layout_nil p ∙ sym (g.so ∙ rw (rows_end (rlen_at recs) i n h))

-- a refusal has a number
pub number_some : (e : Refusal) → number e ≡ 0 → ⊥
number_some e = search rules

-- the records in turn, at the record r
pub record Passed (q f recs hs ls : List ℕ) (from to r : ℕ) : Type 0 where
  pub so : examine_all q (records_between f recs hs ls from to) ≡ examine_all q (records_between f recs hs ls r to)

module _ {q f recs hs ls : List ℕ} {from to : ℕ} where
  module _ {r : ℕ} (h : r < to) (g : Passed q f recs hs ls from to r) where
    turned : examine_all q (records_between f recs hs ls from to)
        ≡ first (examine_record q (record_at f recs hs ls r)) (examine_all q (records_between f recs hs ls (r + 1) to))
    unfolding examine_all
    turned = g.so ∙ rw (rows_turn (record_at f recs hs ls) r to h)

    pub passed_turn : 0 ≡ examine_record q (record_at f recs hs ls r) → Passed q f recs hs ls from to (r + 1)
    passed_turn e = record { so = turned ∙ first_none (examine_record q (record_at f recs hs ls r)) _ (sym e) }

    pub passed_stop : {x : ℕ} → x ≡ examine_record q (record_at f recs hs ls r) → (x ≡ 0 → ⊥) → x ≡ examine_all q (records_between f recs hs ls from to)
    passed_stop {x} e z = rw (turned, ← e) (first_some x _ z)

  pub passed_end : {r : ℕ} → to ≤ r → Passed q f recs hs ls from to r → 0 ≡ examine_all q (records_between f recs hs ls from to)
  unfolding examine_all
  passed_end {r} h g = sym (g.so ∙ rw (rows_end (record_at f recs hs ls) r to h))

-- by a list, and by the list in full
pub full_same : {q : List ℕ} {w : List Bool} (p : List Record) → Written q w → examine_all (bytes_of w) p ≡ examine_all q p
full_same {q} {w} p g = same_permits (bytes_of w) q (written_permits g) p

-- 15 before the records
module _ (f recs hs ls : List ℕ) (n : ℕ) where
  pub rlens_are : rlens (pattern_at f recs hs ls n) ≡ rlens_at recs n
  rlens_are = rows_from_map (record_at f recs hs ls) (λ (R : Record). R.rlen) 0 n

  pub tree_bad : (q : List ℕ) → whole (rlens_at recs n) ≡ false → 15 ≡ examine_pattern q (pattern_at f recs hs ls n)
  unfolding examine_pattern
  tree_bad q e = rw (rlens_are, e)

  pub tree_good : (q : List ℕ) → whole (rlens_at recs n) ≡ true → examine_all q (records_between f recs hs ls 0 n) ≡ examine_pattern q (pattern_at f recs hs ls n)
  unfolding examine_pattern
  tree_good q e = rw (rlens_are, e) (ap (examine_all q) (sym (rows_start (record_at f recs hs ls) 0 n n (omega arith))))
