-- 18 at an instruction: the flags, where a jump lands, and what a flag says of 17 and 18.
-- Assumes nothing.
use Prim.Native.Nat.{ℕ, ◌+◌, ◌-◌, ◌*◌, ◌≤◌, ◌<◌}
use native.Mathlib.Omega.{arith}
use mathlib.Core.Path.{◌≡◌, refl, sym, ap, ◌∙◌, subst}
use mathlib.Core.Bool.{Bool, true, false, cond}
use mathlib.Core.List.{List}
use lib.Dec.{T, ltb}
use lib.ListN.{length}
use borrow.Author.Tests.{ltb-true, ltb-false, le-leb, lt-leb, lt-ltb}
use Rattle.format.specs.Bytes.{byte, refuse, first}
use Rattle.format.specs.Insn.{Flow, on, ends, jumps, may, flow, row_at, next, signed16, jump, target}
use Rattle.format.specs.Pattern.{Record, begins, lands}
use Rattle.format.specs.Exam.{leads, has_target, bounded, follows, at1718}
use Rattle.runs.proofs.Begins.{reach_inside, begins_next}
use Rattle.runs.proofs.Jumps.{jump_wide, operand}
use Rattle.opcode.specs.Digits.{flag_inside, flag_last}
use Rattle.flags.specs.Flags.{bare, flag_at, judged, Marked, Flagged, jump_from, lands_from}

-- the flags

pub begins_out : (c : List ℕ) (t : ℕ) → length c ≤ t → false ≡ begins c t
begins_out c t h = go (begins c t) refl
  where
    go : (b : Bool) → begins c t ≡ b → false ≡ b
    go false e = refl
    go true e = absurd (omega (arith, reach_inside c 0 t (subst T (sym e) tt)))

flow_some : (n : Bool) (w : Flow) → 0 < cond n (flag_inside w) (flag_last w)
flow_some true on = omega arith
flow_some true ends = omega arith
flow_some true jumps = omega arith
flow_some true may = omega arith
flow_some false on = omega arith
flow_some false ends = omega arith
flow_some false jumps = omega arith
flow_some false may = omega arith

flag_some : (R : Record) (o : ℕ) → 0 < flag_at R o
unfolding flag_at
flag_some R o = go (bounded R o)
  where
    go : (p : Bool) → 0 < cond p (cond (ltb (next R.code o) (length R.code)) (flag_inside (flow (row_at R.code o))) (flag_last (flow (row_at R.code o)))) 2
    go true = flow_some (ltb (next R.code o) (length R.code)) (flow (row_at R.code o))
    go false = omega arith

pub flags_mark : {l c flags : List ℕ} → Flagged l c flags → Marked c flags
flags_mark {l} {c} f = record { room = f.room; starts = λ o h. ap (ltb 0) (f.told o h) ∙ go o (begins c o) }
  where
    go : (o : ℕ) (b : Bool) → ltb 0 (cond b (flag_at (bare l c) o) 0) ≡ b
    go o true = lt-ltb 0 (flag_at (bare l c) o) (flag_some (bare l c) o)
    go o false = refl

-- a jump that ends at n: x and y are the bytes before n, t is what they add
module _ (c : List ℕ) {n x y t : ℕ} (w : 2 ≤ n) (ex : x ≡ byte c (n - 2)) (ey : y ≡ byte c (n - 1)) (et : t ≡ signed16 (x * 256 + y)) where
  jump_is : jump_from c n ≡ n + t
  jump_is = let e : n - 2 + 1 ≡ n - 1 = omega arith in rw (e, ← ex, ← ey, et)

  pub lands_before : n + t < 65536 → false ≡ lands_from c n
  unfolding lands_from
  lands_before h = rw (jump_is, lt-leb 65536 (n + t) h)

  pub lands_there : 65536 ≤ n + t → begins c (n + t - 65536) ≡ lands_from c n
  unfolding lands_from
  lands_there h = rw (jump_is, le-leb 65536 (n + t) h)

lands_are : (c : List ℕ) (o : ℕ) → T (has_target (flow (row_at c o))) → lands c o ≡ lands_from c (next c o)
unfolding lands_from lands jump target
lands_are c o j = rw (operand c o j)

-- at a place where an instruction begins, one begins at the next offset if that is inside
next_begins : (c : List ℕ) (o : ℕ) → begins c o ≡ true → begins c (next c o) ≡ ltb (next c o) (length c)
next_begins c o e = go (ltb (next c o) (length c)) refl
  where
    so : (b : Bool) → T b → b ≡ true
    so true t = refl
    so false t = absurd t

    go : (b : Bool) → ltb (next c o) (length c) ≡ b → begins c (next c o) ≡ b
    go true l = so (begins c (next c o)) (begins_next c o (subst T (sym e) tt) (ltb-true (next c o) (length c) l))
    go false l = sym (begins_out c (next c o) (ltb-false (next c o) (length c) l))

leads_judged : (w : Flow) (n t u : Bool) → (T (has_target w) → t ≡ u) → refuse 18 (leads w n t) ≡ judged (cond n (flag_inside w) (flag_last w)) u
unfolding judged
leads_judged on true t u e = refl
leads_judged on false t u e = refl
leads_judged ends true t u e = refl
leads_judged ends false t u e = refl
leads_judged jumps true t u e = ap (refuse 18) (e tt)
leads_judged jumps false t u e = ap (refuse 18) (e tt)
leads_judged may true t u e = ap (refuse 18) (e tt)
leads_judged may false t u e = refl

-- a flag of 3 is that of a jump
flow_jumps : (n : Bool) (w : Flow) → cond n (flag_inside w) (flag_last w) ≡ 3 → T (has_target w)
flow_jumps true on e = absurd (omega arith)
flow_jumps true ends e = absurd (omega arith)
flow_jumps true jumps e = tt
flow_jumps true may e = tt
flow_jumps false on e = absurd (omega arith)
flow_jumps false ends e = absurd (omega arith)
flow_jumps false jumps e = tt
flow_jumps false may e = absurd (omega arith)

pub flag_wide : (R : Record) (o : ℕ) → flag_at R o ≡ 3 → o + 3 ≤ next R.code o
unfolding flag_at
flag_wide R o e = jump_wide R.code o (go (bounded R o) e)
  where
    go : (p : Bool)
        → cond p (cond (ltb (next R.code o) (length R.code)) (flag_inside (flow (row_at R.code o))) (flag_last (flow (row_at R.code o)))) 2 ≡ 3
        → T (has_target (flow (row_at R.code o)))
    go true q = flow_jumps (ltb (next R.code o) (length R.code)) (flow (row_at R.code o)) q
    go false q = absurd (omega arith)

pub judged_is : (R : Record) (o : ℕ) → begins R.code o ≡ true → at1718 R o ≡ judged (flag_at R o) (lands_from R.code (next R.code o))
unfolding flag_at judged follows
judged_is R o b = go (bounded R o)
  where
    c : List ℕ
    c = R.code

    go : (p : Bool) → first (refuse 17 p) (refuse 18 (follows c o))
        ≡ judged (cond p (cond (ltb (next c o) (length c)) (flag_inside (flow (row_at c o))) (flag_last (flow (row_at c o)))) 2) (lands_from c (next c o))
    go false = refl
    go true = rw (next_begins c o b) (leads_judged (flow (row_at c o)) (ltb (next c o) (length c)) (lands c o) (lands_from c (next c o)) (lands_are c o))
