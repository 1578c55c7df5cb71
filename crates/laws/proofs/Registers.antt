-- Request j): the sentences on registers, what 17 tests against its words, an opcode without such a comment, and frames of runs.
-- Assumes nothing.
use Prim.Native.Nat.{ℕ, ◌+◌, ◌*◌, ◌/◌, ◌%◌, ◌≤◌, ◌<◌}
use native.Mathlib.Omega.{arith}
use mathlib.Core.Path.{◌≡◌, refl, sym, subst}
use mathlib.Core.Logic.{◌⊎◌, inl, inr, ⊎_elim, ◌↔◌}
use mathlib.Core.Bool.{Bool, true, false, ◌&&◌, not, cond}
use mathlib.Core.List.{List}
use lib.Dec.{T, eqb}
use lib.ListN.{length, get_or}
use Rattle.format.specs.Insn.{SETIDX, SSEND, SEND, ADD, ARRAY, plain, number, name, roles, table, row, opcode, row_at, operands_at}
use Rattle.format.specs.Registers.{Form, own, pair, triple, send, sendb, super, array, array2, push, post, hash, hashadd, counted, arguments, named}
use Rattle.format.specs.Registers.{Range, comments, form, Names, by_comment}
use Rattle.format.specs.Pattern.{Record, Pattern, rec_at}
use Rattle.format.specs.Exam.{Below, operands_below, range_below, bounded, HighOperand, HighRegister}
use Rattle.format.specs.Run.{Frame, code_of}
use Rattle.format.specs.Claim.{FrameHolds}
use Rattle.runs.proofs.Registers.{below_of, named_below, some_high}

-- the operands of the instruction at o, by their places among them
abbrev pub arg : List ℕ → ℕ → ℕ → ℕ
arg c o i = get_or (operands_at c o) i 0

-- "SUPER counts like SSENDB with its b for c"
pub super_like_ssendb : (a b c d : ℕ) → named super a b c ≡ named sendb a d b
super_like_ssendb a b c d = refl

-- "n is the low four bits and k the next four; n or 2k counts as one register where n or k is 15", each by itself
pub arguments_of : (n k : ℕ) → n < 16 → k < 16 → arguments (n + 16 * k) ≡ cond (eqb n 15) 1 n + cond (eqb k 15) 1 (2 * k)
arguments_of n k h g =
    let low : (n + 16 * k) % 16 ≡ n = omega arith in
    let half : (n + 16 * k) / 16 ≡ k = omega arith in
    let next : (n + 16 * k) / 16 % 16 ≡ k = rw half (omega arith) in
    let once : 1 * n ≡ n = omega arith in
    rw (low, next, once)

-- so the bits above do not count
pub bits_above : (v : ℕ) → arguments v ≡ arguments (v % 256)
bits_above v =
    let low : v % 256 % 16 ≡ v % 16 = omega arith in
    let half : v / 16 ≡ 16 * (v / 256) + v % 256 / 16 = omega arith in
    let next : v % 256 / 16 % 16 ≡ v / 16 % 16 = rw half (omega arith) in
    rw (low, next)

-- "a range that ends below its start names none"
pub none_named : (s : Range) → s.upto ≤ s.from → (x : ℕ) → s.from ≤ x → x < s.upto → ⊥
none_named s h x l g = omega arith

-- the registers of operands below 65536 do not go beyond 65535 + 2 * 65535
counted_few : (m n : ℕ) → m * n ≤ 30 → counted m n ≤ 30
counted_few m n h = go (eqb n 15)
  where
    go : (b : Bool) → cond b 1 (m * n) ≤ 30
    go true = omega arith
    go false = h

arguments_few : (v : ℕ) → arguments v ≤ 60
arguments_few v = omega (arith, counted_few 1 (v % 16) (omega arith), counted_few 2 (v / 16 % 16) (omega arith))

pub last_small : (f : Form) (a b c : ℕ) → a < 65536 → b < 65536 → c < 65536 → (named f a b c).upto ≤ 65535 + 2 * 65535 + 1
last_small own a b c x y z = omega arith
last_small pair a b c x y z = omega arith
last_small triple a b c x y z = omega arith
last_small send a b c x y z = omega (arith, arguments_few c)
last_small sendb a b c x y z = omega (arith, arguments_few c)
last_small super a b c x y z = omega (arith, arguments_few b)
last_small array a b c x y z = omega arith
last_small array2 a b c x y z = omega arith
last_small push a b c x y z = omega arith
last_small post a b c x y z = omega arith
last_small hash a b c x y z = omega arith
last_small hashadd a b c x y z = omega arith

pub and_true : (a : Bool) → (a && true) ≡ a
and_true true = refl
and_true false = refl

module _ (r : Record) (o : ℕ) where
  -- "Refusal 17 widens so": it is not met at an instruction exactly when each operand is below its count and each register named below nregs
  pub told : T (bounded r o)
      ↔ (((i : ℕ) → i < length (roles (row_at r.code o)) → Below r (get_or (roles (row_at r.code o)) i plain) (get_or (operands_at r.code o) i 0))
      × ((x : ℕ) → Names r.code o x → x < r.nregs))
  told = (λ t. (below_of r o t, named_below r o t), λ p. go p (bounded r o) refl)
    where
      go : ((i : ℕ) → i < length (roles (row_at r.code o)) → Below r (get_or (roles (row_at r.code o)) i plain) (get_or (operands_at r.code o) i 0))
          × ((x : ℕ) → Names r.code o x → x < r.nregs) → (b : Bool) → bounded r o ≡ b → T (bounded r o)
      go p true e = subst T (sym e) tt
      go p false e = absurd (none (some_high r o (subst (λ (b : Bool). T (not b)) (sym e) tt)))
        where
          none : HighOperand r o ⊎ HighRegister r o → ⊥
          none (inl h) = h.above (p.0 h.i h.given)
          none (inr h) = h.above (p.1 h.register h.named)

  -- an opcode whose comment names no further register has the earlier 17
  pub as_before : form (name (row_at r.code o)) ≡ own → bounded r o ≡ operands_below r o
  unfolding bounded range_below
  as_before e = rw e (and_true (operands_below r o))

-- "In a run of a passing file every register so named .. is below nregs": "R[a+1] of ADD, R[a+2] of SETIDX", the last of a call, and the b registers of
-- ARRAY, by what demand 3 says of frames
module _ {q : List ℕ} {p : Pattern} {f : Frame} (h : FrameHolds q p f) where
  abbrev code : List ℕ
  code = code_of p f

  abbrev nregs : ℕ
  nregs = (rec_at p f.rec).nregs

  abbrev operand : ℕ → ℕ
  operand = arg code f.at

  at_form : (g : Form) (x : ℕ) → form (name (row_at code f.at)) ≡ g → (named g (operand 0) (operand 1) (operand 2)).from ≤ x
      → x < (named g (operand 0) (operand 1) (operand 2)).upto → x < nregs
  at_form g x e l u = h.registers x (by_comment (rw e l) (rw e u))

  pub add_frame : opcode code f.at ≡ number ADD → operand 0 + 1 < nregs
  unfolding row table comments form
  add_frame e = at_form pair (operand 0 + 1) (rw e) (omega arith) (omega arith)

  pub setidx_frame : opcode code f.at ≡ number SETIDX → operand 0 + 2 < nregs
  unfolding row table comments form
  setidx_frame e = at_form triple (operand 0 + 2) (rw e) (omega arith) (omega arith)

  pub send_frame : (opcode code f.at ≡ number SSEND) ⊎ (opcode code f.at ≡ number SEND) → operand 0 + arguments (operand 2) < nregs
  unfolding row table comments form
  send_frame i = at_form send (operand 0 + arguments (operand 2)) (⊎_elim (λ e. rw e) (λ e. rw e) i) (omega arith) (omega arith)

  pub array_frame : opcode code f.at ≡ number ARRAY → (i : ℕ) → i < operand 1 → operand 0 + i < nregs
  unfolding row table comments form
  array_frame e i l = at_form array (operand 0 + i) (rw e) (omega arith) (omega arith)
