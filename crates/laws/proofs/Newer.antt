-- Request c): the roles of GETIDX0, SSEND0, SEND0, TDEF and SDEF, what 17 tests at them, and the children that are entered at TDEF and SDEF.
-- Assumes nothing.
use Prim.Native.Nat.{ℕ, ◌<◌}
use native.Mathlib.Omega.{arith}
use mathlib.Core.Path.{◌≡◌, refl, ◌∙◌}
use mathlib.Core.Logic.{◌⊎◌, ⊎_elim}
use mathlib.Core.Bool.{Bool, true, false, ◌&&◌, cond}
use mathlib.Core.List.{List, [], ◌∷◌, map}
use lib.Dec.{T, ltb}
use lib.Ieee.Fits.{and_i}
use lib.ListN.{length, get_or}
use Rattle.format.specs.Insn.{Role, reg, sym as symbol, child, plain, OpCode, GETIDX0, MATCHERR, SSEND0, SEND0, BLKCALL, ADDILV, SUBILV, METHOD, TDEF, SDEF}
use Rattle.format.specs.Insn.{number, Kind, BB, BBB, Row, name, kind, roles, table, row, operands, opcode, row_at, operands_at, next}
use Rattle.format.specs.Rules.{among, second_role01, roles_with}
use Rattle.format.specs.Registers.{own, comments, form}
use Rattle.format.specs.Tree.{child_of}
use Rattle.format.specs.Pattern.{Record, Pattern, rec_at, rlens}
use Rattle.format.specs.Exam.{Below, below, all_below, operands_below, bounded}
use Rattle.format.specs.Run.{enter, Frame, frame, code_of, child_operand, into, move, one_step}
use Rattle.format.specs.Claim.{FrameHolds}
use Rattle.format.proofs.Table.{both}
use Rattle.laws.proofs.Registers.{arg, and_true, as_before}

abbrev roles_of : OpCode → List Role
roles_of o = roles (row (number o))

-- "GETIDX0's second operand is a register. In SSEND0 and SEND0 the second is a symbol. In TDEF and SDEF the second is a symbol and the third a child.
-- The other opcodes without a comment keep paper 01's roles."
pub the_five : (roles_of GETIDX0 ≡ reg ∷ reg ∷ [])
    × (roles_of SSEND0 ≡ reg ∷ symbol ∷ [])
    × (roles_of SEND0 ≡ reg ∷ symbol ∷ [])
    × (roles_of TDEF ≡ reg ∷ symbol ∷ child ∷ [])
    × (roles_of SDEF ≡ reg ∷ symbol ∷ child ∷ [])
unfolding row table
the_five = (refl, refl, refl, refl, refl)

pub the_others : (roles_of MATCHERR ≡ reg ∷ [])
    × (roles_of BLKCALL ≡ reg ∷ plain ∷ [])
    × (roles_of ADDILV ≡ reg ∷ plain ∷ plain ∷ [])
    × (roles_of SUBILV ≡ reg ∷ plain ∷ plain ∷ [])
unfolding row table
the_others = (refl, refl, refl, refl)

-- By paper 01 the first operand alone of the five has a role, and every other opcode has the roles that it has here: one computed test of the table.
abbrev newer : OpCode → Bool
newer o = among (GETIDX0 ∷ SSEND0 ∷ SEND0 ∷ TDEF ∷ SDEF ∷ []) o

abbrev first_alone : List Role → List Role
first_alone [] = []
first_alone (x ∷ xs) = x ∷ map (λ (y : Role). plain) xs

abbrev pub earlier : Row → List Role
earlier r = cond (newer (name r)) (first_alone (roles r)) (roles r)

pub as_paper_01 : map (λ (r : Row). roles_with (second_role01 (name r)) plain (name r) (kind r)) table ≡ map earlier table
unfolding table
as_paper_01 = refl

-- so an instruction that does not meet 17 does not meet it by those roles either
plains_below : (r : Record) (xs : List Role) (vs : List ℕ) → T (all_below r (map (λ (y : Role). plain) xs) vs)
unfolding all_below below
plains_below r [] vs = tt
plains_below r (x ∷ xs) [] = tt
plains_below r (x ∷ xs) (v ∷ vs) = plains_below r xs vs

first_below : (r : Record) (xs : List Role) (vs : List ℕ) → T (all_below r xs vs) → T (all_below r (first_alone xs) vs)
unfolding all_below
first_below r [] vs t = tt
first_below r (x ∷ xs) [] t = tt
first_below r (x ∷ xs) (v ∷ vs) t = and_i (below r x v) _ (search both) (plains_below r xs vs)

pub passed_before : (r : Record) (o : ℕ) → T (bounded r o) → T (all_below r (earlier (row_at r.code o)) (operands_at r.code o))
unfolding bounded operands_below
passed_before r o t = go (newer (name (row_at r.code o)))
  where
    xs : List Role
    xs = roles (row_at r.code o)

    go : (b : Bool) → T (all_below r (cond b (first_alone xs) xs) (operands_at r.code o))
    go true = first_below r xs (operands_at r.code o) (search both)
    go false = search both

-- the instruction at o is one of these
abbrev pub IsSend0 : List ℕ → ℕ → Type 0
IsSend0 c o = (opcode c o ≡ number SSEND0) ⊎ (opcode c o ≡ number SEND0)

abbrev pub IsDef : List ℕ → ℕ → Type 0
IsDef c o = (opcode c o ≡ number TDEF) ⊎ (opcode c o ≡ number SDEF)

record Shaped (c : List ℕ) (o : ℕ) (k : Kind) (xs : List Role) : Type 0 where
  kind_is : kind (row_at c o) ≡ k
  roles_are : roles (row_at c o) ≡ xs
  form_is : form (name (row_at c o)) ≡ own

shape : (c : List ℕ) (o b : ℕ) {k : Kind} {xs : List Role} → opcode c o ≡ b → kind (row b) ≡ k → roles (row b) ≡ xs → form (name (row b)) ≡ own
    → Shaped c o k xs
shape c o b e q p f = record { kind_is = rw e q; roles_are = rw e p; form_is = rw e f }

getidx0_shape : (c : List ℕ) (o : ℕ) → opcode c o ≡ number GETIDX0 → Shaped c o BB (reg ∷ reg ∷ [])
unfolding row table comments form
getidx0_shape c o e = shape c o (number GETIDX0) e refl refl refl

send0_shape : (c : List ℕ) (o : ℕ) → IsSend0 c o → Shaped c o BB (reg ∷ symbol ∷ [])
unfolding row table comments form
send0_shape c o i = ⊎_elim (λ e. shape c o (number SSEND0) e refl refl refl) (λ e. shape c o (number SEND0) e refl refl refl) i

def_shape : (c : List ℕ) (o : ℕ) → IsDef c o → Shaped c o BBB (reg ∷ symbol ∷ child ∷ [])
unfolding row table comments form
def_shape c o i = ⊎_elim (λ e. shape c o (number TDEF) e refl refl refl) (λ e. shape c o (number SDEF) e refl refl refl) i

-- "Refusal 17 .. cover these operands and children": what it tests there
module _ (r : Record) (o : ℕ) where
  pub getidx0_tests : opcode r.code o ≡ number GETIDX0
      → bounded r o ≡ (ltb (arg r.code o 0) r.nregs && ltb (arg r.code o 1) r.nregs)
  unfolding operands_below all_below below operands
  getidx0_tests e =
      let s = getidx0_shape r.code o e in
      let k = s.kind_is in
      let q = s.roles_are in
      as_before r o s.form_is ∙ rw (k, q, and_true)

  pub send0_tests : IsSend0 r.code o → bounded r o ≡ (ltb (arg r.code o 0) r.nregs && ltb (arg r.code o 1) r.nsyms)
  unfolding operands_below all_below below operands
  send0_tests i =
      let s = send0_shape r.code o i in
      let k = s.kind_is in
      let q = s.roles_are in
      as_before r o s.form_is ∙ rw (k, q, and_true)

  pub def_tests : IsDef r.code o
      → bounded r o
      ≡ (ltb (arg r.code o 0) r.nregs && (ltb (arg r.code o 1) r.nsyms && ltb (arg r.code o 2) r.rlen))
  unfolding operands_below all_below below operands
  def_tests i =
      let s = def_shape r.code o i in
      let k = s.kind_is in
      let q = s.roles_are in
      as_before r o s.form_is ∙ rw (k, q, and_true)

  -- "TDEF and SDEF can be entered like METHOD": the child is the third operand, where it is METHOD's second
  pub enter_def : IsDef r.code o → move r o enter ≡ into (arg r.code o 2) (next r.code o)
  unfolding move child_operand operands
  enter_def i =
      let s = def_shape r.code o i in
      let k = s.kind_is in
      let q = s.roles_are in
      rw (k, q)

  pub enter_method : opcode r.code o ≡ number METHOD → move r o enter ≡ into (arg r.code o 1) (next r.code o)
  unfolding move child_operand operands row table
  enter_method m = rw m

-- so a run stands at the start of that child, over the frame that it left
pub def_entered : (p : Pattern) (f : Frame) (under : List Frame) → IsDef (code_of p f) f.at
    → one_step p (f ∷ under) enter
    ≡ frame (child_of (rlens p) f.rec (arg (code_of p f) f.at 2)) 0 ∷ frame f.rec (next (code_of p f) f.at) ∷ under
unfolding one_step
def_entered p f under i = rw (enter_def (rec_at p f.rec) f.at i)

-- "and the run guarantee": so in every frame of a run, by what demand 3 says of frames
module _ {q : List ℕ} {p : Pattern} {f : Frame} (h : FrameHolds q p f) where
  at_operand : {k : Kind} {xs : List Role} → Shaped (code_of p f) f.at k xs → (i : ℕ) → i < length xs
      → Below (rec_at p f.rec) (get_or xs i plain) (arg (code_of p f) f.at i)
  at_operand s i l = let e = s.roles_are in rw e at (h.operands i) l

  pub getidx0_frame : opcode (code_of p f) f.at ≡ number GETIDX0 → arg (code_of p f) f.at 1 < (rec_at p f.rec).nregs
  getidx0_frame e = at_operand (getidx0_shape (code_of p f) f.at e) 1 (omega arith)

  pub send0_frame : IsSend0 (code_of p f) f.at → arg (code_of p f) f.at 1 < (rec_at p f.rec).nsyms
  send0_frame i = at_operand (send0_shape (code_of p f) f.at i) 1 (omega arith)

  pub def_frame : IsDef (code_of p f) f.at
      → (arg (code_of p f) f.at 1 < (rec_at p f.rec).nsyms) × (arg (code_of p f) f.at 2 < (rec_at p f.rec).rlen)
  def_frame i = let s = def_shape (code_of p f) f.at i in (at_operand s 1 (omega arith), at_operand s 2 (omega arith))
