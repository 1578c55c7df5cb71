-- Request b): no instruction begins at the opcode behind a prefix that begins one, so a jump there meets 18 and a handler there 19.
-- Assumes nothing.
use Prim.Native.Nat.{ℕ, ◌+◌, ◌<◌}
use native.Mathlib.Omega.{arith}
use mathlib.Core.Path.{◌≡◌}
use mathlib.Core.Logic.{inr}
use mathlib.Core.Bool.{Bool, true, false, ◌&&◌, not}
use mathlib.Core.List.{List}
use lib.Dec.{T, leb}
use lib.ListN.{get_or}
use Rattle.format.specs.Bytes.{byte}
use Rattle.format.specs.Insn.{flow, prefix, lead, row_at, jump, target}
use Rattle.format.specs.Pattern.{Record, Pattern, clen, begins, lands}
use Rattle.format.specs.Exam.{has_target, Bad18, Bad19}
use Rattle.format.specs.Run.{Frame, code_of}
use Rattle.format.specs.Claim.{FrameHolds}
use Rattle.runs.proofs.Next.{next_at}
use Rattle.runs.proofs.Begins.{begins_between, begins_iff}

-- a prefix that begins an instruction at o
pub record Prefixed (c : List ℕ) (o : ℕ) : Type 0 where
  pub starts : T (begins c o)
  pub is_prefix : prefix (byte c o) ≡ true

lead_one : (b : ℕ) → prefix b ≡ true → lead b ≡ 1
lead_one b e = rw e

-- "The instruction then begins at its prefix": none begins at the opcode behind it
pub none_behind : {c : List ℕ} {o : ℕ} → Prefixed c o → begins c (o + 1) ≡ false
none_behind {c} {o} p = begins_between c o (o + 1) p.starts (omega arith) (omega (arith, next_at c o, lead_one (byte c o) p.is_prefix))

-- "and a jump to the opcode behind it meets 18"
pub jump_behind : (r : Record) (o q : ℕ) → T (begins r.code o) → T (has_target (flow (row_at r.code o))) → Prefixed r.code q
    → target r.code o ≡ q + 1 → Bad18 r
unfolding lands
jump_behind r o q t j p e =
    let n : begins r.code (target r.code o) ≡ false = rw e (none_behind p) in
    record { at = o; starts = t; lost = inr (j, rw n (off (leb 65536 (jump r.code o)))) }
  where
    off : (b : Bool) → T (not (b && false))
    off true = tt
    off false = tt

-- a handler's target there meets 19
pub handler_behind : (r : Record) (h q : ℕ) → h < clen r → Prefixed r.code q → get_or r.handlers h 0 ≡ q + 1 → Bad19 r
handler_behind r h q g p e = record { h = h; given = g; none_begins = rw (e, none_behind p) tt }

-- and no frame of a run stands there
pub frame_behind : {l : List ℕ} {p : Pattern} {f : Frame} → FrameHolds l p f → (q : ℕ) → Prefixed (code_of p f) q → f.at ≡ q + 1 → ⊥
frame_behind {l} {p} {f} h q b e =
    let c = code_of p f in
    let t : T (begins c f.at) = (begins_iff c f.at).1 h.starts in
    let n : begins c f.at ≡ false = rw e (none_behind b) in
    rw n at t
