-- `flags::test_behind` meets its contract.
-- Assumes nothing.
use native.Mathlib.Omega.{arith}
use Prim.Native.Nat.{ℕ, ◌+◌, ◌<◌}
use lib.ListN.{length}
use Rattle.format.specs.Bytes.{byte}
use Rattle.opcode.proofs.Numbers.{no_size}
use Rattle.flags.proofs.Tests.{lead_none, lead_some, tested_stray, tested_unreadable, tested_whole, cut, whole, not_stray, unknown_alone}
use Rattle.flags.proofs.Tests.{stray_last, stray_again, not_again, unknown_behind, not_stray_behind, looked_behind, known_behind, next_behind}
use Rattle.flags.proofs.test_behind.Goals as goal

pub returns-then-lead-eq0 : goal.returns-then-lead-eq0
returns-then-lead-eq0 c =
    let a = c.args in
    let code = a.code.now in
    let p = lead_none (byte code a.i) c.lead.ensures c.if-lead-eq0.true in
    tested_unreadable a.limits.now.by_role code a.i (not_stray code a.i p) (unknown_alone code a.i p c.requires.i_in_bounds.1)

pub returns-then-at-code : goal.returns-then-at-code
returns-then-at-code c =
    let a = c.args in
    let code = a.code.now in
    let p = lead_some (byte code a.i) c.lead.ensures c.if-lead-eq0.false in
    tested_stray a.limits.now.by_role code a.i (stray_last code a.i p (omega (arith, c.if-at-code.true)))

pub returns-then-lead-eq0-2 : goal.returns-then-lead-eq0-2
returns-then-lead-eq0-2 c =
    let a = c.args in
    let code = a.code.now in
    let b = byte code (a.i + 1) in
    let p = lead_some (byte code a.i) c.lead.ensures c.if-lead-eq0.false in
    let h : a.i + 1 < length code = omega (arith, c.if-at-code.false, c.requires.i_in_bounds.0) in
    let q = lead_none b c.lead-then-d-eq0.ensures c.if-lead-eq0-2.true in
    tested_unreadable a.limits.now.by_role code a.i (not_again code a.i p h q)
    (unknown_behind code a.i p h (no_size b c.digits-d.ensures c.if-d-eq0.true) q)

pub returns-then-d-eq0 : goal.returns-then-d-eq0
returns-then-d-eq0 c =
    let a = c.args in
    let code = a.code.now in
    let p = lead_some (byte code a.i) c.lead.ensures c.if-lead-eq0.false in
    let h : a.i + 1 < length code = omega (arith, c.if-at-code.false, c.requires.i_in_bounds.0) in
    let q = lead_some (byte code (a.i + 1)) c.lead-then-d-eq0.ensures c.if-lead-eq0-2.false in
    tested_stray a.limits.now.by_role code a.i (stray_again code a.i p h q)

pub returns-then-code-i : goal.returns-then-code-i
returns-then-code-i c =
    let a = c.args in
    let code = a.code.now in
    let p = lead_some (byte code a.i) c.lead.ensures c.if-lead-eq0.false in
    let h : a.i + 1 < length code = omega (arith, c.if-at-code.false, c.requires.i_in_bounds.0) in
    let e = c.digits-d.ensures in
    let s = c.if-d-eq0.false in
    let n = next_behind code a.i h p e s c.size_behind-n.ensures.0 in
    tested_unreadable a.limits.now.by_role code a.i (not_stray_behind code a.i h p e s)
    (cut code a.i (known_behind code a.i h p e s) (omega (arith, n, c.if-code-i.true)))

pub flag_behind-flag-requires : goal.flag_behind-flag-requires
flag_behind-flag-requires c =
    let a = c.args in
    let code = a.code.now in
    let p = lead_some (byte code a.i) c.lead.ensures c.if-lead-eq0.false in
    let h : a.i + 1 < length code = omega (arith, c.if-at-code.false, c.requires.i_in_bounds.0) in
    let e = c.digits-d.ensures in
    let s = c.if-d-eq0.false in
    let n = next_behind code a.i h p e s c.size_behind-n.ensures.0 in
    record { looked = looked_behind code a.i h p e s; prefixed = p; next_is = n; whole = omega (arith, n, c.if-code-i.false) }

pub returns : goal.returns
returns c =
    let a = c.args in
    let code = a.code.now in
    let p = lead_some (byte code a.i) c.lead.ensures c.if-lead-eq0.false in
    let h : a.i + 1 < length code = omega (arith, c.if-at-code.false, c.requires.i_in_bounds.0) in
    let e = c.digits-d.ensures in
    let s = c.if-d-eq0.false in
    let n = next_behind code a.i h p e s c.size_behind-n.ensures.0 in
    tested_whole a.limits.now.by_role code a.i (not_stray_behind code a.i h p e s)
    (whole code a.i (known_behind code a.i h p e s) (omega (arith, n, c.if-code-i.false)))
    (omega (arith, n)) c.flag_behind-flag.ensures
