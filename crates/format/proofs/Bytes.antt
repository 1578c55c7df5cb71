-- A number of eight bytes is that of the eight by themselves.
-- Assumes nothing.
use Prim.Native.Nat.{ℕ, ◌+◌}
use native.Mathlib.Omega.{arith}
use mathlib.Core.Path.{◌≡◌}
use mathlib.Core.List.{List}
use Rattle.format.specs.Bytes.{eight_at, u64_at}

pub eight_u64 : (f : List ℕ) (at : ℕ) → u64_at f at ≡ u64_at (eight_at f at) 0
eight_u64 f at =
    let a : at + 4 + 1 ≡ at + 5 = omega arith in
    let b : at + 4 + 2 ≡ at + 6 = omega arith in
    let c : at + 4 + 3 ≡ at + 7 = omega arith in
    rw (a, b, c)
