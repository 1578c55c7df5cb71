-- What a packed number is at its first byte.
-- Assumes nothing.
use Rattle.std.proofs.Common.{◌≡◌, ℕ, suc, ◌+◌, ◌-◌, ◌*◌, ◌%◌, ◌<◌, ◌≤◌, List, length, arith, le-ltb, lt-ltb}
use Rattle.format.specs.Bytes.{ok, refused, bind, step, byte}
use Rattle.format.specs.Packed.{wrap, packed_from}

module _ (s : List ℕ) (left at : ℕ) where
  pub packed_none : left ≡ 0 → packed_from s left at ≡ refused 12
  unfolding packed_from
  packed_none e = rw e

  pub packed_short : ¬ (left ≡ 0) → length s ≤ at → packed_from s left at ≡ refused 7
  unfolding packed_from
  packed_short ne h = let e : left ≡ suc (left - 1) = omega arith in rw (e, le-ltb at (length s) h)

  pub packed_last : ¬ (left ≡ 0) → at < length s → byte s at < 128 → packed_from s left at ≡ ok (step (byte s at) (at + 1))
  unfolding packed_from
  packed_last ne h b = let e : left ≡ suc (left - 1) = omega arith in rw (e, lt-ltb at (length s) h, lt-ltb (byte s at) 128 b)

  pub packed_more : ¬ (left ≡ 0) → at < length s → 128 ≤ byte s at
      → packed_from s left at ≡ bind (packed_from s (left - 1) (at + 1)) (λ r. ok (step (wrap (byte s at % 128 + 128 * r.it)) r.next))
  unfolding packed_from
  packed_more ne h b = more (left - 1) (omega arith)
    where
      more : (l : ℕ) → left ≡ suc l → packed_from s left at ≡ bind (packed_from s l (at + 1)) (λ r. ok (step (wrap (byte s at % 128 + 128 * r.it)) r.next))
      more l z = rw (z, lt-ltb at (length s) h, le-ltb (byte s at) 128 b)
