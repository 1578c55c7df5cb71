-- Request d): eight-byte integers high byte first, pool strings with zero bytes inside, and texts that keep their rule.
-- Assumes nothing.
use Prim.Native.Nat.{ℕ, ◌+◌, ◌-◌}
use native.Mathlib.Omega.{arith}
use mathlib.Core.Path.{◌≡◌, refl, ap, ◌∙◌}
use mathlib.Core.Logic.{◌↔◌, ⊎_elim}
use mathlib.Core.Bool.{Bool, true, false, cond}
use mathlib.Core.List.{List, [], ◌∷◌}
use lib.ListN.{length}
use borrow.Author.Tests.{le-leb, eq-eqb, ne_eqb}
use Rattle.format.specs.Bytes.{Answer, ok, refused, bind, Step, has, byte, no_zero, two_at, eight_at, u16_at, u64_at, le64_at, signed64, int64_at}
use Rattle.format.specs.Rows.{TextRow}
use Rattle.format.specs.Irep.{pool_text, symbol_text, bytes, big_integer, pool_value, pool_entry}
use Rattle.format.proofs.Bytes.{eight_u64}
use Rattle.format.proofs.Answers.{ok_refused, ok_same, Refuses, weaker, tested, chained}
use Rattle.format.proofs.Texts.{NoZero, no_zero_lem, no_zero_is}
use Rattle.format.proofs.Pool.{NotEnded, string_refuses, IsString, value_cases}

-- the eight bytes at a place, the last first
abbrev pub turned : List ℕ → ℕ → List ℕ
turned f at = byte f (at + 7) ∷ byte f (at + 6) ∷ byte f (at + 5) ∷ byte f (at + 4) ∷ byte f (at + 3) ∷ byte f (at + 2) ∷ byte f (at + 1) ∷ byte f at ∷ []

-- "Eight-byte pool integers are now read high byte first": low byte first they are what the same bytes are from the last to the first.
pub int64_turned : (f : List ℕ) (at : ℕ) → int64_at f at ≡ signed64 (le64_at (turned f at) 0)
int64_turned f at = ap signed64 (eight_u64 f at ∙ turns)
  where
    turns : u64_at (eight_at f at) 0 ≡ le64_at (turned f at) 0
    turns = omega arith

-- "the last byte must still be zero": a string meets 9 exactly where it is not
module _ (f : List ℕ) (base at : ℕ) where
  not_ended : NotEnded f at → pool_text f base at ≡ refused 9
  unfolding pool_text
  not_ended x =
      let n = u16_at f at in
      let h = x.there in
      rw (le-leb 2 (length f - at) (omega arith), le-leb (n + 1) (length f - (at + 2)) (omega arith), ne_eqb (byte f (at + 2 + n)) 0 x.last)

  pub string_9 : (pool_text f base at ≡ refused 9) ↔ NotEnded f at
  string_9 = (λ e. rw e at (string_refuses f base at) refl, not_ended)

-- an entry that is a string without a zero behind it
pub record EntryNotEnded (f : List ℕ) (at : ℕ) : Type 0 where
  pub kind : IsString (byte f at)
  pub string : NotEnded f (at + 1)

-- "Refusal 9 no longer meets an inner zero in the pool": an entry meets it exactly where it is such a string
module _ (f : List ℕ) (base at : ℕ) where
  abbrev Nine : {A : Type 0} → Answer A → Type 0
  Nine x = Refuses (λ e. e ≡ 9 → EntryNotEnded f at) x

  value_refuses : Nine (pool_value f base (byte f at) (at + 1))
  unfolding big_integer
  value_refuses =
      let p = at + 1 in
      let seven : ◌≡◌ {A = ℕ} 7 9 → EntryNotEnded f at = λ q. absurd (omega arith) in
      let number : (i n : ℕ) → Nine (bytes f base i n) = λ i n. tested _ _ (has f i n) _ 7 seven (λ _. tt) in
      value_cases Nine f base (byte f at) p
      (λ z. weaker _ _ _ (pool_text f base p) (string_refuses f base p) (λ e h q. record { kind = z; string = h q }))
      (λ _. number p 4)
      (λ _. number p 8)
      (λ _. number p 8)
      (λ _. tested _ _ (has f p 1) _ 7 seven (λ _. number (p + 1) (byte f p + 1)))
      (λ q. absurd (omega arith))

  entry_refuses : Nine (pool_entry f base at)
  unfolding pool_entry
  entry_refuses =
      tested _ _ (has f at 1) _ 7 (λ e. absurd (omega arith)) (λ _. chained _ _ _ (pool_value f base (byte f at) (at + 1)) _ value_refuses (λ v _. tt))

  entry_not_ended : EntryNotEnded f at → pool_entry f base at ≡ refused 9
  unfolding pool_entry pool_value
  entry_not_ended x =
      let k = byte f at in
      let h = x.string.there in
      let a = le-leb 1 (length f - at) (omega arith) in
      let e = not_ended f base (at + 1) x.string in
      ⊎_elim (λ q. rw (a, eq-eqb k 0 q, e)) (λ q. rw (a, ne_eqb k 0 (λ z. omega arith), eq-eqb k 2 q, e)) x.kind

  pub entry_9 : (pool_entry f base at ≡ refused 9) ↔ EntryNotEnded f at
  entry_9 = (λ e. rw e at entry_refuses refl, entry_not_ended)

-- "Pool strings may have zero bytes inside": of two files of one length a string is read alike where its length and the byte behind it are the same,
-- whatever stands inside.
pub string_same : (f g : List ℕ) (base at : ℕ) → length f ≡ length g → two_at f at ≡ two_at g at
    → byte f (at + 2 + u16_at f at) ≡ byte g (at + 2 + u16_at f at) → pool_text f base at ≡ pool_text g base at
unfolding pool_text
string_same f g base at l two z =
    let a : byte f at ≡ byte g at = cc in
    let b : byte f (at + 1) ≡ byte g (at + 1) = cc in
    rw (l, z, a, b)

-- "Symbols .. keep their rule": a symbol is a string without another zero.
module _ (f : List ℕ) (base at : ℕ) (s : Step TextRow) where
  pub symbol_ok : (symbol_text f base at ≡ ok s) ↔ (pool_text f base at ≡ ok s) × NoZero f s.it.length (at + 2)
  unfolding symbol_text
  symbol_ok = (λ e. go (pool_text f base at) e, λ x. rw (x.0, no_zero_is f s.it.length (at + 2) x.1))
    where
      tail : (t : Step TextRow) (b : Bool) → no_zero f t.it.length (at + 2) ≡ b → cond b (ok t) (refused 9) ≡ ok s
          → (ok t ≡ ok s) × NoZero f s.it.length (at + 2)
      tail t true q e = let z = ok_same e in (e, rw (← z) (no_zero_lem f t.it.length (at + 2) q))
      tail t false q e = absurd (ok_refused e)

      go : (a : Answer (Step TextRow)) → bind a (λ t. cond (no_zero f t.it.length (at + 2)) (ok t) (refused 9)) ≡ ok s
          → (a ≡ ok s) × NoZero f s.it.length (at + 2)
      go (ok t) e = tail t (no_zero f t.it.length (at + 2)) refl e
      go (refused k) e = absurd (ok_refused e)

  -- so every string that paper 01's rule reads is read alike
  pub string_kept : symbol_text f base at ≡ ok s → pool_text f base at ≡ ok s
  string_kept e = (symbol_ok.0 e).0
