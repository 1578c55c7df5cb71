-- A file is a list of bytes. What stands at a place of it, as a number, and what reading there answers.
-- Paper 01, 'Origin': "Figures are base ten, integers high byte first unless said."
-- Assumes nothing.
use Rattle.std.specs.Prelude.{ℕ, zero, suc, ◌+◌, ◌-◌, ◌*◌, ◌^◌, Bool, true, false, cond, ◌&&◌, ◌||◌, List, [], ◌∷◌, leb, ltb, eqb, Float, ℤ, pos, negsuc, length, get_or}
use Rattle.std.specs.Float.{binary64}
use Rattle.std.specs.Float.Ieee.{of_bits}

-- What a call answers: a value, or the number of a refusal. "A refusal answers its number alone."
pub data Answer (A : Type 0) : Type 0 where
  ok : A → Answer A
  refused : ℕ → Answer A

-- where the first answered a value, what comes next
abbrev pub bind : {A B : Type 0} → Answer A → (A → Answer B) → Answer B
bind (ok a) k = k a
bind (refused e) k = refused e

-- what is made of an answer's value, or of its number
abbrev pub on_answer : {A B : Type 0} → Answer A → (A → B) → (ℕ → B) → B
on_answer (ok a) k e = k a
on_answer (refused n) k e = e n

-- the refusal of a test that does not pass, 0 for none
abbrev pub refuse : ℕ → Bool → ℕ
refuse n true = 0
refuse n false = n

-- the first refusal of two
abbrev pub first : ℕ → ℕ → ℕ
first zero n = n
first (suc m) n = suc m

-- a number is one of a list
abbrev pub one_of : List ℕ → ℕ → Bool
one_of [] e = false
one_of (n ∷ ns) e = eqb e n || one_of ns e

-- one thing read, and the place after it
pub record Step (A : Type 0) : Type 0 where
  pub it : A
  pub next : ℕ

abbrev pub step : {A : Type 0} → A → ℕ → Step A
step a n = record { it = a; next = n }

-- n bytes are left from place `at` on
abbrev pub has : List ℕ → ℕ → ℕ → Bool
has f at n = leb n (length f - at)

-- n bytes at `at` are read as v. "7: a read .. passes the file's end"
abbrev pub reads : {A : Type 0} → List ℕ → ℕ → ℕ → A → Answer A
reads f at n v = cond (has f at n) (ok v) (refused 7)

abbrev pub byte : List ℕ → ℕ → ℕ
byte f at = get_or f at 0

-- none of the n bytes from `at` on is zero
unfoldable pub no_zero : List ℕ → ℕ → ℕ → Bool
no_zero f zero at = true
no_zero f (suc n) at = cond (eqb (byte f at) 0) false (no_zero f n (at + 1))

-- the bytes of a field of two, of four and of eight
abbrev pub two_at : List ℕ → ℕ → List ℕ
two_at f at = byte f at ∷ byte f (at + 1) ∷ []

abbrev pub four_at : List ℕ → ℕ → List ℕ
four_at f at = byte f at ∷ byte f (at + 1) ∷ byte f (at + 2) ∷ byte f (at + 3) ∷ []

abbrev pub eight_at : List ℕ → ℕ → List ℕ
eight_at f at =
    byte f at ∷ byte f (at + 1) ∷ byte f (at + 2) ∷ byte f (at + 3) ∷ byte f (at + 4) ∷ byte f (at + 5) ∷ byte f (at + 6) ∷ byte f (at + 7) ∷ []

-- the two, and the four, bytes at a place are these
abbrev pub two_are : List ℕ → ℕ → List ℕ → Bool
two_are f at bs = eqb (byte f at) (byte bs 0) && eqb (byte f (at + 1)) (byte bs 1)

abbrev pub four_are : List ℕ → ℕ → List ℕ → Bool
four_are f at bs =
    eqb (byte f at) (byte bs 0)
    && eqb (byte f (at + 1)) (byte bs 1)
    && eqb (byte f (at + 2)) (byte bs 2)
    && eqb (byte f (at + 3)) (byte bs 3)

-- numbers of two, three and four bytes, high byte first
abbrev pub u16_at : List ℕ → ℕ → ℕ
u16_at f at = byte f at * 256 + byte f (at + 1)

abbrev pub u24_at : List ℕ → ℕ → ℕ
u24_at f at = (byte f at * 256 + byte f (at + 1)) * 256 + byte f (at + 2)

abbrev pub u32_at : List ℕ → ℕ → ℕ
u32_at f at = ((byte f at * 256 + byte f (at + 1)) * 256 + byte f (at + 2)) * 256 + byte f (at + 3)

-- a number of eight bytes, high byte first
abbrev pub u64_at : List ℕ → ℕ → ℕ
u64_at f at = u32_at f at * 2 ^ 32 + u32_at f (at + 4)

-- a number of eight bytes, low byte first
abbrev pub le64_at : List ℕ → ℕ → ℕ
le64_at f at =
    byte f at
    + byte f (at + 1) * 2 ^ 8
    + byte f (at + 2) * 2 ^ 16
    + byte f (at + 3) * 2 ^ 24
    + byte f (at + 4) * 2 ^ 32
    + byte f (at + 5) * 2 ^ 40
    + byte f (at + 6) * 2 ^ 48
    + byte f (at + 7) * 2 ^ 56

-- the whole number that a pattern of 32 or of 64 bits is in two's complement
abbrev pub signed32 : ℕ → ℤ
signed32 n = cond (ltb n (2 ^ 31)) (pos n) (negsuc (2 ^ 32 - 1 - n))

abbrev pub signed64 : ℕ → ℤ
signed64 n = cond (ltb n (2 ^ 63)) (pos n) (negsuc (2 ^ 64 - 1 - n))

-- "1 int32", high byte first
abbrev pub int32_at : List ℕ → ℕ → ℤ
int32_at f at = signed32 (u32_at f at)

-- Paper 01: "3 int64 low byte first"; in its place paper 02, d): "Eight-byte pool integers are now read high byte first."
abbrev pub int64_at : List ℕ → ℕ → ℤ
int64_at f at = signed64 (u64_at f at)

-- "5 float64 low byte first"
abbrev pub float64_at : List ℕ → ℕ → Float
float64_at f at = of_bits binary64 (le64_at f at)
