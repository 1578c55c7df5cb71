-- A list of permitted opcodes in full: an answer for each byte.
-- Assumes nothing.
use Rattle.std.specs.Prelude.{ℕ, ◌≡◌, Bool, false, cond, List, map, length, slice_index_or}
use Rattle.format.specs.Permitted.{permits}

-- an answer as a number
abbrev pub said : Bool → ℕ
said x = cond x 1 0

-- the list of bytes that says the same
abbrev pub bytes_of : List Bool → List ℕ
bytes_of w = map said w

-- noes alone
pub record Blank (w : List Bool) : Type 0 where
  pub bytes : length w ≡ 256
  pub noes : (b : ℕ) → slice_index_or w b false ≡ false

-- w is the list q in full
pub record Written (q : List ℕ) (w : List Bool) : Type 0 where
  pub bytes : length w ≡ 256
  pub told : (b : ℕ) → slice_index_or w b false ≡ permits q b

-- a list that is in full itself
abbrev pub Told : List Bool → Type 0
Told w = Written (bytes_of w) w
