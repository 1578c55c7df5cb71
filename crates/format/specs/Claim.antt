-- Demand 3: what holds of the run of a passing file along every list of choices, one claim about the whole list. Paper 02, h): "Demand 3 is for
-- one allowance", and n): "demand 3 .. for one list" q of permitted opcodes.
-- Assumes nothing.
use Rattle.std.specs.Prelude.{ℕ, suc, ◌/◌, ◌≤◌, ◌<◌, ◌≡◌, ◌↔◌, List, [], ◌∷◌, not, T, length, get_or}
use Rattle.std.proofs.Math.Option.{some}
use Rattle.format.specs.Bytes.{ok, refused, byte}
use Rattle.format.specs.Irep.{Rec}
use Rattle.format.specs.Lvar.{Lvar}
use Rattle.format.specs.Allowance.{Allowance}
use Rattle.format.specs.File.{Content}
use Rattle.format.specs.Load.{Nine, loading, records_of}
use Rattle.format.specs.Insn.{plain, roles, opcode, row_at, operands_at}
use Rattle.format.specs.Registers.{Names}
use Rattle.format.specs.Line.{line_at, last_at_or_below}
use Rattle.format.specs.Pattern.{Pattern, pattern_of, rec_at, Begins}
use Rattle.format.specs.Permitted.{permits}
use Rattle.format.specs.Exam.{stray, readable, Below}
use Rattle.format.specs.Run.{Choice, Frame, frame, code_of, run, choices, finished, stands, frame_table, follow}

-- A frame "is where an instruction begins, whose register, pool, symbol and child operands are below its record's counts by their roles";
-- its "line is that of the last map entry at or below its offset, or none".
pub record FrameHolds (q : List ℕ) (p : Pattern) (f : Frame) : Type 0 where
  pub inside : f.rec < length p
  pub starts : Begins (code_of p f) f.at
  -- "The guarantee about runs includes prefixed instructions": no prefix stands alone, and the instruction is whole
  pub paired : T (not (stray (code_of p f) f.at))
  pub whole : T (readable (code_of p f) f.at)
  -- n): "Runs of a passing file meet permitted opcodes only", and "a prefix needs its own yes": the first byte is the prefix, if there is one
  pub opcode_permitted : T (permits q (opcode (code_of p f) f.at))
  pub prefix_permitted : T (permits q (byte (code_of p f) f.at))
  pub operands : (i : ℕ) → i < length (roles (row_at (code_of p f) f.at))
      → Below (rec_at p f.rec) (get_or (roles (row_at (code_of p f) f.at)) i plain) (get_or (operands_at (code_of p f) f.at) i 0)
  -- j): "In a run of a passing file every register so named, or given a role in c), is below nregs."
  pub registers : (x : ℕ) → Names (code_of p f) f.at x → x < (rec_at p f.rec).nregs
  pub line : line_at (rec_at p f.rec).lines f.at ≡ last_at_or_below (rec_at p f.rec).lines f.at

-- "Follow answers finished exactly when the run is, else top frame, line and number of frames, and its frame table holds the frames, lowest
-- first, then zeros": a call of follow with these bytes, over lent tables in which the file loads and a frame table of n words that has a
-- row for each record.
pub record FollowHolds (f : List ℕ) (c : Content) (fs : List Frame) (m : Nine) (a : Allowance) (q : List ℕ) (n : ℕ) (bs : List ℕ) : Type 0 where
  pub done : ((follow f m a q n bs).answer ≡ ok finished) ↔ (fs ≡ [])
  pub top : (g : Frame) (gs : List Frame) → fs ≡ g ∷ gs
      → (follow f m a q n bs).answer ≡ ok (stands g (last_at_or_below (rec_at (pattern_of f c) g.rec).lines g.at) (length fs))
  pub table : (follow f m a q n bs).frames ≡ frame_table n fs

pub record Claim (f : List ℕ) (a : Allowance) (q : List ℕ) (c : Content) (cs : List Choice) : Type 0 where
  -- the run is finished, or each of its frames holds
  pub frames : (i : ℕ) → i < length (run (pattern_of f c) cs) → FrameHolds q (pattern_of f c) (get_or (run (pattern_of f c) cs) i (frame 0 0))
  -- from the top down the records fall
  pub falls : (i : ℕ) → suc i < length (run (pattern_of f c) cs)
      → (get_or (run (pattern_of f c) cs) (suc i) (frame 0 0)).rec < (get_or (run (pattern_of f c) cs) i (frame 0 0)).rec
  -- "the frames never outnumber the records"
  pub few : length (run (pattern_of f c) cs) ≤ length (records_of c)
  -- "with an LVAR section each record has nlocals - 1 names": one more than its names is nlocals
  pub names : (l : Lvar) → c.lvar ≡ some l → (i : ℕ) (r : Rec) → i < length (records_of c)
      → suc (length (get_or l.names i [])) ≡ (get_or (records_of c) i r).head.nlocals
  pub follows : (m : Nine) (n : ℕ) (bs : List ℕ) → loading f m a ≡ ok c → length (records_of c) ≤ n / 2 → choices bs ≡ ok cs
      → FollowHolds f c (run (pattern_of f c) cs) m a q n bs
  -- "bytes that are no list of choices meet 21"
  pub others : (m : Nine) (n : ℕ) (bs : List ℕ) → loading f m a ≡ ok c → length (records_of c) ≤ n / 2 → ((ds : List Choice) → ¬ (choices bs ≡ ok ds))
      → ((follow f m a q n bs).answer ≡ refused 21) × ((follow f m a q n bs).frames ≡ frame_table n [])
