-- Stored answers: numbers of four bytes, high byte first, and how far a replay has come with them. Places stop at one that is past all that is
-- stored, and counts at the largest number of 32 bits.
-- Assumes nothing.
use Rattle.std.specs.Prelude.{ℕ, ◌+◌, ◌-◌, ◌*◌, Bool, true, false, cond, ◌&&◌, List, eqb, ltb, length, take, drop}
use Rattle.format.specs.Bytes.{reads, u32_at, on_answer}
use Rattle.stored.specs.declared.State.{State}

abbrev pub far : ℕ
far = 16777216

-- a place n bytes behind another
abbrev pub ahead : ℕ → ℕ → ℕ
ahead i n = cond (ltb i far && ltb n far) (i + n) far

-- the number at a place, 0 past the end
abbrev pub word : List ℕ → ℕ → ℕ
word f i = on_answer (reads f i 4 (u32_at f i)) (λ n. n) (λ e. 0)

abbrev pub least : ℕ → ℕ → ℕ
least a b = cond (ltb a b) a b

-- n bytes at a place, as far as they are stored
abbrev pub part : List ℕ → ℕ → ℕ → List ℕ
part f i n =
    let end = least (ahead i n) (length f) in
    let start = least i end in
    take (end - start) (drop start f)

abbrev pub one_more : ℕ → ℕ
one_more n = cond (ltb n 4294967295) (n + 1) n

-- a count of differences, with an answer that agrees or not
abbrev pub counted : ℕ → Bool → ℕ
counted n agrees = cond agrees n (one_more n)

-- five numbers are those stored at a place
abbrev pub five_agree : ℕ → ℕ → ℕ → ℕ → ℕ → List ℕ → ℕ → Bool
five_agree a b c d e f i =
    eqb (word f i) a
    && eqb (word f (ahead i 4)) b
    && eqb (word f (ahead i 8)) c
    && eqb (word f (ahead i 12)) d
    && eqb (word f (ahead i 16)) e

abbrev pub begun : State
begun = record { going = true; at = 0; file = 0; bytes = 0; map = 0; rows = 0; answers = 0; differences = 0 }

-- behind an answer of n bytes, which agrees or not
abbrev pub answered : State → Bool → ℕ → State
answered s agrees n =
    record {
      going = true;
      at = ahead s.at n;
      file = s.file;
      bytes = s.bytes;
      map = s.map;
      rows = s.rows;
      answers = one_more s.answers;
      differences = counted s.differences agrees;
    }

-- behind bytes, which stand last
abbrev pub at_file : List ℕ → State → State
at_file f s =
    record {
      going = true;
      at = ahead (ahead s.at 8) (word f (ahead s.at 4));
      file = ahead s.at 8;
      bytes = word f (ahead s.at 4);
      map = s.map;
      rows = s.rows;
      answers = s.answers;
      differences = s.differences;
    }

-- behind words, of which at most 512 stand there; they are those that stand last
abbrev pub at_words : List ℕ → State → State
at_words f s =
    record {
      going = true;
      at = ahead (ahead s.at 8) (least (word f (ahead s.at 4)) 512 * 4);
      file = s.file;
      bytes = s.bytes;
      map = ahead s.at 8;
      rows = word f (ahead s.at 4);
      answers = s.answers;
      differences = s.differences;
    }

-- behind the name of n bytes that ends a group of answers
abbrev pub next_group : State → ℕ → State
next_group s n =
    record {
      going = true;
      at = ahead (ahead s.at 8) n;
      file = s.file;
      bytes = s.bytes;
      map = s.map;
      rows = s.rows;
      answers = 0;
      differences = 0;
    }

-- at the end
abbrev pub ended : State → State
ended s =
    record {
      going = false;
      at = s.at;
      file = s.file;
      bytes = s.bytes;
      map = s.map;
      rows = s.rows;
      answers = s.answers;
      differences = s.differences;
    }
