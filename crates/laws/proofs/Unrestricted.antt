-- The definitions of passing, of an examination and of a run as they are where no list of permitted opcodes is an argument; what does not mention 32 is
-- taken from format.
-- Assumes nothing.
use Prim.Native.Nat.{ℕ, ◌/◌}
use mathlib.Core.Path.{◌≡◌}
use mathlib.Core.Bool.{cond}
use mathlib.Core.List.{List, [], ◌∷◌}
use lib.Dec.{ltb, leb, eqb}
use lib.ListN.{length}
use Rattle.format.specs.Bytes.{Answer, ok, refused, bind, on_answer, refuse, first}
use Rattle.format.specs.Allowance.{Allowance}
use Rattle.format.specs.File.{Content, nothing}
use Rattle.format.specs.Load.{Nine, Loaded, records_of, loading, tables_of, words_of, laid}
use Rattle.format.specs.Tree.{Whole, whole}
use Rattle.format.specs.Pattern.{Record, Pattern, pattern_of, rec_at, rlens}
use Rattle.format.specs.Exam.{Some, Bad16, Bad17, Bad18, Bad19, Bad20, Bad25, exam16, exam1718, exam19, exam20, unless_met}
use Rattle.format.specs.Run.{choices, run, standing, frame_table, Ran, Followed}

-- condition n is met. "15: the tree is not whole."
pub data Meets (p : Pattern) : ℕ → Type 0 where
  meets15 : ¬ Whole (rlens p) → Meets p 15
  meets16 : Some Bad16 p → Meets p 16
  meets17 : Some Bad17 p → Meets p 17
  meets18 : Some Bad18 p → Meets p 18
  meets19 : Some Bad19 p → Meets p 19
  meets20 : Some Bad20 p → Meets p 20
  meets25 : Some Bad25 p → Meets p 25

-- a loaded pattern of which "passing then means meeting none of 15 to 20 and 25"
abbrev pub Passes : Pattern → Type 0
Passes p = (n : ℕ) → ¬ Meets p n

-- "A file that passes is one that loads in some lent tables and meets none of 15 to 20" and 25; paper 02, h): under an allowance
pub record FilePasses (f : List ℕ) (a : Allowance) : Type 0 where
  pub tables : Nine
  pub content : Content
  pub loads : loading f tables a ≡ ok content
  pub passes : Passes (pattern_of f content)

unfoldable pub examine_record : Record → ℕ
examine_record r = first (exam16 r.code) (first (exam1718 r) (first (exam19 r) (exam20 r)))

unfoldable pub examine_all : List Record → ℕ
examine_all [] = 0
examine_all (r ∷ rs) = first (examine_record r) (examine_all rs)

-- "Examination tests 15 first, then record by record"
unfoldable pub examine_pattern : Pattern → ℕ
examine_pattern p = first (refuse 15 (whole (rlens p))) (examine_all p)

-- what was loaded, where it meets none
unfoldable pub passing : List ℕ → Content → Answer Content
passing f c = cond (eqb (examine_pattern (pattern_of f c)) 0) (ok c) (refused (examine_pattern (pattern_of f c)))

-- "Examination loads the file first."
unfoldable pub examining : List ℕ → Nine → Allowance → Answer Content
examining f m a = bind (loading f m a) (passing f)

-- what an examination answers, and what the tables hold afterwards: the rows used, as load does
unfoldable pub examine : List ℕ → Nine → Allowance → Loaded
examine f m a = laid m (examining f m a)

-- i): "A call loads the file and examines a single record, without 15. A missing record is 22"
unfoldable pub examine_single : ℕ → Pattern → ℕ
examine_single i p = cond (ltb i (length p)) (examine_record (rec_at p i)) 22

unfoldable pub passing_single : ℕ → List ℕ → Content → Answer Content
passing_single i f c = unless_met (examine_single i (pattern_of f c)) c

unfoldable pub examining_single : List ℕ → Nine → Allowance → ℕ → Answer Content
examining_single f m a i = bind (loading f m a) (passing_single i f)

unfoldable pub examine_one : List ℕ → Nine → Allowance → ℕ → Loaded
examine_one f m a i = laid m (examining_single f m a i)

-- "Follow loads, tests its frame table, examines, reads the whole choice list for 21, then runs": over a frame table of n words.
-- "14: .. follow's frame table has fewer rows than the file has records, tested after loading"
unfoldable pub following : List ℕ → Nine → Allowance → ℕ → List ℕ → Answer Ran
following f m a n bs =
    bind (loading f m a) (λ c.
    cond (leb (length (records_of c)) (n / 2))
    (bind (passing f c) (λ _. bind (choices bs) (λ cs. ok (record { content = c; frames = run (pattern_of f c) cs }))))
    (refused 14))

-- what follow answers, and what the nine tables and the frame table hold afterwards: after a refusal zeros alone
unfoldable pub follow : List ℕ → Nine → Allowance → ℕ → List ℕ → Followed
follow f m a n bs =
    on_answer (following f m a n bs)
    (λ r.
    record {
      answer = ok (standing (pattern_of f r.content) r.frames);
      tables = words_of m (tables_of r.content);
      frames = frame_table n r.frames;
    })
    (λ e. record { answer = refused e; tables = words_of m (tables_of nothing); frames = frame_table n [] })
