-- The run of a pattern along a list of choices, and follow. Paper 01, 'The run'.
-- Assumes nothing.
use Rattle.std.specs.Prelude.{ℕ, ◌+◌, ◌-◌, ◌*◌, ◌/◌, Bool, true, false, cond, List, [], ◌∷◌, ◌++◌, ltb, leb, eqb, length, get_or, replicate}
use Rattle.std.proofs.Math.Option.{Option, none, some}
use Rattle.format.specs.Bytes.{Answer, ok, refused, bind, on_answer}
use Rattle.format.specs.Allowance.{Allowance}
use Rattle.format.specs.File.{Content, nothing}
use Rattle.format.specs.Load.{Nine, Words, records_of, loading, tables_of, words_of}
use Rattle.format.specs.Insn.{Role, reg, pool, sym, child, plain, Flow, on, ends, jumps, may, roles, flow, row_at, operands_at, next, target}
use Rattle.format.specs.Line.{line_at}
use Rattle.format.specs.Tree.{child_of}
use Rattle.format.specs.Pattern.{Record, Pattern, pattern_of, clen, rec_at, rlens}
use Rattle.format.specs.Exam.{passing}

-- the choices by their kinds: "0 go on", "1 jump", "2 enter", "3 caught, with 2 bytes h", "4 leave"
pub data Choice : Type 0 where
  go_on jump enter leave : Choice
  caught : ℕ → Choice

-- "State: a list of frames (record, offset)"
pub record Frame : Type 0 where
  pub rec : ℕ
  pub at : ℕ

abbrev pub frame : ℕ → ℕ → Frame
frame r o = record { rec = r; at = o }

abbrev pub code_of : Pattern → Frame → List ℕ
code_of p f = (rec_at p f.rec).code

abbrev pub is_child : Role → Bool
is_child reg = false
is_child pool = false
is_child sym = false
is_child child = true
is_child plain = false

-- "A child opcode is one with a child operand, which numbers the child."
unfoldable pub child_operand : List Role → List ℕ → Option ℕ
child_operand [] vs = none
child_operand (x ∷ xs) [] = none
child_operand (x ∷ xs) (v ∷ vs) = cond (is_child x) (some v) (child_operand xs vs)

-- What a choice does to the top frame, told by its record alone: the frame goes; it passes to an offset; it passes to an offset and a child,
-- by its number, is entered.
pub data Move : Type 0 where
  gone : Move
  to : ℕ → Move
  into : ℕ → ℕ → Move

-- "0 go on: an ending opcode leaves, JMP and JMPUW jump, others pass to the next offset": n is the next offset, t the jump target
abbrev pub goes : Flow → ℕ → ℕ → Move
goes on n t = to n
goes ends n t = gone
goes jumps n t = to t
goes may n t = to n

-- "1 jump: taken at JMPIF, JMPNOT, JMPNIL."
abbrev pub jumped : Flow → ℕ → ℕ → Move
jumped on n t = goes on n t
jumped ends n t = goes ends n t
jumped jumps n t = goes jumps n t
jumped may n t = to t

-- "2 enter: at a child opcode the frame passes to its next offset and (child, 0) is put on top."
abbrev pub entered : Option ℕ → ℕ → Move → Move
entered none n m = m
entered (some k) n m = into k n

-- "3 caught, with 2 bytes h: if h < clen the offset becomes handler h's target, from any instruction."
abbrev pub catches : Bool → ℕ → Move → Move
catches true t m = to t
catches false t m = m

-- a choice at offset o of record r: "A choice not open there is go on."
unfoldable pub move : Record → ℕ → Choice → Move
move r o go_on = goes (flow (row_at r.code o)) (next r.code o) (target r.code o)
move r o jump = jumped (flow (row_at r.code o)) (next r.code o) (target r.code o)
move r o enter =
    entered (child_operand (roles (row_at r.code o)) (operands_at r.code o)) (next r.code o)
    (goes (flow (row_at r.code o)) (next r.code o) (target r.code o))
move r o (caught h) =
    catches (ltb h (clen r)) (get_or r.handlers h 0) (goes (flow (row_at r.code o)) (next r.code o) (target r.code o))
move r o leave = gone

-- the frames after a move of the top frame f: "each acts on the top frame alone"
abbrev pub applied : Pattern → Frame → List Frame → Move → List Frame
applied p f under gone = under
applied p f under (to o) = frame f.rec o ∷ under
applied p f under (into k o) = frame (child_of (rlens p) f.rec k) 0 ∷ frame f.rec o ∷ under

-- "Without frames the run is finished and remains so."
unfoldable pub one_step : Pattern → List Frame → Choice → List Frame
one_step p [] c = []
one_step p (f ∷ under) c = applied p f under (move (rec_at p f.rec) f.at c)

-- "Each choice takes the frames that the one before it left"
unfoldable pub run_from : Pattern → List Frame → List Choice → List Frame
run_from p fs [] = fs
run_from p fs (c ∷ cs) = run_from p (one_step p fs c) cs

-- the frames after the choices, the top frame first: "starting as (0, 0)"
abbrev pub start : List Frame
start = frame 0 0 ∷ []

abbrev pub run : Pattern → List Choice → List Frame
run p cs = run_from p start cs

-- "Choices are bytes, one kind then its body": the next byte is a kind, the high byte of a body or its low byte
pub data Due : Type 0 where
  kind high : Due
  low : ℕ → Due

abbrev pub put : Choice → Answer (List Choice) → Answer (List Choice)
put c (ok cs) = ok (c ∷ cs)
put c (refused n) = refused n

-- what a kind says, before the choices behind it. "21: choice kind above 4, or its body cut."
abbrev pub by_kind : ℕ → Answer (List Choice) → Answer (List Choice)
by_kind b r =
    cond (eqb b 0) (put go_on r)
    (cond (eqb b 1) (put jump r)
    (cond (eqb b 2) (put enter r)
    (cond (eqb b 3) r
    (cond (eqb b 4) (put leave r) (refused 21)))))

unfoldable pub choices_from : Due → List ℕ → Answer (List Choice)
choices_from kind [] = ok []
choices_from high [] = refused 21
choices_from (low h) [] = refused 21
choices_from kind (b ∷ bs) = by_kind b (choices_from (cond (eqb b 3) high kind) bs)
choices_from high (b ∷ bs) = choices_from (low b) bs
choices_from (low h) (b ∷ bs) = put (caught (h * 256 + b)) (choices_from kind bs)

abbrev pub choices : List ℕ → Answer (List Choice)
choices bs = choices_from kind bs

-- what follow says of frames: "finished, or the top frame, its line or none, and the number of frames"
pub data Standing : Type 0 where
  finished : Standing
  stands : Frame → Option ℕ → ℕ → Standing

unfoldable pub standing : Pattern → List Frame → Standing
standing p [] = finished
standing p (f ∷ fs) = stands f (line_at (rec_at p f.rec).lines f.at) (length (f ∷ fs))

-- "the frames in a lent table, lowest first, zero rows after them": two words a frame, in a table of n words
unfoldable pub laid_frames : List Frame → List ℕ
laid_frames [] = []
laid_frames (f ∷ fs) = laid_frames fs ++ (f.rec ∷ f.at ∷ [])

unfoldable pub frame_table : ℕ → List Frame → List ℕ
frame_table n fs = laid_frames fs ++ replicate (n - 2 * length fs) 0

-- a file's content, and the frames of its run
pub record Ran : Type 0 where
  pub content : Content
  pub frames : List Frame

-- "Follow loads, tests its frame table, examines, reads the whole choice list for 21, then runs": over a frame table of n words.
-- "14: .. follow's frame table has fewer rows than the file has records, tested after loading"
unfoldable pub following : List ℕ → Nine → Allowance → List ℕ → ℕ → List ℕ → Answer Ran
following f m a q n bs =
    bind (loading f m a) (λ c.
    cond (leb (length (records_of c)) (n / 2))
    (bind (passing q f c) (λ _. bind (choices bs) (λ cs. ok (record { content = c; frames = run (pattern_of f c) cs }))))
    (refused 14))

-- what follow answers, and what the nine tables and the frame table hold afterwards: after a refusal zeros alone
pub record Followed : Type 0 where
  pub answer : Answer Standing
  pub tables : Words
  pub frames : List ℕ

unfoldable pub follow : List ℕ → Nine → Allowance → List ℕ → ℕ → List ℕ → Followed
follow f m a q n bs =
    on_answer (following f m a q n bs)
    (λ r.
    record {
      answer = ok (standing (pattern_of f r.content) r.frames);
      tables = words_of m (tables_of r.content);
      frames = frame_table n r.frames;
    })
    (λ e. record { answer = refused e; tables = words_of m (tables_of nothing); frames = frame_table n [] })
