-- The definitions of a load, an examination and a run as they are where no allowance is an argument; what does not mention a load's reading is
-- taken from format.
-- Assumes nothing.
use Prim.Native.Nat.{ℕ, zero, suc, ◌+◌, ◌/◌}
use mathlib.Core.Bool.{cond}
use mathlib.Core.List.{List, []}
use mathlib.Core.Option.{some}
use lib.Dec.{leb, eqb}
use lib.ListN.{length, drop}
use Rattle.format.specs.Bytes.{Answer, ok, refused, bind, on_answer, refuse, first, has, u32_at}
use Rattle.format.specs.Headers.{irep, lvar, dbg, end}
use Rattle.format.specs.Reading.{Read, reading, Part, part, add, and_then}
use Rattle.format.specs.Irep.{head_at, Body, body, Rec, body_at}
use Rattle.format.specs.Lvar.{lvar_section}
use Rattle.format.specs.Debug.{debug_section}
use Rattle.format.specs.File.{Content, content, is_mark, end_section, once, after_irep, nothing, ident_is_rite, stated_size, major_is04}
use Rattle.format.specs.Load.{Nine, records_of, tables_of, ending, words_of, Loaded, laid}
use Rattle.format.specs.Pattern.{pattern_of}
use Rattle.format.specs.Exam.{passing, passing_single}
use Rattle.format.specs.Run.{choices, run, standing, frame_table, Ran, Followed}

-- A record whose 16 bytes are there, with "ilen instruction bytes". "The next record starts at this start plus the stated size, wherever
-- reading ended"; "8: after its content, .. a record has size 0".
unfoldable pub record_at : List ℕ → ℕ → ℕ → Part Rec
record_at f base at =
    let h = head_at f at in
    let is : Body → Rec = λ b. record { head = h; place = base + (at + 16); body = b } in
    cond (has f (at + 16) h.ilen)
    (let b = body_at f base h.clen (at + 16 + h.ilen) in
    part (is b.it) (bind b.end (λ _. cond (eqb h.size 0) (refused 8) (ok (at + h.size)))))
    (part (is (body [] [] [])) (refused 7))

-- "records, which follow until the place reaches the section size". Each moves the place on, so as many as the file has bytes do.
unfoldable pub records_from : List ℕ → ℕ → ℕ → ℕ → ℕ → Read Rec
records_from f base size zero at = reading [] (ok at)
records_from f base size (suc n) at =
    cond (leb size at) (reading [] (ok at))
    (cond (has f at 16)
    (let r = record_at f base at in add r.it (and_then r.end (records_from f base size n)))
    (reading [] (refused 7)))

-- The section: "IREP has 4 more header bytes; its size is tested against the file before its records". It ends on at its size.
unfoldable pub irep_section : List ℕ → ℕ → Read Rec
irep_section f base =
    cond (has f 0 12)
    (cond (leb (u32_at f 4) (length f))
    (let r = records_from f base (u32_at f 4) (length f) 12 in
    reading r.rows (bind r.end (λ _. cond (eqb (u32_at f 4) 0) (refused 8) (ok (u32_at f 4)))))
    (reading [] (refused 7)))
    (reading [] (refused 7))

-- The section at a place, behind what was read before it, ends on at its size. Each is handed on as its own part of the file.
-- "5: unknown mark"
unfoldable pub section_at : List ℕ → Content → ℕ → Part Content
section_at f c at =
    cond (is_mark f at irep)
    (once c.irep c (let s = irep_section (drop at f) at in part (content (some s.rows) c.lvar c.dbg) s.end))
    (cond (is_mark f at lvar)
    (after_irep c (λ rs. once c.lvar c (let s = lvar_section (drop at f) at rs in part (content c.irep (some s.it) c.dbg) s.end)))
    (cond (is_mark f at dbg)
    (after_irep c (λ rs. once c.dbg c (let s = debug_section (drop at f) at rs in part (content c.irep c.lvar (some s.it)) s.end)))
    (cond (is_mark f at end) (part c (end_section (drop at f))) (part c (refused 5)))))

-- "Sections follow until fewer than 4 bytes are left; those are ignored." "the next begins size bytes after this one's start." Each moves the
-- place on, so as many as the file has bytes do.
unfoldable pub sections : List ℕ → ℕ → Content → ℕ → Part Content
sections f zero c at = part c (ok at)
sections f (suc n) c at =
    cond (has f at 4)
    (let s = section_at f c at in
    on_answer s.end (λ size. sections f n s.it (at + size)) (λ e. part s.it (refused e)))
    (part c (ok at))

-- The refusal of a file by its size and its header, 0 for none. "1: over 65,536 bytes. 2: under 20 bytes." "27 when the first four bytes are not
-- ASCII RITE, after 2. 28 when the header's size exceeds the file's length, after 27." "3: major is not ASCII 04. 4: under 32 bytes." Nothing
-- else of the header is looked at.
unfoldable pub file_refusal : List ℕ → ℕ
file_refusal f =
    first (refuse 1 (leb (length f) 65536))
    (first (refuse 2 (leb 20 (length f)))
    (first (refuse 27 (ident_is_rite f))
    (first (refuse 28 (leb (stated_size f) (length f)))
    (first (refuse 3 (major_is04 f))
    (refuse 4 (leb 32 (length f)))))))

-- a file whose tests refuse it is not read; else its sections are, from behind the header on
unfoldable pub file_reading : List ℕ → Part Content
file_reading f = cond (eqb (file_refusal f) 0) (sections f (length f) nothing 20) (part nothing (refused (file_refusal f)))

unfoldable pub loading : List ℕ → Nine → Answer Content
loading f m = ending 1024 m (file_reading f)

unfoldable pub load : List ℕ → Nine → Loaded
load f m = laid m (loading f m)

-- "Examination loads the file first."
unfoldable pub examining : List ℕ → Nine → List ℕ → Answer Content
examining f m q = bind (loading f m) (passing q f)

-- what an examination answers, and what the tables hold afterwards: the rows used, as load does
unfoldable pub examine : List ℕ → Nine → List ℕ → Loaded
examine f m q = laid m (examining f m q)

-- i): the same of a single record
unfoldable pub examining_single : List ℕ → Nine → List ℕ → ℕ → Answer Content
examining_single f m q i = bind (loading f m) (passing_single q i f)

unfoldable pub examine_one : List ℕ → Nine → List ℕ → ℕ → Loaded
examine_one f m q i = laid m (examining_single f m q i)

-- "Follow loads, tests its frame table, examines, reads the whole choice list for 21, then runs": over a frame table of n words.
-- "14: .. follow's frame table has fewer rows than the file has records, tested after loading"
unfoldable pub following : List ℕ → Nine → List ℕ → ℕ → List ℕ → Answer Ran
following f m q n bs =
    bind (loading f m) (λ c.
    cond (leb (length (records_of c)) (n / 2))
    (bind (passing q f c) (λ _. bind (choices bs) (λ cs. ok (record { content = c; frames = run (pattern_of f c) cs }))))
    (refused 14))

-- what follow answers, and what the nine tables and the frame table hold afterwards: after a refusal zeros alone
unfoldable pub follow : List ℕ → Nine → List ℕ → ℕ → List ℕ → Followed
follow f m q n bs =
    on_answer (following f m q n bs)
    (λ r.
    record {
      answer = ok (standing (pattern_of f r.content) r.frames);
      tables = words_of m (tables_of r.content);
      frames = frame_table n r.frames;
    })
    (λ e. record { answer = refused e; tables = words_of m (tables_of nothing); frames = frame_table n [] })
