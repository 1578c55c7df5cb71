-- A file, read forward: its tests, then its sections. Paper 01, 'Loading' and 'Refusals met along the way'; paper 02, g) and h).
-- Assumes nothing.
use Rattle.std.specs.Prelude.{ℕ, zero, suc, ◌+◌, Bool, cond, List, leb, eqb, length, drop}
use Rattle.std.proofs.Math.Option.{Option, none, some}
use Rattle.format.specs.Bytes.{Answer, ok, refused, on_answer, refuse, first, has, two_are, four_are, u32_at}
use Rattle.format.specs.Headers.{Mark, irep, lvar, dbg, end, mark_bytes, rite_ident, major04}
use Rattle.format.specs.Reading.{Part, part}
use Rattle.format.specs.Allowance.{Allowance, desktop}
use Rattle.format.specs.Irep.{Rec, irep_section}
use Rattle.format.specs.Lvar.{Lvar, lvar_section}
use Rattle.format.specs.Debug.{Debug, debug_section}

-- what was read of each section that is there
pub record Content : Type 0 where
  pub irep : Option (List Rec)
  pub lvar : Option Lvar
  pub dbg : Option Debug

abbrev pub content : Option (List Rec) → Option Lvar → Option Debug → Content
content i l d = record { irep = i; lvar = l; dbg = d }

-- the mark at a place
abbrev pub is_mark : List ℕ → ℕ → Mark → Bool
is_mark f at m = four_are f at (mark_bytes m)

-- a section of which only the size is looked at: "8: after its content, an .. END section .. has size 0"
unfoldable pub end_section : List ℕ → Answer ℕ
end_section f =
    cond (has f 0 8)
    (cond (eqb (u32_at f 4) 0) (refused 8) (cond (leb (u32_at f 4) (length f)) (ok (u32_at f 4)) (refused 7)))
    (refused 7)

-- "6: a second IREP, LVAR or DBG, or LVAR or DBG before IREP"
abbrev pub once : {A : Type 0} → Option A → Content → Part Content → Part Content
once none c p = p
once (some _) c p = part c (refused 6)

abbrev pub after_irep : Content → (List Rec → Part Content) → Part Content
after_irep c k = elim c.irep [ none ↦ part c (refused 6) | some rs ↦ k rs ]

-- The section at a place, behind what was read before it, ends on at its size. Each is handed on as its own part of the file.
-- "5: unknown mark". So many records are allowed.
unfoldable pub section_at : List ℕ → ℕ → Content → ℕ → Part Content
section_at f allowed c at =
    cond (is_mark f at irep)
    (once c.irep c (let s = irep_section (drop at f) at allowed in part (content (some s.rows) c.lvar c.dbg) s.end))
    (cond (is_mark f at lvar)
    (after_irep c (λ rs. once c.lvar c (let s = lvar_section (drop at f) at rs in part (content c.irep (some s.it) c.dbg) s.end)))
    (cond (is_mark f at dbg)
    (after_irep c (λ rs. once c.dbg c (let s = debug_section (drop at f) at rs in part (content c.irep c.lvar (some s.it)) s.end)))
    (cond (is_mark f at end) (part c (end_section (drop at f))) (part c (refused 5)))))

-- "Sections follow until fewer than 4 bytes are left; those are ignored." "the next begins size bytes after this one's start." Each moves the
-- place on, so as many as the file has bytes do.
unfoldable pub sections : List ℕ → ℕ → ℕ → Content → ℕ → Part Content
sections f allowed zero c at = part c (ok at)
sections f allowed (suc n) c at =
    cond (has f at 4)
    (let s = section_at f allowed c at in
    on_answer s.end (λ size. sections f allowed n s.it (at + size)) (λ e. part s.it (refused e)))
    (part c (ok at))

abbrev pub nothing : Content
nothing = content none none none

-- "27 when the first four bytes are not ASCII RITE"
abbrev pub ident_is_rite : List ℕ → Bool
ident_is_rite f = four_are f 0 rite_ident

-- "the header's size", high byte first
abbrev pub stated_size : List ℕ → ℕ
stated_size f = u32_at f 8

-- "3: major is not ASCII 04"
abbrev pub major_is04 : List ℕ → Bool
major_is04 f = two_are f 4 major04

-- The refusal of a file by its size and its header, 0 for none, where so many bytes are allowed. "1: over 65,536 bytes." "29 when the file .. is
-- beyond the caller's allowance but within the desktop's, at 1's place for bytes". "2: under 20 bytes." "27 when the first four bytes are not
-- ASCII RITE, after 2. 28 when the header's size exceeds the file's length, after 27." "3: major is not ASCII 04. 4: under 32 bytes." Nothing
-- else of the header is looked at.
unfoldable pub file_refusal : List ℕ → ℕ → ℕ
file_refusal f allowed =
    first (refuse 1 (leb (length f) desktop.bytes))
    (first (refuse 29 (leb (length f) allowed))
    (first (refuse 2 (leb 20 (length f)))
    (first (refuse 27 (ident_is_rite f))
    (first (refuse 28 (leb (stated_size f) (length f)))
    (first (refuse 3 (major_is04 f))
    (refuse 4 (leb 32 (length f))))))))

-- a file whose tests refuse it is not read; else its sections are, from behind the header on
unfoldable pub file_reading : List ℕ → Allowance → Part Content
file_reading f a =
    let n = file_refusal f a.bytes in
    cond (eqb n 0) (sections f a.records (length f) nothing 20) (part nothing (refused n))
