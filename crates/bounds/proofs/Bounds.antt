-- u32 counts the rows of each table of a file's reading, refused or not, and the visits of its LVAR walk where it has at most 1,024 records.
-- Assumes nothing.
use Prim.Native.Nat.{ℕ, zero, suc, ◌+◌, ◌≤◌, ◌<◌}
use native.Mathlib.Omega.{arith}
use mathlib.Core.List.{List}
use mathlib.Core.Option.{Option, none, some}
use lib.Dec.{eqb}
use lib.ListN.{length, get_or, drop, length-drop}
use lib.Seq.{get_or-drop}
use borrow.Author.Tests.{eqb-true}
use Rattle.format.specs.Bytes.{refused, has}
use Rattle.format.specs.Headers.{irep, lvar, dbg, end}
use Rattle.format.specs.Reading.{Part, part}
use Rattle.format.specs.Irep.{Rec, irep_section}
use Rattle.format.specs.Walk.{visits}
use Rattle.format.specs.Lvar.{Lvar}
use Rattle.format.specs.Allowance.{Allowance}
use Rattle.format.specs.File.{Content, is_mark, once, after_irep, section_at, sections, nothing, file_refusal, file_reading}
use Rattle.format.specs.Load.{joined, records_of, strings_of, names_of, file_names_of, files_of, Tables, tables_of, visits_of}
use Rattle.format.proofs.Answers.{either, anything, answered}
use Rattle.format.proofs.File.{accepted}
use Rattle.format.proofs.Places.{file_rows_length}
use Rattle.format.proofs.Walk.{visits_most}
use Rattle.bounds.proofs.Sections.{files_and_lines, lvar_section_rows, debug_section_rows}
use Rattle.bounds.proofs.Sums.{Sums, no_sums, irep_section_sums}

-- the rows of each table but the records', as u32 counts them
pub record Bounds (t : Tables) : Type 0 where
  pub handlers : length t.handlers ≤ 4294967295
  pub pool : length t.pool ≤ 4294967295
  pub symbols : length t.symbols ≤ 4294967295
  pub strings : length t.strings ≤ 4294967295
  pub names : length t.names ≤ 4294967295
  pub file_names : length t.file_names ≤ 4294967295
  pub files : length t.files ≤ 4294967295
  pub lines : length t.lines ≤ 4294967295

-- what was read of each section, by the bytes of the file: n
pub record Counts (n : ℕ) (c : Content) : Type 0 where
  pub irep : Sums n (records_of c)
  pub lvar : length (strings_of c) + length (joined (names_of c)) ≤ n
  pub dbg : length (file_names_of c) + files_and_lines (joined (files_of c)) ≤ n

-- of what was read as far as it went
abbrev pub Keeps : ℕ → Part Content → Type 0
Keeps n p = Counts n p.it

-- before any section
no_counts : (n : ℕ) → Counts n nothing
no_counts n = record { irep = no_sums n; lvar = omega arith; dbg = omega arith }

-- 65,536 records of 65,535 rows are below 2 ^ 32
pub counts_bounds : (c : Content) → Counts 65536 c → Bounds (tables_of c)
counts_bounds c x =
    record {
      handlers = omega arith;
      pool = omega arith;
      symbols = omega arith;
      strings = omega arith;
      names = omega arith;
      file_names = omega arith;
      files = rw file_rows_length (omega arith);
      lines = omega arith;
    }

-- a section that may not stand there leaves what was read
module _ (n : ℕ) (c : Content) (x : Counts n c) where
  once_counts : {A : Type 0} (o : Option A) (p : Part Content) → Keeps n p → Keeps n (once o c p)
  once_counts none p y = y
  once_counts (some _) p y = x

  after_irep_counts : (k : List Rec → Part Content) → ((rs : List Rec) → Keeps n (k rs)) → Keeps n (after_irep c k)
  after_irep_counts k y = go c.irep
    where
      go : (o : Option (List Rec)) → Keeps n (elim o [ none ↦ part c (refused 6) | some rs ↦ k rs ])
      go none = x
      go (some rs) = y rs

module _ (f : List ℕ) (bytes : (i : ℕ) → get_or f i 0 < 256) (n : ℕ) (short : length f ≤ n) (allowed : ℕ) where
  -- the part of the file from a place on, and its records
  drop_short : (at : ℕ) → length (drop at f) ≤ n
  drop_short at = rw length-drop (omega arith)

  drop_sums : (at : ℕ) → Sums n (irep_section (drop at f) at allowed).rows
  drop_sums at =
      let s = irep_section_sums (drop at f) (λ i. rw get_or-drop (bytes (at + i))) at allowed in
      record { records = omega (arith, drop_short at); handlers = s.handlers; pool = s.pool; symbols = s.symbols; children = s.children }

  -- a section, behind what was read before it; and the sections from a place on
  pub section_at_counts : (c : Content) (at : ℕ) → Counts n c → Keeps n (section_at f allowed c at)
  unfolding section_at
  section_at_counts c at x =
      either (Keeps n) (is_mark f at irep) _ _
      (λ _. once_counts n c x c.irep _ (record { irep = drop_sums at; lvar = x.lvar; dbg = x.dbg }))
      (λ _. either (Keeps n) (is_mark f at lvar) _ _
      (λ _. after_irep_counts n c x _ (λ rs. once_counts n c x c.lvar _
      (record { irep = x.irep; lvar = omega (arith, lvar_section_rows (drop at f) at rs, drop_short at); dbg = x.dbg })))
      (λ _. either (Keeps n) (is_mark f at dbg) _ _
      (λ _. after_irep_counts n c x _ (λ rs. once_counts n c x c.dbg _
      (record { irep = x.irep; lvar = x.lvar; dbg = omega (arith, debug_section_rows (drop at f) at rs, drop_short at) })))
      (λ _. either (Keeps n) (is_mark f at end) _ _ (λ _. x) (λ _. x))))

  -- `left` bounds the sections that may come
  pub sections_counts : (left : ℕ) (c : Content) (at : ℕ) → Counts n c → Keeps n (sections f allowed left c at)
  unfolding sections
  sections_counts zero c at x = x
  sections_counts (suc left) c at x =
      either (Keeps n) (has f at 4) _ _
      (λ _.
      let s = section_at f allowed c at in
      let y = section_at_counts c at x in
      answered _ _ (Keeps n) s.end _ _ (anything s.end) (λ size _. sections_counts left s.it (at + size) y) (λ _ _. y))
      (λ _. x)

-- of a file that its tests refuse nothing is read
pub file_reading_counts : (f : List ℕ) → ((i : ℕ) → get_or f i 0 < 256) → (a : Allowance) → Keeps 65536 (file_reading f a)
unfolding file_reading
file_reading_counts f bytes a =
    either (Keeps 65536) (eqb (file_refusal f a.bytes) 0) _ _
    (λ z. sections_counts f bytes 65536 (accepted f a.bytes (eqb-true _ _ z)).small a.records (length f) nothing 20 (no_counts 65536))
    (λ _. no_counts 65536)

-- so every reading, with any number of records
pub reading_bounds : (f : List ℕ) → ((i : ℕ) → get_or f i 0 < 256) → (g : Allowance) → Bounds (tables_of (file_reading f g).it)
reading_bounds f bytes g = counts_bounds (file_reading f g).it (file_reading_counts f bytes g)

-- the same of a reading that fits the 1,024 records
pub bounds : (f : List ℕ) → ((i : ℕ) → get_or f i 0 < 256) → (a : Allowance) → length (records_of (file_reading f a).it) ≤ 1024
    → Bounds (tables_of (file_reading f a).it)
bounds f bytes a _ = reading_bounds f bytes a

-- "1 plus the rlens of the records visited": at most 1 + 1,024 * 65,535
pub visits_few : (f : List ℕ) → ((i : ℕ) → get_or f i 0 < 256) → (a : Allowance) → length (records_of (file_reading f a).it) ≤ 1024
    → visits_of (file_reading f a).it ≤ 67107841
visits_few f bytes a few = go (file_reading f a).it.lvar
  where
    go : (l : Option Lvar) → elim l [ none ↦ 0 | some _ ↦ visits (records_of (file_reading f a).it) 1 ] ≤ 67107841
    go none = omega arith
    go (some _) = omega (arith, few, visits_most (records_of (file_reading f a).it) 1, (file_reading_counts f bytes a).irep.children)
