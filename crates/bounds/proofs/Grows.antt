-- Sections only add to what was read, and LVAR and DBG come only behind IREP.
-- Assumes nothing.
use Prim.Native.Nat.{ℕ, zero, suc, ◌+◌, ◌≤◌}
use native.Mathlib.Nat.{le_refl, le_trans}
use native.Mathlib.Omega.{arith}
use mathlib.Core.Path.{◌≡◌, refl}
use mathlib.Core.Bool.{Bool, true, false, cond}
use mathlib.Core.List.{List}
use mathlib.Core.Option.{Option, none, some}
use lib.ListN.{length, drop}
use Rattle.format.specs.Bytes.{Answer, ok, refused, on_answer, has}
use Rattle.format.specs.Headers as mark
use Rattle.format.specs.Reading.{Part, part}
use Rattle.format.specs.Irep.{Rec, irep_section}
use Rattle.format.specs.Lvar.{Lvar, lvar_section}
use Rattle.format.specs.Debug.{Debug, debug_section}
use Rattle.format.specs.File.{Content, content, nothing, is_mark, once, after_irep, end_section, section_at, sections}
use Rattle.format.specs.Load.{tables_of}
use Rattle.format.proofs.Places.{records_length}

-- LVAR and DBG come only behind IREP
abbrev pub Ordered : Option (List Rec) → Option Lvar → Option Debug → Type 0
Ordered (some rs) l d = Unit {0}
Ordered none none none = Unit {0}
Ordered none none (some d) = ⊥
Ordered none (some l) none = ⊥
Ordered none (some l) (some d) = ⊥

-- no table has fewer rows
pub record Less (c c' : Content) : Type 0 where
  pub records : length (tables_of c).records ≤ length (tables_of c').records
  pub handlers : length (tables_of c).handlers ≤ length (tables_of c').handlers
  pub pool : length (tables_of c).pool ≤ length (tables_of c').pool
  pub symbols : length (tables_of c).symbols ≤ length (tables_of c').symbols
  pub strings : length (tables_of c).strings ≤ length (tables_of c').strings
  pub names : length (tables_of c).names ≤ length (tables_of c').names
  pub file_names : length (tables_of c).file_names ≤ length (tables_of c').file_names
  pub files : length (tables_of c).files ≤ length (tables_of c').files
  pub lines : length (tables_of c).lines ≤ length (tables_of c').lines

pub same : (c : Content) → Less c c
same c =
    record { records = le_refl _; handlers = le_refl _; pool = le_refl _; symbols = le_refl _; strings = le_refl _; names = le_refl _; file_names = le_refl _; files = le_refl _; lines = le_refl _ }

pub less_less : (a b c : Content) → Less a b → Less b c → Less a c
less_less a b c x y =
    record {
      records = le_trans x.records y.records;
      handlers = le_trans x.handlers y.handlers;
      pool = le_trans x.pool y.pool;
      symbols = le_trans x.symbols y.symbols;
      strings = le_trans x.strings y.strings;
      names = le_trans x.names y.names;
      file_names = le_trans x.file_names y.file_names;
      files = le_trans x.files y.files;
      lines = le_trans x.lines y.lines;
    }

-- IREP is the first to come
from_nothing : (c : Content) → Less nothing c
from_nothing c =
    record {
      records = omega arith;
      handlers = omega arith;
      pool = omega arith;
      symbols = omega arith;
      strings = omega arith;
      names = omega arith;
      file_names = omega arith;
      files = omega arith;
      lines = omega arith;
    }

with_lvar : (rs : List Rec) (l : Lvar) (d : Option Debug) → Less (content (some rs) none d) (content (some rs) (some l) d)
with_lvar rs l d =
    record {
      records = omega (arith, records_length (content (some rs) none d), records_length (content (some rs) (some l) d));
      handlers = le_refl _;
      pool = le_refl _;
      symbols = le_refl _;
      strings = omega arith;
      names = omega arith;
      file_names = le_refl _;
      files = le_refl _;
      lines = le_refl _;
    }

with_dbg : (rs : List Rec) (l : Option Lvar) (d : Debug) → Less (content (some rs) l none) (content (some rs) l (some d))
with_dbg rs l d =
    record {
      records = omega (arith, records_length (content (some rs) l none), records_length (content (some rs) l (some d)));
      handlers = le_refl _;
      pool = le_refl _;
      symbols = le_refl _;
      strings = le_refl _;
      names = le_refl _;
      file_names = omega arith;
      files = omega arith;
      lines = omega arith;
    }

-- what a section does to the content: it stays in order, and loses no row
pub record Grown (c c' : Content) : Type 0 where
  pub ordered : Ordered c'.irep c'.lvar c'.dbg
  pub less : Less c c'

module _ (f : List ℕ) (at allowed : ℕ) where
  grown_irep : (i : Option (List Rec)) (l : Option Lvar) (d : Option Debug) → Ordered i l d → (s : List Rec) (e : Answer ℕ)
      → Grown (content i l d) (once i (content i l d) (part (content (some s) l d) e)).it
  grown_irep (some rs) l d o s e = record { ordered = tt; less = same (content (some rs) l d) }
  grown_irep none none none o s e = record { ordered = tt; less = from_nothing (content (some s) none none) }
  grown_irep none none (some d) o s e = absurd o
  grown_irep none (some l) none o s e = absurd o
  grown_irep none (some l) (some d) o s e = absurd o

  grown_lvar : (i : Option (List Rec)) (l : Option Lvar) (d : Option Debug) → Ordered i l d → (k : List Rec → Part Lvar)
      → Grown (content i l d) (after_irep (content i l d) (λ rs. once l (content i l d) (part (content i (some (k rs).it) d) (k rs).end))).it
  grown_lvar none l d o k = record { ordered = o; less = same (content none l d) }
  grown_lvar (some rs) (some l) d o k = record { ordered = tt; less = same (content (some rs) (some l) d) }
  grown_lvar (some rs) none d o k = record { ordered = tt; less = with_lvar rs (k rs).it d }

  grown_dbg : (i : Option (List Rec)) (l : Option Lvar) (d : Option Debug) → Ordered i l d → (k : List Rec → Part Debug)
      → Grown (content i l d) (after_irep (content i l d) (λ rs. once d (content i l d) (part (content i l (some (k rs).it)) (k rs).end))).it
  grown_dbg none l d o k = record { ordered = o; less = same (content none l d) }
  grown_dbg (some rs) l (some d) o k = record { ordered = tt; less = same (content (some rs) l (some d)) }
  grown_dbg (some rs) l none o k = record { ordered = tt; less = with_dbg rs l (k rs).it }

  pub section_grows : (i : Option (List Rec)) (l : Option Lvar) (d : Option Debug) → Ordered i l d → Grown (content i l d) (section_at f allowed (content i l d) at).it
  unfolding section_at
  section_grows i l d o = by_irep (is_mark f at mark.irep) (is_mark f at mark.lvar) (is_mark f at mark.dbg) (is_mark f at mark.end)
    where
      stays : Grown (content i l d) (content i l d)
      stays = record { ordered = o; less = same (content i l d) }

      by_irep : (p q r s : Bool)
          → Grown (content i l d)
          (cond p (once i (content i l d) (let s = irep_section (drop at f) at allowed in part (content (some s.rows) l d) s.end))
          (cond q (after_irep (content i l d) (λ rs. once l (content i l d) (let s = lvar_section (drop at f) at rs in part (content i (some s.it) d) s.end)))
          (cond r (after_irep (content i l d) (λ rs. once d (content i l d) (let s = debug_section (drop at f) at rs in part (content i l (some s.it)) s.end)))
          (cond s (part (content i l d) (end_section (drop at f))) (part (content i l d) (refused 5)))))).it
      by_irep true q r s = grown_irep i l d o (irep_section (drop at f) at allowed).rows (irep_section (drop at f) at allowed).end
      by_irep false true r s = grown_lvar i l d o (lvar_section (drop at f) at)
      by_irep false false true s = grown_dbg i l d o (debug_section (drop at f) at)
      by_irep false false false true = stays
      by_irep false false false false = stays

-- as far as the sections go
pub sections_grow : (f : List ℕ) (allowed n : ℕ) (c : Content) (at : ℕ) → Ordered c.irep c.lvar c.dbg → Less c (sections f allowed n c at).it
unfolding sections
sections_grow f allowed zero c at o = same c
sections_grow f allowed (suc n) c at o = by_there (has f at 4) (section_grows f at allowed c.irep c.lvar c.dbg o) (section_at f allowed c at).end refl (sections_grow f allowed n)
  where
    by_there : (b : Bool) → Grown c (section_at f allowed c at).it → (e : Answer ℕ) → (section_at f allowed c at).end ≡ e
        → ((c : Content) (at : ℕ) → Ordered c.irep c.lvar c.dbg → Less c (sections f allowed n c at).it)
        → Less c (cond b (on_answer e (λ size. sections f allowed n (section_at f allowed c at).it (at + size)) (λ k. part (section_at f allowed c at).it (refused k))) (part c (ok at))).it
    by_there false g e q ih = same c
    by_there true g (ok size) q ih = less_less c (section_at f allowed c at).it _ g.less (ih (section_at f allowed c at).it (at + size) g.ordered)
    by_there true g (refused k) q ih = g.less
