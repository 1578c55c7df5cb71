-- The sections over nine tables agree with the reading that knows no table, and so does the load, which puts depths and parents in at its end.
-- Assumes nothing.
use Prim.Native.Nat.{ℕ, zero, suc, ◌+◌, ◌*◌, ◌≤◌, ◌<◌}
use native.Mathlib.Omega.{arith}
use mathlib.Core.Path.{◌≡◌, refl, sym, ap, subst, ◌∙◌}
use mathlib.Core.Bool.{Bool, true, false, cond}
use mathlib.Core.List.{List, []}
use mathlib.Core.Option.{Option, none, some}
use Rattle.std.specs.Prelude.{Option as Optional, Some, None}
use lib.Dec.{eqb, ltb}
use lib.ListN.{length, get_or, drop}
use borrow.Author.Tests.{le-ltb}
use Rattle.format.specs.Bytes.{Answer, ok, refused, on_answer, has}
use Rattle.format.specs.Headers as mark
use Rattle.format.specs.Reading.{Part, part}
use Rattle.format.specs.Rows.{NameRow, record_width, record_words}
use Rattle.format.specs.Irep.{Rec, irep_section}
use Rattle.format.specs.Lvar.{Lvar, lvar_section}
use Rattle.format.specs.Debug.{File, Debug, debug_section}
use Rattle.format.specs.File.{Content, content, nothing, is_mark, once, after_irep, end_section, section_at, sections, file_refusal, file_reading}
use Rattle.format.specs.Tree.{nodes}
use Rattle.format.specs.Load as format
use Rattle.format.specs.Walk.{visits}
use Rattle.format.specs.Load.{Nine, Words, Tables, map_of_files, record_rows, tables_of, words_of, records_of, names_of, files_of, joined, start, used, visits_of, counts, fits, ending, loading_within}
use Rattle.rows.specs.Table.{row_count}
use Rattle.rows.proofs.Join.{Ran, length_table}
use Rattle.irep.specs.declared.Limits.{Limits}
use Rattle.irep.specs.declared.Used.{Used as IrepUsed}
use Rattle.irep.specs.Record.{irep_of}
use Rattle.irep.proofs.Join as irep
use Rattle.irep.proofs.Join.{held, lent_of, IrepRan, irep_ran}
use Rattle.lvar.specs.declared.Used.{Used as LvarUsed}
use Rattle.lvar.specs.Names.{in_word}
use Rattle.lvar.proofs.Join as lvar
use Rattle.lvar.proofs.Join.{lvar_ran}
use Rattle.debug.proofs.Join as debug
use Rattle.debug.proofs.Join.{debug_ran}
use Rattle.debug.specs.declared.Used.{Used as DbgUsed}
use Rattle.debug.specs.Section.{debug_of}
use Rattle.rite_parents.specs.Nodes.{rlens_in, nodes_in}
use Rattle.rite_parents.proofs.Laid.{parents_laid}
use Rattle.bounds.proofs.Bounds.{reading_bounds, visits_few}
use Rattle.format.proofs.Places.{rows_length, records_length, file_rows_length}
use Rattle.bounds.proofs.Grows.{Ordered, Less, same, Grown, section_grows, sections_grow}
use Rattle.rite.proofs.Fits.{Room, room_less, fits_true, fits_false}
use Rattle.sections.specs.declared.Used.{Used}
use Rattle.sections.specs.declared.Progress.{Progress}
use Rattle.sections.specs.declared.Section.{Section}
use Rattle.marks.specs.declared.Mark.TheVariants as mark_is
use Rattle.rite.specs.Answers.{words, counts_of, allowed_by, load_within}
use Rattle.marks.specs.Marks.{mark_of}
use Rattle.sections.specs.Sections.{begun, used_of, irep_out_of, lvar_out_of, dbg_out_of}
use Rattle.file.specs.File.{Out, out, by_mark, section_out, sections_out, file_out}

-- the rows as the sections leave them: no record has a parent yet
abbrev unlinked : Content → Tables
unlinked c =
    let t = tables_of c in
    record {
      records = record_rows start (records_of c) (names_of c) (files_of c) [];
      handlers = t.handlers;
      pool = t.pool;
      symbols = t.symbols;
      strings = t.strings;
      names = t.names;
      file_names = t.file_names;
      files = t.files;
      lines = t.lines;
    }

-- nine tables whose first n record rows say depth and parent
abbrev pub linked : ℕ → Words → Words
linked n t =
    words (nodes_in t.records 0 (nodes (rlens_in t.records 0 n))) t.handlers t.pool t.symbols t.strings t.names t.file_names t.files t.lines

-- how far reading has come, by what was read
abbrev irep_uses : Option (List Rec) → Optional IrepUsed
irep_uses none = None
irep_uses (some rs) = let b = held rs in Some (record { records = length rs; handlers = length b.handlers; pool = length b.pool; symbols = length b.symbols })

abbrev lvar_uses : List Rec → Option Lvar → Optional LvarUsed
lvar_uses rs none = None
lvar_uses rs (some l) = Some (record { strings = length l.strings; names = length (joined l.names); visits = in_word (visits rs 1) })

abbrev dbg_uses : Option Debug → Optional DbgUsed
dbg_uses none = None
dbg_uses (some d) = let fs = joined d.files in Some (record { file_names = length d.file_names; files = length fs; lines = length (map_of_files fs) })

abbrev progress_of : Content → Progress
progress_of c = record { irep = irep_uses c.irep; lvar = lvar_uses (records_of c) c.lvar; dbg = dbg_uses c.dbg }

abbrev used_in : Content → Used
used_in c =
    let t = tables_of c in
    record {
      records = length (records_of c);
      handlers = length t.handlers;
      pool = length t.pool;
      symbols = length t.symbols;
      strings = length t.strings;
      names = length t.names;
      filenames = length t.file_names;
      files = length (joined (files_of c));
      lines = length t.lines;
      visits = in_word (visits_of c);
    }

used_is : (i : Option (List Rec)) (l : Option Lvar) (d : Option Debug) → used_of (progress_of (content i l d)) ≡ used_in (content i l d)
used_is none none none = refl
used_is none none (some d) = refl
used_is none (some l) none = refl
used_is none (some l) (some d) = refl
used_is (some rs) none none = refl
used_is (some rs) none (some d) = refl
used_is (some rs) (some l) none = refl
used_is (some rs) (some l) (some d) = refl

-- one section over tables that hold what was read before it
module _ (limit : Limits) (m : Nine) (f : List ℕ) (at : ℕ) where
  abbrev pub W : Content → Words
  W c = words_of m (unlinked c)

  -- a section's answer goes with its reading
  abbrev pub SectionRan : Part Content → Out Section → Type 0
  SectionRan p o =
      Ran p.end (Room limit.most m p.it) (λ size. o ≡ out (ok (record { size = size; progress = progress_of p.it })) (W p.it)) (λ k. o.ans ≡ refused k)

  irep_section_lem : (i : Option (List Rec)) (l : Option Lvar) (d : Option Debug) → Ordered i l d → Room limit.most m (content i l d)
      → SectionRan (once i (content i l d) (let s = irep_section (drop at f) at limit.allowed in part (content (some s.rows) l d) s.end))
      (by_mark f limit at (W (content i l d)) (progress_of (content i l d)) (Some mark_is.Irep))
  unfolding irep_out_of
  irep_section_lem (some rs) l d o r = Ran.stop 6 refl r refl
  irep_section_lem none none none o r = by_run (irep_ran limit m (drop at f) at)
    where
      room : irep.Room limit.most m (held (irep_section (drop at f) at limit.allowed).rows) → Room limit.most m (content (some (irep_section (drop at f) at limit.allowed).rows) none none)
      room x =
          let rs = (irep_section (drop at f) at limit.allowed).rows in
          let e = records_length (content (some rs) none none) in
          let e' = rows_length rs start [] [] [] in
          record {
            limited = omega (arith, e, e', x.within);
            records = omega (arith, e, e', x.records);
            handlers = x.handlers;
            pool = x.pool;
            symbols = x.symbols;
            strings = omega arith;
            names = omega arith;
            file_names = omega arith;
            files = omega arith;
            lines = omega arith;
          }

      by_run : IrepRan limit m (irep_section (drop at f) at limit.allowed) (irep_of (drop at f) at limit (lent_of m (held [])))
          → SectionRan (let s = irep_section (drop at f) at limit.allowed in part (content (some s.rows) none none) s.end)
          (by_mark f limit at (W nothing) (progress_of nothing) (Some mark_is.Irep))
      by_run (Ran.went size e x d) = rw (d, rows_length (irep_section (drop at f) at limit.allowed).rows start [] [] []) (Ran.went size e (room x) refl)
      by_run (Ran.stop k e x d) = rw d (Ran.stop k e (room x) refl)
      by_run (Ran.full x d) =
          let rs = (irep_section (drop at f) at limit.allowed).rows in
          let e = records_length (content (some rs) none none) in
          let e' = rows_length rs start [] [] [] in
          rw d (Ran.full (λ z. x (record { within = omega (arith, e, e', z.limited); records = omega (arith, e, e', z.records); handlers = z.handlers; pool = z.pool; symbols = z.symbols })) refl)
  irep_section_lem none none (some d) o r = absurd o
  irep_section_lem none (some l) none o r = absurd o
  irep_section_lem none (some l) (some d) o r = absurd o

  -- the records' rows are in their table
  records_table : (c : Content) → Room limit.most m c → length (W c).records ≡ m.records
  records_table c r =
      let e = rows_length (records_of c) start (names_of c) (files_of c) [] in
      length_table record_words record_width (λ _. refl) (omega arith) m.records (unlinked c).records (omega (arith, e, records_length c, r.records))

  counted : (c : Content) → Room limit.most m c → ltb (row_count (length (W c).records) record_width) (length (records_of c)) ≡ false
  counted c r =
      let low : length (records_of c) ≤ row_count m.records record_width = omega (arith, records_length c, r.records) in
      rw (records_table c r) (le-ltb (row_count m.records record_width) (length (records_of c)) low)

  -- LVAR behind IREP
  module _ (rs : List Rec) (d : Option Debug) (r : Room limit.most m (content (some rs) none d)) where
    abbrev fss : List (List File)
    fss = files_of (content (some rs) none d)

    abbrev P : Part Lvar
    P = lvar_section (drop at f) at rs

    lvar_room : lvar.Room m (drop at f) at rs fss P.it → Room limit.most m (content (some rs) (some P.it) d)
    lvar_room x =
        let e = records_length (content (some rs) none d) in
        let e' = records_length (content (some rs) (some P.it) d) in
        record {
          limited = omega (arith, r.limited);
          records = omega (arith, r.records);
          handlers = r.handlers;
          pool = r.pool;
          symbols = r.symbols;
          strings = x.0;
          names = x.1;
          file_names = r.file_names;
          files = r.files;
          lines = r.lines;
        }

    lvar_run : lvar.SectionRan m (drop at f) at rs fss
        → SectionRan (part (content (some rs) (some P.it) d) P.end) (by_mark f limit at (W (content (some rs) none d)) (progress_of (content (some rs) none d)) (Some mark_is.Lvar))
    unfolding lvar_out_of
    lvar_run (Ran.went size e x g) = rw (counted (content (some rs) none d) r, g) (Ran.went size e (lvar_room x) refl)
    lvar_run (Ran.stop k e x g) = rw (counted (content (some rs) none d) r, g) (Ran.stop k e (lvar_room x) refl)
    lvar_run (Ran.full x g) = rw (counted (content (some rs) none d) r, g) (Ran.full (λ z. x (z.strings, z.names)) refl)

  lvar_section_lem : (i : Option (List Rec)) (l : Option Lvar) (d : Option Debug) → Ordered i l d → Room limit.most m (content i l d)
      → SectionRan (after_irep (content i l d) (λ rs. once l (content i l d) (let s = lvar_section (drop at f) at rs in part (content i (some s.it) d) s.end)))
      (by_mark f limit at (W (content i l d)) (progress_of (content i l d)) (Some mark_is.Lvar))
  unfolding lvar_out_of
  lvar_section_lem none l d o r = Ran.stop 6 refl r refl
  lvar_section_lem (some rs) (some l) d o r = Ran.stop 6 refl r refl
  lvar_section_lem (some rs) none d o r = lvar_run rs d r (lvar_ran m (drop at f) at rs (files_of (content (some rs) none d)))

  -- DBG behind IREP
  module _ (rs : List Rec) (l : Option Lvar) (r : Room limit.most m (content (some rs) l none)) where
    abbrev nss : List (List NameRow)
    nss = names_of (content (some rs) l none)

    abbrev Q : Part Debug
    Q = debug_section (drop at f) at rs

    dbg_room : debug.AllRoom m at rs nss Q.it → Room limit.most m (content (some rs) l (some Q.it))
    dbg_room x =
        let e = records_length (content (some rs) l none) in
        let e' = records_length (content (some rs) l (some Q.it)) in
        let g = file_rows_length 0 (joined Q.it.files) in
        record {
          limited = omega (arith, r.limited);
          records = omega (arith, r.records);
          handlers = r.handlers;
          pool = r.pool;
          symbols = r.symbols;
          strings = r.strings;
          names = r.names;
          file_names = x.0;
          files = omega (arith, x.1);
          lines = x.2;
        }

    dbg_run : debug.SectionRan m at rs nss Q (debug_of (drop at f) at (length rs) (debug.held_debug m at rs nss (record { file_names = []; files = [] })))
        → SectionRan (part (content (some rs) l (some Q.it)) Q.end) (by_mark f limit at (W (content (some rs) l none)) (progress_of (content (some rs) l none)) (Some mark_is.Dbg))
    unfolding dbg_out_of
    dbg_run (Ran.went size e x g) = rw (counted (content (some rs) l none) r, g) (Ran.went size e (dbg_room x) refl)
    dbg_run (Ran.stop k e x g) = rw (counted (content (some rs) l none) r, g) (Ran.stop k e (dbg_room x) refl)
    dbg_run (Ran.full x g) = rw (counted (content (some rs) l none) r, g) (Ran.full (λ z. x (z.file_names, omega (arith, z.files, file_rows_length 0 (joined Q.it.files)), z.lines)) refl)

  dbg_section : (i : Option (List Rec)) (l : Option Lvar) (d : Option Debug) → Ordered i l d → Room limit.most m (content i l d)
      → SectionRan (after_irep (content i l d) (λ rs. once d (content i l d) (let s = debug_section (drop at f) at rs in part (content i l (some s.it)) s.end)))
      (by_mark f limit at (W (content i l d)) (progress_of (content i l d)) (Some mark_is.Dbg))
  unfolding dbg_out_of
  dbg_section none l d o r = Ran.stop 6 refl r refl
  dbg_section (some rs) l (some d) o r = Ran.stop 6 refl r refl
  dbg_section (some rs) l none o r = dbg_run rs l r (debug_ran m at rs (names_of (content (some rs) l none)) (drop at f))

  -- END
  end_section_lem : (c : Content) → Room limit.most m c → (x : Answer ℕ) → SectionRan (part c x) (out (on_answer x (λ size. ok (record { size = size; progress = progress_of c })) refused) (W c))
  end_section_lem c r (ok size) = Ran.went size refl r refl
  end_section_lem c r (refused k) = Ran.stop k refl r refl

  -- the section at a place, by its mark
  pub section_ran : (i : Option (List Rec)) (l : Option Lvar) (d : Option Debug) → Ordered i l d → Room limit.most m (content i l d)
      → SectionRan (section_at f limit.allowed (content i l d) at) (section_out f limit at (W (content i l d)) (progress_of (content i l d)))
  unfolding section_at section_out mark_of
  section_ran i l d o r = by_mark_lem (is_mark f at mark.irep) (is_mark f at mark.lvar) (is_mark f at mark.dbg) (is_mark f at mark.end)
    where
      by_mark_lem : (p q s e : Bool)
          → SectionRan
          (cond p (once i (content i l d) (let s = irep_section (drop at f) at limit.allowed in part (content (some s.rows) l d) s.end))
          (cond q (after_irep (content i l d) (λ rs. once l (content i l d) (let s = lvar_section (drop at f) at rs in part (content i (some s.it) d) s.end)))
          (cond s (after_irep (content i l d) (λ rs. once d (content i l d) (let s = debug_section (drop at f) at rs in part (content i l (some s.it)) s.end)))
          (cond e (part (content i l d) (end_section (drop at f))) (part (content i l d) (refused 5))))))
          (by_mark f limit at (W (content i l d)) (progress_of (content i l d)) (cond p (Some mark_is.Irep) (cond q (Some mark_is.Lvar) (cond s (Some mark_is.Dbg) (cond e (Some mark_is.End) None)))))
      by_mark_lem true q s e = irep_section_lem i l d o r
      by_mark_lem false true s e = lvar_section_lem i l d o r
      by_mark_lem false false true e = dbg_section i l d o r
      by_mark_lem false false false true = end_section_lem (content i l d) r (end_section (drop at f))
      by_mark_lem false false false false = Ran.stop 5 refl r refl

-- a load that went on is not refused
abbrev WentOn : Answer Used → Type 0
WentOn (ok u) = Unit {0}
WentOn (refused n) = ⊥

rows_refused : {u : Used} {n : ℕ} → ok u ≡ refused n → ⊥
rows_refused e = subst WentOn e tt

module _ (limit : Limits) (m : Nine) (f : List ℕ) where
  abbrev held_words : Content → Words
  held_words c = words_of m (unlinked c)

  abbrev FileRan : Part Content → Out Used → Type 0
  FileRan p o = Ran p.end (Room limit.most m p.it) (λ _. o ≡ out (ok (used_in p.it)) (held_words p.it)) (λ k. o.ans ≡ refused k)

  -- what comes behind a section only adds
  rest_grows : (n : ℕ) (c : Content) (at : ℕ) → Ordered c.irep c.lvar c.dbg → (e : Answer ℕ)
      → Less c (on_answer e (λ size. sections f limit.allowed n c (at + size)) (λ k. part c (refused k))).it
  rest_grows n c at o (ok size) = sections_grow f limit.allowed n c (at + size) o
  rest_grows n c at o (refused k) = same c

  sections_ran : (n : ℕ) (c : Content) (at : ℕ) → Ordered c.irep c.lvar c.dbg → Room limit.most m c
      → FileRan (sections f limit.allowed n c at) (sections_out f limit n at (held_words c) (progress_of c))
  unfolding sections sections_out
  sections_ran zero c at o r = rw (used_is c.irep c.lvar c.dbg) (Ran.went at refl r refl)
  sections_ran (suc n) c at o r = by_there (has f at 4) refl (sections_ran n)
    where
      IH : Type 0
      IH = (c : Content) (at : ℕ) → Ordered c.irep c.lvar c.dbg → Room limit.most m c
          → FileRan (sections f limit.allowed n c at) (sections_out f limit n at (held_words c) (progress_of c))

      Goal : Type 0
      Goal = FileRan (sections f limit.allowed (suc n) c at) (sections_out f limit (suc n) at (held_words c) (progress_of c))

      grown : Grown c (section_at f limit.allowed c at).it
      grown = section_grows f at limit.allowed c.irep c.lvar c.dbg o

      by_section : has f at 4 ≡ true → IH → SectionRan limit m f at (section_at f limit.allowed c at) (section_out f limit at (W limit m f at c) (progress_of c)) → Goal
      by_section h ih (Ran.went size e x d) = rw (h, e, d) (ih (section_at f limit.allowed c at).it (at + size) grown.ordered x)
      by_section h ih (Ran.stop k e x d) = rw (h, e, d) (Ran.stop k refl x refl)
      by_section h ih (Ran.full x d) =
          let s = section_at f limit.allowed c at in
          rw (h, d) (Ran.full (λ z. x (room_less limit.most m s.it _ (rest_grows n s.it at grown.ordered s.end) z)) refl)

      by_there : (b : Bool) → has f at 4 ≡ b → IH → Goal
      by_there true h ih = by_section h ih (section_ran limit m f at c.irep c.lvar c.dbg o r)
      by_there false h ih = rw (h, used_is c.irep c.lvar c.dbg) (Ran.went at refl r refl)

  nothing_room : Room limit.most m nothing
  nothing_room =
      record {
        limited = omega arith;
        records = omega arith;
        handlers = omega arith;
        pool = omega arith;
        symbols = omega arith;
        strings = omega arith;
        names = omega arith;
        file_names = omega arith;
        files = omega arith;
        lines = omega arith;
      }

  -- a file, with its tests
  pub file_ran : FileRan (file_reading f (allowed_by limit)) (file_out f limit (held_words nothing))
  unfolding file_reading file_out
  file_ran = by_tests (eqb (file_refusal f limit.bytes) 0)
    where
      n : ℕ
      n = file_refusal f limit.bytes

      by_tests : (b : Bool)
          → FileRan (cond b (sections f limit.allowed (length f) nothing 20) (part nothing (refused n)))
          (cond b (sections_out f limit (length f) 20 (held_words nothing) begun) (out (refused n) (held_words nothing)))
      by_tests true = sections_ran (length f) nothing 20 tt nothing_room
      by_tests false = Ran.stop n refl nothing_room refl

-- the rows of n records are in their table, and they are few
pub record Linkable (n : ℕ) (t : Words) : Type 0 where
  pub held : n * record_width ≤ length t.records
  pub few : n ≤ 1024

-- THE JOIN: what the sections over zeroed tables come to is the load of the file's reading, whatever is allowed
module _ (limit : Limits) (few : limit.most ≤ 1024) (m : Nine) (f : List ℕ) (bytes : (i : ℕ) → get_or f i 0 < 256) where
  abbrev o : Out Used
  o = file_out f limit (words_of m (tables_of nothing))

  abbrev p : Part Content
  p = file_reading f (allowed_by limit)

  abbrev loads : format.Loaded
  loads = load_within limit f m

  is_loaded : (at : ℕ) → p.end ≡ ok at → fits limit.most m (used (tables_of p.it)) ≡ true
      → loads ≡ record { answer = ok (counts p.it); tables = words_of m (tables_of p.it) }
  unfolding loading_within ending
  is_loaded at e t = rw (t, e)

  is_refused : (k : ℕ) → p.end ≡ refused k → fits limit.most m (used (tables_of p.it)) ≡ true
      → loads ≡ record { answer = refused k; tables = words_of m (tables_of nothing) }
  unfolding loading_within ending
  is_refused k e t = rw (t, e)

  is_full : fits limit.most m (used (tables_of p.it)) ≡ false → loads ≡ record { answer = refused 14; tables = words_of m (tables_of nothing) }
  unfolding loading_within ending
  is_full t = rw t

  abbrev Loads : Type 0
  Loads =
      loads
      ≡ on_answer o.ans
      (λ u. record { answer = ok (counts_of u); tables = linked u.records o.tables })
      (λ e. record { answer = refused e; tables = words_of m (tables_of nothing) })

  pub load_is : Loads
  load_is = by_run (file_ran limit m f)
    where
      by_run : FileRan limit m f p o → Loads
      by_run (Ran.went at e x d) =
          let c = p.it in
          let rows = records_length c in
          let few : length (records_of c) ≤ 1024 = omega (arith, rows, x.limited, few) in
          let word : in_word (visits_of c) ≡ visits_of c = omega (arith, visits_few f bytes (allowed_by limit) few) in
          let link = parents_laid m.records (records_of c) (names_of c) (files_of c) in
          rw d (is_loaded at e (fits_true limit.most m c x) ∙ rw (rows, file_rows_length 0 (joined (files_of c)), word, link))
      by_run (Ran.stop k e x d) = rw d (is_refused k e (fits_true limit.most m p.it x))
      by_run (Ran.full x d) = rw d (is_full (fits_false limit.most m p.it (omega (arith, few)) (reading_bounds f bytes (allowed_by limit)) x))

  -- of what the sections left
  abbrev Left : Out Used → Type 0
  Left z = elim z.ans [ ok v ↦ Linkable v.records z.tables | refused n ↦ Unit {0} ]

  -- so it is where a load goes on
  pub load_linkable : (u : Used) (t : Words) → o ≡ out (ok u) t → Linkable u.records t
  load_linkable u t e = by_run (file_ran limit m f)
    where
      by_run : FileRan limit m f p o → Linkable u.records t
      by_run (Ran.went at q x d) =
          let c = p.it in
          let same : out (ok (used_in c)) (words_of m (unlinked c)) ≡ out (ok u) t = sym d ∙ e in
          subst Left same
          (record {
            held = rw (records_table limit m f at c x) (omega (arith, records_length c, x.records));
            few = omega (arith, records_length c, x.limited, few);
          })
      by_run (Ran.stop k q x d) = absurd (rows_refused (ap (λ (z : Out Used). z.ans) (sym e) ∙ d))
      by_run (Ran.full x d) = absurd (rows_refused (ap (λ (z : Out Used). z.ans) (sym e) ∙ d))
