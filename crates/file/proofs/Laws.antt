-- A file by its tests, and the turns of the loop over sections.
-- Assumes nothing.
use Prim.Native.Nat.{ℕ, zero, suc, ◌+◌, ◌-◌, ◌<◌, ◌≤◌}
use mathlib.Core.Path.{◌≡◌, refl, ◌∙◌}
use mathlib.Core.Bool.{true, false}
use mathlib.Core.List.{List}
use native.Mathlib.Omega.{arith}
use lib.ListN.{length}
use Rattle.format.specs.Bytes.{ok, refused, on_answer, has}
use Rattle.format.specs.File.{file_refusal}
use Rattle.format.specs.Load.{Words}
use Rattle.refusal.specs.declared.Refusal.{Refusal}
use Rattle.refusal.specs.Number.{number}
use Rattle.refusal.proofs.Number.{number_above_0}
use Rattle.tables.specs.declared.Tables.{Tables}
use Rattle.tables.specs.Tables.{words_of, Lengths, Same}
use Rattle.irep.specs.declared.Limits.{Limits}
use Rattle.sections.specs.declared.Used.{Used}
use Rattle.sections.specs.declared.Progress.{Progress}
use Rattle.sections.specs.declared.Section.{Section}
use Rattle.sections.specs.Sections.{begun, used_of}
use Rattle.file.specs.File.{Out, out, section_out, sections_out, file_out}

-- a file that its tests refuse, and one whose sections are read
module _ (f : List ℕ) (limit : Limits) (t : Words) where
  pub file_refused : (e : Refusal) → number e ≡ file_refusal f limit.bytes → out (refused (number e)) t ≡ file_out f limit t
  unfolding file_out
  file_refused e n = rw (← n, number_above_0 e)

  pub file_read : 0 ≡ file_refusal f limit.bytes → (o : Out Used) → o ≡ sections_out f limit (length f) 20 t begun → o ≡ file_out f limit t
  unfolding file_out
  file_read e o d = rw (← e) d

-- tables are the same as themselves, and after one call and the next
pub same_here : (t : Tables) → Same t t
same_here t =
    let lengths : Lengths (words_of t) (words_of t) =
    record { records = refl; handlers = refl; pool = refl; symbols = refl; strings = refl; names = refl; file_names = refl; files = refl; lines = refl } in
    record { records = refl; handlers = refl; pool = refl; symbols = refl; strings = refl; names = refl; file_names = refl; files = refl; lines = refl; lengths = lengths }

lengths_again : (a b c : Words) → Lengths a b → Lengths b c → Lengths a c
lengths_again a b c s r =
    record {
      records = r.records ∙ s.records;
      handlers = r.handlers ∙ s.handlers;
      pool = r.pool ∙ s.pool;
      symbols = r.symbols ∙ s.symbols;
      strings = r.strings ∙ s.strings;
      names = r.names ∙ s.names;
      file_names = r.file_names ∙ s.file_names;
      files = r.files ∙ s.files;
      lines = r.lines ∙ s.lines;
    }

pub same_again : (a b c : Tables) → Same a b → Same b c → Same a c
same_again a b c s r =
    record {
      records = r.records ∙ s.records;
      handlers = r.handlers ∙ s.handlers;
      pool = r.pool ∙ s.pool;
      symbols = r.symbols ∙ s.symbols;
      strings = r.strings ∙ s.strings;
      names = r.names ∙ s.names;
      file_names = r.file_names ∙ s.file_names;
      files = r.files ∙ s.files;
      lines = r.lines ∙ s.lines;
      lengths = lengths_again (words_of a) (words_of b) (words_of c) s.lengths r.lengths;
    }

-- a turn of the loop over sections; too few bytes are left, or no section
module _ (f : List ℕ) (limit : Limits) where
  pub sections_go : (n at : ℕ) (t : Words) (p : Progress) (o : Out Section) → 0 < n → has f at 4 ≡ true → o ≡ section_out f limit at t p
      → on_answer o.ans (λ s. sections_out f limit (n - 1) (at + s.size) o.tables s.progress) (λ e. out (refused e) o.tables) ≡ sections_out f limit n at t p
  unfolding sections_out
  sections_go zero at t p o h b e = absurd (omega arith)
  sections_go (suc n) at t p o h b e = let k : suc n - 1 ≡ n = omega arith in rw (k, b, ← e)

  pub sections_short : (n at : ℕ) (t : Words) (p : Progress) → has f at 4 ≡ false → out (ok (used_of p)) t ≡ sections_out f limit n at t p
  unfolding sections_out
  sections_short zero at t p b = refl
  sections_short (suc n) at t p b = rw b

  pub sections_done : (n at : ℕ) (t : Words) (p : Progress) → n ≤ 0 → out (ok (used_of p)) t ≡ sections_out f limit n at t p
  unfolding sections_out
  sections_done zero at t p h = refl
  sections_done (suc n) at t p h = absurd (omega arith)
