-- The public load: what the sections over zeroed tables come to, with the tables cleared after a refusal, is the load of the definitions.
-- Assumes nothing.
use Prim.Native.Nat.{ℕ, ◌-◌, ◌<◌, ◌≤◌, min}
use native.Mathlib.Omega.{arith}
use mathlib.Core.Path.{◌≡◌, refl, sym, ◌∙◌}
use mathlib.Core.Bool.{Bool, true, false, cond}
use mathlib.Core.List.{List, []}
use lib.Dec.{leb}
use borrow.Author.Tests.{leb-true, leb-false}
use lib.ListN.{get_or, replicate}
use Rattle.format.specs.Rows.{table_of}
use Rattle.format.specs.Bytes.{ok, refused}
use Rattle.format.specs.Allowance.{allowance, desktop, least, granted}
use Rattle.format.specs.File.{nothing}
use Rattle.format.specs.Load.{Words, tables_of, words_of}
use Rattle.irep.specs.declared.Limits.{Limits}
use Rattle.sections.specs.declared.Used.{Used}
use Rattle.file.specs.File.{out, file_out}
use Rattle.tables.specs.Tables.{Lengths}
use Rattle.rite.specs.Answers.{words, sizes, Zeros, counts_of, load_within}
use Rattle.rite.proofs.Join.{linked, Linkable, load_is, load_linkable}

-- a table of no rows is zeros
blank : {R : Type 0} (ws : R → List ℕ) (n : ℕ) → table_of ws n [] ≡ replicate n 0
blank ws n = let e : n - 0 ≡ n = omega arith in rw e

pub zero_words : (t t' : Words) → Zeros t t' → t' ≡ words_of (sizes t) (tables_of nothing)
zero_words t t' z =
    let w = words_of (sizes t) (tables_of nothing) in
    let e : words t'.records t'.handlers t'.pool t'.symbols t'.strings t'.names t'.file_names t'.files t'.lines ≡ w =
    rw (z.records, z.handlers, z.pool, z.symbols, z.strings, z.names, z.file_names, z.files, z.lines, blank, blank, blank, blank, blank, blank, blank, blank, blank) in
    e

-- what kept its lengths has its sizes
pub same_sizes : (t t' : Words) → Lengths t t' → sizes t' ≡ sizes t
same_sizes t t' s = rw (s.records, s.handlers, s.pool, s.symbols, s.strings, s.names, s.file_names, s.files, s.lines)

min_is : (a b : ℕ) → min a b ≡ least a b
min_is a b = go (leb a b) refl
  where
    go : (c : Bool) → leb a b ≡ c → min a b ≡ cond c a b
    go true e = omega (arith, leb-true a b e)
    go false e = omega (arith, leb-false a b e)

-- what is left of an allowance that is cut to the desktop's
pub granted_is : (b r : ℕ) → allowance (min b desktop.bytes) (min r desktop.records) ≡ granted (allowance b r)
granted_is b r = rw (min_is b desktop.bytes, min_is r desktop.records)

module _ (limit : Limits) (few : limit.most ≤ 1024) (f : List ℕ) (bytes : (i : ℕ) → get_or f i 0 < 256) (t t₁ t₂ : Words) (z : t₁ ≡ words_of (sizes t) (tables_of nothing)) where
  module _ (u : Used) (e : out (ok u) t₂ ≡ file_out f limit t₁) where
    -- the records' depths and parents can be put in, and then the load is done
    pub load_holds : Linkable u.records t₂
    load_holds = load_linkable limit few (sizes t) f bytes u t₂ (rw (← z) (sym e))

    pub load_went : record { answer = ok (counts_of u); tables = linked u.records t₂ } ≡ load_within limit f (sizes t)
    load_went = sym (load_is limit few (sizes t) f bytes ∙ rw (← z, ← e))

  pub load_refused : (k : ℕ) → out (refused k) t₂ ≡ file_out f limit t₁ → (t₃ : Words) → t₃ ≡ words_of (sizes t) (tables_of nothing)
      → record { answer = refused k; tables = t₃ } ≡ load_within limit f (sizes t)
  load_refused k e t₃ y =
      let o : file_out f limit (words_of (sizes t) (tables_of nothing)) ≡ out (refused k) t₂ = rw (← z) (sym e) in
      sym (load_is limit few (sizes t) f bytes ∙ rw (o, y))
