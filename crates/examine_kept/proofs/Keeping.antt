-- The examination of a loaded file's tables is that of the file, and what was loaded stays.
-- Assumes nothing.
use Prim.Native.Nat.{ℕ}
use mathlib.Core.Path.{◌≡◌, refl, sym, ap, ◌∙◌}
use mathlib.Core.Bool.{Bool, true, false}
use mathlib.Core.List.{List}
use lib.Dec.{leb}
use lib.ListN.{length}
use Rattle.std.specs.Prelude.{Ok, Err}
use Rattle.format.specs.Bytes.{Answer, ok, refused}
use Rattle.format.specs.Allowance.{Allowance}
use Rattle.format.specs.File.{Content}
use Rattle.format.specs.Load.{Nine, records_of, files_of, tables_of, Counts, counts, Words, words_of, loading, laid, load}
use Rattle.format.specs.Pattern.{pattern_of}
use Rattle.format.specs.Exam.{unless_met, passing, passing_single}
use Rattle.format.proofs.Places.{records_length}
use Rattle.format.proofs.Answers.{ok_refused}
use Rattle.layout.proofs.Pattern.{pattern_length}
use Rattle.refusal.specs.declared.Refusal.{Refusal}
use Rattle.refusal.specs.Number.{number}
use Rattle.refusal.proofs.Number.{number_above_0}
use Rattle.exam.specs.View.{pattern_at, Fits}
use Rattle.sections.specs.declared.Used.{Used}
use Rattle.rite.specs.Answers.{counts_of, loaded_of}
use Rattle.examine_asked.specs.declared.Asked.{Asked}
use Rattle.examine_asked.specs.declared.Asked.TheVariants as asked
use Rattle.examine_asked.specs.Asked.{examine_asked, answering}
use Rattle.examine_kept.specs.Kept.{Examined, examined, examine_kept, kept_of}
use Rattle.examine_kept.specs.declared.Failure.TheVariants.{Load, Examination}
use Rattle.examine_kept.proofs.Loaded.{pattern_is, tables_fit}

-- what a load that answers rows says: the file is loaded, and the tables hold its rows
pub record Given (f : List ℕ) (m : Nine) (allow : Allowance) (w : Words) (u : Used) : Type 0 where
  pub content : Content
  pub loads : loading f m allow ≡ ok content
  pub counted : counts_of u ≡ counts content
  pub tables : w ≡ words_of m (tables_of content)

-- what is asked is answered by its number
pub answering_is : (x : Asked) (q f : List ℕ) (c : Content) → answering x q f c ≡ unless_met (examine_asked x q (pattern_of f c)) c
unfolding passing passing_single
answering_is (asked.Whole rows) q f c = go (leb (length (records_of c)) rows) refl
  where
    go : (b : Bool) → leb (length (records_of c)) rows ≡ b → answering (asked.Whole rows) q f c ≡ unless_met (examine_asked (asked.Whole rows) q (pattern_of f c)) c
    go true e = rw (pattern_length f (records_of c) (files_of c), e)
    go false e = rw (pattern_length f (records_of c) (files_of c), e)
answering_is (asked.Single i) q f c = refl

both : {a a' : Answer (Answer Counts)} {t t' : Words} → a ≡ a' → t ≡ t'
    → ◌≡◌ {A = Examined} (record { answer = a; tables = t }) (record { answer = a'; tables = t' })
both p q = rw (p, q)

module _ (f : List ℕ) (m : Nine) (allow : Allowance) (w : Words) where
  module _ (u : Used) where
    pub given : loaded_of (Ok u) w ≡ load f m allow → Given f m allow w u
    unfolding load
    given e = go (loading f m allow) refl e
      where
        go : (a : Answer Content) → loading f m allow ≡ a → loaded_of (Ok u) w ≡ laid m a → Given f m allow w u
        go (ok c) q e = let x : ok (counts_of u) ≡ ok (counts c) = ap (λ l. l.answer) e in record { content = c; loads = q; counted = cc; tables = ap (λ l. l.tables) e }
        go (refused n) q e = let x : ok (counts_of u) ≡ refused n = ap (λ l. l.answer) e in absurd (ok_refused (sym x))

    module _ (g : Given f m allow w u) where
      pub count_is : u.records ≡ length (records_of g.content)
      count_is =
          let c = g.content in
          ap (λ n. n.rows.records) g.counted ∙ records_length c

      pub fits_given : Fits f w.records w.handlers w.lines u.records
      fits_given = rw (g.tables, count_is) (tables_fit f m g.content allow g.loads)

      pub pattern_given : pattern_at f w.records w.handlers w.lines u.records ≡ pattern_of f g.content
      pattern_given = rw (g.tables, count_is) (pattern_is f m g.content)

      module _ (x : Asked) (q : List ℕ) (k : ℕ) (e : k ≡ examine_asked x q (pattern_at f w.records w.handlers w.lines u.records)) where
        number_is : answering x q f g.content ≡ unless_met k g.content
        number_is = answering_is x q f g.content ∙ ap (λ n. unless_met n g.content) (sym (e ∙ ap (examine_asked x q) pattern_given))

        tables_kept : w ≡ (load f m allow).tables
        unfolding load
        tables_kept = g.tables ∙ ap (λ l. (laid m l).tables) (sym g.loads)

        -- nothing is met
        pub kept_rows : k ≡ 0 → kept_of (Ok u) w ≡ examine_kept x f m allow q
        unfolding examine_kept
        kept_rows z =
            let a : ok (ok (counts_of u)) ≡ examined x q f (loading f m allow) = rw (g.loads, number_is, z, g.counted) in
            both a tables_kept

        -- a condition is met
        pub kept_met : (r : Refusal) → k ≡ number r → kept_of (Err (Examination r)) w ≡ examine_kept x f m allow q
        unfolding examine_kept
        kept_met r z =
            let a : ok (refused (number r)) ≡ examined x q f (loading f m allow) = rw (g.loads, number_is, z, number_above_0 r) in
            both a tables_kept

  -- a load that is refused
  pub kept_refused : (x : Asked) (q : List ℕ) (r : Refusal) → loaded_of (Err r) w ≡ load f m allow → kept_of (Err (Load r)) w ≡ examine_kept x f m allow q
  unfolding load examine_kept
  kept_refused x q r e = go (loading f m allow) refl e
    where
      go : (a : Answer Content) → loading f m allow ≡ a → loaded_of (Err r) w ≡ laid m a → kept_of (Err (Load r)) w ≡ examine_kept x f m allow q
      go (ok c) l e = let y : refused (number r) ≡ ok (counts c) = ap (λ z. z.answer) e in absurd (ok_refused y)
      go (refused n) l e =
          let y : ◌≡◌ {A = Answer Counts} (refused (number r)) (refused n) = ap (λ z. z.answer) e in
          let same : number r ≡ n = cc in
          let a : refused (number r) ≡ examined x q f (loading f m allow) = rw (l, same) in
          both a (ap (λ z. z.tables) e ∙ ap (λ z. (laid m z).tables) (sym l))
