-- Follow over the tables of a file that is loaded and passes is follow of the file.
-- Assumes nothing.
use Prim.Native.Nat.{ℕ, ◌-◌, ◌*◌, ◌/◌, ◌≤◌}
use native.Mathlib.Omega.{arith}
use mathlib.Core.Path.{◌≡◌, refl, sym, ap, ◌∙◌}
use mathlib.Core.Bool.{Bool, true, false, cond}
use mathlib.Core.List.{List, []}
use lib.Dec.{leb, eqb}
use lib.ListN.{length, replicate}
use borrow.Author.Tests.{leb-true, eqb-true}
use Rattle.format.specs.Bytes.{Answer, ok, refused, bind, on_answer}
use Rattle.format.specs.Allowance.{Allowance}
use Rattle.format.specs.File.{Content, nothing}
use Rattle.format.specs.Load.{Nine, records_of, tables_of, Counts, counts, Words, words_of, loading, laid}
use Rattle.format.specs.Pattern.{pattern_of}
use Rattle.format.specs.Exam.{examine_pattern, passing}
use Rattle.format.specs.Run as format
use Rattle.format.specs.Run.{Choice, Standing, standing, run, choices, following, follow}
use Rattle.format.proofs.Answers.{ok_refused}
use Rattle.format.proofs.RowsFrom.{rows_from_length}
use Rattle.exam.specs.View.{record_at, pattern_at, Ready}
use Rattle.std.specs.Prelude.{Ok, Err}
use Rattle.refusal.specs.declared.Refusal.{Refusal}
use Rattle.refusal.specs.Number.{number}
use Rattle.sections.specs.declared.Used.{Used}
use Rattle.rite.specs.Answers.{counts_of, loaded_of}
use Rattle.run.specs.Follow.{out, follow_out}
use Rattle.examine_asked.specs.declared.Asked.TheVariants as asked
use Rattle.examine_kept.specs.Kept.{asked_in}
use Rattle.examine_kept.proofs.Keeping.{Given, fits_given, pattern_given, count_is}

-- the same pattern has the same number of records
pub same_number : (f recs hs ls : List ℕ) (n : ℕ) (f' recs' hs' ls' : List ℕ) (n' : ℕ) → pattern_at f recs hs ls n ≡ pattern_at f' recs' hs' ls' n' → n ≡ n'
same_number f recs hs ls n f' recs' hs' ls' n' e =
    sym (rows_from_length (record_at f recs hs ls) 0 n) ∙ ap length e ∙ rows_from_length (record_at f' recs' hs' ls') 0 n'

-- a file that is loaded, has at most so many records, and passes
abbrev passing_in : List ℕ → Nine → Allowance → List ℕ → ℕ → Answer Content
passing_in f m a q rows = asked_in (asked.Whole rows) f m a q

-- the run behind a file that is loaded and passes
abbrev ran : List ℕ → List ℕ → Content → Answer format.Ran
ran f bs c = bind (choices bs) (λ cs. ok (record { content = c; frames = run (pattern_of f c) cs }))

following_is : (f : List ℕ) (m : Nine) (allow : Allowance) (q : List ℕ) (n : ℕ) (bs : List ℕ) → following f m allow q n bs ≡ bind (passing_in f m allow q (n / 2)) (ran f bs)
unfolding following passing
following_is f m allow q n bs = go (loading f m allow) refl
  where
    go : (a : Answer Content) → loading f m allow ≡ a → following f m allow q n bs ≡ bind (passing_in f m allow q (n / 2)) (ran f bs)
    go (refused e) l = rw l
    go (ok c) l = at (leb (length (records_of c)) (n / 2)) refl (eqb (examine_pattern q (pattern_of f c)) 0) refl
      where
        at : (b : Bool) → leb (length (records_of c)) (n / 2) ≡ b → (d : Bool) → eqb (examine_pattern q (pattern_of f c)) 0 ≡ d
            → following f m allow q n bs ≡ bind (passing_in f m allow q (n / 2)) (ran f bs)
        at false p d r = rw (l, p)
        at true p true r = rw (l, p, r)
        at true p false r = rw (l, p, r)

-- an answer with the tables as they are then
abbrev whole : Answer Standing → Words → List ℕ → format.Followed
whole a w t = record { answer = a; tables = w; frames = t }

whole_same : {a a' : Answer Standing} {w w' : Words} {t t' : List ℕ} → a ≡ a' → w ≡ w' → t ≡ t' → whole a w t ≡ whole a' w' t'
whole_same a w t = rw (a, w, t)

-- what follow answers of such a file, by its choices
module _ (f : List ℕ) (m : Nine) (allow : Allowance) (q : List ℕ) (n : ℕ) (bs : List ℕ) (c : Content) where
  abbrev runs : List Choice → format.Followed
  runs cs =
      record {
        answer = ok (standing (pattern_of f c) (run (pattern_of f c) cs));
        tables = words_of m (tables_of c);
        frames = format.frame_table n (run (pattern_of f c) cs);
      }

  abbrev none_runs : ℕ → format.Followed
  none_runs e = record { answer = refused e; tables = words_of m (tables_of nothing); frames = format.frame_table n [] }

  follow_is : following f m allow q n bs ≡ ran f bs c → (a : Answer (List Choice)) → choices bs ≡ a → follow f m allow q n bs ≡ on_answer a runs none_runs
  unfolding follow
  follow_is e (ok cs) r = rw (e, r)
  follow_is e (refused k) r = rw (e, r)

  out_is : (a : Answer (List Choice)) → choices bs ≡ a
      → follow_out (pattern_of f c) bs n ≡ out (on_answer a runs none_runs).answer (on_answer a runs none_runs).frames
  unfolding follow_out
  out_is (ok cs) r = rw r
  out_is (refused e) r = rw r

-- what a file that is loaded and passes gives
record Passed (f : List ℕ) (m : Nine) (allow : Allowance) (q : List ℕ) (rows : ℕ) (c : Content) : Type 0 where
  loads : loading f m allow ≡ ok c
  few : length (records_of c) ≤ rows
  passes : examine_pattern q (pattern_of f c) ≡ 0

passed : (f : List ℕ) (m : Nine) (allow : Allowance) (q : List ℕ) (rows : ℕ) (c : Content) → passing_in f m allow q rows ≡ ok c → Passed f m allow q rows c
unfolding passing
passed f m allow q rows c e = go (loading f m allow) refl e
  where
    go : (a : Answer Content) → loading f m allow ≡ a → bind a (λ c. cond (leb (length (records_of c)) rows) (passing q f c) (refused 14)) ≡ ok c → Passed f m allow q rows c
    go (refused k) l e = absurd (ok_refused e)
    go (ok d) l e = at (leb (length (records_of d)) rows) refl (eqb (examine_pattern q (pattern_of f d)) 0) refl e
      where
        at : (b : Bool) → leb (length (records_of d)) rows ≡ b → (t : Bool) → eqb (examine_pattern q (pattern_of f d)) 0 ≡ t
            → cond b (cond t (ok d) (refused (examine_pattern q (pattern_of f d)))) (refused 14) ≡ ok c → Passed f m allow q rows c
        at false p t r e = absurd (ok_refused e)
        at true p false r e = absurd (ok_refused e)
        at true p true r e =
            let s : d ≡ c = cc in
            rw (← s) (record { loads = l; few = leb-true (length (records_of d)) rows p; passes = eqb-true (examine_pattern q (pattern_of f d)) 0 r })

module _ (f : List ℕ) (m : Nine) (allow : Allowance) (q : List ℕ) (w : Words) (u : Used) (n : ℕ)
    (e : loaded_of (Ok u) w ≡ laid m (passing_in f m allow q (n / 2))) where
  -- the content, which is loaded and passes
  record Has : Type 0 where
    c : Content
    ok_is : passing_in f m allow q (n / 2) ≡ ok c
    given : Given f m allow w u
    same : given.content ≡ c

  has : Has
  has = go (passing_in f m allow q (n / 2)) refl e
    where
      go : (a : Answer Content) → passing_in f m allow q (n / 2) ≡ a → loaded_of (Ok u) w ≡ laid m a → Has
      go (refused k) l e = let x : ok (counts_of u) ≡ refused k = ap (λ l. l.answer) e in absurd (ok_refused (sym x))
      go (ok c) l e =
          let x : ok (counts_of u) ≡ ok (counts c) = ap (λ l. l.answer) e in
          record {
            c = c;
            ok_is = l;
            given = record { content = c; loads = (passed f m allow q (n / 2) c l).loads; counted = cc; tables = ap (λ l. l.tables) e };
            same = refl;
          }

  pub ready : Ready f w.records w.handlers w.lines u.records
  ready =
      let h = has in
      let p = passed f m allow q (n / 2) h.c h.ok_is in
      let given = pattern_given f m allow w u h.given in
      record {
        fits = fits_given f m allow w u h.given;
        list = q;
        passes = ap (examine_pattern q) given ∙ ap (λ c. examine_pattern q (pattern_of f c)) h.same ∙ p.passes;
      }

  pub room : 2 * u.records ≤ n
  room =
      let h = has in
      let p = passed f m allow q (n / 2) h.c h.ok_is in
      omega (arith, p.few, count_is f m allow w u h.given, ap (λ c. length (records_of c)) h.same)

  pattern_same : (h : Has) → pattern_at f w.records w.handlers w.lines u.records ≡ pattern_of f h.c
  pattern_same h = pattern_given f m allow w u h.given ∙ ap (λ d. pattern_of f d) h.same

  tables_same : (h : Has) → w ≡ words_of m (tables_of h.c)
  tables_same h = h.given.tables ∙ ap (λ d. words_of m (tables_of d)) h.same

  following_same : (bs : List ℕ) (h : Has) → following f m allow q n bs ≡ ran f bs h.c
  following_same bs h = following_is f m allow q n bs ∙ ap (λ a. bind a (ran f bs)) h.ok_is

  module _ (bs t : List ℕ) where
    -- the run goes on or is finished: the tables stay
    pub stands : (s : Standing) → out (ok s) t ≡ follow_out (pattern_at f w.records w.handlers w.lines u.records) bs n
        → whole (ok s) w t ≡ follow f m allow q n bs
    stands s o = go has (choices bs) refl
      where
        go : (h : Has) (a : Answer (List Choice)) → choices bs ≡ a → whole (ok s) w t ≡ follow f m allow q n bs
        go h (ok cs) r =
            let c = h.c in
            let x = o ∙ ap (λ p. follow_out p bs n) (pattern_same h) ∙ out_is f m allow q n bs c (ok cs) r in
            let a : ok s ≡ ok (standing (pattern_of f c) (run (pattern_of f c) cs)) = ap (λ y. y.answer) x in
            let b : t ≡ format.frame_table n (run (pattern_of f c) cs) = ap (λ y. y.frames) x in
            whole_same a (tables_same h) b ∙ sym (follow_is f m allow q n bs c (following_same bs h) (ok cs) r)
        go h (refused e) r =
            let x = o ∙ ap (λ p. follow_out p bs n) (pattern_same h) ∙ out_is f m allow q n bs h.c (refused e) r in
            let a : ok s ≡ refused e = ap (λ y. y.answer) x in
            absurd (ok_refused (sym a))

    -- 21: all is cleared
    pub refuses : (k : ℕ) → out (refused k) t ≡ follow_out (pattern_at f w.records w.handlers w.lines u.records) bs n
        → (w' : Words) → w' ≡ words_of m (tables_of nothing) → whole (refused k) w' t ≡ follow f m allow q n bs
    refuses k o w' z = go has (choices bs) refl
      where
        go : (h : Has) (a : Answer (List Choice)) → choices bs ≡ a → whole (refused k) w' t ≡ follow f m allow q n bs
        go h (ok cs) r =
            let x = o ∙ ap (λ p. follow_out p bs n) (pattern_same h) ∙ out_is f m allow q n bs h.c (ok cs) r in
            let a : refused k ≡ ok (standing (pattern_of f h.c) (run (pattern_of f h.c) cs)) = ap (λ y. y.answer) x in
            absurd (ok_refused a)
        go h (refused e) r =
            let x = o ∙ ap (λ p. follow_out p bs n) (pattern_same h) ∙ out_is f m allow q n bs h.c (refused e) r in
            let a : refused k ≡ refused e = ap (λ y. y.answer) x in
            let b : t ≡ format.frame_table n [] = ap (λ y. y.frames) x in
            whole_same a z b ∙ sym (follow_is f m allow q n bs h.c (following_same bs h) (refused e) r)

-- a file that is not loaded, or does not pass
pub stopped : (f : List ℕ) (m : Nine) (allow : Allowance) (q : List ℕ) (w : Words) (r : Refusal) (n : ℕ) (bs : List ℕ)
    → loaded_of (Err r) w ≡ laid m (passing_in f m allow q (n / 2)) → (t : List ℕ) → t ≡ replicate n 0 → whole (refused (number r)) w t ≡ follow f m allow q n bs
unfolding follow format.frame_table format.laid_frames
stopped f m allow q w r n bs e t z = go (passing_in f m allow q (n / 2)) refl e
  where
    go : (a : Answer Content) → passing_in f m allow q (n / 2) ≡ a → loaded_of (Err r) w ≡ laid m a → whole (refused (number r)) w t ≡ follow f m allow q n bs
    go (ok c) l e = let x : refused (number r) ≡ ok (counts c) = ap (λ l. l.answer) e in absurd (ok_refused x)
    go (refused i) l e =
        let x : ◌≡◌ {A = Answer Counts} (refused (number r)) (refused i) = ap (λ l. l.answer) e in
        let j : following f m allow q n bs ≡ refused i = following_is f m allow q n bs ∙ ap (λ a. bind a (ran f bs)) l in
        let same : number r ≡ i = cc in
        let none_of : n ≡ n - 2 * 0 = omega arith in
        let zeros : replicate {A = ℕ} n 0 ≡ replicate (n - 2 * 0) 0 = ap (λ (x : ℕ). replicate {A = ℕ} x 0) none_of in
        rw (j, ← same) (whole_same refl (ap (λ l. l.tables) e) (z ∙ zeros))
