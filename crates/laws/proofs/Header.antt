-- Files that are not pattern files: paper 02, g). When a load refuses by 27 and by 28, under an allowance; what a file that loads begins with; and that
-- nothing else of the header counts.
-- Assumes nothing.
use Prim.Native.Nat.{ℕ, zero, suc, ◌+◌, ◌-◌, ◌≤◌, ◌<◌}
use native.Mathlib.Nat.{add-zero}
use native.Mathlib.Omega.{arith}
use mathlib.Core.Path.{◌≡◌, refl, sym, ap, subst, ◌∙◌}
use mathlib.Core.Logic.{◌↔◌}
use mathlib.Core.Bool.{Bool, true, false, not, cond, ◌&&◌}
use mathlib.Core.List.{List, [], ◌∷◌}
use lib.Dec.{T, leb, eqb, leb→le, le→leb, nleb→lt, eqb→eq, T_not, not_T}
use lib.Ieee.Fits.{and_i, and_l, and_r}
use lib.ListN.{length, get_or, take, drop, length-drop}
use lib.Seq.{get_or-drop, drop-drop}
use borrow.Author.Tests.{ne_eqb}
use Rattle.format.specs.Bytes.{Answer, ok, refused, one_of, on_answer, has, four_are}
use Rattle.format.specs.Headers.{rite_ident}
use Rattle.format.specs.Reading.{Part, part}
use Rattle.format.specs.Allowance.{Allowance, granted}
use Rattle.format.specs.File.{Content, nothing, section_at, sections, ident_is_rite, stated_size, major_is04, file_refusal, file_reading}
use Rattle.format.specs.Load.{Nine, tables_of, used, fits, ending, loading_within, loading, load}
use Rattle.format.specs.Exam.{FilePasses}
use Rattle.format.proofs.Least.{least_iff}
use Rattle.format.proofs.Answers.{refused_same, Refuses, answered, tested}
use Rattle.format.proofs.File.{accepted}
use Rattle.layout.proofs.Ends.{reading_accepted}
use Rattle.layout.proofs.Inside.{loading_reading}
use Rattle.laws.proofs.Numbers.{Among, section_numbers, further}
use Rattle.laws.proofs.Tests.{without, tests_are, number_iff}
use Rattle.laws.proofs.Endings.{cut_sections_end}
use Rattle.laws.proofs.Refusals.{laid_refuses}
use Rattle.laws.proofs.Allowance.{fits_nothing}

-- "the first four bytes are .. ASCII RITE", as the bytes and as the test
pub rite_iff : (f : List ℕ) → 4 ≤ length f → (take 4 f ≡ rite_ident) ↔ T (ident_is_rite f)
rite_iff [] h = absurd (omega arith)
rite_iff (a ∷ []) h = absurd (omega arith)
rite_iff (a ∷ b ∷ []) h = absurd (omega arith)
rite_iff (a ∷ b ∷ c ∷ []) h = absurd (omega arith)
rite_iff (a ∷ b ∷ c ∷ d ∷ r) h = (λ e. subst (λ (l : List ℕ). T (four_are l 0 rite_ident)) (sym e) tt, back)
  where
    back : T (ident_is_rite (a ∷ b ∷ c ∷ d ∷ r)) → a ∷ b ∷ c ∷ d ∷ [] ≡ rite_ident
    back t =
        let p = eqb a 82 in
        let q = eqb b 73 in
        let s = eqb c 84 in
        let t3 = and_l (p && q && s) (eqb d 69) t in
        let t2 = and_l (p && q) s t3 in
        rw (eqb→eq a 82 (and_l p q t2), eqb→eq b 73 (and_r p q t2), eqb→eq c 84 (and_r (p && q) s t3), eqb→eq d 69 (and_r (p && q && s) (eqb d 69) t))

module _ (f : List ℕ) (a : Allowance) where
  abbrev n : ℕ
  n = length f

  -- the bytes that are allowed, and the number of the file's tests
  abbrev allowed : ℕ
  allowed = (granted a).bytes

  abbrev refusal : ℕ
  refusal = file_refusal f allowed

  -- what meets 27, and what meets 28
  pub record OtherIdent : Type 0 where
    pub small : n ≤ 65536
    pub within : n ≤ a.bytes
    pub headed : 20 ≤ n
    pub other : ¬ (take 4 f ≡ rite_ident)

  pub record SizeBeyond : Type 0 where
    pub small : n ≤ 65536
    pub within : n ≤ a.bytes
    pub headed : 20 ≤ n
    pub rite : take 4 f ≡ rite_ident
    pub beyond : n < stated_size f

  -- the tests before 27
  abbrev in_range : Bool
  in_range = leb n 65536 && leb n allowed && leb 20 n

  in_range_iff : T in_range ↔ ((n ≤ 65536) × (n ≤ a.bytes) × (20 ≤ n))
  in_range_iff =
      let small = leb n 65536 in
      let within = leb n allowed in
      let headed = leb 20 n in
      let both = least_iff n a.bytes 65536 in (
        λ t.
            let s = and_l (small && within) headed t in
            (leb→le n 65536 (and_l small within s), (both.0 (leb→le n allowed (and_r small within s))).0, leb→le 20 n (and_r (small && within) headed t)),
        λ x.
            and_i (small && within) headed (and_i small within (le→leb n 65536 x.0) (le→leb n allowed (both.1 (x.1, x.0)))) (le→leb 20 n x.2),
      )

  tests_27 : refusal ≡ 27 ↔ OtherIdent
  tests_27 = (λ e. there (met.0 e), λ x. met.1 (back x))
    where
      rite : Bool
      rite = ident_is_rite f

      met : (refusal ≡ 27) ↔ T (in_range && not rite)
      met = number_iff refusal 27 _ (tests_are f allowed).at_27

      there : T (in_range && not rite) → OtherIdent
      there t =
          let p = in_range_iff.0 (and_l in_range (not rite) t) in
          let h = p.2 in
          record {
            small = p.0;
            within = p.1;
            headed = h;
            other = λ q. T_not rite (and_r in_range (not rite) t) ((rite_iff f (omega arith)).0 q);
          }

      back : OtherIdent → T (in_range && not rite)
      back x =
          let h = x.headed in
          and_i in_range (not rite) (in_range_iff.1 (x.small, x.within, h)) (not_T rite (λ t. x.other ((rite_iff f (omega arith)).1 t)))

  tests_28 : refusal ≡ 28 ↔ SizeBeyond
  tests_28 = (λ e. there (met.0 e), λ x. met.1 (back x))
    where
      rite : Bool
      rite = ident_is_rite f

      sized : Bool
      sized = leb (stated_size f) n

      met : (refusal ≡ 28) ↔ T (in_range && rite && not sized)
      met = number_iff refusal 28 _ (tests_are f allowed).at_28

      there : T (in_range && rite && not sized) → SizeBeyond
      there t =
          let s = and_l (in_range && rite) (not sized) t in
          let p = in_range_iff.0 (and_l in_range rite s) in
          let h = p.2 in
          record {
            small = p.0;
            within = p.1;
            headed = h;
            rite = (rite_iff f (omega arith)).1 (and_r in_range rite s);
            beyond = nleb→lt (stated_size f) n (and_r (in_range && rite) (not sized) t);
          }

      back : SizeBeyond → T (in_range && rite && not sized)
      back x =
          let h = x.headed in
          let b = x.beyond in
          and_i (in_range && rite) (not sized) (and_i in_range rite (in_range_iff.1 (x.small, x.within, h)) ((rite_iff f (omega arith)).0 x.rite))
          (not_T sized (λ t. let k = leb→le (stated_size f) n t in omega arith))

  -- a file that meets neither is tested as paper 01 tests it, with 29 behind 1: "Equality with the Rust leaves out 27 and 28."
  pub tests_else : ¬ (refusal ≡ 27) → ¬ (refusal ≡ 28) → refusal ≡ without (leb n 65536) (leb n allowed) (leb 20 n) (major_is04 f) (leb 32 n)
  tests_else x y = sym (rw (ne_eqb refusal 27 x, ne_eqb refusal 28 y) at (tests_are f allowed).else)

  module _ (m : Nine) where
    -- a file that its tests refuse is refused so, whatever is lent
    tested_load : (k : ℕ) → refusal ≡ suc k → (load f m a).answer ≡ refused (suc k)
    unfolding load loading_within ending file_reading
    tested_load k e = rw (e, ne_eqb (suc k) 0 (λ (z : suc k ≡ 0). omega arith), fits_nothing m)

    -- behind the tests a load is refused by 14 or by a number of sections
    sections_refuse : refusal ≡ 0 → Refuses (Among (14 ∷ 29 ∷ section_numbers)) (loading f m a)
    unfolding loading_within ending file_reading
    sections_refuse z =
        let p = sections f (granted a).records n nothing 20 in
        let ns : List ℕ = 14 ∷ 29 ∷ section_numbers in
        rw z
        (tested _ _ (fits 1024 m (used (tables_of p.it))) _ 14 tt
        (λ _. answered _ _ (Refuses (Among ns)) p.end _ _ (cut_sections_end f (granted a).records) (λ _ _. tt) (further (29 ∷ section_numbers) ns tt)))

    -- so a load's other numbers are the tests'
    load_tested : (e : ℕ) → T (not (one_of (14 ∷ 29 ∷ section_numbers) e)) → (load f m a).answer ≡ refused e → refusal ≡ e
    unfolding load
    load_tested e t q = by_tests refusal refl
      where
        by_tests : (k : ℕ) → refusal ≡ k → refusal ≡ e
        by_tests zero z =
            let R : ℕ → Type 0 = Among (14 ∷ 29 ∷ section_numbers) in
            absurd (T_not (one_of (14 ∷ 29 ∷ section_numbers) e) t (subst (Refuses R) q (laid_refuses m R (loading f m a) (sections_refuse z))))
        by_tests (suc k) z = z ∙ refused_same (sym (tested_load k z) ∙ q)

    -- "27 when the first four bytes are not ASCII RITE, after 2."
    pub load_27 : (load f m a).answer ≡ refused 27 ↔ OtherIdent
    load_27 = (λ q. tests_27.0 (load_tested 27 tt q), λ x. tested_load 26 (tests_27.1 x))

    -- "28 when the header's size exceeds the file's length, after 27."
    pub load_28 : (load f m a).answer ≡ refused 28 ↔ SizeBeyond
    load_28 = (λ q. tests_28.0 (load_tested 28 tt q), λ x. tested_load 27 (tests_28.1 x))

    -- a file that loads begins with RITE and states no more bytes than it has
    pub loaded_rite : (c : Content) → loading f m a ≡ ok c → (take 4 f ≡ rite_ident) × (stated_size f ≤ n)
    loaded_rite c e =
        let r = loading_reading f m a c e in
        let x = reading_accepted f (granted a) r.1.0 r.1.1 in
        let l = x.long in
        ((rite_iff f (omega arith)).1 x.rite, x.sized)

  -- so does one that passes
  pub passes_rite : {q : List ℕ} → FilePasses f a q → (take 4 f ≡ rite_ident) × (stated_size f ≤ n)
  passes_rite x = loaded_rite x.tables x.content x.loads

-- Of two files that their tests accept under an allowance, with the same bytes behind their headers, one loads as the other does.
module _ (f g : List ℕ) (same : drop 20 f ≡ drop 20 g) where
  from_20 : (at : ℕ) → 20 ≤ at → drop at f ≡ drop at g
  from_20 at h =
      let k : 20 + (at - 20) ≡ at = omega arith in
      let part : (l : List ℕ) → drop (at - 20) (drop 20 l) ≡ drop at l = λ l. drop-drop (at - 20) 20 l ∙ ap (λ (i : ℕ). drop i l) k in
      sym (part f) ∙ ap (drop (at - 20)) same ∙ part g

  byte_same : (at : ℕ) → 20 ≤ at → get_or f at 0 ≡ get_or g at 0
  byte_same at h =
      let first_of : (l : List ℕ) → get_or (drop at l) 0 0 ≡ get_or l at 0 = λ l. get_or-drop at l 0 0 ∙ ap (λ (i : ℕ). get_or l i 0) (add-zero at) in
      sym (first_of f) ∙ ap (λ (l : List ℕ). get_or l 0 0) (from_20 at h) ∙ first_of g

  section_same : (allowed : ℕ) (c : Content) (at : ℕ) → 20 ≤ at → section_at f allowed c at ≡ section_at g allowed c at
  unfolding section_at
  section_same allowed c at h =
      rw (
        byte_same at h,
        byte_same (at + 1) (omega arith),
        byte_same (at + 2) (omega arith),
        byte_same (at + 3) (omega arith),
        from_20 at h,
      )

  module _ (long : 20 ≤ length f) (long' : 20 ≤ length g) where
    length_same : length f ≡ length g
    length_same =
        let e : length f - 20 ≡ length g - 20 = sym (length-drop 20 f) ∙ ap length same ∙ length-drop 20 g in
        omega arith

    sections_same : (allowed k : ℕ) (c : Content) (at : ℕ) → 20 ≤ at → sections f allowed k c at ≡ sections g allowed k c at
    unfolding sections
    sections_same allowed zero c at h = refl
    sections_same allowed (suc k) c at h =
        rw (length_same, section_same allowed c at h)
        (by_there (has g at 4) (section_at g allowed c at) (λ size. sections_same allowed k (section_at g allowed c at).it (at + size) (omega arith)))
      where
        by_there : (b : Bool) (s : Part Content) → ((size : ℕ) → sections f allowed k s.it (at + size) ≡ sections g allowed k s.it (at + size))
            → cond b (on_answer s.end (λ size. sections f allowed k s.it (at + size)) (λ e. part s.it (refused e))) (part c (ok at))
            ≡ cond b (on_answer s.end (λ size. sections g allowed k s.it (at + size)) (λ e. part s.it (refused e))) (part c (ok at))
        by_there false s ih = refl
        by_there true s ih = by_end s.end
          where
            by_end : (a : Answer ℕ)
                → on_answer a (λ size. sections f allowed k s.it (at + size)) (λ e. part s.it (refused e))
                ≡ on_answer a (λ size. sections g allowed k s.it (at + size)) (λ e. part s.it (refused e))
            by_end (ok size) = ih size
            by_end (refused e) = refl

  reading_same : (a : Allowance) → file_refusal f a.bytes ≡ 0 → file_refusal g a.bytes ≡ 0 → file_reading f a ≡ file_reading g a
  unfolding file_reading
  reading_same a z z' =
      let l = (accepted f a.bytes z).long in
      let l' = (accepted g a.bytes z').long in
      let long : 20 ≤ length f = omega arith in
      let long' : 20 ≤ length g = omega arith in
      rw (z, z', sections_same long long' a.records (length f) nothing 20 (omega arith), length_same long long')

  pub load_same : (m : Nine) (a : Allowance) → file_refusal f (granted a).bytes ≡ 0 → file_refusal g (granted a).bytes ≡ 0 → load f m a ≡ load g m a
  unfolding load loading_within
  load_same m a z z' = rw (reading_same (granted a) z z')
