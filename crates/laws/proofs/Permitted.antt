-- Permitted opcodes: paper 02, n). What a list permits; what permitting further opcodes does to an answer; that with everything permitted the answers are
-- the earlier ones, those of Unrestricted.
-- Assumes nothing.
use Prim.Native.Nat.{ℕ, zero, suc, ◌+◌, ◌/◌, ◌≤◌, ◌<◌}
use native.Mathlib.Omega.{arith}
use mathlib.Core.Path.{◌≡◌, refl, sym, ap, subst, ◌∙◌, fun_ext}
use mathlib.Core.Logic.{◌↔◌, ◌⊎◌, inl, inr}
use mathlib.Core.Bool.{Bool, true, false, cond}
use mathlib.Core.List.{List, [], ◌∷◌, ◌++◌}
use lib.Dec.{T, T_not, not_T, ltb, leb, eqb, leb→le, ltb→lt, lt→ltb}
use lib.Ieee.Fits.{and_i, and_l, and_r}
use lib.ListN.{length, get_or, replicate, get_or-replicate, get_or-append, get_or-eq_default}
use borrow.Author.Tests.{eqb-true, eqb-false}
use Rattle.format.specs.Bytes.{Answer, ok, refused, bind, byte, refuse, first}
use Rattle.format.specs.Allowance.{Allowance}
use Rattle.format.specs.File.{Content}
use Rattle.format.specs.Load.{Nine, Counts, Loaded, records_of, loading, laid}
use Rattle.format.specs.Insn.{known, prefix, opcode}
use Rattle.format.specs.Tree.{whole}
use Rattle.format.specs.Pattern.{Record, Pattern, pattern_of, rec_at, rlens}
use Rattle.format.specs.Permitted.{permits, permitted_at, Further, Everything, everything}
use Rattle.format.specs.Exam.{readable, Bad32, RecordPasses, Some, Passes, FilePasses, FileRecordPasses}
use Rattle.format.specs.Exam.{RecordMeets, meets16, meets17, meets18, meets19, meets20, meets25, meets32, Meets, meets15, meets_record}
use Rattle.format.specs.Exam.{exam16, exam32, examine_record, examine_all, examine_pattern, unless_met, passing, examining, examine}
use Rattle.format.specs.Exam.{examine_single, passing_single, examining_single, examine_one}
use Rattle.format.specs.Run.{Standing, following, Followed, follow}
use Rattle.format.proofs.Answers.{ok_refused}
use Rattle.format.proofs.Table.{both}
use Rattle.runs.proofs.Next.{opcode_alone, opcode_behind}
use Rattle.runs.proofs.Exact.{each_16}
use Rattle.runs.proofs.Refusal.{told_32, clear_16, clear_32, record_iff}
use Rattle.runs.proofs.Lists.{same_record, same_pattern}
use Rattle.laws.proofs.Unrestricted as earlier

-- What a list permits.

-- "a list of 119 bytes, one an opcode, 0 for no, else yes"
pub permits_iff : (q : List ℕ) (b : ℕ) → T (permits q b) ↔ ((b < 119) × (0 < get_or q b 0))
unfolding permits
permits_iff q b =
    (λ t. (ltb→lt b 119 (search both), ltb→lt 0 (get_or q b 0) (search both)), λ h. and_i (known b) _ (lt→ltb b 119 h.0) (lt→ltb 0 (get_or q b 0) h.1))

-- "a missing byte is no"
pub missing_is_no : (q : List ℕ) (b : ℕ) → length q ≤ b → ¬ T (permits q b)
missing_is_no q b h t = let k = ((permits_iff q b).0 t).1 in let z = get_or-eq_default q 0 h in omega arith

-- "Permitting further opcodes": of the 119 bytes each that is not 0 in the one list is not 0 in the other
pub further_iff : (q l : List ℕ) → Further q l ↔ ((b : ℕ) → b < 119 → 0 < get_or q b 0 → 0 < get_or l b 0)
further_iff q l =
    (λ more b h y. ((permits_iff l b).0 (more b ((permits_iff q b).1 (h, y)))).1, λ yes b t. let h = (permits_iff q b).0 t in (permits_iff l b).1 (h.0, yes b h.0 h.1))

-- "With everything permitted": none of the 119 bytes is 0
pub everything_iff : (q : List ℕ) → Everything q ↔ ((b : ℕ) → b < 119 → 0 < get_or q b 0)
everything_iff q = (λ all b h. ((permits_iff q b).0 (all b h)).1, λ yes b h. (permits_iff q b).1 (h, yes b h))

-- so by the list of 119 ones
pub everything_permitted : Everything everything
everything_permitted = (everything_iff everything).1 (λ b h. let e : get_or everything b 0 ≡ 1 = get_or-replicate 119 b 1 0 h in omega arith)

-- and no list permits more
pub everything_further : (q l : List ℕ) → Everything l → Further q l
everything_further q l all b t = all b ((permits_iff q b).0 t).0

-- "A prefix needs its own yes": an instruction without one needs a yes for its byte, and one with a prefix two, the prefix's and the opcode's behind it
module _ (q c : List ℕ) (o : ℕ) where
  pub alone_needs : prefix (byte c o) ≡ false → T (permitted_at q c o) ↔ T (permits q (byte c o))
  unfolding permitted_at
  alone_needs e = rw (opcode_alone c o e) (λ t. and_l (permits q (byte c o)) (permits q (byte c o)) t, λ t. and_i (permits q (byte c o)) (permits q (byte c o)) t t)

  pub prefixed_needs : prefix (byte c o) ≡ true → T (permitted_at q c o) ↔ (T (permits q (byte c o)) × T (permits q (byte c (o + 1))))
  unfolding permitted_at
  prefixed_needs e =
      rw (opcode_behind c o e) (
        λ t. (and_l (permits q (byte c o)) (permits q (byte c (o + 1))) t, and_r (permits q (byte c o)) (permits q (byte c (o + 1))) t),
        λ h. and_i (permits q (byte c o)) (permits q (byte c (o + 1))) h.0 h.1,
      )

-- Two lists permit the same opcodes.
abbrev pub Same : List ℕ → List ℕ → Type 0
Same q l = (b : ℕ) → permits q b ≡ permits l b

-- "0 for no, else yes": so they do where each of the 119 bytes is 0 in both or in none
pub yes_is_yes : (q l : List ℕ) → ((b : ℕ) → b < 119 → (0 < get_or q b 0) ↔ (0 < get_or l b 0)) → Same q l
yes_is_yes q l z b = go (permits q b) (permits l b) ((further_iff q l).1 (λ b h. (z b h).0) b) ((further_iff l q).1 (λ b h. (z b h).1) b)
  where
    go : (s t : Bool) → (T s → T t) → (T t → T s) → s ≡ t
    go true true x y = refl
    go true false x y = absurd (x tt)
    go false true x y = absurd (y tt)
    go false false x y = refl

same_bytes : (q l : List ℕ) → ((b : ℕ) → b < 119 → get_or q b 0 ≡ get_or l b 0) → Same q l
same_bytes q l e = yes_is_yes q l (λ b h. let s = e b h in (λ y. omega arith, λ y. omega arith))

-- "one past 119 is not read"
pub past_the_list : (q r : List ℕ) → 119 ≤ length q → Same (q ++ r) q
past_the_list q r n = same_bytes (q ++ r) q (λ b h. get_or-append q r 0 b (omega arith))

-- "a missing byte is no": so zeros in the place of missing bytes change nothing
pub zeros_behind : (q : List ℕ) (n : ℕ) → Same (q ++ replicate n 0) q
zeros_behind q n = same_bytes (q ++ replicate n 0) q (λ b _. at q b)
  where
    zeros : (n b : ℕ) → ◌≡◌ {A = ℕ} (get_or (replicate n 0) b 0) 0
    zeros zero b = refl
    zeros (suc n) zero = refl
    zeros (suc n) (suc b) = zeros n b

    at : (q : List ℕ) (b : ℕ) → get_or (q ++ replicate n 0) b 0 ≡ get_or q b 0
    at [] b = zeros n b
    at (x ∷ q) zero = refl
    at (x ∷ q) (suc b) = at q b

-- two such lists examine alike and run alike
module _ (q l : List ℕ) (same : Same q l) where
  passing_same : (f : List ℕ) → passing q f ≡ passing l f
  unfolding passing
  passing_same f = fun_ext (λ c. rw (same_pattern q l same (pattern_of f c)))

  pub same_examine : (f : List ℕ) (m : Nine) (a : Allowance) → examine f m a q ≡ examine f m a l
  unfolding examine examining
  same_examine f m a = rw (passing_same f)

  -- "the single-record call .. take the list too"
  passing_same_single : (i : ℕ) (f : List ℕ) → passing_single q i f ≡ passing_single l i f
  unfolding passing_single examine_single
  passing_same_single i f = fun_ext (λ c. rw (same_record q l same (rec_at (pattern_of f c) i)))

  pub same_single : (f : List ℕ) (m : Nine) (a : Allowance) (i : ℕ) → examine_one f m a q i ≡ examine_one f m a l i
  unfolding examine_one examining_single
  same_single f m a i = rw (passing_same_single i f)

  pub same_follow : (f : List ℕ) (m : Nine) (a : Allowance) (n : ℕ) (bs : List ℕ) → follow f m a q n bs ≡ follow f m a l n bs
  unfolding follow following
  same_follow f m a n bs = rw (passing_same f)

-- "Passing then means meeting none of 15 to 20, 25 and 32": passing as it was, and 32
pub earlier_and_32 : (q : List ℕ) (p : Pattern) → Passes q p ↔ (earlier.Passes p × (¬ Some (Bad32 q) p))
earlier_and_32 q p = (λ h. (λ n x. h n (now n x), λ s. h 32 (here s meets32)), before)
  where
    here : {P : Record → Type 0} {n : ℕ} (s : Some P p) → (P (rec_at p s.rec) → RecordMeets q (rec_at p s.rec) n) → Meets q p n
    here s f = meets_record (record { rec = s.rec; inside = s.inside; holds = f s.holds })

    now : (n : ℕ) → earlier.Meets p n → Meets q p n
    now n (earlier.meets15 x) = meets15 x
    now n (earlier.meets16 x) = here x meets16
    now n (earlier.meets17 x) = here x meets17
    now n (earlier.meets18 x) = here x meets18
    now n (earlier.meets19 x) = here x meets19
    now n (earlier.meets20 x) = here x meets20
    now n (earlier.meets25 x) = here x meets25

    at : {P : Record → Type 0} (i : ℕ) → i < length p → P (rec_at p i) → Some P p
    at i l x = record { rec = i; inside = l; holds = x }

    by : earlier.Passes p × (¬ Some (Bad32 q) p) → (i : ℕ) → i < length p → RecordPasses q (rec_at p i)
    by h i l n (meets16 x) = h.0 16 (earlier.meets16 (at i l x))
    by h i l n (meets17 x) = h.0 17 (earlier.meets17 (at i l x))
    by h i l n (meets18 x) = h.0 18 (earlier.meets18 (at i l x))
    by h i l n (meets19 x) = h.0 19 (earlier.meets19 (at i l x))
    by h i l n (meets20 x) = h.0 20 (earlier.meets20 (at i l x))
    by h i l n (meets25 x) = h.0 25 (earlier.meets25 (at i l x))
    by h i l n (meets32 x) = h.1 (at i l x)

    before : earlier.Passes p × (¬ Some (Bad32 q) p) → (n : ℕ) → Meets q p n → ⊥
    before h n (meets15 x) = h.0 15 (earlier.meets15 x)
    before h n (meets_record s) = by h s.rec s.inside n s.holds

-- "Permitting further opcodes": what l forbids q forbids
module _ (q l : List ℕ) (more : Further q l) where
  fewer_32 : (r : Record) → Bad32 l r → Bad32 q r
  unfolding permitted_at
  fewer_32 r b = record { at = o; starts = b.starts; forbidden = not_T (permitted_at q c o) (λ t. T_not (permitted_at l c o) b.forbidden (there t)) }
    where
      c : List ℕ
      c = r.code

      o : ℕ
      o = b.at

      there : T (permitted_at q c o) → T (permitted_at l c o)
      there t = and_i (permits l (byte c o)) (permits l (opcode c o)) (more (byte c o) (search both)) (more (opcode c o) (search both))

  -- "Permitting further opcodes never turns a pass into a refusal."
  pub more_permitted : (p : Pattern) → Passes q p → Passes l p
  more_permitted p h =
      let e = (earlier_and_32 q p).0 h in
      (earlier_and_32 l p).1 (e.0, λ s. e.1 (record { rec = s.rec; inside = s.inside; holds = fewer_32 (rec_at p s.rec) s.holds }))

  pub more_files : (f : List ℕ) (a : Allowance) → FilePasses f a q → FilePasses f a l
  more_files f a x = record { tables = x.tables; content = x.content; loads = x.loads; passes = more_permitted (pattern_of f x.content) x.passes }

  -- the numbers: no other than 32 changes
  further_record : (r : Record) → ¬ (examine_record q r ≡ 32) → examine_record l r ≡ examine_record q r
  unfolding examine_record
  further_record r n = go (exam16 r.code) refl (exam32 q r.code) refl
    where
      go : (a : ℕ) → exam16 r.code ≡ a → (b : ℕ) → exam32 q r.code ≡ b → examine_record l r ≡ examine_record q r
      go (suc a) e b g = rw e
      go zero e zero g = rw (e, g, (clear_32 l r).1 (λ b. (clear_32 q r).0 g (fewer_32 r b)))
      go zero e (suc b) g = absurd (n (rw (e, g) (sym (told_32 q r b g).0)))

  -- so of a single record, and one that "passes by itself" passes, i)
  pub further_single : (i : ℕ) (p : Pattern) → ¬ (examine_single q i p ≡ 32) → examine_single l i p ≡ examine_single q i p
  unfolding examine_single
  further_single i p n = go (ltb i (length p)) refl
    where
      go : (b : Bool) → ltb i (length p) ≡ b → cond b (examine_record l (rec_at p i)) 22 ≡ cond b (examine_record q (rec_at p i)) 22
      go true e = further_record (rec_at p i) (λ z. n (rw e z))
      go false e = refl

  pub more_record : (r : Record) → RecordPasses q r → RecordPasses l r
  more_record r h = let e = (record_iff q r).1 h in (record_iff l r).0 (further_record r (λ z. omega arith) ∙ e)

  pub more_records : (f : List ℕ) (a : Allowance) (i : ℕ) → FileRecordPasses f a q i → FileRecordPasses f a l i
  more_records f a i x =
      record {
        tables = x.tables;
        content = x.content;
        loads = x.loads;
        inside = x.inside;
        passes = more_record (rec_at (pattern_of f x.content) i) x.passes;
      }

  further_all : (rs : List Record) → ¬ (examine_all q rs ≡ 32) → examine_all l rs ≡ examine_all q rs
  unfolding examine_all
  further_all [] n = refl
  further_all (r ∷ rs) n = go (examine_record q r) refl (further_all rs)
    where
      go : (k : ℕ) → examine_record q r ≡ k → (¬ (examine_all q rs ≡ 32) → examine_all l rs ≡ examine_all q rs)
          → first (examine_record l r) (examine_all l rs) ≡ first (examine_record q r) (examine_all q rs)
      go zero e ih = rw (further_record r (λ z. omega arith), e) (ih (λ z. n (rw e z)))
      go (suc k) e ih = rw (further_record r (λ z. n (rw e (sym e ∙ z))), e)

  pub further_same : (p : Pattern) → ¬ (examine_pattern q p ≡ 32) → examine_pattern l p ≡ examine_pattern q p
  unfolding examine_pattern
  further_same p n = go (refuse 15 (whole (rlens p))) refl
    where
      go : (k : ℕ) → refuse 15 (whole (rlens p)) ≡ k → first k (examine_all l p) ≡ first k (examine_all q p)
      go zero e = further_all p (λ z. n (rw e z))
      go (suc k) e = refl

-- a number that is 32 or stands, of what was loaded
stands_or_32 : (c : Content) (k j : ℕ) → (¬ (k ≡ 32) → j ≡ k) → (unless_met k c ≡ refused 32) ⊎ (unless_met j c ≡ unless_met k c)
stands_or_32 c k j h = go (eqb k 32) refl
  where
    go : (b : Bool) → eqb k 32 ≡ b → (unless_met k c ≡ refused 32) ⊎ (unless_met j c ≡ unless_met k c)
    go true e = inl (rw (eqb-true k 32 e))
    go false e = inr (rw (h (eqb-false k 32 e)))

-- so a call answers 32, or what it answers under a list that permits further opcodes
module _ (q l : List ℕ) (more : Further q l) (f : List ℕ) (m : Nine) (a : Allowance) where
  passing_further : (c : Content) → (passing q f c ≡ refused 32) ⊎ (passing l f c ≡ passing q f c)
  unfolding passing
  passing_further c = let p = pattern_of f c in stands_or_32 c (examine_pattern q p) (examine_pattern l p) (further_same q l more p)

  bound_further : (h g : Content → Answer Content) → ((c : Content) → (h c ≡ refused 32) ⊎ (g c ≡ h c))
      → ((laid m (bind (loading f m a) h)).answer ≡ refused 32) ⊎ (laid m (bind (loading f m a) g) ≡ laid m (bind (loading f m a) h))
  bound_further h g s = by_load (loading f m a)
    where
      by_load : (x : Answer Content) → ((laid m (bind x h)).answer ≡ refused 32) ⊎ (laid m (bind x g) ≡ laid m (bind x h))
      by_load (ok c) = elim (s c) [ inl e ↦ inl (rw e) | inr e ↦ inr (rw e) ]
      by_load (refused n) = inr refl

  pub examine_further : ((examine f m a q).answer ≡ refused 32) ⊎ (examine f m a l ≡ examine f m a q)
  unfolding examine examining
  examine_further = bound_further (passing q f) (passing l f) passing_further

  -- "the single-record call .. take the list too"
  pub single_further : (i : ℕ) → ((examine_one f m a q i).answer ≡ refused 32) ⊎ (examine_one f m a l i ≡ examine_one f m a q i)
  unfolding examine_one examining_single passing_single
  single_further i =
      bound_further (passing_single q i f) (passing_single l i f)
      (λ c. let p = pattern_of f c in stands_or_32 c (examine_single q i p) (examine_single l i p) (further_single q l more i p))

  pub follow_further : (n : ℕ) (bs : List ℕ) → ((follow f m a q n bs).answer ≡ refused 32) ⊎ (follow f m a l n bs ≡ follow f m a q n bs)
  unfolding follow following
  follow_further n bs = by_load (loading f m a) refl
    where
      by_room : (c : Content) → loading f m a ≡ ok c → (b : Bool) → leb (length (records_of c)) (n / 2) ≡ b
          → ((follow f m a q n bs).answer ≡ refused 32) ⊎ (follow f m a l n bs ≡ follow f m a q n bs)
      by_room c e true g = elim (passing_further c) [ inl h ↦ inl (rw (e, g, h)) | inr h ↦ inr (rw (e, g, h)) ]
      by_room c e false g = inr (rw (e, g))

      by_load : (x : Answer Content) → loading f m a ≡ x → ((follow f m a q n bs).answer ≡ refused 32) ⊎ (follow f m a l n bs ≡ follow f m a q n bs)
      by_load (ok c) e = by_room c e (leb (length (records_of c)) (n / 2)) refl
      by_load (refused k) e = inr (rw e)

  -- an answer other than 32 stands, and so do the tables
  pub examine_stands : ¬ ((examine f m a q).answer ≡ refused 32) → examine f m a l ≡ examine f m a q
  examine_stands not-32 = elim examine_further [ inl e ↦ absurd (not-32 e) | inr e ↦ e ]

  pub single_stands : (i : ℕ) → ¬ ((examine_one f m a q i).answer ≡ refused 32) → examine_one f m a l i ≡ examine_one f m a q i
  single_stands i not-32 = elim (single_further i) [ inl e ↦ absurd (not-32 e) | inr e ↦ e ]

  pub follow_stands : (n : ℕ) (bs : List ℕ) → ¬ ((follow f m a q n bs).answer ≡ refused 32) → follow f m a l n bs ≡ follow f m a q n bs
  follow_stands n bs not-32 = elim (follow_further n bs) [ inl e ↦ absurd (not-32 e) | inr e ↦ e ]

  -- what is 32 with more permitted is 32 with less
  pub examine_still : (examine f m a l).answer ≡ refused 32 → (examine f m a q).answer ≡ refused 32
  examine_still r = elim examine_further [ inl e ↦ e | inr e ↦ sym (ap (λ (x : Loaded). x.answer) e) ∙ r ]

  pub single_still : (i : ℕ) → (examine_one f m a l i).answer ≡ refused 32 → (examine_one f m a q i).answer ≡ refused 32
  single_still i r = elim (single_further i) [ inl e ↦ e | inr e ↦ sym (ap (λ (x : Loaded). x.answer) e) ∙ r ]

  pub follow_still : (n : ℕ) (bs : List ℕ) → (follow f m a l n bs).answer ≡ refused 32 → (follow f m a q n bs).answer ≡ refused 32
  follow_still n bs r = elim (follow_further n bs) [ inl e ↦ e | inr e ↦ sym (ap (λ (x : Followed). x.answer) e) ∙ r ]

  -- "Permitting further opcodes never turns a pass into a refusal."
  pub examine_passes : (k : Counts) → (examine f m a q).answer ≡ ok k → examine f m a l ≡ examine f m a q
  examine_passes k e = examine_stands (λ r. ok_refused (sym r ∙ e))

  pub single_passes : (i : ℕ) (k : Counts) → (examine_one f m a q i).answer ≡ ok k → examine_one f m a l i ≡ examine_one f m a q i
  single_passes i k e = single_stands i (λ r. ok_refused (sym r ∙ e))

  pub follow_passes : (n : ℕ) (bs : List ℕ) (s : Standing) → (follow f m a q n bs).answer ≡ ok s → follow f m a l n bs ≡ follow f m a q n bs
  follow_passes n bs s e = follow_stands n bs (λ r. ok_refused (sym r ∙ e))

-- "With everything permitted the verdicts are the earlier ones."
module _ (q : List ℕ) (all : Everything q) where
  -- an instruction that meets neither 16 nor 25 has an opcode below 119, and so is its first byte
  readable_permitted : (c : List ℕ) (o : ℕ) → T (readable c o) → T (permitted_at q c o)
  unfolding readable permitted_at
  readable_permitted c o t =
      let h : opcode c o < 119 = ltb→lt (opcode c o) 119 (search both) in
      and_i (permits q (byte c o)) (permits q (opcode c o)) (all (byte c o) (first_byte (prefix (byte c o)) refl h)) (all (opcode c o) h)
    where
      first_byte : (p : Bool) → prefix (byte c o) ≡ p → opcode c o < 119 → byte c o < 119
      first_byte true e h =
          let t : T (prefix (byte c o)) = subst T (sym e) tt in
          omega (arith, leb→le (byte c o) 117 (search both))
      first_byte false e h = let s = opcode_alone c o e in omega arith

  pub none_held : (r : Record) → exam16 r.code ≡ 0 → ¬ Bad32 q r
  none_held r e b =
      T_not (permitted_at q r.code b.at) b.forbidden (readable_permitted r.code b.at (each_16 r.code e b.at b.starts).1)

  earlier_record : (r : Record) → examine_record q r ≡ earlier.examine_record r
  unfolding examine_record earlier.examine_record
  earlier_record r = go (exam16 r.code) refl
    where
      go : (k : ℕ) → exam16 r.code ≡ k → examine_record q r ≡ earlier.examine_record r
      go zero e = rw (e, (clear_32 q r).1 (none_held r e))
      go (suc k) e = rw e

  earlier_all : (rs : List Record) → examine_all q rs ≡ earlier.examine_all rs
  unfolding examine_all earlier.examine_all
  earlier_all [] = refl
  earlier_all (r ∷ rs) = rw (earlier_record r, earlier_all rs)

  pub everything_pattern : (p : Pattern) → examine_pattern q p ≡ earlier.examine_pattern p
  unfolding examine_pattern earlier.examine_pattern
  everything_pattern p = rw (earlier_all p)

  everything_passing : (f : List ℕ) → passing q f ≡ earlier.passing f
  unfolding passing earlier.passing
  everything_passing f = fun_ext (λ c. rw (everything_pattern (pattern_of f c)))

  pub everything_examine : (f : List ℕ) (m : Nine) (a : Allowance) → examine f m a q ≡ earlier.examine f m a
  unfolding examine examining earlier.examine earlier.examining
  everything_examine f m a = rw (everything_passing f)

  -- "the single-record call .. take the list too"
  everything_passing_single : (i : ℕ) (f : List ℕ) → passing_single q i f ≡ earlier.passing_single i f
  unfolding passing_single examine_single earlier.passing_single earlier.examine_single
  everything_passing_single i f = fun_ext (λ c. rw (earlier_record (rec_at (pattern_of f c) i)))

  pub everything_single : (f : List ℕ) (m : Nine) (a : Allowance) (i : ℕ) → examine_one f m a q i ≡ earlier.examine_one f m a i
  unfolding examine_one examining_single earlier.examine_one earlier.examining_single
  everything_single f m a i = rw (everything_passing_single i f)

  pub everything_follow : (f : List ℕ) (m : Nine) (a : Allowance) (n : ℕ) (bs : List ℕ) → follow f m a q n bs ≡ earlier.follow f m a n bs
  unfolding follow following earlier.follow earlier.following
  everything_follow f m a n bs = rw (everything_passing f)

  -- and so is passing: a record that meets neither 16 nor 25 holds nothing that is forbidden
  pub everything_passes : (p : Pattern) → Passes q p ↔ earlier.Passes p
  everything_passes p = (λ h. ((earlier_and_32 q p).0 h).0, λ h. (earlier_and_32 q p).1 (h, λ s. none_held (rec_at p s.rec) (clear h s) s.holds))
    where
      clear : earlier.Passes p → (s : Some (Bad32 q) p) → exam16 (rec_at p s.rec).code ≡ 0
      clear h s =
          (clear_16 (rec_at p s.rec)).1 (
            λ b. h 16 (earlier.meets16 (record { rec = s.rec; inside = s.inside; holds = b })),
            λ b. h 25 (earlier.meets25 (record { rec = s.rec; inside = s.inside; holds = b })),
          )

  pub everything_files : (f : List ℕ) (a : Allowance) → FilePasses f a q ↔ earlier.FilePasses f a
  everything_files f a = (
    λ x. record { tables = x.tables; content = x.content; loads = x.loads; passes = (everything_passes (pattern_of f x.content)).0 x.passes },
    λ x. record { tables = x.tables; content = x.content; loads = x.loads; passes = (everything_passes (pattern_of f x.content)).1 x.passes },
  )

-- so with the list of 119 ones, as functions
pub earlier_examine : (λ f m a. examine f m a everything) ≡ earlier.examine
earlier_examine = fun_ext (λ f. fun_ext (λ m. fun_ext (λ a. everything_examine everything everything_permitted f m a)))

pub earlier_single : (λ f m a. examine_one f m a everything) ≡ earlier.examine_one
earlier_single = fun_ext (λ f. fun_ext (λ m. fun_ext (λ a. fun_ext (λ i. everything_single everything everything_permitted f m a i))))

pub earlier_follow : (λ f m a. follow f m a everything) ≡ earlier.follow
earlier_follow = fun_ext (λ f. fun_ext (λ m. fun_ext (λ a. fun_ext (λ n. fun_ext (λ bs. everything_follow everything everything_permitted f m a n bs)))))

-- and whatever the list, an answer is 32 or the earlier one
module _ (q : List ℕ) (f : List ℕ) (m : Nine) (a : Allowance) where
  pub examine_or_32 : ((examine f m a q).answer ≡ refused 32) ⊎ (examine f m a q ≡ earlier.examine f m a)
  examine_or_32 =
      let more = everything_further q everything everything_permitted in
      let is = everything_examine everything everything_permitted f m a in
      elim (examine_further q everything more f m a) [ inl e ↦ inl e | inr e ↦ inr (sym e ∙ is) ]

  pub single_or_32 : (i : ℕ) → ((examine_one f m a q i).answer ≡ refused 32) ⊎ (examine_one f m a q i ≡ earlier.examine_one f m a i)
  single_or_32 i =
      let more = everything_further q everything everything_permitted in
      let is = everything_single everything everything_permitted f m a i in
      elim (single_further q everything more f m a i) [ inl e ↦ inl e | inr e ↦ inr (sym e ∙ is) ]

  pub follow_or_32 : (n : ℕ) (bs : List ℕ) → ((follow f m a q n bs).answer ≡ refused 32) ⊎ (follow f m a q n bs ≡ earlier.follow f m a n bs)
  follow_or_32 n bs =
      let more = everything_further q everything everything_permitted in
      let is = everything_follow everything everything_permitted f m a n bs in
      elim (follow_further q everything more f m a n bs) [ inl e ↦ inl e | inr e ↦ inr (sym e ∙ is) ]
