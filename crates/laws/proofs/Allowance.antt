-- A caller's allowance: paper 02, h). What a load answers under one, against the load without; a file accepted under one and under another; and when
-- 29 is met.
-- Assumes nothing.
use Prim.Native.Nat.{ℕ, ◌/◌, ◌≤◌, ◌<◌}
use native.Mathlib.Nat.{le_refl, le_trans}
use native.Mathlib.Omega.{arith}
use mathlib.Core.Path.{◌≡◌, refl, sym, subst, ◌∙◌}
use mathlib.Core.Logic.{◌⊎◌, inl, inr}
use mathlib.Core.Bool.{Bool, true, false, cond, ◌&&◌}
use mathlib.Core.List.{List}
use lib.Dec.{T, leb, leb-zero, leb→le}
use lib.ListN.{length}
use borrow.Author.Tests.{leb-true, leb-false, le-leb}
use Rattle.format.specs.Bytes.{Answer, ok, refused, bind}
use Rattle.format.specs.Rows.{record_width}
use Rattle.format.specs.Allowance.{Allowance, allowance, desktop, least, granted, Within}
use Rattle.format.specs.File.{Content, nothing, file_reading}
use Rattle.format.specs.Load.{Nine, Counts, records_of, tables_of, used, fits, ending, loading_within, loading, laid, load}
use Rattle.format.specs.Exam.{FilePasses, FileRecordPasses, passing, examining, examine, passing_single, examining_single, examine_one}
use Rattle.format.specs.Run.{following, follow}
use Rattle.format.proofs.Answers.{ok_refused}
use Rattle.format.proofs.Least.{least_iff, least_below}
use Rattle.format.proofs.File.{Accepted}
use Rattle.format.proofs.Places.{records_length}
use Rattle.format.proofs.Table.{both}
use Rattle.bounds.proofs.Grows.{Less}
use Rattle.layout.proofs.Ends.{reading_accepted}
use Rattle.layout.proofs.Inside.{loading_reading, loading_held}
use Rattle.laws.proofs.Unlimited as free
use Rattle.laws.proofs.Cut.{Beyond, Cut, whole, beyond, cut_whole, cut_beyond, reading_29, reading_cut}

-- "any that is nowhere smaller" is granted nowhere less
pub granted_within : (a b : Allowance) → Within a b → Within (granted a) (granted b)
granted_within a b w = record { bytes = less a.bytes b.bytes 65536 w.bytes; records = less a.records b.records 1024 w.records }
  where
    less : (a b n : ℕ) → a ≤ b → least a n ≤ least b n
    less a b n h = let l = least_below a n in (least_iff (least a n) b n).1 (le_trans l.0 h, l.1)

-- "A larger number in it counts as the desktop's."
pub granted_larger : (a : Allowance) → Within desktop a → granted a ≡ desktop
granted_larger a w = rw (is a.bytes 65536 w.bytes, is a.records 1024 w.records)
  where
    is : (a n : ℕ) → n ≤ a → least a n ≡ n
    is a n h = let l = (least_iff (least a n) a n).0 (le_refl _) in let g = (least_iff n a n).1 (h, le_refl n) in omega arith

-- where a reading needs no more rows than another, it fits where the other does
fits_less : (m : Nine) (c c' : Content) → Less c c' → T (fits 1024 m (used (tables_of c'))) → fits 1024 m (used (tables_of c)) ≡ true
unfolding fits
fits_less m c c' l t =
    let r = tables_of c in
    let r' = tables_of c' in
    rw (
      less (length r.records) (length r'.records) 1024 l.records (search both depth 12),
      less (length r.records) (length r'.records) (m.records / record_width) l.records (search both depth 12),
      less (length r.handlers) (length r'.handlers) (m.handlers / 4) l.handlers (search both depth 12),
      less (length r.pool) (length r'.pool) (m.pool / 3) l.pool (search both depth 12),
      less (length r.symbols) (length r'.symbols) (m.symbols / 2) l.symbols (search both depth 12),
      less (length r.strings) (length r'.strings) (m.strings / 2) l.strings (search both depth 12),
      less (length r.names) (length r'.names) m.names l.names (search both depth 12),
      less (length r.file_names) (length r'.file_names) (m.file_names / 2) l.file_names (search both depth 12),
      less (length r.files) (length r'.files) (m.files / 4) l.files (search both depth 12),
      less (length r.lines) (length r'.lines) (m.lines / 2) l.lines (search both depth 12),
    )
  where
    less : (a b n : ℕ) → a ≤ b → T (leb b n) → leb a n ≡ true
    less a b n h t = le-leb a n (le_trans h (leb→le b n t))

-- nothing that was read needs no row
pub fits_nothing : (m : Nine) → fits 1024 m (used (tables_of nothing)) ≡ true
unfolding fits
fits_nothing m =
    rw (
      leb-zero (m.records / record_width),
      leb-zero (m.handlers / 4),
      leb-zero (m.pool / 3),
      leb-zero (m.symbols / 2),
      leb-zero (m.strings / 2),
      leb-zero m.names,
      leb-zero (m.file_names / 2),
      leb-zero (m.files / 4),
      leb-zero (m.lines / 2),
    )

-- what fits has no more records than there are rows, nor than 1,024
pub fits_few : (m : Nine) (c : Content) → fits 1024 m (used (tables_of c)) ≡ true → (length (records_of c) ≤ 1024) × (length (records_of c) ≤ m.records / record_width)
unfolding fits
fits_few m c e =
    let t : T (fits 1024 m (used (tables_of c))) = subst T (sym e) tt in
    let l = records_length c in
    let few : length (tables_of c).records ≤ 1024 = leb→le _ _ (search both depth 12) in
    let lent : length (tables_of c).records ≤ m.records / record_width = leb→le _ _ (search both depth 12) in
    (omega arith, omega arith)

fits_false : (m : Nine) (c : Content) → (length (records_of c) ≤ 1024 → length (records_of c) ≤ m.records / record_width → ⊥) → fits 1024 m (used (tables_of c)) ≡ false
fits_false m c n = go (fits 1024 m (used (tables_of c))) refl
  where
    go : (b : Bool) → fits 1024 m (used (tables_of c)) ≡ b → b ≡ false
    go false e = refl
    go true e = let k = fits_few m c e in absurd (n k.0 k.1)

-- what a load under an allowance answers, in each case
module _ (f : List ℕ) (m : Nine) (a : Allowance) where
  -- "29 when the file .. is beyond the caller's allowance but within the desktop's, at 1's place for bytes"
  pub bytes_29 : (granted a).bytes < length f → length f ≤ desktop.bytes → loading f m a ≡ refused 29
  unfolding loading_within ending
  bytes_29 b h = rw (reading_29 f (granted a) b h, fits_nothing m)

  reading_within : length f ≤ (granted a).bytes → Cut (granted a).records (file_reading f (granted a)) (free.file_reading f)
  reading_within h = reading_cut f (granted a) (λ b _. omega arith)

  -- a file within the allowance is loaded as without one
  pub within_load : length f ≤ (granted a).bytes → length (records_of (free.file_reading f).it) ≤ (granted a).records → loading f m a ≡ free.loading f m
  unfolding loading_within free.loading
  within_load h k = rw (cut_whole (granted a).records (file_reading f (granted a)) (free.file_reading f) (reading_within h) k)

  -- a reading that is cut: 29 where what is read up to there fits
  pub cut_load : Beyond (granted a).records (file_reading f (granted a)) (free.file_reading f)
      → loading f m a ≡ cond (fits 1024 m (used (tables_of (file_reading f (granted a)).it))) (refused 29) (refused 14)
  unfolding loading_within ending
  cut_load b = rw b.ends

  module _ (h : length f ≤ (granted a).bytes) (k : (granted a).records < length (records_of (free.file_reading f).it)) where
    cut_there : Beyond (granted a).records (file_reading f (granted a)) (free.file_reading f)
    cut_there = cut_beyond (granted a).records (file_reading f (granted a)) (free.file_reading f) (reading_within h) k

    -- "29 when .. its record number is beyond the caller's allowance .., at .. 14's [place] for records"
    pub records_29 : loading f m a ≡ cond (fits 1024 m (used (tables_of (file_reading f (granted a)).it))) (refused 29) (refused 14)
    records_29 = cut_load cut_there

    -- "where the lent table is too short as well, 14"
    pub short_table_14 : m.records / record_width ≤ (granted a).records → loading f m a ≡ refused 14
    short_table_14 s = records_29 ∙ rw (fits_false m (file_reading f (granted a)).it (λ _ t. omega (arith, cut_there.records)))

-- "Follow loads": what a load refuses, it refuses by its number.
module _ (f : List ℕ) (m : Nine) (a : Allowance) (e : ℕ) (r : loading f m a ≡ refused e) where
  pub refused_load : (load f m a).answer ≡ refused e
  unfolding load
  refused_load = rw r

  pub refused_follow : (q : List ℕ) (n : ℕ) (bs : List ℕ) → (follow f m a q n bs).answer ≡ refused e
  unfolding follow following
  refused_follow q n bs = rw r

-- A file that loads: its reading without an allowance, which its tests accept, which nothing refuses and whose rows fit
record Loads (f : List ℕ) (m : Nine) (c : Content) : Type 0 where
  small : length f ≤ desktop.bytes
  few : length (records_of c) ≤ desktop.records
  reads : (free.file_reading f).it ≡ c
  loads : free.loading f m ≡ ok c
  fit : T (fits 1024 m (used (tables_of c)))

loaded : (f : List ℕ) (m : Nine) (a : Allowance) (c : Content) → loading f m a ≡ ok c → Loads f m c
unfolding loading_within free.loading
loaded f m a c e =
    let r = loading_reading f m a c e in
    let h = reading_accepted f (granted a) r.1.0 r.1.1 in
    go r h (reading_within f m a h.within)
  where
    go : ((file_reading f (granted a)).it ≡ c) × ((to : ℕ) × (file_reading f (granted a)).end ≡ ok to) × T (fits 1024 m (used (tables_of c)))
        → Accepted f (granted a).bytes → Cut (granted a).records (file_reading f (granted a)) (free.file_reading f) → Loads f m c
    go r h (whole q k) =
        record {
          small = h.small;
          few = omega (arith, (loading_held f m a c e).few, records_length c);
          reads = rw (← q) r.0;
          loads = rw (← q) e;
          fit = r.2;
        }
    go r h (beyond b) = absurd (ok_refused (sym b.ends ∙ r.1.1))

-- the numbers of a file are within an allowance
abbrev pub allows : Allowance → List ℕ → Content → Bool
allows a f c = leb (length f) (granted a).bytes && leb (length (records_of c)) (granted a).records

module _ (f : List ℕ) (m : Nine) where
  -- Of a file that loads under one allowance, any other says by its two numbers alone: the same content, or 29.
  pub allowed_exactly : (a b : Allowance) (c : Content) → loading f m b ≡ ok c → loading f m a ≡ cond (allows a f c) (ok c) (refused 29)
  allowed_exactly a b c e =
      by_numbers (loaded f m b c e) (leb (length f) (granted a).bytes) refl (leb (length (records_of c)) (granted a).records) refl
    where
      by_numbers : Loads f m c → (s : Bool) → leb (length f) (granted a).bytes ≡ s → (t : Bool) → leb (length (records_of c)) (granted a).records ≡ t
          → loading f m a ≡ cond (s && t) (ok c) (refused 29)
      by_numbers x false p t q = bytes_29 f m a (leb-false _ _ p) x.small
      by_numbers x true p true q = within_load f m a (leb-true _ _ p) (rw x.reads (leb-true _ _ q)) ∙ x.loads
      by_numbers x true p false q =
          let h = leb-true (length f) (granted a).bytes p in
          let k : (granted a).records < length (records_of (free.file_reading f).it) = rw x.reads (leb-false _ _ q) in
          let r = (file_reading f (granted a)).it in
          let l : Less r c = rw x.reads at (cut_there f m a h k).less in
          records_29 f m a h k ∙ rw (fits_less m r c l x.fit)

  -- an allowance under which a file loads allows the file's numbers
  pub loaded_within : (a : Allowance) (c : Content) → loading f m a ≡ ok c → (length f ≤ (granted a).bytes) × (length (records_of c) ≤ (granted a).records)
  loaded_within a c e = go (leb (length f) (granted a).bytes) refl (leb (length (records_of c)) (granted a).records) refl (sym (allowed_exactly a a c e) ∙ e)
    where
      go : (s : Bool) → leb (length f) (granted a).bytes ≡ s → (t : Bool) → leb (length (records_of c)) (granted a).records ≡ t
          → cond (s && t) (ok c) (refused 29) ≡ ok c → (length f ≤ (granted a).bytes) × (length (records_of c) ≤ (granted a).records)
      go true p true q e = (leb-true _ _ p, leb-true _ _ q)
      go true p false q e = absurd (ok_refused e)
      go false p t q e = absurd (ok_refused e)

  -- one that allows them loads it
  pub loads_within : (a b : Allowance) (c : Content) → loading f m b ≡ ok c → length f ≤ (granted a).bytes → length (records_of c) ≤ (granted a).records → loading f m a ≡ ok c
  loads_within a b c e h k = allowed_exactly a b c e ∙ rw (le-leb (length f) (granted a).bytes h, le-leb (length (records_of c)) (granted a).records k)

  -- so a file is accepted under its own numbers
  pub own_numbers : (b : Allowance) (c : Content) → loading f m b ≡ ok c → loading f m (allowance (length f) (length (records_of c))) ≡ ok c
  own_numbers b c e =
      let x = loaded f m b c e in
      loads_within (allowance (length f) (length (records_of c))) b c e ((least_iff _ _ _).1 (le_refl _, x.small)) ((least_iff _ _ _).1 (le_refl _, x.few))

  -- and is 29 under any with a smaller one
  pub smaller_29 : (a b : Allowance) (c : Content) → loading f m b ≡ ok c → (a.bytes < length f) ⊎ (a.records < length (records_of c)) → loading f m a ≡ refused 29
  smaller_29 a b c e h = go (allows a f c) (allowed_exactly a b c e)
    where
      large : loading f m a ≡ ok c → (length f ≤ a.bytes) × (length (records_of c) ≤ a.records)
      large q = let l = loaded_within a c q in (((least_iff _ _ _).0 l.0).0, ((least_iff _ _ _).0 l.1).0)

      go : (t : Bool) → loading f m a ≡ cond t (ok c) (refused 29) → loading f m a ≡ refused 29
      go false q = q
      go true q = let l = large q in elim h [ inl s ↦ absurd (omega (arith, l.0)) | inr s ↦ absurd (omega (arith, l.1)) ]

  -- "A file accepted under one gives the same rows in the same tables under any that is nowhere smaller."
  pub same_content : (a b : Allowance) (c : Content) → loading f m a ≡ ok c → Within a b → loading f m b ≡ ok c
  same_content a b c e w =
      let h = loaded_within a c e in
      let g = granted_within a b w in
      loads_within b a c e (le_trans h.0 g.bytes) (le_trans h.1 g.records)

  module _ (a b : Allowance) (w : Within a b) where
    same_loading : (c : Content) → loading f m a ≡ ok c → loading f m b ≡ loading f m a
    same_loading c e = same_content a b c e w ∙ sym e

    pub same_rows : (c : Content) → loading f m a ≡ ok c → load f m b ≡ load f m a
    unfolding load
    same_rows c e = rw (same_loading c e)

    -- so what passes under one passes under the other, with the same answer and the same tables
    same_bound : (h : Content → Answer Content) (k : Counts) → (laid m (bind (loading f m a) h)).answer ≡ ok k
        → laid m (bind (loading f m b) h) ≡ laid m (bind (loading f m a) h)
    same_bound h k e = by_load (loading f m a) refl
      where
        by_load : (x : Answer Content) → loading f m a ≡ x → laid m (bind (loading f m b) h) ≡ laid m (bind (loading f m a) h)
        by_load (ok c) r = rw (same_loading c r)
        by_load (refused n) r = absurd (ok_refused (rw r at e))

    pub same_examine : (q : List ℕ) (k : Counts) → (examine f m a q).answer ≡ ok k → examine f m b q ≡ examine f m a q
    unfolding examine examining
    same_examine q k e = same_bound (passing q f) k e

    -- so does "a single record", i)
    pub same_single : (q : List ℕ) (i : ℕ) (k : Counts) → (examine_one f m a q i).answer ≡ ok k → examine_one f m b q i ≡ examine_one f m a q i
    unfolding examine_one examining_single
    same_single q i k e = same_bound (passing_single q i f) k e

    -- and each run of it is the same
    pub same_follow : (c : Content) → loading f m a ≡ ok c → (q : List ℕ) (n : ℕ) (bs : List ℕ) → follow f m b q n bs ≡ follow f m a q n bs
    unfolding follow following
    same_follow c e q n bs = rw (same_loading c e)

  -- "a file refused by 29 under one is not accepted under a smaller"
  pub beyond_smaller : (a b : Allowance) → (load f m a).answer ≡ refused 29 → Within b a → (c : Content) → ¬ (loading f m b ≡ ok c)
  unfolding load
  beyond_smaller a b r w c e = ok_refused (sym (rw (same_content b a c e w) at r))

-- so a file that passes under one allowance passes under any that is nowhere smaller, by the same list
pub same_passes : (f : List ℕ) (a b : Allowance) (q : List ℕ) → Within a b → FilePasses f a q → FilePasses f b q
same_passes f a b q w p =
    record { tables = p.tables; content = p.content; loads = same_content f p.tables a b p.content p.loads w; passes = p.passes }

-- and a "record passes by itself", i), under both
pub same_record_passes : (f : List ℕ) (a b : Allowance) (q : List ℕ) (i : ℕ) → Within a b → FileRecordPasses f a q i → FileRecordPasses f b q i
same_record_passes f a b q i w p =
    record {
      tables = p.tables;
      content = p.content;
      loads = same_content f p.tables a b p.content p.loads w;
      inside = p.inside;
      passes = p.passes;
    }

-- Under the desktop's allowance every answer is the one without an allowance.
module _ (f : List ℕ) (m : Nine) where
  pub desktop_loading : loading f m desktop ≡ free.loading f m
  unfolding loading_within free.loading ending
  desktop_loading = go (reading_cut f desktop (λ b h. omega arith))
    where
      go : Cut 1024 (file_reading f desktop) (free.file_reading f) → ending 1024 m (file_reading f desktop) ≡ ending 1024 m (free.file_reading f)
      go (whole e _) = rw e
      go (beyond b) =
          let r = (file_reading f desktop).it in
          let r' = (free.file_reading f).it in
          rw (
            fits_false m r (λ n _. omega (arith, b.records)),
            fits_false m r' (λ n _. omega (arith, b.records, b.less.records, records_length r, records_length r')),
          )

  pub desktop_load : load f m desktop ≡ free.load f m
  unfolding load free.load
  desktop_load = rw desktop_loading

  pub desktop_examine : (q : List ℕ) → examine f m desktop q ≡ free.examine f m q
  unfolding examine examining free.examine free.examining
  desktop_examine q = rw desktop_loading

  pub desktop_single : (q : List ℕ) (i : ℕ) → examine_one f m desktop q i ≡ free.examine_one f m q i
  unfolding examine_one examining_single free.examine_one free.examining_single
  desktop_single q i = rw desktop_loading

  pub desktop_follow : (q : List ℕ) (n : ℕ) (bs : List ℕ) → follow f m desktop q n bs ≡ free.follow f m q n bs
  unfolding follow following free.follow free.following
  desktop_follow q n bs = rw desktop_loading

  -- "A larger number in it counts as the desktop's."
  module _ (a : Allowance) (w : Within desktop a) where
    pub larger_loading : loading f m a ≡ loading f m desktop
    larger_loading = rw (granted_larger a w)

    pub larger_load : load f m a ≡ load f m desktop
    unfolding load
    larger_load = rw larger_loading

    pub larger_examine : (q : List ℕ) → examine f m a q ≡ examine f m desktop q
    unfolding examine examining
    larger_examine q = rw larger_loading

    pub larger_single : (q : List ℕ) (i : ℕ) → examine_one f m a q i ≡ examine_one f m desktop q i
    unfolding examine_one examining_single
    larger_single q i = rw larger_loading

    pub larger_follow : (q : List ℕ) (n : ℕ) (bs : List ℕ) → follow f m a q n bs ≡ follow f m desktop q n bs
    unfolding follow following
    larger_follow q n bs = rw larger_loading
