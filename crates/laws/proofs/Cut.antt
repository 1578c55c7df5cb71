-- What an allowance of records makes of a reading: nothing where the reading has no more records than that; else it ends by 29 at the first record
-- beyond, and needs no more rows in any table.
-- Assumes nothing.
use Prim.Native.Nat.{ℕ, zero, suc, ◌+◌, ◌-◌, ◌≤◌, ◌<◌, suc-le-suc}
use native.Mathlib.Nat.{le_refl}
use native.Mathlib.Omega.{arith}
use mathlib.Core.Path.{◌≡◌, refl, ap, ◌∙◌}
use mathlib.Core.Bool.{Bool, true, false, cond}
use mathlib.Core.List.{List, [], ◌∷◌}
use mathlib.Core.Option.{Option, none, some}
use lib.Dec.{leb, eqb, eqb-suc-zero}
use lib.ListN.{length, drop, length-append}
use borrow.Author.Tests.{leb-true, leb-false, le-leb, lt-leb}
use Rattle.format.specs.Bytes.{Answer, ok, refused, bind, on_answer, refuse, first, has, u32_at}
use Rattle.format.specs.Headers.{irep, lvar, dbg, end}
use Rattle.format.specs.Reading.{Read, reading, Part, part, add, and_then}
use Rattle.format.specs.Allowance.{Allowance, desktop}
use Rattle.format.specs.Irep.{body, Rec, record_at, records_from, irep_section}
use Rattle.format.specs.Lvar.{Lvar}
use Rattle.format.specs.Debug.{Debug}
use Rattle.format.specs.File.{Content, content, is_mark, once, after_irep, section_at, sections, nothing, file_refusal, file_reading}
use Rattle.format.specs.Load.{or_none, records_of, tables_of}
use Rattle.format.proofs.Answers.{either}
use Rattle.format.proofs.Places.{records_length}
use Rattle.bounds.proofs.Grows.{Ordered, Less, less_less, section_grows, sections_grow}
use Rattle.laws.proofs.Unlimited as free

-- a reading r' under an allowance of x records, and the reading r without
pub record Beyond (x : ℕ) (r' r : Part Content) : Type 0 where
  pub ends : r'.end ≡ refused 29
  pub records : length (records_of r'.it) ≡ suc x
  pub less : Less r'.it r.it

pub data Cut (x : ℕ) (r' r : Part Content) : Type 0 where
  whole : r' ≡ r → length (records_of r.it) ≤ x → Cut x r' r
  beyond : Beyond x r' r → Cut x r' r

-- which of the two, by the number of records that are read
pub beyond_more : (x : ℕ) (r' r : Part Content) → Beyond x r' r → x < length (records_of r.it)
beyond_more x r' r b = omega (arith, b.records, b.less.records, records_length r'.it, records_length r.it)

pub cut_whole : (x : ℕ) (r' r : Part Content) → Cut x r' r → length (records_of r.it) ≤ x → r' ≡ r
cut_whole x r' r (whole e h) k = e
cut_whole x r' r (beyond b) k = absurd (omega (arith, beyond_more x r' r b))

pub cut_beyond : (x : ℕ) (r' r : Part Content) → Cut x r' r → x < length (records_of r.it) → Beyond x r' r
cut_beyond x r' r (whole e h) k = absurd (omega arith)
cut_beyond x r' r (beyond b) k = b

-- records alone, as a content
abbrev just : List Rec → Content
just rs = content (some rs) none none

abbrev pub only : Read Rec → Part Content
only r = part (just r.rows) r.end

-- no table has fewer rows, by the four that records fill
less_just : (rs' rs : List Rec) → length rs' ≤ length rs → length (tables_of (just rs')).handlers ≤ length (tables_of (just rs)).handlers
    → length (tables_of (just rs')).pool ≤ length (tables_of (just rs)).pool → length (tables_of (just rs')).symbols ≤ length (tables_of (just rs)).symbols
    → Less (just rs') (just rs)
less_just rs' rs n h p s =
    record {
      records = omega (arith, records_length (just rs'), records_length (just rs));
      handlers = h;
      pool = p;
      symbols = s;
      strings = le_refl _;
      names = le_refl _;
      file_names = le_refl _;
      files = le_refl _;
      lines = le_refl _;
    }

-- one more record before both
less_more : (r : Rec) (rs' rs : List Rec) → Less (just rs') (just rs) → Less (just (r ∷ rs')) (just (r ∷ rs))
less_more r rs' rs l =
    less_just (r ∷ rs') (r ∷ rs) (omega (arith, l.records, records_length (just rs'), records_length (just rs))) (simp length-append (omega (arith, l.handlers)))
    (simp length-append (omega (arith, l.pool))) (simp length-append (omega (arith, l.symbols)))

-- the record that is beyond has no lists yet
less_bare : (r' r : Rec) (rs : List Rec) → r'.body ≡ body [] [] [] → Less (just (r' ∷ [])) (just (r ∷ rs))
less_bare r' r rs e = less_just (r' ∷ []) (r ∷ rs) (omega arith) (rw e (omega arith)) (rw e (omega arith)) (rw e (omega arith))

add_cut : (r : Rec) (x : ℕ) (p' p : Read Rec) → Cut x (only p') (only p) → Cut (suc x) (only (add r p')) (only (add r p))
add_cut r x p' p (whole e h) =
    whole (ap (λ (q : Part Content). part (just (r ∷ records_of q.it)) q.end) e) (suc-le-suc h)
add_cut r x p' p (beyond b) = beyond (record { ends = b.ends; records = ap suc b.records; less = less_more r p'.rows p.rows b.less })

-- a test behind both
bind_cut : (x : ℕ) (p' p : Part Content) (k : ℕ → Answer ℕ) → Cut x p' p → Cut x (part p'.it (bind p'.end k)) (part p.it (bind p.end k))
bind_cut x p' p k (whole e h) = whole (ap (λ (q : Part Content). part q.it (bind q.end k)) e) h
bind_cut x p' p k (beyond b) = beyond (record { ends = rw b.ends; records = b.records; less = b.less })

-- what holds either way of a test of two holds of their outcomes
ways : {A : Type 0} (P : A → A → Type 0) (b : Bool) (x' x y' y : A) → (b ≡ true → P x' x) → (b ≡ false → P y' y) → P (cond b x' y') (cond b x y)
ways P true x' x y' y h g = h refl
ways P false x' x y' y h g = g refl

module _ (f : List ℕ) (base size : ℕ) where
  -- a record that is allowed
  record_same : (x at : ℕ) → record_at f base (suc x) at ≡ free.record_at f base at
  unfolding record_at free.record_at
  record_same x at = rw (eqb-suc-zero x)

  -- and one that is not
  record_beyond : (at : ℕ) → ((record_at f base 0 at).end ≡ refused 29) × ((record_at f base 0 at).it.body ≡ body [] [] [])
  unfolding record_at
  record_beyond at = (refl, refl)

  pub records_cut : (n x at : ℕ) → Cut x (only (records_from f base size n x at)) (only (free.records_from f base size n at))
  unfolding records_from free.records_from
  records_cut zero x at = whole refl (omega arith)
  records_cut (suc n) x at =
      let P : Read Rec → Read Rec → Type 0 = λ p' p. Cut x (only p') (only p) in
      ways P (leb size at) _ _ _ _ (λ _. whole refl (omega arith))
      (λ _. ways P (has f at 16) _ _ _ _ (λ _. next x (records_cut n)) (λ _. whole refl (omega arith)))
    where
      next : (x : ℕ) → ((x at : ℕ) → Cut x (only (records_from f base size n x at)) (only (free.records_from f base size n at)))
          → Cut x (only (let r = record_at f base x at in add r.it (and_then r.end (records_from f base size n (x - 1)))))
          (only (let r = free.record_at f base at in add r.it (and_then r.end (free.records_from f base size n))))
      next zero ih =
          let b = record_beyond at in
          let r = free.record_at f base at in
          let rs = (and_then r.end (free.records_from f base size n)).rows in
          rw b.0 (beyond (record { ends = refl; records = refl; less = less_bare (record_at f base 0 at).it r.it rs b.1 }))
      next (suc x) ih =
          let r = free.record_at f base at in
          let k : suc x - 1 ≡ x = omega arith in
          rw (record_same x at, k) (add_cut r.it x _ _ (by_end r.end))
        where
          by_end : (e : Answer ℕ) → Cut x (only (and_then e (records_from f base size n x))) (only (and_then e (free.records_from f base size n)))
          by_end (ok to) = ih x to
          by_end (refused e) = whole refl (omega arith)

irep_cut : (f : List ℕ) (base x : ℕ) → Cut x (only (irep_section f base x)) (only (free.irep_section f base))
unfolding irep_section free.irep_section
irep_cut f base x =
    let P : Read Rec → Read Rec → Type 0 = λ p' p. Cut x (only p') (only p) in
    let none_read : Cut x (only (reading [] (refused 7))) (only (reading [] (refused 7))) = whole refl (omega arith) in
    ways P (has f 0 12) _ _ _ _
    (λ _. ways P (leb (u32_at f 4) (length f)) _ _ _ _ (λ _. bind_cut x _ _ _ (records_cut f base (u32_at f 4) (length f) x 12)) (λ _. none_read))
    (λ _. none_read)

-- no section but IREP changes the records
abbrev Stays : Content → Part Content → Type 0
Stays c p = p.it.irep ≡ c.irep

once_stays : {A : Type 0} (o : Option A) (c : Content) (p : Part Content) → Stays c p → Stays c (once o c p)
once_stays none c p e = e
once_stays (some _) c p e = refl

after_stays : (c : Content) (k : List Rec → Part Content) → ((rs : List Rec) → Stays c (k rs)) → Stays c (after_irep c k)
after_stays c k h = go c.irep
  where
    go : (i : Option (List Rec)) → Stays c (elim i [ none ↦ part c (refused 6) | some rs ↦ k rs ])
    go none = refl
    go (some rs) = h rs

module _ (f : List ℕ) where
  irep_stays : (c : Content) (at : ℕ) → is_mark f at irep ≡ false → Stays c (free.section_at f c at)
  unfolding free.section_at
  irep_stays c at q =
      rw q
      (either (Stays c) (is_mark f at lvar) _ _ (λ _. after_stays c _ (λ rs. once_stays c.lvar c _ refl))
      (λ _. either (Stays c) (is_mark f at dbg) _ _ (λ _. after_stays c _ (λ rs. once_stays c.dbg c _ refl))
      (λ _. either (Stays c) (is_mark f at end) _ _ (λ _. refl) (λ _. refl))))

  -- nor does a second IREP
  irep_keeps : (c : Content) (at : ℕ) (rs : List Rec) → c.irep ≡ some rs → (free.section_at f c at).it.irep ≡ some rs
  unfolding free.section_at
  irep_keeps c at rs e = go (is_mark f at irep) refl
    where
      go : (b : Bool) → is_mark f at irep ≡ b → (free.section_at f c at).it.irep ≡ some rs
      go true q = rw (q, e)
      go false q = irep_stays c at q ∙ e

-- what follows a section: k, from its end on, or its refusal
abbrev on : (Content → ℕ → Part Content) → ℕ → Part Content → Part Content
on k at s = on_answer s.end (λ size. k s.it (at + size)) (λ e. part s.it (refused e))

on_either : (P : Part Content → Part Content → Type 0) (k' k : Content → ℕ → Part Content) (at : ℕ) (s : Part Content)
    → ((at : ℕ) → P (k' s.it at) (k s.it at)) → ((e : ℕ) → P (part s.it (refused e)) (part s.it (refused e))) → P (on k' at s) (on k at s)
on_either P k' k at s h g = by_end s.end
  where
    by_end : (a : Answer ℕ)
        → P (on_answer a (λ size. k' s.it (at + size)) (λ e. part s.it (refused e))) (on_answer a (λ size. k s.it (at + size)) (λ e. part s.it (refused e)))
    by_end (ok size) = h (at + size)
    by_end (refused e) = g e

module _ (f : List ℕ) (x : ℕ) where
  -- behind IREP a section is the same: a second IREP is 6
  section_behind : (c : Content) (at : ℕ) (rs : List Rec) → c.irep ≡ some rs → section_at f x c at ≡ free.section_at f c at
  unfolding section_at free.section_at
  section_behind c at rs e = rw e

  sections_behind : (n : ℕ) (c : Content) (at : ℕ) (rs : List Rec) → c.irep ≡ some rs → sections f x n c at ≡ free.sections f n c at
  unfolding sections free.sections
  sections_behind zero c at rs e = refl
  sections_behind (suc n) c at rs e =
      let s = free.section_at f c at in
      let P : Part Content → Part Content → Type 0 = λ p' p. p' ≡ p in
      rw (section_behind c at rs e)
      (ways P (has f at 4) _ _ _ _
      (λ _. on_either P (sections f x n) (free.sections f n) at s (λ to. sections_behind n s.it to rs (irep_keeps f c at rs e)) (λ _. refl)) (λ _. refl))

  -- so there the sections only add
  free_grow : (n : ℕ) (c : Content) (at : ℕ) → 1 ≤ length (records_of c) → Less c (free.sections f n c at).it
  free_grow n c at h = go c.irep refl
    where
      go : (i : Option (List Rec)) → c.irep ≡ i → Less c (free.sections f n c at).it
      go none e = absurd (let k : 1 ≤ 0 = rw e at h in omega arith)
      go (some rs) e = rw (← sections_behind n c at rs e) (sections_grow f x n c at (rw e tt))

  section_cut : (i : Option (List Rec)) (l : Option Lvar) (d : Option Debug) → Ordered i l d → length (or_none i) ≤ x → (at : ℕ)
      → Cut x (section_at f x (content i l d) at) (free.section_at f (content i l d) at)
  unfolding section_at free.section_at
  section_cut i l d o h at = by_mark_lem (is_mark f at irep) refl i l d o h
    where
      by_mark_lem : (b : Bool) → is_mark f at irep ≡ b → (i : Option (List Rec)) (l : Option Lvar) (d : Option Debug) → Ordered i l d → length (or_none i) ≤ x
          → Cut x (section_at f x (content i l d) at) (free.section_at f (content i l d) at)
      by_mark_lem false q i l d o h = whole (rw q) (rw (irep_stays f (content i l d) at q) h)
      by_mark_lem true q (some rs) l d o h = rw q (whole refl h)
      by_mark_lem true q none none none o h = rw q (irep_cut (drop at f) at x)
      by_mark_lem true q none none (some d) o h = absurd o
      by_mark_lem true q none (some l) none o h = absurd o
      by_mark_lem true q none (some l) (some d) o h = absurd o

  pub sections_cut : (n : ℕ) (c : Content) (at : ℕ) → Ordered c.irep c.lvar c.dbg → length (records_of c) ≤ x
      → Cut x (sections f x n c at) (free.sections f n c at)
  unfolding sections free.sections
  sections_cut zero c at o h = whole refl h
  sections_cut (suc n) c at o h =
      ways (Cut x) (has f at 4) _ _ _ _
      (λ _. next (section_at f x c at) (free.section_at f c at) (section_cut c.irep c.lvar c.dbg o h at)
      (section_grows f at x c.irep c.lvar c.dbg o).ordered (sections_cut n))
      (λ _. whole refl h)
    where
      next : (s' s : Part Content) → Cut x s' s → Ordered s'.it.irep s'.it.lvar s'.it.dbg
          → ((c : Content) (at : ℕ) → Ordered c.irep c.lvar c.dbg → length (records_of c) ≤ x → Cut x (sections f x n c at) (free.sections f n c at))
          → Cut x (on (sections f x n) at s') (on (free.sections f n) at s)
      next s' s (whole e h) o ih =
          rw e (on_either (Cut x) (sections f x n) (free.sections f n) at s (λ to. ih s.it to (rw e at o) h) (λ _. whole refl h))
      next s' s (beyond b) o ih =
          let k = free.sections f n in
          let h : 1 ≤ length (records_of s.it) = omega (arith, beyond_more x s' s b) in
          let l = on_either (λ _ p. Less s'.it p.it) k k at s (λ to. less_less s'.it s.it _ b.less (free_grow n s.it to h)) (λ _. b.less) in
          rw b.ends (beyond (record { ends = refl; records = b.records; less = l }))

module _ (f : List ℕ) where
  -- a file is not beyond the allowed bytes and within the desktop's: where it is within them, or beyond the desktop's
  abbrev pub Allowed : ℕ → Type 0
  Allowed bytes = bytes < length f → length f ≤ desktop.bytes → ⊥

  -- it is tested as without an allowance
  pub tests_same : (bytes : ℕ) → Allowed bytes → file_refusal f bytes ≡ free.file_refusal f
  unfolding file_refusal free.file_refusal
  tests_same bytes x = go (leb (length f) 65536) refl (leb (length f) bytes) refl _
    where
      go : (s : Bool) → leb (length f) 65536 ≡ s → (t : Bool) → leb (length f) bytes ≡ t → (n : ℕ)
          → first (refuse 1 s) (first (refuse 29 t) n) ≡ first (refuse 1 s) n
      go true p true q n = refl
      go true p false q n = absurd (x (leb-false _ _ q) (leb-true _ _ p))
      go false p t q n = refl

  -- and another is refused: "29 when the file .. is beyond the caller's allowance but within the desktop's, at 1's place for bytes"
  pub reading_29 : (a : Allowance) → a.bytes < length f → length f ≤ desktop.bytes → file_reading f a ≡ part nothing (refused 29)
  unfolding file_reading file_refusal
  reading_29 a b h = rw (le-leb (length f) 65536 h, lt-leb (length f) a.bytes b)

  pub reading_cut : (a : Allowance) → Allowed a.bytes → Cut a.records (file_reading f a) (free.file_reading f)
  unfolding file_reading free.file_reading
  reading_cut a x =
      rw (tests_same a.bytes x)
      (ways (Cut a.records) (eqb (free.file_refusal f) 0) _ _ _ _
      (λ _. sections_cut f a.records (length f) nothing 20 tt (omega arith)) (λ _. whole refl (omega arith)))
