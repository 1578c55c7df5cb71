-- Demand 1, under every allowance and every list of permitted opcodes: a load refuses only by 1 to 14 and 27 to 29, an examination by those, 15 to 20, 25
-- and 32, that of a single record by 22 in the place of 15, follow by an examination's and 21, a lookup by 22 alone and fetch by 23 and 24 alone, so no
-- refusal is 0; and after a refusal every lent table is zero throughout.
-- Assumes nothing.
use Prim.Native.Nat.{ℕ, suc, ◌+◌, ◌/◌}
use native.Mathlib.Nat.{sub-zero}
use mathlib.Core.Path.{◌≡◌, refl, sym, ap, subst, ◌∙◌}
use mathlib.Core.Logic.{◌⊎◌, inl, inr}
use mathlib.Core.Bool.{◌&&◌, ◌||◌}
use mathlib.Core.List.{List, ◌∷◌}
use lib.Dec.{T, leb, ltb, eqb}
use lib.ListN.{length, replicate}
use Rattle.format.specs.Bytes.{Answer, ok, refused, bind, has, byte}
use Rattle.format.specs.Rows.{Range, RecordRow, PoolRow, TextRow, text_row, record_width}
use Rattle.format.specs.Allowance.{Allowance, granted}
use Rattle.format.specs.File.{Content, nothing, file_reading}
use Rattle.format.specs.Load.{Nine, Words, tables_of, used, fits, ending, loading_within, loading, words_of, laid, load, records_of}
use Rattle.format.specs.Insn.{kind, known, row, width, fetch_as, fetch}
use Rattle.format.specs.Lookup as look
use Rattle.format.specs.Pattern.{Record, Pattern, pattern_of, rec_at}
use Rattle.format.specs.Exam.{RecordMeets, meets16, meets17, meets18, meets19, meets20, meets25, meets32, Meets, meets15, meets_record}
use Rattle.format.specs.Exam.{examine_pattern, passing, examining, examine, examine_single, passing_single, examining_single, examine_one}
use Rattle.format.specs.Run.{kind as due_kind, choices, following, Followed, follow, laid_frames, frame_table}
use Rattle.format.proofs.Answers.{ok_refused, refused_same, either, Refuses, NotZero, weaker, answered, tested, chained}
use Rattle.runs.proofs.Refusal.{single_met, refusal_met}
use Rattle.laws.proofs.Exact.{by_number}
use Rattle.laws.proofs.Numbers.{Among, reading_numbers, load_numbers, record_numbers, condition_numbers, examine_numbers, single_numbers, follow_numbers, within, further, above_zero}
use Rattle.laws.proofs.Endings.{reading_ends}
use Rattle.laws.proofs.Demand3.{choices_21}

-- every table is zero throughout
pub record Zero (m : Nine) (w : Words) : Type 0 where
  pub records : w.records ≡ replicate m.records 0
  pub handlers : w.handlers ≡ replicate m.handlers 0
  pub pool : w.pool ≡ replicate m.pool 0
  pub symbols : w.symbols ≡ replicate m.symbols 0
  pub strings : w.strings ≡ replicate m.strings 0
  pub names : w.names ≡ replicate m.names 0
  pub file_names : w.file_names ≡ replicate m.file_names 0
  pub files : w.files ≡ replicate m.files 0
  pub lines : w.lines ≡ replicate m.lines 0

zero_words : (m : Nine) → Zero m (words_of m (tables_of nothing))
zero_words m =
    record {
      records = rw sub-zero;
      handlers = rw sub-zero;
      pool = rw sub-zero;
      symbols = rw sub-zero;
      strings = rw sub-zero;
      names = rw sub-zero;
      file_names = rw sub-zero;
      files = rw sub-zero;
      lines = rw sub-zero;
    }

-- what a refused load or examination leaves
laid_zero : (m : Nine) (e : ℕ) (a : Answer Content) → (laid m a).answer ≡ refused e → Zero m (laid m a).tables
laid_zero m e (ok c) q = absurd (ok_refused (sym q))
laid_zero m e (refused k) q = zero_words m

pub laid_refuses : (m : Nine) (R : ℕ → Type 0) (a : Answer Content) → Refuses R a → Refuses R (laid m a).answer
laid_refuses m R (ok c) r = tt
laid_refuses m R (refused e) r = r

-- a condition's number
pub record_among : (q : List ℕ) (r : Record) (n : ℕ) → RecordMeets q r n → Among record_numbers n
record_among q r n (meets16 x) = tt
record_among q r n (meets17 x) = tt
record_among q r n (meets18 x) = tt
record_among q r n (meets19 x) = tt
record_among q r n (meets20 x) = tt
record_among q r n (meets25 x) = tt
record_among q r n (meets32 x) = tt

meets_among : (q : List ℕ) (p : Pattern) (n : ℕ) → Meets q p n → Among condition_numbers n
meets_among q p n (meets15 x) = tt
meets_among q p n (meets_record s) = further record_numbers condition_numbers tt n (record_among q (rec_at p s.rec) n s.holds)

-- and the number of a single record
single_among : (q : List ℕ) (i : ℕ) (p : Pattern) (n : ℕ) → examine_single q i p ≡ suc n → Among (22 ∷ record_numbers) (suc n)
single_among q i p n e =
    elim (single_met q i p n e) [
      | inl h ↦ subst (Among (22 ∷ record_numbers)) h.0 tt
      | inr h ↦ further record_numbers (22 ∷ record_numbers) tt (suc n) (record_among q (rec_at p i) (suc n) h.1)
    ]

module _ (f : List ℕ) where
  loading_refuses : (m : Nine) (a : Allowance) → Refuses (Among load_numbers) (loading f m a)
  unfolding loading_within ending
  loading_refuses m a =
      let p = file_reading f (granted a) in
      tested _ _ (fits 1024 m (used (tables_of p.it))) _ 14 tt
      (λ _. answered _ _ (Refuses (Among load_numbers)) p.end _ _ (reading_ends f (granted a)) (λ _ _. tt) (further reading_numbers load_numbers tt))

  pub passing_refuses : (q : List ℕ) (c : Content) → Refuses (Among condition_numbers) (passing q f c)
  unfolding passing
  passing_refuses q c =
      let p = pattern_of f c in
      by_number c (examine_pattern q p) (Refuses (Among condition_numbers)) (λ _. tt) (λ n e. meets_among q p (suc n) (refusal_met q p n e))

  pub single_refuses : (q : List ℕ) (i : ℕ) (c : Content) → Refuses (Among (22 ∷ record_numbers)) (passing_single q i f c)
  unfolding passing_single
  single_refuses q i c =
      let p = pattern_of f c in
      by_number c (examine_single q i p) (Refuses (Among (22 ∷ record_numbers))) (λ _. tt) (single_among q i p)

  -- a load
  module _ (m : Nine) (a : Allowance) where
    pub load_number : (e : ℕ) → (load f m a).answer ≡ refused e → Among load_numbers e
    unfolding load
    load_number e r = subst (Refuses (Among load_numbers)) r (laid_refuses m (Among load_numbers) (loading f m a) (loading_refuses m a))

    pub load_not_zero : NotZero (load f m a).answer
    load_not_zero e r = above_zero load_numbers refl e (load_number e r)

    pub load_zero : (e : ℕ) → (load f m a).answer ≡ refused e → Zero m (load f m a).tables
    unfolding load
    load_zero e r = laid_zero m e (loading f m a) r

    -- what is made of a file that loads refuses by the load's numbers and its own,
    bound_number : (ns : List ℕ) (k : Content → Answer Content) → ((c : Content) → Refuses (Among ns) (k c)) → (ms : List ℕ) → T (within load_numbers ms) → T (within ns ms)
        → (e : ℕ) → (laid m (bind (loading f m a) k)).answer ≡ refused e → Among ms e
    bound_number ns k h ms t u e r =
        subst (Refuses (Among ms)) r
        (laid_refuses m (Among ms) (bind (loading f m a) k)
        (chained _ _ _ (loading f m a) k (weaker _ _ _ (loading f m a) (loading_refuses m a) (further load_numbers ms t))
        (λ c _. weaker _ _ _ (k c) (h c) (further ns ms u))))

    -- and by one that no load has only where the file loads
    pub behind_load : (k : Content → Answer Content) (n : ℕ) → ¬ Among load_numbers n → (laid m (bind (loading f m a) k)).answer ≡ refused n
        → (c : Content) × (loading f m a ≡ ok c) × (k c ≡ refused n)
    behind_load k n none_has e = by_load (loading f m a) refl
      where
        laid_number : (x : Answer Content) → (laid m x).answer ≡ refused n → x ≡ refused n
        laid_number (ok c) e = absurd (ok_refused (sym e))
        laid_number (refused j) e = ap refused (refused_same e)

        by_load : (x : Answer Content) → loading f m a ≡ x → (c : Content) × (loading f m a ≡ ok c) × (k c ≡ refused n)
        by_load (ok c) l = (c, l, laid_number (k c) (rw l at e))
        by_load (refused j) l = absurd (none_has (subst (Refuses (Among load_numbers)) (l ∙ laid_number (refused j) (rw l at e)) (loading_refuses m a)))

  module _ (m : Nine) (a : Allowance) (q : List ℕ) where
    -- follow, where its load is not refused
    pub behind_refuses : (c : Content) → loading f m a ≡ ok c → (n : ℕ) (bs : List ℕ) → Refuses (Among (14 ∷ 21 ∷ condition_numbers)) (following f m a q n bs)
    unfolding following
    behind_refuses c e n bs =
        let ns : List ℕ = 14 ∷ 21 ∷ condition_numbers in
        rw e
        (tested _ _ (leb (length (records_of c)) (n / 2)) _ 14 tt (λ _.
        chained _ _ _ (passing q f c) _ (weaker _ _ _ (passing q f c) (passing_refuses q c) (further condition_numbers ns tt)) (λ _ _.
        chained _ _ _ (choices bs) _ (weaker _ _ _ (choices bs) (choices_21 bs due_kind) (λ e x. rw x tt)) (λ cs _. tt))))

    following_refuses : (n : ℕ) (bs : List ℕ) → Refuses (Among follow_numbers) (following f m a q n bs)
    unfolding following
    following_refuses n bs = by_load (loading f m a) refl
      where
        by_load : (x : Answer Content) → loading f m a ≡ x → Refuses (Among follow_numbers) (following f m a q n bs)
        by_load (ok c) e = weaker _ _ _ (following f m a q n bs) (behind_refuses c e n bs) (further (14 ∷ 21 ∷ condition_numbers) follow_numbers tt)
        by_load (refused k) e = rw e (further load_numbers follow_numbers tt k (subst (Refuses (Among load_numbers)) e (loading_refuses m a)))

    -- an examination
    pub examine_number : (e : ℕ) → (examine f m a q).answer ≡ refused e → Among examine_numbers e
    unfolding examine examining
    examine_number e r = bound_number m a condition_numbers (passing q f) (passing_refuses q) examine_numbers tt tt e r

    pub examine_not_zero : NotZero (examine f m a q).answer
    examine_not_zero e r = above_zero examine_numbers refl e (examine_number e r)

    pub examine_zero : (e : ℕ) → (examine f m a q).answer ≡ refused e → Zero m (examine f m a q).tables
    unfolding examine
    examine_zero e r = laid_zero m e (examining f m a q) r

    -- i): that of "a single record, without 15"
    module _ (i : ℕ) where
      pub single_number : (e : ℕ) → (examine_one f m a q i).answer ≡ refused e → Among single_numbers e
      unfolding examine_one examining_single
      single_number e r = bound_number m a (22 ∷ record_numbers) (passing_single q i f) (single_refuses q i) single_numbers tt tt e r

      pub single_never_15 : ¬ ((examine_one f m a q i).answer ≡ refused 15)
      single_never_15 r = single_number 15 r

      pub single_not_zero : NotZero (examine_one f m a q i).answer
      single_not_zero e r = above_zero single_numbers refl e (single_number e r)

      -- "a refusal leaves the tables as examination's does"
      pub single_zero : (e : ℕ) → (examine_one f m a q i).answer ≡ refused e → Zero m (examine_one f m a q i).tables
      unfolding examine_one
      single_zero e r = laid_zero m e (examining_single f m a q i) r

    -- follow
    pub follow_number : (n : ℕ) (bs : List ℕ) (e : ℕ) → (follow f m a q n bs).answer ≡ refused e → Among follow_numbers e
    unfolding follow
    follow_number n bs e r =
        let R : ℕ → Type 0 = Among follow_numbers in
        subst (Refuses R) r
        (answered _ _ (λ (x : Followed). Refuses R x.answer) (following f m a q n bs) _ _ (following_refuses n bs) (λ _ _. tt) (λ _ r. r))

    pub follow_not_zero : (n : ℕ) (bs : List ℕ) → NotZero (follow f m a q n bs).answer
    follow_not_zero n bs e r = above_zero follow_numbers refl e (follow_number n bs e r)

    pub follow_zero : (n : ℕ) (bs : List ℕ) (e : ℕ) → (follow f m a q n bs).answer ≡ refused e
        → Zero m (follow f m a q n bs).tables × ((follow f m a q n bs).frames ≡ replicate n 0)
    unfolding follow frame_table laid_frames
    follow_zero n bs e =
        answered (λ _. Unit {0}) _ (λ (x : Followed). x.answer ≡ refused e → Zero m x.tables × (x.frames ≡ replicate n 0)) (following f m a q n bs) _ _
        (following_refuses n bs) (λ _ _ r. absurd (ok_refused (sym r))) (λ _ _ _. (zero_words m, rw sub-zero))

-- a lookup's one number
abbrev Only22 : {A : Type 0} → Answer A → Type 0
Only22 x = Refuses (λ e. e ≡ 22) x

record_22 : (t : List ℕ) (r : ℕ) → Only22 (look.record_in t r)
unfolding look.record_in
record_22 t r = tested _ _ (look.has_row record_width t r && ltb 0 (look.record_word t r 0)) _ 22 refl (λ _. tt)

row_22 : (w : ℕ) (t : List ℕ) (g : Range) (i : ℕ) → Only22 (look.row_in w t g i)
unfolding look.row_in
row_22 w t g i = tested _ _ (ltb i g.number && look.has_row w t (g.first + i)) _ 22 refl (λ _. tt)

rows_22 : (w : ℕ) (t : List ℕ) (g : Range) → Only22 (look.rows_in w t g)
unfolding look.rows_in
rows_22 w t g = tested _ _ (eqb g.number 0 || leb (g.first + g.number) (length t / w)) _ 22 refl (λ _. tt)

bytes_22 : (f : List ℕ) (t : TextRow) → Only22 (look.bytes_in f t)
unfolding look.bytes_in
bytes_22 f t = tested _ _ (leb (t.place + t.length) (length f)) _ 22 refl (λ _. tt)

text_22 : (f t : List ℕ) (i : ℕ) → Only22 (look.text_in f t i)
unfolding look.text_in
text_22 f t i = tested _ _ (look.has_row 2 t i) _ 22 refl (λ _. bytes_22 f (look.text_row_at t i))

sized_22 : (n : ℕ) (t : TextRow) (c : look.Constant) → Only22 (look.of_bytes n t c)
sized_22 n t c = tested _ _ (eqb t.length n) _ 22 refl (λ _. tt)

constant_22 : (f : List ℕ) (p : PoolRow) → Only22 (look.constant_of f p)
unfolding look.constant_of look.constant_at
constant_22 f p =
    let k = p.kind in
    let bytes = text_row p.place p.length in
    chained _ _ _ (look.bytes_in f bytes) _ (bytes_22 f bytes) (λ t _.
    either Only22 (eqb k 0) _ _ (λ _. tt) (λ _.
    either Only22 (eqb k 2) _ _ (λ _. tt) (λ _.
    either Only22 (eqb k 1) _ _ (λ _. sized_22 4 t _) (λ _.
    either Only22 (eqb k 3) _ _ (λ _. sized_22 8 t _) (λ _.
    either Only22 (eqb k 5) _ _ (λ _. sized_22 8 t _) (λ _.
    either Only22 (eqb k 7) _ _ (λ _. tt) (λ _. refl)))))))

-- each of the seven, over a file and tables of any contents
module _ (f t : List ℕ) (r : ℕ) where
  -- what is made of a record's row, and of row i of those that it names
  of_record : {A : Type 0} (k : RecordRow → Answer A) → ((x : RecordRow) → Only22 (k x)) → Only22 (bind (look.record_in t r) k)
  of_record k h = chained _ _ _ (look.record_in t r) k (record_22 t r) (λ x _. h x)

  of_row : {A : Type 0} (w : ℕ) (s : List ℕ) (g : Range) (i : ℕ) (k : ℕ → Answer A) → ((j : ℕ) → Only22 (k j)) → Only22 (bind (look.row_in w s g i) k)
  of_row w s g i k h = chained _ _ _ (look.row_in w s g i) k (row_22 w s g i) (λ j _. h j)

  instructions_22 : Only22 (look.instructions f t r)
  unfolding look.instructions
  instructions_22 = of_record _ (λ x. bytes_22 f (text_row x.place x.ilen))

  handler_22 : (h : List ℕ) (i : ℕ) → Only22 (look.handler t h r i)
  unfolding look.handler
  handler_22 h i = of_record _ (λ x. of_row 4 h x.handlers i _ (λ j. tt))

  pool_22 : (p : List ℕ) (i : ℕ) → Only22 (look.pool f t p r i)
  unfolding look.pool
  pool_22 p i = of_record _ (λ x. of_row 3 p x.pool i _ (λ j. constant_22 f (look.pool_row_at p j)))

  symbol_22 : (s : List ℕ) (i : ℕ) → Only22 (look.symbol f t s r i)
  unfolding look.symbol
  symbol_22 s i = of_record _ (λ x. of_row 2 s x.symbols i _ (text_22 f s))

  name_22 : (s n : List ℕ) (i : ℕ) → Only22 (look.name f t s n r i)
  unfolding look.name look.name_of
  name_22 s n i =
      of_record _ (λ x. of_row 1 n x.names i _ (λ j.
      let index = look.word 1 n j 0 in
      either Only22 (eqb index 65535) _ _ (λ _. tt) (λ _. chained _ _ _ (look.text_in f s index) _ (text_22 f s index) (λ _ _. tt))))

  debug_file_22 : (n d l : List ℕ) (i : ℕ) → Only22 (look.debug_file f t n d l r i)
  unfolding look.debug_file look.debug_file_of
  debug_file_22 n d l i =
      of_record _ (λ x. of_row 4 d x.files i _ (λ j.
      let y = look.file_row_at d j in
      chained _ _ _ (look.text_in f n y.name) _ (text_22 f n y.name) (λ _ _.
      chained _ _ _ (look.rows_in 2 l y.lines) _ (rows_22 2 l y.lines) (λ _ _. tt))))

  line_22 : (l : List ℕ) (p : ℕ) → Only22 (look.line t l r p)
  unfolding look.line
  line_22 l p = of_record _ (λ x. chained _ _ _ (look.rows_in 2 l x.lines) _ (rows_22 2 l x.lines) (λ _ _. tt))

  module _ (e : ℕ) where
    pub instructions_number : look.instructions f t r ≡ refused e → e ≡ 22
    instructions_number q = subst Only22 q instructions_22

    pub handler_number : (h : List ℕ) (i : ℕ) → look.handler t h r i ≡ refused e → e ≡ 22
    handler_number h i q = subst Only22 q (handler_22 h i)

    pub pool_number : (p : List ℕ) (i : ℕ) → look.pool f t p r i ≡ refused e → e ≡ 22
    pool_number p i q = subst Only22 q (pool_22 p i)

    pub symbol_number : (s : List ℕ) (i : ℕ) → look.symbol f t s r i ≡ refused e → e ≡ 22
    symbol_number s i q = subst Only22 q (symbol_22 s i)

    pub name_number : (s n : List ℕ) (i : ℕ) → look.name f t s n r i ≡ refused e → e ≡ 22
    name_number s n i q = subst Only22 q (name_22 s n i)

    pub debug_file_number : (n d l : List ℕ) (i : ℕ) → look.debug_file f t n d l r i ≡ refused e → e ≡ 22
    debug_file_number n d l i q = subst Only22 q (debug_file_22 n d l i)

    pub line_number : (l : List ℕ) (p : ℕ) → look.line t l r p ≡ refused e → e ≡ 22
    line_number l p q = subst Only22 q (line_22 l p)

-- "Fetch: empty is 24, then 23, then 24."
pub fetch_number : (c : List ℕ) (e : ℕ) → fetch c ≡ refused e → (e ≡ 23) ⊎ (e ≡ 24)
unfolding fetch fetch_as
fetch_number c e q =
    let k = kind (row (byte c 0)) in
    subst (Refuses (λ (x : ℕ). (x ≡ 23) ⊎ (x ≡ 24))) q
    (tested _ _ (has c 0 1) _ 24 (inr refl) (λ _. tested _ _ (known (byte c 0)) _ 23 (inl refl) (λ _. tested _ _ (has c 0 (suc (width k))) _ 24 (inr refl) (λ _. tt))))
