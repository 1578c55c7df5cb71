-- The part of a file from a place on. Where rows stand in a table, and a row of a table replaced; so a record's row, once its names or its debug
-- files are known.
-- Assumes nothing.
use Prim.Native.Nat.{ℕ, zero, suc, ◌+◌, ◌-◌, ◌*◌, ◌≤◌, ◌<◌}
use native.Mathlib.Nat.{suc-mul, zero-mul, le_of_eq}
use native.Mathlib.Omega.{arith}
use mathlib.Core.Path.{◌≡◌, refl, sym, ap, ◌∙◌}
use mathlib.Core.List.{List, [], ◌∷◌, ◌++◌, append_assoc, append-nil}
use lib.ListN.{length, get_or, take, drop, set, replicate, length-append, length-drop, length-set, get_or-append}
use lib.Seq.{take_all, sets, set-append_left, get_or-append-add, drop-nil, drop_at}
use Rattle.format.specs.Rows.{range, record_width, record_words, NameRow, flat, table_of}
use Rattle.format.specs.Irep.{Rec}
use Rattle.format.specs.Debug.{File}
use Rattle.format.specs.Tree.{Node, alone}
use Rattle.format.specs.File.{Content}
use Rattle.format.specs.Load.{joined, gathered, map_of_files, Before, start, past, records_of, names_of, files_of, nodes_of, record_row, record_rows, file_rows, tables_of}

pub part_is : (f : List ℕ) (at : ℕ) → take (length f - at) (drop at f) ≡ drop at f
part_is f at = take_all (length f - at) (drop at f) (le_of_eq (length-drop at f))

-- a table of zeros has no other word
pub zeros : (n i : ℕ) → ◌≡◌ {A = ℕ} (get_or (replicate n 0) i 0) 0
zeros zero i = refl
zeros (suc n) zero = refl
zeros (suc n) (suc i) = zeros n i

-- lists joined, and what is gathered from a list, one behind another
pub joined_append : {A : Type 0} (xs ys : List (List A)) → joined (xs ++ ys) ≡ joined xs ++ joined ys
joined_append [] ys = refl
joined_append (x ∷ xs) ys = rw (joined_append xs ys, append_assoc)

pub joined_snoc : {A : Type 0} (xs : List (List A)) (y : List A) → joined (xs ++ y ∷ []) ≡ joined xs ++ y
joined_snoc xs y = joined_append xs (y ∷ []) ∙ rw append-nil

pub gathered_append : {A B : Type 0} (f : A → List B) (xs ys : List A) → gathered f (xs ++ ys) ≡ gathered f xs ++ gathered f ys
gathered_append f [] ys = refl
gathered_append f (x ∷ xs) ys = rw (gathered_append f xs ys, append_assoc)

set_append_add : {A : Type 0} (xs ys : List A) (n : ℕ) (a : A) → set (xs ++ ys) (length xs + n) a ≡ xs ++ set ys n a
set_append_add [] ys n a = let k : 0 + n ≡ n = omega arith in rw k
set_append_add (x ∷ xs) ys n a = let k : suc (length xs) + n ≡ suc (length xs + n) = omega arith in rw (k, set_append_add xs ys n a)

-- words replaced in the middle of three lists
sets_inside : {A : Type 0} (xs ws ys : List A) (i : ℕ) (vs : List A) → i + length vs ≤ length ws
    → sets (xs ++ (ws ++ ys)) (length xs + i) vs ≡ xs ++ (sets ws i vs ++ ys)
sets_inside xs ws ys i [] h = refl
sets_inside xs ws ys i (v ∷ vs) h =
    let k : suc (length xs + i) ≡ length xs + suc i = omega arith in
    rw (set_append_add xs (ws ++ ys) i v, set-append_left ws ys i v (omega arith), k) (sets_inside xs (set ws i v) ys (suc i) vs (rw length-set (omega arith)))

-- any table, w words to a row
module _ {R : Type 0} (words : R → List ℕ) (w : ℕ) (wide : (r : R) → length (words r) ≡ w) where
  flat_append : (xs ys : List R) → flat words (xs ++ ys) ≡ flat words xs ++ flat words ys
  flat_append [] ys = refl
  flat_append (a ∷ xs) ys = rw (flat_append xs ys, append_assoc)

  pub flat_length : (rs : List R) → length (flat words rs) ≡ length rs * w
  flat_length [] = sym (zero-mul w)
  flat_length (r ∷ rs) = rw (length-append, wide r, flat_length rs, suc-mul) (omega arith)

  -- the table, parted at a row
  table_at : (m : ℕ) (xs : List R) (x : R) (ys : List R)
      → table_of words m (xs ++ x ∷ ys) ≡ flat words xs ++ (words x ++ (flat words ys ++ replicate (m - (length xs * w + (w + length ys * w))) 0))
  table_at m xs x ys = rw (flat_append xs (x ∷ ys), length-append, length-append, wide x, flat_length xs, flat_length ys, append_assoc, append_assoc)

  -- word i of row j
  pub word_at : (m : ℕ) (xs : List R) (x : R) (ys : List R) (j i : ℕ) → length xs ≡ j → i < w
      → get_or (table_of words m (xs ++ x ∷ ys)) (j * w + i) 0 ≡ get_or (words x) i 0
  word_at m xs x ys j i e h =
      let k : i < length (words x) = rw (wide x) h in
      rw (← e, table_at m xs x ys, ← flat_length xs, get_or-append-add, get_or-append (words x) _ 0 i k)

  -- the words of row j from word i on replaced
  pub sets_at : (m : ℕ) (xs : List R) (x y : R) (ys : List R) (j i : ℕ) (vs : List ℕ) → length xs ≡ j → i + length vs ≤ w → sets (words x) i vs ≡ words y
      → sets (table_of words m (xs ++ x ∷ ys)) (j * w + i) vs ≡ table_of words m (xs ++ y ∷ ys)
  sets_at m xs x y ys j i vs e h q =
      let k : i + length vs ≤ length (words x) = rw (wide x) h in
      rw (← e, table_at m xs x ys, table_at m xs y ys, ← flat_length xs, sets_inside (flat words xs) (words x) _ i vs k, q)

-- the first k lists, none where there are no more
abbrev pub up_to : {A : Type 0} → ℕ → List (List A) → List (List A)
up_to zero l = []
up_to (suc k) l = get_or l 0 [] ∷ up_to k (drop 1 l)

up_to_lem : {A : Type 0} (l x : List (List A)) (k : ℕ) → length l ≡ k → up_to k (l ++ x) ≡ l
up_to_lem {A = A} l x k e = rw (← e) (all l)
  where
    all : (l : List (List A)) → up_to (length l) (l ++ x) ≡ l
    all [] = refl
    all (a ∷ l) = ap (λ t. a ∷ t) (all l)

drop_suc : {A : Type 0} (k : ℕ) (l : List A) → drop (suc k) l ≡ drop k (drop 1 l)
drop_suc k [] = sym (drop-nil k)
drop_suc k (a ∷ l) = refl

-- the rows before those of the records that follow qs
abbrev pub past_all : Before → List Rec → List (List NameRow) → List (List File) → Before
past_all b [] nss fss = b
past_all b (q ∷ qs) nss fss = past_all (past b q (get_or nss 0 []) (get_or fss 0 [])) qs (drop 1 nss) (drop 1 fss)

-- the rows of records, parted; their nodes are put in once all are known
pub rows_split : (qs rs : List Rec) (b : Before) (nss : List (List NameRow)) (fss : List (List File))
    → let k = length qs in
    record_rows b (qs ++ rs) nss fss []
    ≡ record_rows b qs (up_to k nss) (up_to k fss) [] ++ record_rows (past_all b qs (up_to k nss) (up_to k fss)) rs (drop k nss) (drop k fss) []
rows_split [] rs b nss fss = refl
rows_split (q ∷ qs) rs b nss fss =
    rw (drop_suc (length qs) nss, drop_suc (length qs) fss)
    (ap (λ l. record_row b q (get_or nss 0 []) (get_or fss 0 []) alone ∷ l) (rows_split qs rs (past b q (get_or nss 0 []) (get_or fss 0 [])) (drop 1 nss) (drop 1 fss)))

-- a row for each record, whatever the walks read
pub rows_length : (rs : List Rec) (b : Before) (nss : List (List NameRow)) (fss : List (List File)) (vs : List Node) → length (record_rows b rs nss fss vs) ≡ length rs
rows_length [] b nss fss vs = refl
rows_length (r ∷ rs) b nss fss vs = ap suc (rows_length rs (past b r (get_or nss 0 []) (get_or fss 0 [])) (drop 1 nss) (drop 1 fss) (drop 1 vs))

pub records_length : (c : Content) → length (tables_of c).records ≡ length (records_of c)
records_length c = rows_length (records_of c) start (names_of c) (files_of c) (nodes_of c)

-- and one for each debug file
pub file_rows_length : (n : ℕ) (fs : List File) → length (file_rows n fs) ≡ length fs
file_rows_length n [] = refl
file_rows_length n (f ∷ fs) = ap suc (file_rows_length (n + length f.lines) fs)

-- without names, or without debug files, a record's row does not depend on how many of them stand before it
abbrev named : ℕ → Before → Before
named n b = record { handlers = b.handlers; pool = b.pool; symbols = b.symbols; names = n; files = b.files; lines = b.lines }

abbrev filed : ℕ → ℕ → Before → Before
filed n k b = record { handlers = b.handlers; pool = b.pool; symbols = b.symbols; names = b.names; files = n; lines = k }

rows_unnamed : (rs : List Rec) (b : Before) (n : ℕ) (fss : List (List File)) → record_rows (named n b) rs [] fss [] ≡ record_rows b rs [] fss []
rows_unnamed [] b n fss = refl
rows_unnamed (r ∷ rs) b n fss =
    ap (λ l. record_row b r [] (get_or fss 0 []) alone ∷ l) (rows_unnamed rs (past b r [] (get_or fss 0 [])) (n + 0) (drop 1 fss))

rows_unfiled : (rs : List Rec) (b : Before) (n k : ℕ) (nss : List (List NameRow)) → record_rows (filed n k b) rs nss [] [] ≡ record_rows b rs nss [] []
rows_unfiled [] b n k nss = refl
rows_unfiled (r ∷ rs) b n k nss =
    ap (λ l. record_row b r (get_or nss 0 []) [] alone ∷ l) (rows_unfiled rs (past b r (get_or nss 0 []) []) (n + 0) (k + 0) (drop 1 nss))

-- how many names, debug files and lines stand before the records that follow qs
pub past_names : (qs : List Rec) (b : Before) (nss : List (List NameRow)) (fss : List (List File)) → length nss ≡ length qs → (past_all b qs nss fss).names ≡ b.names + length (joined nss)
past_names [] b [] fss e = omega arith
past_names [] b (n ∷ nss) fss e = absurd (omega arith)
past_names (q ∷ qs) b [] fss e = absurd (omega arith)
past_names (q ∷ qs) b (n ∷ nss) fss e =
    let ih = past_names qs (past b q n (get_or fss 0 [])) nss (drop 1 fss) (omega arith) in
    omega (arith, ih, length-append n (joined nss))

pub past_files : (qs : List Rec) (b : Before) (nss : List (List NameRow)) (fss : List (List File)) → length fss ≡ length qs
    → ((past_all b qs nss fss).files ≡ b.files + length (joined fss)) × ((past_all b qs nss fss).lines ≡ b.lines + length (map_of_files (joined fss)))
past_files [] b nss [] e = (omega arith, omega arith)
past_files [] b nss (f ∷ fss) e = absurd (omega arith)
past_files (q ∷ qs) b nss [] e = absurd (omega arith)
past_files (q ∷ qs) b nss (f ∷ fss) e =
    let ih = past_files qs (past b q (get_or nss 0 []) f) (drop 1 nss) fss (omega arith) in
    let files = length-append f (joined fss) in
    let lines : length (map_of_files (f ++ joined fss)) ≡ length (map_of_files f) + length (map_of_files (joined fss)) = rw (gathered_append (λ x. x.lines) f (joined fss), length-append) in
    (omega arith, omega arith)

-- in the table of the records qs, r and rs: row length qs
module _ (m : ℕ) (b : Before) (qs : List Rec) (r : Rec) (rs : List Rec) where
  -- its word i
  pub record_word_lem : (nss : List (List NameRow)) (fss : List (List File)) (i : ℕ) → i < record_width
      → let k = length qs in
      get_or (table_of record_words m (record_rows b (qs ++ r ∷ rs) nss fss [])) (k * record_width + i) 0
      ≡ get_or (record_words (record_row (past_all b qs (up_to k nss) (up_to k fss)) r (get_or (drop k nss) 0 []) (get_or (drop k fss) 0 []) alone)) i 0
  record_word_lem nss fss i h =
      let k = length qs in
      rw (rows_split qs (r ∷ rs) b nss fss)
      (word_at record_words record_width (λ _. refl) m (record_rows b qs (up_to k nss) (up_to k fss) []) _ _ k i (rows_length qs b (up_to k nss) (up_to k fss) []) h)

  -- the rows where qs have the names nss and the others the names x; and the same for debug files
  named_split : (nss x : List (List NameRow)) (fss : List (List File)) → length nss ≡ length qs
      → let k = length qs in
      record_rows b (qs ++ r ∷ rs) (nss ++ x) fss [] ≡ record_rows b qs nss (up_to k fss) [] ++ record_rows (past_all b qs nss (up_to k fss)) (r ∷ rs) x (drop k fss) []
  named_split nss x fss e = rw (rows_split qs (r ∷ rs) b (nss ++ x) fss, up_to_lem nss x (length qs) e, drop_at nss x (length qs) e)

  filed_split : (nss : List (List NameRow)) (fss x : List (List File)) → length fss ≡ length qs
      → let k = length qs in
      record_rows b (qs ++ r ∷ rs) nss (fss ++ x) [] ≡ record_rows b qs (up_to k nss) fss [] ++ record_rows (past_all b qs (up_to k nss) fss) (r ∷ rs) (drop k nss) x []
  filed_split nss fss x e = rw (rows_split qs (r ∷ rs) b nss (fss ++ x), up_to_lem fss x (length qs) e, drop_at fss x (length qs) e)

  -- its words 13 and 14 once its names are known
  pub names_put : (nss : List (List NameRow)) (ns : List NameRow) (fss : List (List File)) → length nss ≡ length qs
      → let row = length qs * record_width in
      let names = range (b.names + length (joined nss)) (length ns) in
      set (set (table_of record_words m (record_rows b (qs ++ r ∷ rs) nss fss [])) (row + 13) names.first) (row + 14) names.number
      ≡ table_of record_words m (record_rows b (qs ++ r ∷ rs) (nss ++ ns ∷ []) fss [])
  names_put nss ns fss e =
      let k = length qs in
      let c = past_all b qs nss (up_to k fss) in
      let fs = get_or (drop k fss) 0 [] in
      let names = range (b.names + length (joined nss)) (length ns) in
      let next : k * record_width + 14 ≡ suc (k * record_width + 13) = omega arith in
      let rest = rows_unnamed rs (past c r [] fs) (c.names + length ns) (drop 1 (drop k fss)) in
      rw (rw append-nil at (named_split nss [] fss e), named_split nss (ns ∷ []) fss e, rest, next)
      (sets_at record_words record_width (λ _. refl) m (record_rows b qs nss (up_to k fss) []) (record_row c r [] fs alone) (record_row c r ns fs alone)
      (record_rows (past c r [] fs) rs [] (drop 1 (drop k fss)) []) k 13
      (names.first ∷ names.number ∷ []) (rows_length qs b nss (up_to k fss) []) (omega arith) (rw (past_names qs b nss (up_to k fss) e)))

  -- its words 15 to 18 once its debug files are known
  pub files_put : (nss : List (List NameRow)) (fss : List (List File)) (fs : List File) → length fss ≡ length qs
      → let row = length qs * record_width in
      let files = range (b.files + length (joined fss)) (length fs) in
      let lines = range (b.lines + length (map_of_files (joined fss))) (length (map_of_files fs)) in
      set (set (set (set (table_of record_words m (record_rows b (qs ++ r ∷ rs) nss fss [])) (row + 15) files.first) (row + 16) files.number) (row + 17) lines.first) (row + 18) lines.number
      ≡ table_of record_words m (record_rows b (qs ++ r ∷ rs) nss (fss ++ fs ∷ []) [])
  files_put nss fss fs e =
      let k = length qs in
      let c = past_all b qs (up_to k nss) fss in
      let ns = get_or (drop k nss) 0 [] in
      let files = range (b.files + length (joined fss)) (length fs) in
      let lines = range (b.lines + length (map_of_files (joined fss))) (length (map_of_files fs)) in
      let second : k * record_width + 16 ≡ suc (k * record_width + 15) = omega arith in
      let third : k * record_width + 17 ≡ suc (suc (k * record_width + 15)) = omega arith in
      let fourth : k * record_width + 18 ≡ suc (suc (suc (k * record_width + 15))) = omega arith in
      let rest = rows_unfiled rs (past c r ns []) (c.files + length fs) (c.lines + length (map_of_files fs)) (drop 1 (drop k nss)) in
      let p = past_files qs b (up_to k nss) fss e in
      rw (rw append-nil at (filed_split nss fss [] e), filed_split nss fss (fs ∷ []) e, rest, second, third, fourth)
      (sets_at record_words record_width (λ _. refl) m (record_rows b qs (up_to k nss) fss []) (record_row c r ns [] alone) (record_row c r ns fs alone)
      (record_rows (past c r ns []) rs (drop 1 (drop k nss)) [] []) k 15
      (files.first ∷ files.number ∷ lines.first ∷ lines.number ∷ []) (rows_length qs b (up_to k nss) fss []) (omega arith) (rw (p.0, p.1)))
