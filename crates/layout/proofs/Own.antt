-- The rows that a record's row names are the record's own: those that were read for it, in their order. So are the lines that a debug file's
-- row names.
-- Assumes nothing.
use Prim.Native.Nat.{ℕ, zero, suc, ◌+◌, ◌*◌, ◌≤◌, ◌<◌}
use native.Mathlib.Nat.{le_of_suc-le-suc, add-zero, zero-add, add_assoc}
use native.Mathlib.Omega.{arith}
use mathlib.Core.Path.{◌≡◌, refl, ap, ◌∙◌}
use mathlib.Core.Bool.{false}
use mathlib.Core.List.{List, [], ◌∷◌, ◌++◌, append_assoc}
use lib.Dec.{eqb}
use lib.ListN.{length, get_or, take, drop, length-append, get_or-append}
use lib.Seq.{split_at, take-nil, take-append_seam, drop-append_seam, get_or-append-add, length-take-le}
use borrow.Author.Tests.{ne_eqb}
use Rattle.format.specs.Rows.{Range, range, RecordRow, NameRow, FileRow, LineRow, table_of}
use Rattle.format.specs.Irep.{Rec}
use Rattle.format.specs.Debug.{File}
use Rattle.format.specs.File.{Content}
use Rattle.format.specs.Tree.{Node, alone}
use Rattle.format.specs.Load.{joined, gathered, records_of, names_of, files_of, nodes_of, map_of_files, Before, start, past, record_row, record_rows, file_rows, Tables, tables_of}
use Rattle.format.proofs.Places.{gathered_append, word_at, file_rows_length}

-- the rows of the table t that the range g names are the list l
pub record Own {A : Type 0} (t : List A) (g : Range) (l : List A) : Type 0 where
  pub number : g.number ≡ length l
  pub inside : g.first + g.number ≤ length t
  pub rows : take g.number (drop g.first t) ≡ l
  pub at : (j : ℕ) (d : A) → j < g.number → get_or t (g.first + j) d ≡ get_or l j d

-- a range of some rows starts where it is said to
range_first : (n k : ℕ) → (range n (suc k)).first ≡ n
range_first n k = let e : eqb (suc k) 0 ≡ false = ne_eqb _ _ (λ (q : suc k ≡ 0). omega arith) in rw e

module _ {A : Type 0} where
  -- no row
  own_none : (t : List A) (n : ℕ) → Own t (range n 0) []
  own_none t n = record { number = refl; inside = omega arith; rows = refl; at = λ j d h. absurd (omega arith) }

  -- rows that stand behind others
  own_behind : (xs l ys : List A) → Own (xs ++ (l ++ ys)) (range (length xs) (length l)) l
  own_behind xs [] ys = own_none (xs ++ ys) (length xs)
  own_behind xs (a ∷ l) ys =
      let e = range_first (length xs) (length l) in
      record {
        number = refl;
        inside = rw (e, length-append xs (a ∷ (l ++ ys)), length-append l ys) (omega arith);
        rows = rw (e, drop-append_seam xs (a ∷ (l ++ ys))) (take-append_seam (a ∷ l) ys);
        at = λ j d h. rw (e, get_or-append-add xs (a ∷ (l ++ ys)) j d) (get_or-append (a ∷ l) ys d j h);
      }

  -- of lists that are joined, each
  joined_split : (ls : List (List A)) (i : ℕ) → joined ls ≡ joined (take i ls) ++ (get_or ls i [] ++ joined (drop (suc i) ls))
  joined_split [] zero = refl
  joined_split [] (suc i) = refl
  joined_split (l ∷ ls) zero = refl
  joined_split (l ∷ ls) (suc i) = rw append_assoc (ap (λ t. l ++ t) (joined_split ls i))

  pub own_joined : (ls : List (List A)) (i : ℕ) → Own (joined ls) (range (length (joined (take i ls))) (length (get_or ls i []))) (get_or ls i [])
  own_joined ls i = rw (joined_split ls i) (own_behind (joined (take i ls)) (get_or ls i []) (joined (drop (suc i) ls)))

-- of what is gathered, each one's
module _ {A B : Type 0} (f : A → List B) where
  gathered_split : (l : List A) (i : ℕ) (d : A) → i < length l → gathered f l ≡ gathered f (take i l) ++ (f (get_or l i d) ++ gathered f (drop (suc i) l))
  gathered_split l i d h = ap (gathered f) (split_at l i d h) ∙ gathered_append f (take i l) (get_or l i d ∷ drop (suc i) l)

  pub own_gathered : (l : List A) (i : ℕ) (d : A) → i < length l → Own (gathered f l) (range (length (gathered f (take i l))) (length (f (get_or l i d)))) (f (get_or l i d))
  own_gathered l i d h = rw (gathered_split l i d h) (own_behind (gathered f (take i l)) (f (get_or l i d)) (gathered f (drop (suc i) l)))

-- the rows that stand before record i's own
abbrev pub before : ℕ → List Rec → List (List NameRow) → List (List File) → Before
before i rs nss fss =
    record {
      handlers = length (gathered (λ r. r.body.handlers) (take i rs));
      pool = length (gathered (λ r. r.body.pool) (take i rs));
      symbols = length (gathered (λ r. r.body.symbols) (take i rs));
      names = length (joined (take i nss));
      files = length (joined (take i fss));
      lines = length (map_of_files (joined (take i fss)));
    }

abbrev plus : Before → Before → Before
plus a b =
    record {
      handlers = a.handlers + b.handlers;
      pool = a.pool + b.pool;
      symbols = a.symbols + b.symbols;
      names = a.names + b.names;
      files = a.files + b.files;
      lines = a.lines + b.lines;
    }

joined_suc : {A : Type 0} (ls : List (List A)) (i : ℕ) → joined (take (suc i) ls) ≡ get_or ls 0 [] ++ joined (take i (drop 1 ls))
joined_suc [] i = rw take-nil
joined_suc (l ∷ ls) i = refl

get_d_suc : {A : Type 0} (l : List A) (i : ℕ) (d : A) → get_or l (suc i) d ≡ get_or (drop 1 l) i d
get_d_suc [] i d = refl
get_d_suc (a ∷ l) i d = refl

row_from : (b : Before) (rs : List Rec) (nss : List (List NameRow)) (fss : List (List File)) (vs : List Node) (i : ℕ) → i < length rs → (d : Rec) (D : RecordRow)
    → get_or (record_rows b rs nss fss vs) i D ≡ record_row (plus b (before i rs nss fss)) (get_or rs i d) (get_or nss i []) (get_or fss i []) (get_or vs i alone)
row_from b [] nss fss vs i h d D = absurd (omega arith)
row_from b (r ∷ rs) nss fss vs zero h d D = simp add-zero
row_from b (r ∷ rs) nss fss vs (suc i) h d D =
    let ih = row_from (past b r (get_or nss 0 []) (get_or fss 0 [])) rs (drop 1 nss) (drop 1 fss) (drop 1 vs) i (le_of_suc-le-suc h) d D in
    rw (get_d_suc nss i [], get_d_suc fss i [], get_d_suc vs i alone, joined_suc nss i, joined_suc fss i) (ih ∙ simp (gathered_append, length-append, add_assoc))

-- the row of record i
pub row_at : (c : Content) (i : ℕ) → i < length (records_of c) → (d : Rec) (D : RecordRow)
    → get_or (tables_of c).records i D ≡ record_row (before i (records_of c) (names_of c) (files_of c)) (get_or (records_of c) i d) (get_or (names_of c) i []) (get_or (files_of c) i [])
    (get_or (nodes_of c) i alone)
row_at c i h d D = row_from start (records_of c) (names_of c) (files_of c) (nodes_of c) i h d D ∙ simp zero-add

-- the rows of files behind others
file_rows_append : (n : ℕ) (xs ys : List File) → file_rows n (xs ++ ys) ≡ file_rows n xs ++ file_rows (n + length (map_of_files xs)) ys
file_rows_append n [] ys = rw add-zero
file_rows_append n (x ∷ xs) ys =
    rw (file_rows_append (n + length x.lines) xs ys, length-append x.lines (map_of_files xs), add_assoc n (length x.lines) (length (map_of_files xs)))

-- where files have no lines, their rows do not depend on how many lines stand before them
file_rows_none : (n m : ℕ) (fs : List File) → length (map_of_files fs) ≡ 0 → file_rows n fs ≡ file_rows m fs
file_rows_none n m [] e = refl
file_rows_none n m (f ∷ fs) e =
    let both = length-append f.lines (map_of_files fs) in
    let z : length f.lines ≡ 0 = omega arith in
    rw z (ap (λ t. record { start = f.start; name = f.name; lines = range 0 0 } ∷ t) (file_rows_none (n + 0) (m + 0) fs (omega arith)))

file_rows_first : (n : ℕ) (fs : List File) → file_rows n fs ≡ file_rows (range n (length (map_of_files fs))).first fs
file_rows_first n fs = go (length (map_of_files fs)) refl
  where
    go : (k : ℕ) → length (map_of_files fs) ≡ k → file_rows n fs ≡ file_rows (range n k).first fs
    go zero e = file_rows_none n 0 fs e
    go (suc k) e = rw (range_first n k)

-- row j of the debug files
file_at : (n : ℕ) (fs : List File) (j : ℕ) → j < length fs → (e : File) (D : FileRow)
    → get_or (file_rows n fs) j D
    ≡ record { start = (get_or fs j e).start; name = (get_or fs j e).name; lines = range (n + length (map_of_files (take j fs))) (length (get_or fs j e).lines) }
file_at n [] j h e D = absurd (omega arith)
file_at n (f ∷ fs) zero h e D = rw add-zero
file_at n (f ∷ fs) (suc j) h e D =
    file_at (n + length f.lines) fs j (le_of_suc-le-suc h) e D ∙ rw (length-append f.lines (map_of_files (take j fs)), add_assoc n (length f.lines) (length (map_of_files (take j fs))))

-- the row R of a debug file is the file f's, and the lines that it names are f's own
pub record OwnFile (t : List LineRow) (R : FileRow) (f : File) : Type 0 where
  pub start : R.start ≡ f.start
  pub name : R.name ≡ f.name
  pub lines : Own t R.lines f.lines

pub own_file : (fs : List File) (j : ℕ) → j < length fs → (e : File) (D : FileRow) → OwnFile (map_of_files fs) (get_or (file_rows 0 fs) j D) (get_or fs j e)
own_file fs j h e D =
    rw (file_at 0 fs j h e D, zero-add (length (map_of_files (take j fs))))
    (record { start = refl; name = refl; lines = own_gathered (λ f. f.lines) fs j e h })

module _ (fss : List (List File)) (i : ℕ) where
  -- the lines of record i's debug files, and the files' rows
  own_lines : Own (map_of_files (joined fss)) (range (length (map_of_files (joined (take i fss)))) (length (map_of_files (get_or fss i [])))) (map_of_files (get_or fss i []))
  own_lines =
      let line : File → List LineRow = λ f. f.lines in
      rw (joined_split fss i, gathered_append line (joined (take i fss)) (get_or fss i [] ++ joined (drop (suc i) fss)), gathered_append line (get_or fss i []) (joined (drop (suc i) fss)))
      (own_behind (map_of_files (joined (take i fss))) (map_of_files (get_or fss i [])) (map_of_files (joined (drop (suc i) fss))))

  own_files : Own (file_rows 0 (joined fss)) (range (length (joined (take i fss))) (length (get_or fss i [])))
      (file_rows (range (length (map_of_files (joined (take i fss)))) (length (map_of_files (get_or fss i [])))).first (get_or fss i []))
  own_files =
      let n = length (map_of_files (joined (take i fss))) in
      let o = own_behind (file_rows 0 (joined (take i fss))) (file_rows n (get_or fss i [])) (file_rows (n + length (map_of_files (get_or fss i []))) (joined (drop (suc i) fss))) in
      rw (
        ← file_rows_first n (get_or fss i []),
        joined_split fss i,
        file_rows_append 0 (joined (take i fss)) (get_or fss i [] ++ joined (drop (suc i) fss)),
        zero-add n,
        file_rows_append n (get_or fss i []) (joined (drop (suc i) fss)),
      )
      (simp file_rows_length at o)

-- The row R is that of the record r, which has the names ns and the debug files fs: it has the fields of r's header and the place of r's
-- instructions, and in each table t the rows that it names are those of r.
pub record Owns (t : Tables) (R : RecordRow) (r : Rec) (ns : List NameRow) (fs : List File) : Type 0 where
  pub size : R.size ≡ r.head.size
  pub nlocals : R.nlocals ≡ r.head.nlocals
  pub nregs : R.nregs ≡ r.head.nregs
  pub rlen : R.rlen ≡ r.head.rlen
  pub clen : R.clen ≡ r.head.clen
  pub ilen : R.ilen ≡ r.head.ilen
  pub place : R.place ≡ r.place
  pub handlers : Own t.handlers R.handlers r.body.handlers
  pub pool : Own t.pool R.pool r.body.pool
  pub symbols : Own t.symbols R.symbols r.body.symbols
  pub names : Own t.names R.names ns
  pub files : Own t.files R.files (file_rows R.lines.first fs)
  pub lines : Own t.lines R.lines (map_of_files fs)
  -- row k of its debug files is that of file k, and names that file's lines
  pub file : (k : ℕ) → k < R.files.number → (e : File) (D : FileRow) → OwnFile t.lines (get_or t.files (R.files.first + k) D) (get_or fs k e)

pub owns : (c : Content) (i : ℕ) → i < length (records_of c) → (d : Rec) (D : RecordRow)
    → Owns (tables_of c) (get_or (tables_of c).records i D) (get_or (records_of c) i d) (get_or (names_of c) i []) (get_or (files_of c) i [])
owns c i h d D =
    rw (row_at c i h d D)
    (record {
      size = refl;
      nlocals = refl;
      nregs = refl;
      rlen = refl;
      clen = refl;
      ilen = refl;
      place = refl;
      handlers = own_gathered (λ r. r.body.handlers) (records_of c) i d h;
      pool = own_gathered (λ r. r.body.pool) (records_of c) i d h;
      symbols = own_gathered (λ r. r.body.symbols) (records_of c) i d h;
      names = own_joined (names_of c) i;
      files = own_files (files_of c) i;
      lines = own_lines (files_of c) i;
      file = λ k g e D.
          let o = own_joined (files_of c) i in
          rw (o.at k e g) at (own_file (joined (files_of c)) ((range (length (joined (take i (files_of c)))) (length (get_or (files_of c) i []))).first + k) (omega arith) e D);
    })

-- words of a table, w to a row: word k of row i is that of the row
module _ {R : Type 0} (words : R → List ℕ) (w : ℕ) (wide : (r : R) → length (words r) ≡ w) (m : ℕ) where
  pub table_row : (rs : List R) (i k : ℕ) (d : R) → i < length rs → k < w → get_or (table_of words m rs) (i * w + k) 0 ≡ get_or (words (get_or rs i d)) k 0
  table_row rs i k d h g =
      let e = split_at rs i d h in
      let x = word_at words w wide m (take i rs) (get_or rs i d) (drop (suc i) rs) i k (length-take-le i rs (omega arith)) g in
      ap (λ l. get_or (table_of words m l) (i * w + k) 0) e ∙ x

  -- and so of the rows that a range names
  pub own_word : (t : List R) (g : Range) (l : List R) → Own t g l → (j k : ℕ) (d : R) → j < g.number → k < w
      → get_or (table_of words m t) ((g.first + j) * w + k) 0 ≡ get_or (words (get_or l j d)) k 0
  own_word t g l o j k d h q = table_row t (g.first + j) k d (omega arith) q ∙ ap (λ r. get_or (words r) k 0) (o.at j d h)
