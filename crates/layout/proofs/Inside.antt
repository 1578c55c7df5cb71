-- What a reading that nothing refuses gives of every row: it points inside the file, and an index is below the count of what it counts.
-- Assumes nothing.
use Prim.Native.Nat.{ℕ, zero, suc, ◌+◌, ◌-◌, ◌/◌, ◌≤◌, ◌<◌}
use native.Mathlib.Omega.{arith}
use mathlib.Core.Path.{◌≡◌, refl, sym, ◌∙◌}
use mathlib.Core.Logic.{◌⊎◌, inl, inr}
use mathlib.Core.Bool.{Bool, true, false, cond, ◌||◌}
use mathlib.Core.List.{List, [], ◌∷◌}
use mathlib.Core.Option.{Option, none, some}
use lib.Dec.{T, leb, ltb, eqb, leb→le}
use lib.ListN.{length, get_or, take, drop, length-drop}
use lib.Seq.{length-take-le, get_or-take, get_or-drop}
use borrow.Author.Tests.{leb-true, ltb-true, eqb-true}
use Rattle.format.specs.Bytes.{Answer, ok, refused, on_answer, Step, has, byte, no_zero, u16_at, u32_at}
use Rattle.format.specs.Headers as mark
use Rattle.format.specs.Reading.{Read, reading, Part, part, add, and_then, in_turn}
use Rattle.format.specs.Rows.{PoolRow, TextRow, text_row, NameRow, record_width}
use Rattle.format.specs.Irep.{handler, pool_text, symbol_text, bytes, big_integer, pool_value, pool_entry, counted, head_at, Body, Rec, body_at, record_at, records_from, irep_section}
use Rattle.format.specs.Walk.{walk}
use Rattle.format.specs.Lvar.{plain_text, name_entry, record_names, Lvar, lvar_section}
use Rattle.format.specs.Debug.{FileHead, above, file_head, file_lines, File, files_from, debug_record, Debug, debug_content, debug_section}
use Rattle.format.specs.Allowance.{Allowance, granted}
use Rattle.format.specs.File.{Content, is_mark, once, after_irep, section_at, nothing, file_reading}
use Rattle.format.specs.Load.{Nine, records_of, strings_of, names_of, file_names_of, files_of, tables_of, used, fits, ending, loading_within, loading}
use Rattle.format.proofs.Table.{both}
use Rattle.format.proofs.Answers.{false_true, ok_refused, either, Answers, implied, tested, chained, in_turn_all}
use Rattle.format.proofs.Texts.{NoZero, no_zero_lem}
use Rattle.format.proofs.Pool.{StringAt, string_at, IsString, value_cases}
use Rattle.layout.proofs.Ends.{bind_ok, and_then_ok, Each, each_none, each_more, in_turn_each, Good, GoodRows, reading_keeps, reading_accepted}

-- bytes inside the file f
abbrev pub TextInside : List ℕ → TextRow → Type 0
TextInside f t = t.place + t.length ≤ length f

-- a string: the byte behind its bytes is inside too, and zero
pub record StringInside (f : List ℕ) (t : TextRow) : Type 0 where
  pub inside : t.place + t.length < length f
  pub ended : byte f (t.place + t.length) ≡ 0

-- a symbol: so it ends, and none of its bytes is zero
pub record SymbolInside (f : List ℕ) (t : TextRow) : Type 0 where
  pub string : StringInside f t
  pub bytes : NoZero f t.length t.place

-- a local name or a file name: none of its bytes is zero
pub record PlainInside (f : List ℕ) (t : TextRow) : Type 0 where
  pub inside : TextInside f t
  pub bytes : NoZero f t.length t.place

-- a pool entry of a kind that the format knows; a string ends as strings do, a number has its kind's length
pub data Known (f : List ℕ) (q : PoolRow) : Type 0 where
  string : IsString q.kind → StringInside f (text_row q.place q.length) → Known f q
  int32 : q.kind ≡ 1 → q.length ≡ 4 → Known f q
  int64 : q.kind ≡ 3 → q.length ≡ 8 → Known f q
  float64 : q.kind ≡ 5 → q.length ≡ 8 → Known f q
  big_integer_row : q.kind ≡ 7 → Known f q

-- and its value's bytes inside the file
pub record PoolInside (f : List ℕ) (q : PoolRow) : Type 0 where
  pub bytes : q.place + q.length ≤ length f
  pub known : Known f q

-- a record of the file f
pub record RecInside (f : List ℕ) (r : Rec) : Type 0 where
  pub bytes : r.place + r.head.ilen ≤ length f
  pub sized : 0 < r.head.size
  pub handlers : length r.body.handlers ≡ r.head.clen
  pub pool : Each (PoolInside f) r.body.pool
  pub symbols : Each (SymbolInside f) r.body.symbols

-- "each a string index or 65535 for unnamed"
abbrev pub NameInside : ℕ → NameRow → Type 0
NameInside count x = (x.index ≡ 65535) ⊎ (x.index < count)

-- a debug file's name index
abbrev pub FileInside : ℕ → File → Type 0
FileInside count x = x.name < count

-- What was read of a file f: its records, strings, names, file names and debug files.
pub record Inside (f : List ℕ) (c : Content) : Type 0 where
  pub small : length f ≤ 65536
  pub records : Each (RecInside f) (records_of c)
  pub strings : Each (PlainInside f) (strings_of c)
  pub names : Each (Each (NameInside (length (strings_of c)))) (names_of c)
  pub file_names : Each (PlainInside f) (file_names_of c)
  pub files : Each (Each (FileInside (length (file_names_of c)))) (files_of c)

-- the lists of a record
record Lists (f : List ℕ) (clen : ℕ) (b : Body) : Type 0 where
  handlers : length b.handlers ≡ clen
  pool : Each (PoolInside f) b.pool
  symbols : Each (SymbolInside f) b.symbols

-- rows behind a reading, refused or not
and_then_each : {R : Type 0} (P : R → Type 0) (e : Answer ℕ) (k : ℕ → Read R) → ((at : ℕ) → Each P (k at).rows) → Each P (and_then e k).rows
and_then_each P (ok at) k h = h at
and_then_each P (refused e) k h = each_none P

-- n bytes are left
left : (f : List ℕ) (at n : ℕ) → has f at n ≡ true → n ≤ length f - at
left f at n e = leb-true n (length f - at) e

-- f is a part of the file `all`, and stands at base there
abbrev PartOf : List ℕ → ℕ → List ℕ → Type 0
PartOf f base all = (at : ℕ) → at < length f → (base + at < length all) × (byte all (base + at) ≡ byte f at)

module _ (f : List ℕ) (base : ℕ) (all : List ℕ) (part_of : PartOf f base all) where
  -- what ends inside the part, a byte at least from its start on, ends inside the file
  ends_inside : (at : ℕ) → 0 < at → at ≤ length f → base + at ≤ length all
  ends_inside at h g = let w = (part_of (at - 1) (omega arith)).0 in omega arith

  -- bytes of the part are bytes of the file
  no_zero_inside : (n at : ℕ) → at + n ≤ length f → no_zero f n at ≡ true → NoZero all n (base + at)
  no_zero_inside n at h e i g =
      let w = (part_of (at + i) (omega arith)).1 in
      let k : base + at + i ≡ base + (at + i) = omega arith in
      rw (k, w) (no_zero_lem f n at e i g)

  string_inside : (at : ℕ) (t : TextRow) → StringAt f base at t → StringInside all t
  string_inside at t x =
      let p = x.place in
      let w = part_of (at + 2 + t.length) x.inside in
      let k : t.place + t.length ≡ base + (at + 2 + t.length) = omega arith in
      record { inside = rw k w.0; ended = rw (k, w.1) x.ended }

  symbol_inside : (at : ℕ) → Answers (λ s. SymbolInside all s.it) (symbol_text f base at)
  unfolding symbol_text
  symbol_inside at =
      chained _ _ _ (pool_text f base at) _ (string_at f base at) (λ s x. tested _ _ (no_zero f s.it.length (at + 2)) _ 9 tt (λ e.
      let g = x.inside in
      record { string = string_inside at s.it x; bytes = rw x.place (no_zero_inside s.it.length (at + 2) (omega arith) e) }))

  -- a value of k bytes, one at least
  bytes_inside : (at k : ℕ) → 0 < k → has f at k ≡ true → base + at + k ≤ length all
  bytes_inside at k h a = let p = left f at k a in omega (arith, ends_inside (at + k) (omega arith) (omega arith))

  abbrev entry : ℕ → Step TextRow → PoolRow
  entry k v = record { kind = k; place = v.it.place; length = v.it.length }

  -- so many bytes as a pool entry
  bytes_entry : (k at n : ℕ) → 0 < n → Known all (record { kind = k; place = base + at; length = n }) → Answers (λ v. PoolInside all (entry k v)) (bytes f base at n)
  bytes_entry k at n h known = tested _ _ (has f at n) _ 7 tt (λ a. record { bytes = bytes_inside at n h a; known = known })

  value_inside : (k at : ℕ) → Answers (λ v. PoolInside all (entry k v)) (pool_value f base k at)
  unfolding big_integer
  value_inside k at =
      value_cases (Answers (λ v. PoolInside all (entry k v))) f base k at
      (λ e. implied _ _ _ (pool_text f base at) (string_at f base at) (λ v x.
      let y = string_inside at v.it x in
      let g = y.inside in
      record { bytes = omega arith; known = string e y }))
      (λ e. bytes_entry k at 4 (omega arith) (int32 e refl))
      (λ e. bytes_entry k at 8 (omega arith) (int64 e refl))
      (λ e. bytes_entry k at 8 (omega arith) (float64 e refl))
      (λ e. tested _ _ (has f at 1) _ 7 tt (λ _. bytes_entry k (at + 1) (byte f at + 1) (omega arith) (big_integer_row e)))
      tt

  entry_inside : (at : ℕ) → Answers (λ s. PoolInside all s.it) (pool_entry f base at)
  unfolding pool_entry
  entry_inside at = tested _ _ (has f at 1) _ 7 tt (λ _. chained _ _ _ (pool_value f base (byte f at) (at + 1)) _ (value_inside (byte f at) (at + 1)) (λ v x. x))

  counted_each : {R : Type 0} (P : R → Type 0) (p : ℕ → Answer (Step R)) → ((at : ℕ) → Answers (λ s. P s.it) (p at)) → (at : ℕ) → Each P (counted f p at).rows
  unfolding counted
  counted_each P p x at = either (λ (r : Read _). Each P r.rows) (has f at 2) _ _ (λ _. in_turn_each P p x (u16_at f at) (at + 2)) (λ _. each_none P)

  body_inside : (clen at : ℕ) → Good (Lists all clen) (body_at f base clen at)
  unfolding body_at
  body_inside clen at to e =
      let h = in_turn (handler f) clen at in
      let p = and_then h.end (counted f (pool_entry f base)) in
      let x = and_then_ok p.end (counted f (symbol_text f base)) to e in
      let y = and_then_ok h.end (counted f (pool_entry f base)) x.0 x.1 in
      record {
        handlers = in_turn_all (handler f) clen at y.0 y.1;
        pool = and_then_each (PoolInside all) h.end (counted f (pool_entry f base)) (counted_each (PoolInside all) (pool_entry f base) entry_inside);
        symbols = and_then_each (SymbolInside all) p.end (counted f (symbol_text f base)) (counted_each (SymbolInside all) (symbol_text f base) symbol_inside);
      }

  record_inside : (allowed at : ℕ) → has f at 16 ≡ true → Good (RecInside all) (record_at f base allowed at)
  unfolding record_at
  record_inside allowed at a =
      either (Good (RecInside all)) (eqb allowed 0) _ _ (λ _ to e. absurd (ok_refused e)) (λ _.
      either (Good (RecInside all)) (has f (at + 16) (head_at f at).ilen) _ _
      (λ b to e.
      let h = head_at f at in
      let x = bind_ok (body_at f base h.clen (at + 16 + h.ilen)).end (λ _. cond (eqb h.size 0) (refused 8) (ok (at + h.size))) to e in
      let l = body_inside h.clen (at + 16 + h.ilen) x.0 x.1 in
      let p = left f at 16 a in
      let q = left f (at + 16) h.ilen b in
      record {
        bytes = omega (arith, ends_inside (at + 16 + h.ilen) (omega arith) (omega arith));
        sized = nonzero h.size (at + h.size) to x.2;
        handlers = l.handlers;
        pool = l.pool;
        symbols = l.symbols;
      })
      (λ _ to e. absurd (ok_refused e)))
    where
      nonzero : (k m to : ℕ) → cond (eqb k 0) (refused 8) (ok m) ≡ ok to → 0 < k
      nonzero zero m to e = absurd (ok_refused e)
      nonzero (suc k) m to e = omega arith

  records_from_lem : (size m allowed at : ℕ) → GoodRows (Each (RecInside all)) (records_from f base size m allowed at)
  unfolding records_from
  records_from_lem size zero allowed at = λ to e. each_none (RecInside all)
  records_from_lem size (suc m) allowed at =
      either (GoodRows (Each (RecInside all))) (leb size at) _ _ (λ _ to e. each_none (RecInside all)) (λ _.
      either (GoodRows (Each (RecInside all))) (has f at 16) _ _
      (λ a to e.
      let r = record_at f base allowed at in
      let k = records_from f base size m (allowed - 1) in
      let x = and_then_ok r.end k to e in
      each_more (RecInside all) r.it (and_then r.end k).rows (record_inside allowed at a x.0 x.1) (rw x.1 (records_from_lem size m (allowed - 1) x.0 to x.2)))
      (λ _ to e. absurd (ok_refused e)))

  pub irep_inside : (allowed : ℕ) → GoodRows (Each (RecInside all)) (irep_section f base allowed)
  unfolding irep_section
  irep_inside allowed =
      either (GoodRows (Each (RecInside all))) (has f 0 12) _ _
      (λ _. either (GoodRows (Each (RecInside all))) (leb (u32_at f 4) (length f)) _ _
      (λ _ to e.
      let x = bind_ok (records_from f base (u32_at f 4) (length f) allowed 12).end (λ _. cond (eqb (u32_at f 4) 0) (refused 8) (ok (u32_at f 4))) to e in
      records_from_lem (u32_at f 4) (length f) allowed 12 x.0 x.1)
      (λ _ to e. absurd (ok_refused e)))
      (λ _ to e. absurd (ok_refused e))

  -- strings and file names
  plain_inside : (at : ℕ) → Answers (λ s. PlainInside all s.it) (plain_text f base at)
  unfolding plain_text
  plain_inside at =
      let n = u16_at f at in
      tested _ _ (has f at 2) _ 7 tt (λ a. tested _ _ (has f (at + 2) n) _ 7 tt (λ b. tested _ _ (no_zero f n (at + 2)) _ 9 tt (λ e.
      let p = left f at 2 a in
      let q = left f (at + 2) n b in
      record { inside = omega (arith, ends_inside (at + 2 + n) (omega arith) (omega arith)); bytes = no_zero_inside n (at + 2) (omega arith) e })))

-- a walk, refused or not: what holds of all that a visit reads
walk_each : {R : Type 0} (P : R → Type 0) (visit : Rec → ℕ → Part (List R)) → ((r : Rec) (at : ℕ) → Each P (visit r at).it)
    → (spent : ℕ → Bool) (rs : List Rec) (pending at : ℕ) → Each (Each P) (walk visit spent rs pending at).rows
unfolding walk
walk_each P visit x spent [] pending at = each_none (Each P)
walk_each P visit x spent (r ∷ rs) zero at = each_none (Each P)
walk_each P visit x spent (r ∷ rs) (suc pending) at =
    either (λ (w : Read (List _)). Each (Each P) w.rows) (spent at) _ _
    (λ _. each_none (Each P))
    (λ _.
    let v = visit r at in
    let k = walk visit spent rs (r.head.rlen + pending) in
    each_more (Each P) v.it (and_then v.end k).rows (x r at) (and_then_each (Each P) v.end k (walk_each P visit x spent rs (r.head.rlen + pending))))

name_inside : (f : List ℕ) (count at : ℕ) → Answers (λ s. NameInside count s.it) (name_entry f count at)
unfolding name_entry
name_inside f count at =
    tested _ _ (has f at 2) _ 7 tt (λ _. tested _ _ (eqb (u16_at f at) 65535 || ltb (u16_at f at) count) _ 11 tt (λ e. go (eqb (u16_at f at) 65535) (ltb (u16_at f at) count) refl refl e))
  where
    go : (a b : Bool) → eqb (u16_at f at) 65535 ≡ a → ltb (u16_at f at) count ≡ b → a || b ≡ true → (u16_at f at ≡ 65535) ⊎ (u16_at f at < count)
    go true b p q e = inl (eqb-true (u16_at f at) 65535 p)
    go false true p q e = inr (ltb-true (u16_at f at) count q)
    go false false p q e = absurd (false_true e)

names_inside : (f : List ℕ) (count : ℕ) (r : Rec) (at : ℕ) → Each (NameInside count) (record_names f count r at).it
unfolding record_names
names_inside f count r at =
    either (λ (x : Part (List NameRow)). Each (NameInside count) x.it) (eqb r.head.nlocals 0) _ _
    (λ _. each_none (NameInside count))
    (λ _. in_turn_each (NameInside count) (name_entry f count) (name_inside f count) (r.head.nlocals - 1) at)

-- an LVAR section of the file f
record LvarInside (f : List ℕ) (l : Lvar) : Type 0 where
  strings : Each (PlainInside f) l.strings
  names : Each (Each (NameInside (length l.strings))) l.names

lvar_inside : (f : List ℕ) (base : ℕ) (all : List ℕ) → PartOf f base all → (rs : List Rec) → Good (LvarInside all) (lvar_section f base rs)
unfolding lvar_section
lvar_inside f base all part_of rs =
    either (Good (LvarInside all)) (has f 0 12) _ _
    (λ _ to e.
    let s = in_turn (plain_text f base) (u32_at f 8) 12 in
    let k = walk (record_names f (u32_at f 8)) (λ _. false) rs 1 in
    let x = bind_ok (and_then s.end k).end _ to e in
    let y = and_then_ok s.end k x.0 x.1 in
    let z = in_turn_all (plain_text f base) (u32_at f 8) 12 y.0 y.1 in
    record {
      strings = in_turn_each (PlainInside all) (plain_text f base) (plain_inside f base all part_of) (u32_at f 8) 12;
      names = rw z (and_then_each (Each (NameInside (u32_at f 8))) s.end k (walk_each (NameInside (u32_at f 8)) (record_names f (u32_at f 8)) (names_inside f (u32_at f 8)) (λ _. false) rs 1));
    })
    (λ _ to e. absurd (ok_refused e))

head_inside : (s : List ℕ) (names : ℕ) (last : Option ℕ) (at : ℕ) → Answers (λ h. h.name < names) (file_head s names last at)
unfolding file_head
head_inside s names last at =
    tested _ _ (has s at 4) _ 7 tt (λ _. tested _ _ (above last (u32_at s at)) _ 12 tt (λ _. tested _ _ (has s (at + 4) 2) _ 7 tt (λ _.
    tested _ _ (ltb (u16_at s (at + 4)) names) _ 12 tt (λ e. tested _ _ (has s (at + 6) 5) _ 7 tt (λ _. tested _ _ (leb (byte s (at + 10)) 2) _ 12 tt (λ _.
    ltb-true (u16_at s (at + 4)) names e))))))

files_inside : (s : List ℕ) (names n : ℕ) (last : Option ℕ) (at : ℕ) → Each (FileInside names) (files_from s names n last at).rows
unfolding files_from
files_inside s names zero last at = each_none (FileInside names)
files_inside s names (suc n) last at = go (file_head s names last at) (head_inside s names last at) (λ start. files_inside s names n (some start))
  where
    go : (a : Answer FileHead) → Answers (λ h. h.name < names) a → ((start at : ℕ) → Each (FileInside names) (files_from s names n (some start) at).rows)
        → Each (FileInside names)
        (on_answer a (λ h. let l = file_lines s h in add (record { start = h.start; name = h.name; lines = l.rows }) (and_then l.end (files_from s names n (some h.start))))
        (λ k. reading [] (refused k))).rows
    go (refused k) x ih = each_none (FileInside names)
    go (ok h) x ih =
        let l = file_lines s h in
        let k = files_from s names n (some h.start) in
        each_more (FileInside names) (record { start = h.start; name = h.name; lines = l.rows }) (and_then l.end k).rows x (and_then_each (FileInside names) l.end k (ih h.start))

record_files_inside : (s : List ℕ) (names : ℕ) (r : Rec) (at : ℕ) → Each (FileInside names) (debug_record s names r at).it
unfolding debug_record
record_files_inside s names r at =
    either (λ (x : Part (List File)). Each (FileInside names) x.it) (has s at 6) _ _
    (λ _. files_inside s names (u16_at s (at + 4)) none (at + 6))
    (λ _. each_none (FileInside names))

-- a DBG section of the file f
record DebugInside (f : List ℕ) (d : Debug) : Type 0 where
  file_names : Each (PlainInside f) d.file_names
  files : Each (Each (FileInside (length d.file_names))) d.files

content_inside : (s : List ℕ) (base : ℕ) (all : List ℕ) → PartOf s base all → (rs : List Rec) → Good (DebugInside all) (debug_content s base rs)
unfolding debug_content
content_inside s base all part_of rs =
    either (Good (DebugInside all)) (has s 8 2) _ _
    (λ _ to e.
    let t = in_turn (plain_text s base) (u16_at s 8) 10 in
    let k = walk (debug_record s (u16_at s 8)) (leb (length s)) rs 1 in
    let x = bind_ok (and_then t.end k).end (λ _. ok (length s)) to e in
    let y = and_then_ok t.end k x.0 x.1 in
    let z = in_turn_all (plain_text s base) (u16_at s 8) 10 y.0 y.1 in
    record {
      file_names = in_turn_each (PlainInside all) (plain_text s base) (plain_inside s base all part_of) (u16_at s 8) 10;
      files = rw z (and_then_each (Each (FileInside (u16_at s 8))) t.end k (walk_each (FileInside (u16_at s 8)) (debug_record s (u16_at s 8)) (record_files_inside s (u16_at s 8)) (leb (length s)) rs 1));
    })
    (λ _ to e. absurd (ok_refused e))

debug_inside : (f : List ℕ) (base : ℕ) (all : List ℕ) → PartOf f base all → (rs : List Rec) → Good (DebugInside all) (debug_section f base rs)
unfolding debug_section
debug_inside f base all part_of rs =
    let size = u32_at f 4 in
    either (Good (DebugInside all)) (has f 0 8) _ _
    (λ _. either (Good (DebugInside all)) (leb size (length f)) _ _
    (λ a. content_inside (take size f) base all (λ at h.
    let p = leb-true size (length f) a in
    let q = length-take-le size f p in
    let w = part_of at (omega arith) in
    (w.0, w.1 ∙ sym (get_or-take size f at 0 (omega arith)))) rs)
    (λ _ to e. absurd (ok_refused e)))
    (λ _ to e. absurd (ok_refused e))

-- a section that may not stand there is refused
module _ (P : Content → Type 0) (c : Content) where
  once_good : {A : Type 0} (o : Option A) (p : Part Content) → Good P p → Good P (once o c p)
  once_good none p x = x
  once_good (some _) p x = λ to e. absurd (ok_refused e)

  after_irep_good : (k : List Rec → Part Content) → ((rs : List Rec) → Good P (k rs)) → Good P (after_irep c k)
  after_irep_good k x = go c.irep
    where
      go : (o : Option (List Rec)) → Good P (elim o [ none ↦ part c (refused 6) | some rs ↦ k rs ])
      go none = λ to e. absurd (ok_refused e)
      go (some rs) = x rs

module _ (f : List ℕ) where
  -- the part of the file from a place on
  drop_part : (at : ℕ) → PartOf (drop at f) at f
  drop_part at i h = let e = length-drop at f in (omega arith, sym (get_or-drop at f i 0))

  nothing_inside : length f ≤ 65536 → Inside f nothing
  nothing_inside h = record { small = h; records = each_none _; strings = each_none _; names = each_none _; file_names = each_none _; files = each_none _ }

  section_inside : (allowed : ℕ) (c : Content) (at : ℕ) → Inside f c → Good (Inside f) (section_at f allowed c at)
  unfolding section_at
  section_inside allowed c at x =
      either (Good (Inside f)) (is_mark f at mark.irep) _ _
      (λ _. once_good (Inside f) c c.irep _ (λ to e.
      record { small = x.small; records = irep_inside (drop at f) at f (drop_part at) allowed to e; strings = x.strings; names = x.names; file_names = x.file_names; files = x.files }))
      (λ _. either (Good (Inside f)) (is_mark f at mark.lvar) _ _
      (λ _. after_irep_good (Inside f) c _ (λ rs. once_good (Inside f) c c.lvar _ (λ to e.
      let l = lvar_inside (drop at f) at f (drop_part at) rs to e in
      record { small = x.small; records = x.records; strings = l.strings; names = l.names; file_names = x.file_names; files = x.files })))
      (λ _. either (Good (Inside f)) (is_mark f at mark.dbg) _ _
      (λ _. after_irep_good (Inside f) c _ (λ rs. once_good (Inside f) c c.dbg _ (λ to e.
      let d = debug_inside (drop at f) at f (drop_part at) rs to e in
      record { small = x.small; records = x.records; strings = x.strings; names = x.names; file_names = d.file_names; files = d.files })))
      (λ _. either (Good (Inside f)) (is_mark f at mark.end) _ _ (λ _ to e. x) (λ _ to e. x))))

-- Of a file that nothing refuses, all that was read is inside.
pub reading_inside : (f : List ℕ) (a : Allowance) (to : ℕ) → (file_reading f a).end ≡ ok to → Inside f (file_reading f a).it
reading_inside f a to e = reading_keeps f a (Inside f) (section_inside f a.records) (nothing_inside f (reading_accepted f a to e).small) to e

-- so each record is; and the file is small
pub records_inside : (f : List ℕ) (a : Allowance) (to : ℕ) → (file_reading f a).end ≡ ok to → (i : ℕ) (d : Rec) → i < length (records_of (file_reading f a).it)
    → RecInside f (get_or (records_of (file_reading f a).it) i d)
records_inside f a to e = (reading_inside f a to e).records

pub small : (f : List ℕ) (a : Allowance) (to : ℕ) → (file_reading f a).end ≡ ok to → length f ≤ 65536
small f a to e = (reading_accepted f a to e).small

-- A load that is not refused is a reading that nothing refuses, and whose rows fit the tables, whatever the records are held against.
pub within_reading : (most : ℕ) (a : Allowance) (f : List ℕ) (m : Nine) (c : Content) → loading_within most a f m ≡ ok c
    → ((file_reading f a).it ≡ c) × ((to : ℕ) × (file_reading f a).end ≡ ok to) × T (fits most m (used (tables_of c)))
unfolding loading_within ending
within_reading most a f m c e = let p = file_reading f a in go p (fits most m (used (tables_of p.it))) refl p.end refl e
  where
    go : (p : Part Content) (b : Bool) → fits most m (used (tables_of p.it)) ≡ b → (a : Answer ℕ) → p.end ≡ a
        → cond b (on_answer a (λ _. ok p.it) refused) (refused 14) ≡ ok c
        → (p.it ≡ c) × ((to : ℕ) × p.end ≡ ok to) × T (fits most m (used (tables_of c)))
    go p false q a r e = absurd (ok_refused e)
    go p true q (refused k) r e = absurd (ok_refused e)
    go p true q (ok to) r e = let z : p.it ≡ c = cc in (z, (to, r), rw (← z, q) tt)

pub loading_reading : (f : List ℕ) (m : Nine) (a : Allowance) (c : Content) → loading f m a ≡ ok c
    → ((file_reading f (granted a)).it ≡ c) × ((to : ℕ) × (file_reading f (granted a)).end ≡ ok to) × T (fits 1024 m (used (tables_of c)))
loading_reading f m a c e = within_reading 1024 (granted a) f m c e

-- so all that a load reads is inside
pub loading_inside : (f : List ℕ) (m : Nine) (a : Allowance) (c : Content) → loading f m a ≡ ok c → Inside f c
loading_inside f m a c e = let r = loading_reading f m a c e in rw r.0 at (reading_inside f (granted a) r.1.0 r.1.1)

-- every row that was read has a row of the lent tables
pub record Held (m : Nine) (c : Content) : Type 0 where
  pub few : length (tables_of c).records ≤ 1024
  pub records : length (tables_of c).records ≤ m.records / record_width
  pub handlers : length (tables_of c).handlers ≤ m.handlers / 4
  pub pool : length (tables_of c).pool ≤ m.pool / 3
  pub symbols : length (tables_of c).symbols ≤ m.symbols / 2
  pub strings : length (tables_of c).strings ≤ m.strings / 2
  pub names : length (tables_of c).names ≤ m.names / 1
  pub file_names : length (tables_of c).file_names ≤ m.file_names / 2
  pub files : length (tables_of c).files ≤ m.files / 4
  pub lines : length (tables_of c).lines ≤ m.lines / 2

pub loading_held : (f : List ℕ) (m : Nine) (a : Allowance) (c : Content) → loading f m a ≡ ok c → Held m c
unfolding fits
loading_held f m a c e =
    let t = (loading_reading f m a c e).2 in
    let named : length (tables_of c).names ≤ m.names = leb→le _ _ (search both depth 12) in
    record {
      few = leb→le _ _ (search both depth 12);
      records = leb→le _ _ (search both depth 12);
      handlers = leb→le _ _ (search both depth 12);
      pool = leb→le _ _ (search both depth 12);
      symbols = leb→le _ _ (search both depth 12);
      strings = leb→le _ _ (search both depth 12);
      names = omega arith;
      file_names = leb→le _ _ (search both depth 12);
      files = leb→le _ _ (search both depth 12);
      lines = leb→le _ _ (search both depth 12);
    }
