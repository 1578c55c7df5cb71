-- How each reading ends without an allowance: at a place behind the one where it began, which is where paper 01 says, or by a number of those that
-- refuse it; and that under an allowance it ends so or by 29.
-- Assumes nothing.
use Prim.Native.Nat.{ℕ, zero, suc, ◌+◌, ◌-◌, ◌≤◌, ◌<◌}
use native.Mathlib.Omega.{arith}
use mathlib.Core.Path.{◌≡◌}
use mathlib.Core.Bool.{Bool, false, ◌||◌, cond}
use mathlib.Core.List.{List, [], ◌∷◌}
use mathlib.Core.Option.{Option, none, some}
use lib.Dec.{leb, ltb, eqb}
use lib.ListN.{length, take, drop}
use borrow.Author.Tests.{leb-true, leb-false, ltb-false, eqb-false}
use Rattle.format.specs.Bytes.{Answer, ok, refused, Step, has, byte, no_zero, u16_at, u32_at}
use Rattle.format.specs.Headers as mark
use Rattle.format.specs.Reading.{Read, Part, and_then, more, in_turn}
use Rattle.format.specs.Rows.{LineRow}
use Rattle.format.specs.Irep.{Rec, handler, pool_text, symbol_text, bytes, big_integer, pool_value, pool_entry, counted, body_at, head_at, records_from}
use Rattle.format.specs.Walk.{walk}
use Rattle.format.specs.Lvar.{plain_text, name_entry, record_names, Lvar, lvar_section}
use Rattle.format.specs.Packed.{packed_from, packed, packed_entry, keeps}
use Rattle.format.specs.Debug.{above, file_head, map_entry, after, goes_on, map_lines, file_lines, files_from, debug_record, Debug, debug_content, debug_section}
use Rattle.format.specs.Allowance.{Allowance}
use Rattle.format.specs.File.{Content, nothing, content, is_mark, end_section, once, after_irep, sections, file_refusal, file_reading}
use Rattle.format.proofs.Answers.{either, Holds, weaker, answered, tested, chained}
use Rattle.format.proofs.Pool.{value_cases}
use Rattle.laws.proofs.Unlimited as free
use Rattle.laws.proofs.Cut.{Cut, whole, beyond, only, records_cut, sections_cut}
use Rattle.laws.proofs.Numbers.{Among, test_numbers, section_numbers, free_numbers, reading_numbers, further}
use Rattle.laws.proofs.Tests.{tests_among, free_among}

-- with a value of which P holds, or by a number of sections
abbrev pub Ends : {A : Type 0} → (A → Type 0) → Answer A → Type 0
Ends P x = Holds P (Among section_numbers) x

-- with any value
abbrev Low : {A : Type 0} → Answer A → Type 0
Low x = Ends (λ _. Unit {0}) x

-- at a place behind `at`, and with what was read in between
abbrev Behind : ℕ → Answer ℕ → Type 0
Behind at x = Ends (λ next. at < next) x

abbrev Moves : {A : Type 0} → ℕ → Answer (Step A) → Type 0
Moves at x = Ends (λ s. at < s.next) x

-- a section moves the place on
abbrev Sized : Answer ℕ → Type 0
Sized x = Ends (λ size. 1 ≤ size) x

-- "has size 0": 8
not_empty : (P : ℕ → Type 0) (n : ℕ) (x : Answer ℕ) → (1 ≤ n → Ends P x) → Ends P (cond (eqb n 0) (refused 8) x)
not_empty P n x h = either (Ends P) (eqb n 0) _ _ (λ _. tt) (λ e. let k = eqb-false n 0 e in h (omega arith))

module _ {R : Type 0} (P : ℕ → Type 0) where
  -- one reading, and the next
  and_then_ends : (Q : ℕ → Type 0) (x : Answer ℕ) (k : ℕ → Read R) → Ends Q x → ((at : ℕ) → Q at → Ends P (k at).end) → Ends P (and_then x k).end
  and_then_ends Q (ok at) k q h = h at q
  and_then_ends Q (refused e) k q h = q

in_turn_low : {R : Type 0} (p : ℕ → Answer (Step R)) → ((at : ℕ) → Low (p at)) → (n at : ℕ) → Low (in_turn p n at).end
in_turn_low p h zero at = tt
in_turn_low p h (suc n) at = go (p at) (h at) (in_turn_low p h n)
  where
    go : (a : Answer (Step _)) → Low a → ((at : ℕ) → Low (in_turn p n at).end) → Low (more a (in_turn p n)).end
    go (ok s) l ih = ih s.next
    go (refused e) l ih = l

walk_low : {R : Type 0} (visit : Rec → ℕ → Part (List R)) → ((r : Rec) (at : ℕ) → Low (visit r at).end)
    → (spent : ℕ → Bool) (rs : List Rec) (pending at : ℕ) → Low (walk visit spent rs pending at).end
unfolding walk
walk_low visit v spent [] pending at = tt
walk_low visit v spent (r ∷ rs) zero at = tt
walk_low visit v spent (r ∷ rs) (suc pending) at =
    let left = r.head.rlen + pending in
    either (λ (x : Read (List _)). Low x.end) (spent at) _ _ (λ _. tt)
    (λ _. and_then_ends _ _ (visit r at).end (walk visit spent rs left) (v r at) (λ next _. walk_low visit v spent rs left next))

module _ (f : List ℕ) where
  -- IREP
  handler_low : (at : ℕ) → Low (handler f at)
  unfolding handler
  handler_low at = tested _ _ (has f at 13) _ 7 tt (λ _. tt)

  string_low : (base at : ℕ) → Low (pool_text f base at)
  unfolding pool_text
  string_low base at =
      let n = u16_at f at in
      tested _ _ (has f at 2) _ 7 tt (λ _. tested _ _ (has f (at + 2) (n + 1)) _ 7 tt (λ _. tested _ _ (eqb (byte f (at + 2 + n)) 0) _ 9 tt (λ _. tt)))

  symbol_low : (base at : ℕ) → Low (symbol_text f base at)
  unfolding symbol_text
  symbol_low base at =
      chained _ _ _ (pool_text f base at) _ (string_low base at) (λ s _. tested _ _ (no_zero f s.it.length (at + 2)) _ 9 tt (λ _. tt))

  bytes_low : (base at n : ℕ) → Low (bytes f base at n)
  bytes_low base at n = tested _ _ (has f at n) _ 7 tt (λ _. tt)

  big_low : (base at : ℕ) → Low (big_integer f base at)
  unfolding big_integer
  big_low base at = tested _ _ (has f at 1) _ 7 tt (λ _. bytes_low base (at + 1) (byte f at + 1))

  value_low : (base k at : ℕ) → Low (pool_value f base k at)
  value_low base k at =
      value_cases Low f base k at (λ _. string_low base at) (λ _. bytes_low base at 4) (λ _. bytes_low base at 8) (λ _. bytes_low base at 8) (λ _. big_low base at) tt

  entry_low : (base at : ℕ) → Low (pool_entry f base at)
  unfolding pool_entry
  entry_low base at =
      let k = byte f at in
      tested _ _ (has f at 1) _ 7 tt (λ _. chained _ _ _ (pool_value f base k (at + 1)) _ (value_low base k (at + 1)) (λ v _. tt))

  counted_low : {R : Type 0} (p : ℕ → Answer (Step R)) → ((at : ℕ) → Low (p at)) → (at : ℕ) → Low (counted f p at).end
  unfolding counted
  counted_low p h at = either (λ (x : Read _). Low x.end) (has f at 2) _ _ (λ _. in_turn_low p h (u16_at f at) (at + 2)) (λ _. tt)

  body_low : (base clen at : ℕ) → Low (body_at f base clen at).end
  unfolding body_at
  body_low base clen at =
      let h = in_turn (handler f) clen at in
      let pool = counted f (pool_entry f base) in
      let symbols = counted f (symbol_text f base) in
      and_then_ends _ _ (and_then h.end pool).end symbols
      (and_then_ends _ _ h.end pool (in_turn_low (handler f) handler_low clen at) (λ next _. counted_low (pool_entry f base) (entry_low base) next))
      (λ next _. counted_low (symbol_text f base) (symbol_low base) next)

  record_behind : (base at : ℕ) → Behind at (free.record_at f base at).end
  unfolding free.record_at
  record_behind base at =
      let h = head_at f at in
      let body = at + 16 + h.ilen in
      either (λ (x : Part Rec). Behind at x.end) (has f (at + 16) h.ilen) _ _
      (λ _. chained _ _ _ (body_at f base h.clen body).end _ (body_low base h.clen body) (λ _ _. not_empty _ h.size _ (λ k. omega arith)))
      (λ _. tt)

  -- "records, which follow until the place reaches the section size"
  pub records_end : (base size n at : ℕ) → size ≤ at + n → Ends (λ to. size ≤ to) (free.records_from f base size n at).end
  unfolding free.records_from
  records_end base size zero at h = omega arith
  records_end base size (suc n) at h =
      let P : Read Rec → Type 0 = λ x. Ends (λ to. size ≤ to) x.end in
      either P (leb size at) _ _ (λ e. leb-true size at e)
      (λ _. either P (has f at 16) _ _
      (λ _. and_then_ends _ _ (free.record_at f base at).end (free.records_from f base size n) (record_behind base at) (λ next b. records_end base size n next (omega arith)))
      (λ _. tt))

  irep_sized : (base : ℕ) → Sized (free.irep_section f base).end
  unfolding free.irep_section
  irep_sized base =
      let P : Read Rec → Type 0 = λ x. Sized x.end in
      let size = u32_at f 4 in
      either P (has f 0 12) _ _
      (λ _. either P (leb size (length f)) _ _
      (λ e. let h = leb-true size (length f) e in
      chained _ _ _ (free.records_from f base size (length f) 12).end _ (records_end base size (length f) 12 (omega arith)) (λ _ _. not_empty _ size _ (λ k. k)))
      (λ _. tt))
      (λ _. tt)

  -- LVAR
  plain_low : (base at : ℕ) → Low (plain_text f base at)
  unfolding plain_text
  plain_low base at =
      let n = u16_at f at in
      tested _ _ (has f at 2) _ 7 tt (λ _. tested _ _ (has f (at + 2) n) _ 7 tt (λ _. tested _ _ (no_zero f n (at + 2)) _ 9 tt (λ _. tt)))

  name_low : (count at : ℕ) → Low (name_entry f count at)
  unfolding name_entry
  name_low count at =
      let n = u16_at f at in
      tested _ _ (has f at 2) _ 7 tt (λ _. tested _ _ (eqb n 65535 || ltb n count) _ 11 tt (λ _. tt))

  names_low : (count : ℕ) (r : Rec) (at : ℕ) → Low (record_names f count r at).end
  unfolding record_names
  names_low count r at =
      let n = r.head.nlocals in
      either (λ (x : Part _). Low x.end) (eqb n 0) _ _ (λ _. tt) (λ _. in_turn_low (name_entry f count) (name_low count) (n - 1) at)

  -- strings, then the walk
  strings_low : {R : Type 0} (base n at : ℕ) (k : ℕ → Read R) → ((at : ℕ) → Low (k at).end) → Low (and_then (in_turn (plain_text f base) n at).end k).end
  strings_low base n at k h =
      and_then_ends _ _ (in_turn (plain_text f base) n at).end k (in_turn_low (plain_text f base) (plain_low base) n at) (λ next _. h next)

  -- the size, tested after the content
  size_sized : let size = u32_at f 4 in Sized (cond (eqb size 0) (refused 8) (cond (leb size (length f)) (ok size) (refused 7)))
  size_sized = let size = u32_at f 4 in not_empty _ size _ (λ k. tested _ _ (leb size (length f)) _ 7 tt (λ _. k))

  lvar_sized : (base : ℕ) (rs : List Rec) → Sized (lvar_section f base rs).end
  unfolding lvar_section
  lvar_sized base rs =
      let count = u32_at f 8 in
      let names = walk (record_names f count) (λ _. false) rs 1 in
      either (λ (x : Part Lvar). Sized x.end) (has f 0 12) _ _
      (λ _. chained _ _ _ (and_then (in_turn (plain_text f base) count 12).end names).end _
      (strings_low base count 12 names (walk_low (record_names f count) (names_low count) (λ _. false) rs 1)) (λ _ _. size_sized))
      (λ _. tt)

  -- DBG
  packed_from_moves : (left at : ℕ) → Moves at (packed_from f left at)
  unfolding packed_from
  packed_from_moves zero at = tt
  packed_from_moves (suc left) at =
      tested _ _ (ltb at (length f)) _ 7 tt (λ _. either (Moves at) (ltb (byte f at) 128) _ _ (λ _. omega arith)
      (λ _. chained _ _ _ (packed_from f left (at + 1)) _ (packed_from_moves left (at + 1)) (λ r b. omega arith)))

  packed_moves : (at : ℕ) → Moves at (packed f at)
  unfolding packed
  packed_moves at = packed_from_moves 5 at

  packed_entry_moves : (at p l : ℕ) → Moves at (packed_entry f at p l)
  unfolding packed_entry
  packed_entry_moves at p l =
      chained _ _ _ (packed f at) _ (packed_moves at) (λ x b. chained _ _ _ (packed f x.next) _ (packed_moves x.next) (λ y c. omega arith))

  map_entry_moves : (kind : ℕ) (e : LineRow) (at : ℕ) → Moves at (map_entry f kind e at)
  unfolding map_entry
  map_entry_moves kind e at =
      either (Moves at) (eqb kind 0) _ _
      (λ _. tested _ _ (has f at 2) _ 7 tt (λ _. either (Moves at) (ltb 4294967295 e.pos) _ _ (λ _. tt) (λ _. omega arith)))
      (λ _. either (Moves at) (eqb kind 1) _ _
      (λ _. tested _ _ (has f at 6) _ 7 tt (λ _. omega arith))
      (λ _. packed_entry_moves at e.pos e.line))

  -- kind 2: "while the place is below count bytes on"
  pub map_ends : (kind end n : ℕ) (e : LineRow) (last : Option ℕ) (at : ℕ) → (kind ≡ 2 → end ≤ at + n)
      → Ends (λ to. kind ≡ 2 → end ≤ to) (map_lines f kind end n e last at).end
  unfolding map_lines
  map_ends kind end zero e last at h = λ k. let g = h k in omega arith
  map_ends kind end (suc n) e last at h =
      let P : Read LineRow → Type 0 = λ x. Ends (λ to. kind ≡ 2 → end ≤ to) x.end in
      either P (goes_on kind end at) _ _
      (λ _. answered _ _ P (map_entry f kind e at) _ _ (map_entry_moves kind e at)
      (λ x b.
      let rest = map_ends kind end n (after kind x.it) (some x.it.line) x.next (λ k. let g = h k in omega arith) in
      either P (keeps last x.it.line) _ _ (λ _. rest) (λ _. rest))
      (λ _ r. r))
      (λ q k. ltb-false at end (rw k at q))

  head_low : (names : ℕ) (last : Option ℕ) (at : ℕ) → Low (file_head f names last at)
  unfolding file_head
  head_low names last at =
      tested _ _ (has f at 4) _ 7 tt (λ _. tested _ _ (above last (u32_at f at)) _ 12 tt (λ _. tested _ _ (has f (at + 4) 2) _ 7 tt (λ _.
      tested _ _ (ltb (u16_at f (at + 4)) names) _ 12 tt (λ _. tested _ _ (has f (at + 6) 5) _ 7 tt (λ _. tested _ _ (leb (byte f (at + 10)) 2) _ 12 tt (λ _. tt))))))

  files_low : (names n : ℕ) (last : Option ℕ) (at : ℕ) → Low (files_from f names n last at).end
  unfolding files_from
  files_low names zero last at = tt
  files_low names (suc n) last at =
      answered _ _ (λ (x : Read _). Low x.end) (file_head f names last at) _ _ (head_low names last at)
      (λ h _. and_then_ends _ _ (file_lines f h).end (files_from f names n (some h.start))
      (map_ends h.kind (h.next + h.count) h.count _ none h.next (λ _. omega arith)) (λ next _. files_low names n (some h.start) next))
      (λ _ r. r)

  record_files_low : (names : ℕ) (r : Rec) (at : ℕ) → Low (debug_record f names r at).end
  unfolding debug_record
  record_files_low names r at =
      let count = u16_at f (at + 4) in
      either (λ (x : Part _). Low x.end) (has f at 6) _ _
      (λ _. chained _ _ _ (files_from f names count none (at + 6)).end _ (files_low names count none (at + 6))
      (λ e _. tested _ _ (eqb (e - at) (u32_at f at)) _ 12 tt (λ _. tt)))
      (λ _. tt)

  content_sized : (base : ℕ) (rs : List Rec) → Sized (debug_content f base rs).end
  unfolding debug_content
  content_sized base rs =
      let count = u16_at f 8 in
      let files = walk (debug_record f count) (leb (length f)) rs 1 in
      either (λ (x : Part Debug). Sized x.end) (has f 8 2) _ _
      (λ e. let h = leb-true 2 (length f - 8) e in
      chained _ _ _ (and_then (in_turn (plain_text f base) count 10).end files).end _
      (strings_low base count 10 files (walk_low (debug_record f count) (record_files_low count) (leb (length f)) rs 1)) (λ _ _. omega arith))
      (λ _. tt)

dbg_sized : (f : List ℕ) (base : ℕ) (rs : List Rec) → Sized (debug_section f base rs).end
unfolding debug_section
dbg_sized f base rs =
    let P : Part Debug → Type 0 = λ x. Sized x.end in
    let size = u32_at f 4 in
    either P (has f 0 8) _ _ (λ _. either P (leb size (length f)) _ _ (λ _. content_sized (take size f) base rs) (λ _. tt)) (λ _. tt)

end_sized : (f : List ℕ) → Sized (end_section f)
unfolding end_section
end_sized f = tested _ _ (has f 0 8) _ 7 tt (λ _. size_sized f)

-- a section of its kind, which comes once, and LVAR and DBG behind IREP
once_sized : {A : Type 0} (o : Option A) (c : Content) (p : Part Content) → Sized p.end → Sized (once o c p).end
once_sized none c p h = h
once_sized (some a) c p h = tt

after_sized : (i : Option (List Rec)) (l : Option Lvar) (d : Option Debug) (k : List Rec → Part Content)
    → ((rs : List Rec) → Sized (k rs).end) → Sized (after_irep (content i l d) k).end
after_sized none l d k h = tt
after_sized (some rs) l d k h = h rs

module _ (f : List ℕ) where
  section_sized : (c : Content) (at : ℕ) → Sized (free.section_at f c at).end
  unfolding free.section_at
  section_sized c at =
      let P : Part Content → Type 0 = λ x. Sized x.end in
      let s = drop at f in
      either P (is_mark f at mark.irep) _ _ (λ _. once_sized c.irep c _ (irep_sized s at))
      (λ _. either P (is_mark f at mark.lvar) _ _
      (λ _. after_sized c.irep c.lvar c.dbg _ (λ rs. once_sized c.lvar c _ (lvar_sized s at rs)))
      (λ _. either P (is_mark f at mark.dbg) _ _
      (λ _. after_sized c.irep c.lvar c.dbg _ (λ rs. once_sized c.dbg c _ (dbg_sized s at rs)))
      (λ _. either P (is_mark f at mark.end) _ _ (λ _. end_sized s) (λ _. tt))))

  -- "Sections follow until fewer than 4 bytes are left"
  abbrev pub Left : ℕ → Type 0
  Left to = length f < to + 4

  pub sections_end : (n : ℕ) (c : Content) (at : ℕ) → length f ≤ at + n → Ends Left (free.sections f n c at).end
  unfolding free.sections
  sections_end zero c at h = omega arith
  sections_end (suc n) c at h =
      let P : Part Content → Type 0 = λ x. Ends Left x.end in
      let s = free.section_at f c at in
      either P (has f at 4) _ _
      (λ _. answered _ _ P s.end _ _ (section_sized c at) (λ size k. sections_end n s.it (at + size) (omega arith)) (λ _ r. r))
      (λ e. let k = leb-false 4 (length f - at) e in omega arith)

  pub free_ends : Holds Left (Among free_numbers) (free.file_reading f).end
  unfolding free.file_reading
  free_ends =
      let P : Part Content → Type 0 = λ x. Holds Left (Among free_numbers) x.end in
      let n = free.file_refusal f in
      either P (eqb n 0) _ _
      (λ _. weaker _ _ _ (free.sections f (length f) nothing 20).end (sections_end (length f) nothing 20 (omega arith)) (further section_numbers free_numbers tt))
      (λ z. further test_numbers free_numbers tt n (free_among f (eqb-false n 0 z)))

-- Under an allowance, by 29 as well
cut_ends : (P R : ℕ → Type 0) (x : ℕ) (r' r : Part Content) → Cut x r' r → Holds P R r.end → R 29 → Holds P R r'.end
cut_ends P R x r' r (whole e h) k n = rw e k
cut_ends P R x r' r (beyond b) k n = rw b.ends n

module _ (f : List ℕ) where
  pub cut_records_end : (base size n allowed at : ℕ) → size ≤ at + n → Holds (λ to. size ≤ to) (Among (29 ∷ section_numbers)) (records_from f base size n allowed at).end
  cut_records_end base size n allowed at h =
      let p = free.records_from f base size n at in
      cut_ends _ _ allowed (only (records_from f base size n allowed at)) (only p) (records_cut f base size n allowed at)
      (weaker _ _ _ p.end (records_end f base size n at h) (further section_numbers (29 ∷ section_numbers) tt)) tt

  pub cut_sections_end : (allowed : ℕ) → Holds (Left f) (Among (29 ∷ section_numbers)) (sections f allowed (length f) nothing 20).end
  cut_sections_end allowed =
      let p = free.sections f (length f) nothing 20 in
      cut_ends _ _ allowed (sections f allowed (length f) nothing 20) p (sections_cut f allowed (length f) nothing 20 tt (omega arith))
      (weaker _ _ _ p.end (sections_end f (length f) nothing 20 (omega arith)) (further section_numbers (29 ∷ section_numbers) tt)) tt

  pub reading_ends : (a : Allowance) → Holds (Left f) (Among reading_numbers) (file_reading f a).end
  unfolding file_reading
  reading_ends a =
      let P : Part Content → Type 0 = λ x. Holds (Left f) (Among reading_numbers) x.end in
      let n = file_refusal f a.bytes in
      either P (eqb n 0) _ _
      (λ _. weaker _ _ _ (sections f a.records (length f) nothing 20).end (cut_sections_end a.records) (further (29 ∷ section_numbers) reading_numbers tt))
      (λ z. further (29 ∷ test_numbers) reading_numbers tt n (tests_among f a.bytes (eqb-false n 0 z)))
