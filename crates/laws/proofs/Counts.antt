-- The counts that bound the definitions' recursions never run out before what is read does: a reading that nothing refuses ends where paper 01
-- says.
-- Assumes nothing.
use Prim.Native.Nat.{ℕ, ◌+◌, ◌≤◌, ◌<◌}
use native.Mathlib.Omega.{arith}
use mathlib.Core.Path.{◌≡◌, subst}
use mathlib.Core.Bool.{cond}
use mathlib.Core.List.{List, ◌∷◌}
use mathlib.Core.Option.{none}
use lib.Dec.{leb, eqb}
use lib.ListN.{length}
use borrow.Author.Tests.{leb-true}
use Rattle.format.specs.Bytes.{ok, refused, has, u32_at}
use Rattle.format.specs.Reading.{Read}
use Rattle.format.specs.Irep.{Rec, records_from, irep_section}
use Rattle.format.specs.Debug.{FileHead, file_lines}
use Rattle.format.specs.Allowance.{Allowance}
use Rattle.format.specs.File.{file_reading}
use Rattle.format.proofs.Answers.{ok_refused, either, Holds}
use Rattle.layout.proofs.Ends.{bind_ok}
use Rattle.laws.proofs.Numbers.{Among, section_numbers, reading_numbers}
use Rattle.laws.proofs.Endings.{Ends, Left, cut_records_end, map_ends, reading_ends}

-- "Sections follow until fewer than 4 bytes are left; those are ignored."
pub sections_end : (f : List ℕ) (a : Allowance) (to : ℕ) → (file_reading f a).end ≡ ok to → length f < to + 4
sections_end f a to e = subst (Holds (Left f) (Among reading_numbers)) e (reading_ends f a)

-- "its records, which follow until the place reaches the section size": the place behind the last record
pub record Reached (f : List ℕ) (base allowed : ℕ) : Type 0 where
  pub place : ℕ
  pub read : (records_from f base (u32_at f 4) (length f) allowed 12).end ≡ ok place
  pub reaches : u32_at f 4 ≤ place

pub records_end_at_size : (f : List ℕ) (base allowed size : ℕ) → (irep_section f base allowed).end ≡ ok size → Reached f base allowed
unfolding irep_section
records_end_at_size f base allowed size =
    let P : Read Rec → Type 0 = λ x. x.end ≡ ok size → Reached f base allowed in
    let n = u32_at f 4 in
    either P (has f 0 12) _ _
    (λ _. either P (leb n (length f)) _ _
    (λ t e.
    let h = leb-true n (length f) t in
    let x = bind_ok (records_from f base n (length f) allowed 12).end (λ _. cond (eqb n 0) (refused 8) (ok n)) size e in
    record { place = x.0; read = x.1; reaches = subst (Holds (λ to. n ≤ to) (Among (29 ∷ section_numbers))) x.1 (cut_records_end f base n (length f) allowed 12 (omega arith)) })
    (λ _ e. absurd (ok_refused e)))
    (λ _ e. absurd (ok_refused e))

-- "Kind 2: pairs of packed deltas while the place is below count bytes on"
pub packed_map_ends : (s : List ℕ) (h : FileHead) (to : ℕ) → h.kind ≡ 2 → (file_lines s h).end ≡ ok to → h.next + h.count ≤ to
packed_map_ends s h to k e =
    let end = h.next + h.count in
    subst (Ends (λ to. h.kind ≡ 2 → end ≤ to)) e (map_ends s h.kind end h.count _ none h.next (λ _. omega arith)) k
