-- Where the tree of the records is whole, the walk visits every record once, in order; so each has a name for each local but one.
-- Assumes nothing.
use Prim.Native.Nat.{ℕ, zero, suc, ◌+◌, ◌-◌, ◌≤◌, ◌<◌, suc-le-suc}
use native.Mathlib.Nat.{le_of_suc-le-suc}
use native.Mathlib.Omega.{arith}
use mathlib.Core.Path.{◌≡◌, refl, ap}
use mathlib.Core.Bool.{Bool, true, false, cond}
use mathlib.Core.List.{List, [], ◌∷◌}
use mathlib.Core.Option.{Option, none, some}
use lib.Dec.{leb, eqb}
use lib.ListN.{length, get_or, take, drop, length-map}
use borrow.Author.Tests.{eqb-false}
use Rattle.format.specs.Bytes.{Answer, ok, refused, bind, has, u32_at}
use Rattle.format.specs.Headers as mark
use Rattle.format.specs.Reading.{Read, reading, Part, part, add, and_then, in_turn}
use Rattle.format.specs.Rows.{TextRow, NameRow}
use Rattle.format.specs.Irep.{Rec, irep_section}
use Rattle.format.specs.Walk.{walk}
use Rattle.format.specs.Lvar.{plain_text, name_entry, record_names, Lvar, lvar_section}
use Rattle.format.specs.Debug.{Debug, debug_section}
use Rattle.format.specs.Allowance.{Allowance}
use Rattle.format.specs.File.{Content, content, is_mark, end_section, once, after_irep, section_at, file_reading}
use Rattle.format.specs.Load.{records_of, names_of}
use Rattle.format.specs.Tree.{total, Whole}
use Rattle.format.proofs.Answers.{ok_refused, in_turn_all}
pub use Rattle.format.specs.Walk.{rlens}
use Rattle.layout.proofs.Ends.{reading_keeps}

-- Every record of rs is visited once, in order: record 0 at `from`, each other where the visit before it ended, and the last visit ends at
-- `to`. List i is what the visit of record i read.
pub record Visits {R : Type 0} (visit : Rec → ℕ → Part (List R)) (rs : List Rec) (from to : ℕ) (ls : List (List R)) : Type 0 where
  pub place : ℕ → ℕ
  pub first : place 0 ≡ from
  pub next : (i : ℕ) (d : Rec) → i < length rs → (visit (get_or rs i d) (place i)).end ≡ ok (place (suc i))
  pub last : place (length rs) ≡ to
  pub count : length ls ≡ length rs
  pub read : (i : ℕ) (d : Rec) → i < length rs → get_or ls i [] ≡ (visit (get_or rs i d) (place i)).it

module _ {R : Type 0} (visit : Rec → ℕ → Part (List R)) where
  -- no record; and a record before the others
  none_visited : (at : ℕ) → Visits visit [] at at []
  none_visited at = record { place = λ _. at; first = refl; next = λ i d h. absurd (omega arith); last = refl; count = refl; read = λ i d h. absurd (omega arith) }

  one_more : (r : Rec) (rs : List Rec) (at mid to : ℕ) (ls : List (List R)) → (visit r at).end ≡ ok mid → Visits visit rs mid to ls
      → Visits visit (r ∷ rs) at to ((visit r at).it ∷ ls)
  one_more r rs at mid to ls e v =
      record { place = place; first = refl; next = next; last = v.last; count = ap suc v.count; read = read }
    where
      place : ℕ → ℕ
      place zero = at
      place (suc i) = v.place i

      next : (i : ℕ) (d : Rec) → i < length (r ∷ rs) → (visit (get_or (r ∷ rs) i d) (place i)).end ≡ ok (place (suc i))
      next zero d h = rw v.first e
      next (suc i) d h = v.next i d (le_of_suc-le-suc h)

      read : (i : ℕ) (d : Rec) → i < length (r ∷ rs) → get_or ((visit r at).it ∷ ls) i [] ≡ (visit (get_or (r ∷ rs) i d) (place i)).it
      read zero d h = refl
      read (suc i) d h = v.read i d (le_of_suc-le-suc h)

  -- p visits are pending, and of the records left at least one more comes for as long as there is one
  walk_visits : (rs : List Rec) (p at to : ℕ) → ((m : ℕ) → m < length rs → m < p + total (take m (rlens rs)))
      → (walk visit (λ _. false) rs p at).end ≡ ok to → Visits visit rs at to (walk visit (λ _. false) rs p at).rows
  unfolding walk total
  walk_visits [] p at to h e = let q : at ≡ to = cc in rw q (none_visited to)
  walk_visits (r ∷ rs) zero at to h e = absurd (omega (arith, h 0 (omega arith)))
  walk_visits (r ∷ rs) (suc p) at to h e = go (visit r at).end refl e (walk_visits rs (r.head.rlen + p))
    where
      rest : (m : ℕ) → m < length rs → m < r.head.rlen + p + total (take m (rlens rs))
      rest m l = omega (arith, h (suc m) (suc-le-suc l))

      go : (a : Answer ℕ) → (visit r at).end ≡ a → (and_then a (walk visit (λ _. false) rs (r.head.rlen + p))).end ≡ ok to
          → ((at to : ℕ) → ((m : ℕ) → m < length rs → m < r.head.rlen + p + total (take m (rlens rs)))
          → (walk visit (λ _. false) rs (r.head.rlen + p) at).end ≡ ok to → Visits visit rs at to (walk visit (λ _. false) rs (r.head.rlen + p) at).rows)
          → Visits visit (r ∷ rs) at to ((visit r at).it ∷ (and_then (visit r at).end (walk visit (λ _. false) rs (r.head.rlen + p))).rows)
      go (refused k) q e ih = absurd (ok_refused e)
      go (ok mid) q e ih = rw q (one_more r rs at mid to _ q (ih mid to rest e))

  -- a walk over a whole tree that nothing refuses
  pub every_visited : (rs : List Rec) (at to : ℕ) → Whole (rlens rs) → (walk visit (λ _. false) rs 1 at).end ≡ ok to
      → Visits visit rs at to (walk visit (λ _. false) rs 1 at).rows
  every_visited rs at to w e = walk_visits rs 1 at to enough e
    where
      enough : (m : ℕ) → m < length rs → m < 1 + total (take m (rlens rs))
      enough zero h = omega arith
      enough (suc m) h = omega (arith, w.enough (suc m) (omega arith) (rw length-map h))

  -- whatever the tree, no record is visited twice
  pub visited_once : (spent : ℕ → Bool) (rs : List Rec) (p at : ℕ) → length (walk visit spent rs p at).rows ≤ length rs
  unfolding walk
  visited_once spent [] p at = omega arith
  visited_once spent (r ∷ rs) zero at = omega arith
  visited_once spent (r ∷ rs) (suc p) at = go (spent at) (visit r at).end (visited_once spent rs (r.head.rlen + p))
    where
      go : (b : Bool) (a : Answer ℕ) → ((at : ℕ) → length (walk visit spent rs (r.head.rlen + p) at).rows ≤ length rs)
          → length (cond b (reading [] (ok at)) (add (visit r at).it (and_then a (walk visit spent rs (r.head.rlen + p))))).rows ≤ suc (length rs)
      go true a ih = omega arith
      go false (ok next) ih = omega (arith, ih next)
      go false (refused e) ih = omega arith

-- the names of a record, one for each local but one: so it has a local
abbrev pub Named : Rec → List NameRow → Type 0
Named r ns = suc (length ns) ≡ r.head.nlocals

record_names_named : (f : List ℕ) (count : ℕ) (r : Rec) (at to : ℕ) → (record_names f count r at).end ≡ ok to → Named r (record_names f count r at).it
unfolding record_names
record_names_named f count r at to e = go (eqb r.head.nlocals 0) refl e
  where
    n : Read NameRow
    n = in_turn (name_entry f count) (r.head.nlocals - 1) at

    go : (b : Bool) → eqb r.head.nlocals 0 ≡ b → (cond b (part [] (refused 11)) (part n.rows n.end)).end ≡ ok to
        → Named r (cond b (part [] (refused 11)) (part n.rows n.end)).it
    go true q e = absurd (ok_refused e)
    go false q e =
        let ne = eqb-false r.head.nlocals 0 q in
        let all = in_turn_all (name_entry f count) (r.head.nlocals - 1) at to e in
        omega arith

-- where the walk of an LVAR section that nothing refuses begins and ends; its lists are the section's names
pub record Walked (f : List ℕ) (base : ℕ) (rs : List Rec) : Type 0 where
  pub at : ℕ
  pub end : ℕ
  pub ends : (walk (record_names f (u32_at f 8)) (λ _. false) rs 1 at).end ≡ ok end
  pub names : (lvar_section f base rs).it.names ≡ (walk (record_names f (u32_at f 8)) (λ _. false) rs 1 at).rows

pub lvar_walked : (f : List ℕ) (base : ℕ) (rs : List Rec) (to : ℕ) → (lvar_section f base rs).end ≡ ok to → Walked f base rs
unfolding lvar_section
lvar_walked f base rs to e = go (has f 0 12) refl (in_turn (plain_text f base) (u32_at f 8) 12) refl e
  where
    visit : ℕ → Read (List NameRow)
    visit = walk (record_names f (u32_at f 8)) (λ _. false) rs 1

    -- the section's size, tested after the content
    sized : Answer ℕ
    sized = cond (eqb (u32_at f 4) 0) (refused 8) (cond (leb (u32_at f 4) (length f)) (ok (u32_at f 4)) (refused 7))

    lvar : List TextRow → Read (List NameRow) → Part Lvar
    lvar s n = part (record { strings = s; names = n.rows }) (bind n.end (λ _. sized))

    go : (b : Bool) → has f 0 12 ≡ b → (s : Read TextRow) → in_turn (plain_text f base) (u32_at f 8) 12 ≡ s
        → (cond b (lvar s.rows (and_then s.end visit)) (part (record { strings = []; names = [] }) (refused 7))).end ≡ ok to → Walked f base rs
    go false h s r e = absurd (ok_refused e)
    go true h s r e = strings s.end refl e
      where
        strings : (a : Answer ℕ) → s.end ≡ a → bind (and_then a visit).end (λ _. sized) ≡ ok to → Walked f base rs
        strings (refused k) p e = absurd (ok_refused e)
        strings (ok at) p e = walked (visit at).end refl e
          where
            walked : (a : Answer ℕ) → (visit at).end ≡ a → bind a (λ _. sized) ≡ ok to → Walked f base rs
            walked (refused k) q e = absurd (ok_refused e)
            walked (ok end) q e = record { at = at; end = end; ends = q; names = rw (h, r, p) }

-- an LVAR section that nothing refuses: "A visited record takes nlocals - 1 entries"
pub names_count : (f : List ℕ) (base : ℕ) (rs : List Rec) (to : ℕ) → Whole (rlens rs) → (lvar_section f base rs).end ≡ ok to
    → (i : ℕ) (d : Rec) → i < length rs → Named (get_or rs i d) (get_or (lvar_section f base rs).it.names i [])
names_count f base rs to w e i d h =
    let x = lvar_walked f base rs to e in
    let v = every_visited (record_names f (u32_at f 8)) rs x.at x.end w x.ends in
    rw (x.names, v.read i d h) (record_names_named f (u32_at f 8) (get_or rs i d) (v.place i) (v.place (suc i)) (v.next i d h))

-- what was read of an LVAR section, at a place of the file and behind the records rs, where that ended well
pub record LvarAt (f : List ℕ) (rs : List Rec) (l : Lvar) : Type 0 where
  pub at : ℕ
  pub size : ℕ
  pub ends : (lvar_section (drop at f) at rs).end ≡ ok size
  pub it : (lvar_section (drop at f) at rs).it ≡ l

-- LVAR comes only behind IREP
abbrev pub LvarOf : List ℕ → Option (List Rec) → Option Lvar → Type 0
LvarOf f none none = Unit {0}
LvarOf f (some rs) none = Unit {0}
LvarOf f none (some l) = ⊥
LvarOf f (some rs) (some l) = LvarAt f rs l

module _ (f : List ℕ) (at size : ℕ) where
  abbrev Good : Part Content → Type 0
  Good p = p.end ≡ ok size → LvarOf f p.it.irep p.it.lvar

  good_irep : (i : Option (List Rec)) (l : Option Lvar) (d : Option Debug) → LvarOf f i l → (s : List Rec) (a : Answer ℕ)
      → Good (once i (content i l d) (part (content (some s) l d) a))
  good_irep (some rs) l d x s a e = x
  good_irep none none d x s a e = tt
  good_irep none (some l) d x s a e = absurd x

  good_lvar : (i : Option (List Rec)) (l : Option Lvar) (d : Option Debug) → LvarOf f i l
      → Good (after_irep (content i l d) (λ rs. once l (content i l d) (let s = lvar_section (drop at f) at rs in part (content i (some s.it) d) s.end)))
  good_lvar none l d x e = x
  good_lvar (some rs) (some l) d x e = x
  good_lvar (some rs) none d x e = record { at = at; size = size; ends = e; it = refl }

  good_dbg : (i : Option (List Rec)) (l : Option Lvar) (d : Option Debug) → LvarOf f i l → (k : List Rec → Part Debug)
      → Good (after_irep (content i l d) (λ rs. once d (content i l d) (part (content i l (some (k rs).it)) (k rs).end)))
  good_dbg none l d x k e = x
  good_dbg (some rs) l (some d) x k e = x
  good_dbg (some rs) l none x k e = x

  good_section : (allowed : ℕ) (i : Option (List Rec)) (l : Option Lvar) (d : Option Debug) → LvarOf f i l → Good (section_at f allowed (content i l d) at)
  unfolding section_at
  good_section allowed i l d x = by_mark_lem (is_mark f at mark.irep) (is_mark f at mark.lvar) (is_mark f at mark.dbg) (is_mark f at mark.end)
    where
      by_mark_lem : (p q r s : Bool)
          → Good
          (cond p (once i (content i l d) (let s = irep_section (drop at f) at allowed in part (content (some s.rows) l d) s.end))
          (cond q (after_irep (content i l d) (λ rs. once l (content i l d) (let s = lvar_section (drop at f) at rs in part (content i (some s.it) d) s.end)))
          (cond r (after_irep (content i l d) (λ rs. once d (content i l d) (let s = debug_section (drop at f) at rs in part (content i l (some s.it)) s.end)))
          (cond s (part (content i l d) (end_section (drop at f))) (part (content i l d) (refused 5))))))
      by_mark_lem true q r s = good_irep i l d x (irep_section (drop at f) at allowed).rows (irep_section (drop at f) at allowed).end
      by_mark_lem false true r s = good_lvar i l d x
      by_mark_lem false false true s = good_dbg i l d x (debug_section (drop at f) at)
      by_mark_lem false false false true = λ e. x
      by_mark_lem false false false false = λ e. x

pub reading_lvar : (f : List ℕ) (a : Allowance) (to : ℕ) → (file_reading f a).end ≡ ok to → LvarOf f (file_reading f a).it.irep (file_reading f a).it.lvar
reading_lvar f a to e =
    reading_keeps f a (λ c. LvarOf f c.irep c.lvar) (λ c at x size q. good_section f at size a.records c.irep c.lvar c.dbg x q) tt to e

-- A file that nothing refuses, with an LVAR section and a whole tree: each record has a name for each local but one.
pub file_names_lem : (f : List ℕ) (a : Allowance) (to : ℕ) → (file_reading f a).end ≡ ok to
    → let c = (file_reading f a).it in
    (l : Lvar) → c.lvar ≡ some l → Whole (rlens (records_of c)) → (i : ℕ) (d : Rec) → i < length (records_of c) → Named (get_or (records_of c) i d) (get_or (names_of c) i [])
file_names_lem f a to e l q w i d h = go (file_reading f a).it (reading_lvar f a to e) q w h
  where
    go : (c : Content) → LvarOf f c.irep c.lvar → c.lvar ≡ some l → Whole (rlens (records_of c)) → i < length (records_of c) → Named (get_or (records_of c) i d) (get_or (names_of c) i [])
    go c x q w h = of c.irep c.lvar x q w h
      where
        of : (r : Option (List Rec)) (o : Option Lvar) → LvarOf f r o → o ≡ some l → Whole (rlens (records_of (content r o none))) → i < length (records_of (content r o none))
            → Named (get_or (records_of (content r o none)) i d) (get_or (names_of (content r o none)) i [])
        of r none x q w h = let z : ◌≡◌ {A = ℕ} 0 1 = cc in absurd (omega arith)
        of none (some l) x q w h = absurd x
        of (some rs) (some l) x q w h = rw (← x.it) (names_count (drop x.at f) x.at rs x.size w x.ends i d h)
