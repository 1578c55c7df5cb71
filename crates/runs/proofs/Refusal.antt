-- The examination is exact: it answers 0 exactly when none of 15 to 20, 25 and 32 is met, and a number that it answers is that of a condition that is met.
-- Assumes nothing.
use Prim.Native.Nat.{ℕ, zero, suc, ◌≤◌, ◌<◌, suc-le-suc}
use native.Mathlib.Nat.{zero-add}
use native.Mathlib.Omega.{arith}
use mathlib.Core.Path.{◌≡◌, refl, sym, subst, ◌∙◌}
use mathlib.Core.Logic.{◌⊎◌, inl, inr, ◌↔◌}
use mathlib.Core.Bool.{Bool, true, false, ◌&&◌, not, cond}
use mathlib.Core.List.{List, [], ◌∷◌}
use lib.Dec.{T, T_not, ltb, leb, nltb→le, nleb→lt}
use lib.ListN.{length, get_or}
use borrow.Author.Tests.{ltb-true, ltb-false}
use Rattle.format.specs.Rows.{LineRow}
use Rattle.format.specs.Insn.{Flow, on, ends, jumps, may, flow, row_at, next}
use Rattle.format.specs.Line.{entry, rising}
use Rattle.format.specs.Tree.{Whole, whole}
use Rattle.format.specs.Pattern.{Record, Pattern, ilen, rec_at, blank, begins, lands, rlens}
use Rattle.format.specs.Exam.{leads, has_next, has_target, stray, readable, bounded, follows}
use Rattle.format.specs.Exam.{Bad16, Bad25, Bad32, Some}
use Rattle.format.specs.Bytes.{refuse, first}
use Rattle.format.specs.Permitted.{permitted_at}
use Rattle.format.specs.Exam.{RecordMeets, meets16, meets17, meets18, meets19, meets20, meets25, meets32, RecordPasses, Meets, meets15, meets_record, Passes}
use Rattle.format.specs.Exam.{first_at, at16, at32, at1718}
use Rattle.format.specs.Exam.{exam16, exam32, exam1718, exam19, exam20, examine_record, examine_all, examine_pattern, examine_single}
use Rattle.runs.proofs.Registers.{none_high, some_high}
use Rattle.format.proofs.Table.{both}
use Rattle.format.proofs.Answers.{either, first_zero, zero_first, refuse_zero, refuse_pass, first_hit, refuse_hit}
use Rattle.runs.proofs.Tests.{Hit, first_at_hit, first_of_hit}
use Rattle.runs.proofs.Tree.{whole_iff}
use Rattle.runs.proofs.Line.{mono}
use Rattle.runs.proofs.Exact.{filled_16, each_16, each_32, Good, good, Permitting, permitting, GoodFile, good_file, PermittingFile, permitting_file, all_zero}

-- The test of 18 against its words.

leads_lost : (w : Flow) (n t : Bool) → T (not (leads w n t)) → (T (has_next w) × T (not n)) ⊎ (T (has_target w) × T (not t))
leads_lost on n t h = inl (tt, h)
leads_lost ends n t h = absurd h
leads_lost jumps n t h = inr (tt, h)
leads_lost may true t h = inr (tt, h)
leads_lost may false t h = inl (tt, tt)

leads_none : (w : Flow) (n t : Bool) → T (leads w n t) → (T (has_next w) × T (not n)) ⊎ (T (has_target w) × T (not t)) → ⊥
leads_none on n t h (inl p) = T_not n p.1 h
leads_none on n t h (inr p) = p.0
leads_none ends n t h (inl p) = p.0
leads_none ends n t h (inr p) = p.0
leads_none jumps n t h (inl p) = p.0
leads_none jumps n t h (inr p) = T_not t p.1 h
leads_none may n t h (inl p) = T_not n p.1 (search both)
leads_none may n t h (inr p) = T_not t p.1 (search both)

module _ (c : List ℕ) (o : ℕ) where
  not_lost : T (follows c o) → (T (has_next (flow (row_at c o))) × T (not (begins c (next c o)))) ⊎ (T (has_target (flow (row_at c o))) × T (not (lands c o))) → ⊥
  unfolding follows
  not_lost t l = leads_none (flow (row_at c o)) (begins c (next c o)) (lands c o) t l

  lost_of : T (not (follows c o)) → (T (has_next (flow (row_at c o))) × T (not (begins c (next c o)))) ⊎ (T (has_target (flow (row_at c o))) × T (not (lands c o)))
  unfolding follows
  lost_of t = leads_lost (flow (row_at c o)) (begins c (next c o)) (lands c o) t

-- From 0: none is met.

no_bad : (q : List ℕ) (r : Record) → Good r → Permitting q r → (n : ℕ) → RecordMeets q r n → ⊥
no_bad q r G A n (meets16 (inl e)) = omega (arith, G.filled)
no_bad q r G A n (meets16 (inr b)) = T_not (readable r.code b.at) b.fails (G.reads b.at b.starts)
no_bad q r G A n (meets17 b) = none_high r b.at (G.fit b.at b.starts) b.high
no_bad q r G A n (meets18 b) = not_lost r.code b.at (G.go b.at b.starts) b.lost
no_bad q r G A n (meets19 b) = T_not (begins r.code (get_or r.handlers b.h 0)) b.none_begins (G.caught b.h b.given)
no_bad q r G A n (meets20 b) = omega (arith, b.falls, mono r.lines G.rise b.i (suc b.i) (omega arith) b.given)
no_bad q r G A n (meets25 b) = T_not (stray r.code b.at) (G.paired b.at b.starts) b.alone
no_bad q r G A n (meets32 b) = T_not (permitted_at q r.code b.at) b.forbidden (A b.at b.starts)

module _ (q : List ℕ) (F : Pattern) (G : GoodFile F) (A : PermittingFile q F) where
  no_meet : (n : ℕ) → Meets q F n → ⊥
  no_meet n (meets15 w) = w ((whole_iff (rlens F)).0 G.tree)
  no_meet n (meets_record s) = no_bad q (rec_at F s.rec) (G.each_rec s.rec s.inside) (A s.rec s.inside) n s.holds

pub pass_sound : (q : List ℕ) (F : Pattern) → examine_pattern q F ≡ 0 → Passes q F
pass_sound q F e n = no_meet q F (good_file q F e) (permitting_file q F e) n

-- From a number: that condition is met.

-- a map that does not rise falls somewhere
falls_at : (m : List LineRow) → T (not (rising m)) → (i : ℕ) × (suc i < length m) × ((entry m (suc i)).pos < (entry m i).pos)
unfolding rising
falls_at [] t = absurd t
falls_at (e ∷ []) t = absurd t
falls_at (e ∷ f ∷ m) t = go (leb e.pos f.pos) refl t (falls_at (f ∷ m))
  where
    go : (b : Bool) → leb e.pos f.pos ≡ b → T (not (b && rising (f ∷ m)))
        → (T (not (rising (f ∷ m))) → (i : ℕ) × (suc i < length (f ∷ m)) × ((entry (f ∷ m) (suc i)).pos < (entry (f ∷ m) i).pos))
        → (i : ℕ) × (suc i < length (e ∷ f ∷ m)) × ((entry (e ∷ f ∷ m) (suc i)).pos < (entry (e ∷ f ∷ m) i).pos)
    go true q t ih = let w = ih t in (suc w.0, suc-le-suc w.1, w.2)
    go false q t ih = (0, omega arith, nleb→lt _ _ (subst (λ (b : Bool). T (not b)) (sym q) tt))

-- a number of 16's reading is 16 or 25, by their words
pub told_16 : (r : Record) (n : ℕ) → exam16 r.code ≡ suc n → ((16 ≡ suc n) × Bad16 r) ⊎ ((25 ≡ suc n) × Bad25 r)
unfolding exam16
told_16 r n e = go (first_hit (refuse 16 (ltb 0 (ilen r))) _ n e)
  where
    which : (o : ℕ) → T (begins r.code o) → (s : Bool) → stray r.code o ≡ s → cond s 25 (refuse 16 (readable r.code o)) ≡ suc n
        → ((16 ≡ suc n) × Bad16 r) ⊎ ((25 ≡ suc n) × Bad25 r)
    which o t true p e = inr (e, record { at = o; starts = t; alone = subst T (sym p) tt })
    which o t false p e =
        let h = refuse_hit 16 n (readable r.code o) e in
        inl (h.0, inr (record { at = o; starts = t; paired = subst (λ (b : Bool). T (not b)) (sym p) tt; fails = h.1 }))

    go : (refuse 16 (ltb 0 (ilen r)) ≡ suc n) ⊎ (first_at (at16 r.code) r.code 0 0 ≡ suc n) → ((16 ≡ suc n) × Bad16 r) ⊎ ((25 ≡ suc n) × Bad25 r)
    go (inl e) =
        let h = refuse_hit 16 n (ltb 0 (ilen r)) e in
        inl (h.0, inl (omega (arith, nltb→le 0 (ilen r) h.1)))
    go (inr e) =
        let i = first_at_hit (at16 r.code) r.code 0 0 n e in
        which i.at i.starts (stray r.code i.at) refl (rw zero-add at i.gives)

-- and one of 32's is 32
pub told_32 : (q : List ℕ) (r : Record) (n : ℕ) → exam32 q r.code ≡ suc n → (32 ≡ suc n) × Bad32 q r
unfolding exam32
told_32 q r n e =
    let i = first_at_hit (at32 q r.code) r.code 0 0 n e in
    let h = refuse_hit 32 n (permitted_at q r.code i.at) (rw zero-add at i.gives) in
    (h.0, record { at = i.at; starts = i.starts; forbidden = h.1 })

-- so each answers 0 exactly where none is met
pub clear_16 : (r : Record) → (exam16 r.code ≡ 0) ↔ ((¬ Bad16 r) × (¬ Bad25 r))
clear_16 r = (λ e. (none_16 e, none_25 e), λ h. go h (exam16 r.code) refl)
  where
    none_16 : exam16 r.code ≡ 0 → ¬ Bad16 r
    none_16 e (inl z) = omega (arith, filled_16 r.code e)
    none_16 e (inr b) = T_not (readable r.code b.at) b.fails (each_16 r.code e b.at b.starts).1

    none_25 : exam16 r.code ≡ 0 → ¬ Bad25 r
    none_25 e b = T_not (stray r.code b.at) (each_16 r.code e b.at b.starts).0 b.alone

    go : (¬ Bad16 r) × (¬ Bad25 r) → (k : ℕ) → exam16 r.code ≡ k → exam16 r.code ≡ 0
    go h zero e = e
    go h (suc k) e = elim (told_16 r k e) [ inl b ↦ absurd (h.0 b.1) | inr b ↦ absurd (h.1 b.1) ]

pub clear_32 : (q : List ℕ) (r : Record) → (exam32 q r.code ≡ 0) ↔ (¬ Bad32 q r)
clear_32 q r = (λ e b. T_not (permitted_at q r.code b.at) b.forbidden (each_32 q r e b.at b.starts), λ h. go h (exam32 q r.code) refl)
  where
    go : ¬ Bad32 q r → (k : ℕ) → exam32 q r.code ≡ k → exam32 q r.code ≡ 0
    go h zero e = e
    go h (suc k) e = absurd (h (told_32 q r k e).1)

module _ (q : List ℕ) (r : Record) (n : ℕ) where
  same : {k : ℕ} → k ≡ suc n → RecordMeets q r k → RecordMeets q r (suc n)
  same e b = subst (λ (k : ℕ). RecordMeets q r k) e b

  hit16 : exam16 r.code ≡ suc n → RecordMeets q r (suc n)
  hit16 e = elim (told_16 r n e) [ inl h ↦ same h.0 (meets16 h.1) | inr h ↦ same h.0 (meets25 h.1) ]

  hit32 : exam32 q r.code ≡ suc n → RecordMeets q r (suc n)
  hit32 e = let h = told_32 q r n e in same h.0 (meets32 h.1)

  hit1718 : exam1718 r ≡ suc n → RecordMeets q r (suc n)
  unfolding exam1718
  hit1718 e = at (first_at_hit (at1718 r) r.code 0 0 n e)
    where
      go : (o : ℕ) → T (begins r.code o) → (refuse 17 (bounded r o) ≡ suc n) ⊎ (refuse 18 (follows r.code o) ≡ suc n) → RecordMeets q r (suc n)
      go o t (inl e) = let h = refuse_hit 17 n (bounded r o) e in same h.0 (meets17 (record { at = o; starts = t; high = some_high r o h.1 }))
      go o t (inr e) = let h = refuse_hit 18 n (follows r.code o) e in same h.0 (meets18 (record { at = o; starts = t; lost = lost_of r.code o h.1 }))

      at : Hit (at1718 r) r.code 0 0 (suc n) → RecordMeets q r (suc n)
      at i = go i.at i.starts (first_hit (refuse 17 (bounded r i.at)) (refuse 18 (follows r.code i.at)) n (rw zero-add at i.gives))

  hit19 : exam19 r ≡ suc n → RecordMeets q r (suc n)
  unfolding exam19
  hit19 e =
      let i = first_of_hit (λ (t : ℕ). refuse 19 (begins r.code t)) r.handlers n e in
      let h = refuse_hit 19 n (begins r.code (get_or r.handlers i.at 0)) i.gives in
      same h.0 (meets19 (record { h = i.at; given = i.inside; none_begins = h.1 }))

  hit20 : exam20 r ≡ suc n → RecordMeets q r (suc n)
  unfolding exam20
  hit20 e =
      let h = refuse_hit 20 n (rising r.lines) e in
      let w = falls_at r.lines h.1 in
      same h.0 (meets20 (record { i = w.0; given = w.1; falls = w.2 }))

  pub hit_rec : examine_record q r ≡ suc n → RecordMeets q r (suc n)
  unfolding examine_record
  hit_rec e = a (first_hit (exam16 r.code) (first (exam32 q r.code) (first (exam1718 r) (first (exam19 r) (exam20 r)))) n e)
    where
      d : (exam19 r ≡ suc n) ⊎ (exam20 r ≡ suc n) → RecordMeets q r (suc n)
      d (inl e) = hit19 e
      d (inr e) = hit20 e

      c : (exam1718 r ≡ suc n) ⊎ (first (exam19 r) (exam20 r) ≡ suc n) → RecordMeets q r (suc n)
      c (inl e) = hit1718 e
      c (inr e) = d (first_hit (exam19 r) (exam20 r) n e)

      b : (exam32 q r.code ≡ suc n) ⊎ (first (exam1718 r) (first (exam19 r) (exam20 r)) ≡ suc n) → RecordMeets q r (suc n)
      b (inl e) = hit32 e
      b (inr e) = c (first_hit (exam1718 r) (first (exam19 r) (exam20 r)) n e)

      a : (exam16 r.code ≡ suc n) ⊎ (first (exam32 q r.code) (first (exam1718 r) (first (exam19 r) (exam20 r))) ≡ suc n) → RecordMeets q r (suc n)
      a (inl e) = hit16 e
      a (inr e) = b (first_hit (exam32 q r.code) (first (exam1718 r) (first (exam19 r) (exam20 r))) n e)

-- A record's examination answers 0 exactly where the record meets none.
pub record_iff : (q : List ℕ) (r : Record) → (examine_record q r ≡ 0) ↔ RecordPasses q r
record_iff q r = (λ e. no_bad q r (good q r e) (permitting q r e), λ h. go h (examine_record q r) refl)
  where
    go : RecordPasses q r → (k : ℕ) → examine_record q r ≡ k → examine_record q r ≡ 0
    go h zero e = e
    go h (suc k) e = absurd (h (suc k) (hit_rec q r k e))

-- i): of record i of a pattern, its own examination; "A missing record is 22".
module _ (q : List ℕ) (i : ℕ) (p : Pattern) where
  pub single_by : (P : ℕ → Type 0) → (i < length p → P (examine_record q (rec_at p i))) → (length p ≤ i → P 22) → P (examine_single q i p)
  unfolding examine_single
  single_by P h g = either P (ltb i (length p)) _ _ (λ e. h (ltb-true i (length p) e)) (λ e. g (ltb-false i (length p) e))

  pub single_inside : i < length p → examine_single q i p ≡ examine_record q (rec_at p i)
  single_inside h = single_by (λ (k : ℕ). k ≡ examine_record q (rec_at p i)) (λ _. refl) (λ g. absurd (omega arith))

  -- It answers 0 exactly where the record is there and passes by itself.
  pub single_iff : (examine_single q i p ≡ 0) ↔ ((i < length p) × RecordPasses q (rec_at p i))
  single_iff = (
    single_by (λ (k : ℕ). k ≡ 0 → (i < length p) × RecordPasses q (rec_at p i)) (λ h e. (h, (record_iff q (rec_at p i)).0 e)) (λ _ e. absurd (omega arith)),
    λ h. single_inside h.0 ∙ (record_iff q (rec_at p i)).1 h.1,
  )

  -- another number is 22 where it is missing, else that of a condition that the record meets
  pub single_met : (n : ℕ) → examine_single q i p ≡ suc n → ((22 ≡ suc n) × (length p ≤ i)) ⊎ ((i < length p) × RecordMeets q (rec_at p i) (suc n))
  single_met n =
      single_by (λ (k : ℕ). k ≡ suc n → ((22 ≡ suc n) × (length p ≤ i)) ⊎ ((i < length p) × RecordMeets q (rec_at p i) (suc n)))
      (λ h e. inr (h, hit_rec q (rec_at p i) n e)) (λ h e. inl (e, h))

hit_all : (q : List ℕ) (rs : List Record) (n : ℕ) → examine_all q rs ≡ suc n → Some (λ (r : Record). RecordMeets q r (suc n)) rs
unfolding examine_all
hit_all q [] n e = absurd (omega arith)
hit_all q (r ∷ rs) n e = go (first_hit (examine_record q r) (examine_all q rs) n e) (hit_all q rs n)
  where
    go : (examine_record q r ≡ suc n) ⊎ (examine_all q rs ≡ suc n) → (examine_all q rs ≡ suc n → Some (λ (r : Record). RecordMeets q r (suc n)) rs)
        → Some (λ (r : Record). RecordMeets q r (suc n)) (r ∷ rs)
    go (inl e) ih = record { rec = 0; inside = omega arith; holds = hit_rec q r n e }
    go (inr e) ih = let w = ih e in record { rec = suc w.rec; inside = suc-le-suc w.inside; holds = w.holds }

pub refusal_met : (q : List ℕ) (F : Pattern) (n : ℕ) → examine_pattern q F ≡ suc n → Meets q F (suc n)
unfolding examine_pattern
refusal_met q F n e = go (first_hit (refuse 15 (whole (rlens F))) (examine_all q F) n e)
  where
    go : (refuse 15 (whole (rlens F)) ≡ suc n) ⊎ (examine_all q F ≡ suc n) → Meets q F (suc n)
    go (inl e) =
        let h = refuse_hit 15 n (whole (rlens F)) e in
        subst (λ (k : ℕ). Meets q F k) h.0 (meets15 (λ w. T_not (whole (rlens F)) h.1 ((whole_iff (rlens F)).1 w)))
    go (inr e) = meets_record (hit_all q F n e)

pub passes_iff : (q : List ℕ) (F : Pattern) → (examine_pattern q F ≡ 0) ↔ Passes q F
passes_iff q F = (pass_sound q F, λ p. go p (examine_pattern q F) refl)
  where
    go : Passes q F → (k : ℕ) → examine_pattern q F ≡ k → examine_pattern q F ≡ 0
    go p zero e = e
    go p (suc k) e = absurd (p (suc k) (refusal_met q F k e))

zero_all : (q : List ℕ) (rs : List Record) → ((i : ℕ) → i < length rs → examine_record q (get_or rs i blank) ≡ 0) → examine_all q rs ≡ 0
unfolding examine_all
zero_all q [] z = refl
zero_all q (r ∷ rs) z = zero_first (examine_record q r) (examine_all q rs) (z 0 (omega arith)) (zero_all q rs (λ i h. z (suc i) (suc-le-suc h)))

-- The file passes exactly when its tree is whole and each record passes by itself.
pub by_record_lem : (q : List ℕ) (F : Pattern) → (examine_pattern q F ≡ 0) ↔ (Whole (rlens F) × ((i : ℕ) → i < length F → examine_record q (rec_at F i) ≡ 0))
unfolding examine_pattern
by_record_lem q F = (there, back)
  where
    there : examine_pattern q F ≡ 0 → Whole (rlens F) × ((i : ℕ) → i < length F → examine_record q (rec_at F i) ≡ 0)
    there e =
        let a = first_zero (refuse 15 (whole (rlens F))) (examine_all q F) e in
        ((whole_iff (rlens F)).0 (refuse_zero 14 (whole (rlens F)) a.0), all_zero q F a.1)

    back : Whole (rlens F) × ((i : ℕ) → i < length F → examine_record q (rec_at F i) ≡ 0) → examine_pattern q F ≡ 0
    back p = zero_first (refuse 15 (whole (rlens F))) (examine_all q F) (refuse_pass 15 (whole (rlens F)) ((whole_iff (rlens F)).1 p.0)) (zero_all q F p.1)
