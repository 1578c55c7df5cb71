-- The frame table under a push, a move and a pop of the top frame.
-- Assumes nothing.
use Prim.Native.Nat.{ℕ, suc, ◌+◌, ◌-◌, ◌*◌, ◌≤◌}
use native.Mathlib.Omega.{arith}
use mathlib.Core.Path.{◌≡◌, refl}
use mathlib.Core.List.{List, [], ◌∷◌, ◌++◌, append_assoc}
use lib.ListN.{length, get_or, set, replicate, length-append, length-replicate}
use lib.Seq.{set_at, get_or_at, append_snoc}
use Rattle.format.specs.Run.{Frame, frame, laid_frames, frame_table}

pub laid_length : (fs : List Frame) → length (laid_frames fs) ≡ 2 * length fs
unfolding laid_frames
laid_length [] = refl
laid_length (f ∷ fs) = omega (arith, length-append (laid_frames fs) (f.rec ∷ f.at ∷ []), laid_length fs)

-- two cells behind p
module _ (p z : List ℕ) (n : ℕ) (e : length p ≡ n) where
  get_one : (x y : ℕ) → get_or (p ++ x ∷ y ∷ z) n 0 ≡ x
  get_one x y = get_or_at p x (y ∷ z) 0 n e

  get_two : (x y : ℕ) → get_or (p ++ x ∷ y ∷ z) (n + 1) 0 ≡ y
  get_two x y = rw (← append_snoc p x (y ∷ z)) (get_or_at (p ++ x ∷ []) y z 0 (n + 1) (omega (arith, length-append p (x ∷ []))))

  set_one : (x y a : ℕ) → set (p ++ x ∷ y ∷ z) n a ≡ p ++ a ∷ y ∷ z
  set_one x y a = set_at p x (y ∷ z) a n e

  set_two : (x y a : ℕ) → set (p ++ x ∷ y ∷ z) (n + 1) a ≡ p ++ x ∷ a ∷ z
  set_two x y a = rw (← append_snoc p x (y ∷ z), ← append_snoc p x (a ∷ z)) (set_at (p ++ x ∷ []) y z a (n + 1) (omega (arith, length-append p (x ∷ []))))

module _ (n : ℕ) (fs : List Frame) (h : 2 * length fs + 2 ≤ n) where
  zeros : List ℕ
  zeros = replicate (n - 2 * suc (length fs)) 0

  -- the table with one more frame, and with none
  with_one : (f : Frame) → frame_table n (f ∷ fs) ≡ laid_frames fs ++ f.rec ∷ f.at ∷ zeros
  unfolding frame_table laid_frames zeros
  with_one f = simp append_assoc

  with_none : frame_table n fs ≡ laid_frames fs ++ 0 ∷ 0 ∷ zeros
  unfolding frame_table zeros
  with_none =
      let e : n - 2 * length fs ≡ suc (suc (n - 2 * suc (length fs))) = omega arith in
      rw e

  pub top_rec : (f : Frame) → get_or (frame_table n (f ∷ fs)) (2 * length fs) 0 ≡ f.rec
  top_rec f = rw (with_one f) (get_one (laid_frames fs) zeros (2 * length fs) (laid_length fs) f.rec f.at)

  pub top_at : (f : Frame) → get_or (frame_table n (f ∷ fs)) (2 * length fs + 1) 0 ≡ f.at
  top_at f = rw (with_one f) (get_two (laid_frames fs) zeros (2 * length fs) (laid_length fs) f.rec f.at)

  pub push : (f : Frame) → set (set (frame_table n fs) (2 * length fs) f.rec) (2 * length fs + 1) f.at ≡ frame_table n (f ∷ fs)
  push f =
      let q = laid_length fs in
      rw (with_none, with_one f, set_one (laid_frames fs) zeros (2 * length fs) q 0 0 f.rec, set_two (laid_frames fs) zeros (2 * length fs) q f.rec 0 f.at)

  pub move : (f : Frame) (o : ℕ) → set (frame_table n (f ∷ fs)) (2 * length fs + 1) o ≡ frame_table n (frame f.rec o ∷ fs)
  move f o = rw (with_one f, with_one (frame f.rec o), set_two (laid_frames fs) zeros (2 * length fs) (laid_length fs) f.rec f.at o)

  pub pop : (f : Frame) → set (set (frame_table n (f ∷ fs)) (2 * length fs) 0) (2 * length fs + 1) 0 ≡ frame_table n fs
  pop f =
      let q = laid_length fs in
      rw (with_one f, with_none, set_one (laid_frames fs) zeros (2 * length fs) q f.rec f.at 0, set_two (laid_frames fs) zeros (2 * length fs) q 0 f.at 0)

pub table_length : (n : ℕ) (fs : List Frame) → 2 * length fs ≤ n → length (frame_table n fs) ≡ n
unfolding frame_table
table_length n fs h =
    omega (arith, length-append (laid_frames fs) (replicate (n - 2 * length fs) 0), laid_length fs, length-replicate {A = ℕ} (n - 2 * length fs) 0)
