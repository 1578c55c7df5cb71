-- The frame table by the places that the code has, and the frames read back.
-- Assumes nothing.
use Prim.Native.Nat.{ℕ, zero, suc, ◌+◌, ◌-◌, ◌*◌, ◌≤◌}
use native.Mathlib.Omega.{arith}
use mathlib.Core.Path.{◌≡◌, refl, ap}
use mathlib.Core.List.{List, [], ◌∷◌, ◌++◌, append_assoc}
use lib.ListN.{length, get_or, set, replicate, length-append}
use lib.Seq.{get_or_at, append_snoc}
use Rattle.format.specs.Run.{Frame, frame, start, laid_frames, frame_table}
use Rattle.runs.proofs.Frames as laws
use Rattle.runs.proofs.Frames.{laid_length}
use Rattle.run.specs.Frames.{frames_of, frame_at}

-- p: where the row behind the frames fs begins
module _ (n : ℕ) (fs : List Frame) (h : 2 * length fs + 2 ≤ n) (p : ℕ) (e : p ≡ 2 * length fs) where
  pub push : (f : Frame) → set (set (frame_table n fs) p f.rec) (p + 1) f.at ≡ frame_table n (f ∷ fs)
  push f = rw e (laws.push n fs h f)

  pub move : (f : Frame) (o : ℕ) → set (frame_table n (f ∷ fs)) (p + 1) o ≡ frame_table n (frame f.rec o ∷ fs)
  move f o = rw e (laws.move n fs h f o)

  pub pop : (f : Frame) → set (set (frame_table n (f ∷ fs)) p 0) (p + 1) 0 ≡ frame_table n fs
  pop f = rw e (laws.pop n fs h f)

-- the frames of a table that begins with their rows
laid_back : (fs : List Frame) (z : List ℕ) → frames_of (laid_frames fs ++ z) (length fs) ≡ fs
unfolding laid_frames frames_of
laid_back [] z = refl
laid_back (f ∷ fs) z =
    let l = laid_frames fs in
    let q : length l ≡ length fs * 2 = omega (arith, laid_length fs) in
    let a : (l ++ f.rec ∷ f.at ∷ []) ++ z ≡ l ++ f.rec ∷ f.at ∷ z = simp append_assoc in
    let r : get_or (l ++ f.rec ∷ f.at ∷ z) (length fs * 2) 0 ≡ f.rec = get_or_at l f.rec (f.at ∷ z) 0 (length fs * 2) q in
    let o : get_or (l ++ f.rec ∷ f.at ∷ z) (length fs * 2 + 1) 0 ≡ f.at
    = rw (← append_snoc l f.rec (f.at ∷ z)) (get_or_at (l ++ f.rec ∷ []) f.at z 0 (length fs * 2 + 1) (omega (arith, length-append l (f.rec ∷ [])))) in
    let b : frames_of ((l ++ f.rec ∷ f.at ∷ []) ++ z) (length fs) ≡ fs = rw a (laid_back fs (f.rec ∷ f.at ∷ z)) in
    rw (b, a, r, o)

pub frames_back : (n : ℕ) (fs : List Frame) → frames_of (frame_table n fs) (length fs) ≡ fs
unfolding frame_table
frames_back n fs = laid_back fs (replicate (n - 2 * length fs) 0)

pub frames_cons : (t : List ℕ) (d : ℕ) → (d ≡ 0 → ⊥) → frames_of t d ≡ frame_at t (d - 1) ∷ frames_of t (d - 1)
unfolding frames_of
frames_cons t zero z = absurd (z refl)
frames_cons t (suc d) z = let q : suc d - 1 ≡ d = omega arith in rw q

pub frames_none : (t : List ℕ) (d : ℕ) → d ≡ 0 → frames_of t d ≡ []
unfolding frames_of
frames_none t d e = rw e

-- zeros are the first frame, and no frame
pub zeros_start : (n : ℕ) → 2 ≤ n → replicate n 0 ≡ frame_table n start
unfolding frame_table laid_frames
zeros_start n h = let q : n ≡ suc (suc (n - 2)) = omega arith in ap (λ (k : ℕ). replicate k 0) q

pub zeros_none : (n : ℕ) → replicate n 0 ≡ frame_table n []
unfolding frame_table laid_frames
zeros_none n = let q : n ≡ n - 0 = omega arith in ap (λ (k : ℕ). replicate k 0) q
