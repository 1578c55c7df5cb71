-- Demand 3, for every file that passes under an allowance and a list of permitted opcodes, and every list of choices.
-- Assumes nothing.
use Prim.Native.Nat.{ℕ, suc, ◌+◌, ◌*◌, ◌/◌, ◌≤◌, ◌<◌}
use native.Mathlib.Nat.{le_refl}
use native.Mathlib.Omega.{arith}
use mathlib.Core.Path.{◌≡◌, refl, sym, ap, subst, ◌∙◌}
use mathlib.Core.Bool.{cond}
use mathlib.Core.List.{List, [], ◌∷◌}
use mathlib.Core.Option.{some}
use lib.Dec.{eqb}
use lib.ListN.{length, get_or, drop}
use borrow.Author.Tests.{le-leb}
use Rattle.format.specs.Bytes.{Answer, ok, refused}
use Rattle.format.specs.Irep.{Rec}
use Rattle.format.specs.Lvar.{Lvar}
use Rattle.format.specs.Debug.{File}
use Rattle.format.specs.Allowance.{Allowance, granted}
use Rattle.format.specs.File.{Content}
use Rattle.format.specs.Load.{Nine, records_of, names_of, files_of, loading}
use Rattle.format.specs.Tree.{Whole}
use Rattle.format.specs.Pattern.{records_with, pattern_of, rlens}
use Rattle.format.specs.Exam.{FilePasses, examine_pattern, passing}
use Rattle.format.specs.Run.{Choice, go_on, jump, enter, leave, caught, run, Due, kind, high, low, put, by_kind, choices_from, choices, standing, frame_table, following, follow}
use Rattle.format.specs.Claim.{FollowHolds, Claim}
use Rattle.format.proofs.Answers.{ok_same, either, Refuses}
use Rattle.layout.proofs.Inside.{loading_reading}
use Rattle.layout.proofs.Pattern.{pattern_length}
use Rattle.runs.proofs.Tree.{whole_iff}
use Rattle.runs.proofs.Exact.{good_file, permitting_file}
use Rattle.runs.proofs.Refusal.{passes_iff}
use Rattle.runs.proofs.Frame.{stack_frames, stack_falls, stack_few, run_stack, done_iff, top_is}
use Rattle.laws.proofs.Walk as walk

-- the children's numbers, of a pattern and of the records that it is made of
pub pattern_rlens : (f : List ℕ) (rs : List Rec) (fss : List (List File)) → rlens (records_with f rs fss) ≡ walk.rlens rs
pattern_rlens f [] fss = refl
pattern_rlens f (r ∷ rs) fss = ap (λ l. r.head.rlen ∷ l) (pattern_rlens f rs (drop 1 fss))

-- bytes are a list of choices, or meet 21
abbrev pub Meets21 : Answer (List Choice) → Type 0
Meets21 a = Refuses (λ e. e ≡ 21) a

put_21 : (x : Choice) (a : Answer (List Choice)) → Meets21 a → Meets21 (put x a)
put_21 x (ok cs) h = tt
put_21 x (refused e) h = h

kind_21 : (b : ℕ) (a : Answer (List Choice)) → Meets21 a → Meets21 (by_kind b a)
kind_21 b a h =
    either Meets21 (eqb b 0) _ _ (λ _. put_21 go_on a h)
    (λ _. either Meets21 (eqb b 1) _ _ (λ _. put_21 jump a h)
    (λ _. either Meets21 (eqb b 2) _ _ (λ _. put_21 enter a h)
    (λ _. either Meets21 (eqb b 3) _ _ (λ _. h)
    (λ _. either Meets21 (eqb b 4) _ _ (λ _. put_21 leave a h) (λ _. refl)))))

pub choices_21 : (bs : List ℕ) (d : Due) → Meets21 (choices_from d bs)
unfolding choices_from
choices_21 [] kind = tt
choices_21 [] high = refl
choices_21 [] (low h) = refl
choices_21 (b ∷ bs) kind = let d = cond (eqb b 3) high kind in kind_21 b (choices_from d bs) (choices_21 bs d)
choices_21 (b ∷ bs) high = choices_21 bs (low b)
choices_21 (b ∷ bs) (low h) = put_21 (caught (h * 256 + b)) (choices_from kind bs) (choices_21 bs kind)

refused_21 : (bs : List ℕ) → ((ds : List Choice) → ¬ (choices bs ≡ ok ds)) → choices bs ≡ refused 21
refused_21 bs none-are = go (choices bs) refl (choices_21 bs kind)
  where
    go : (a : Answer (List Choice)) → choices bs ≡ a → Meets21 a → choices bs ≡ refused 21
    go (ok cs) e h = absurd (none-are cs e)
    go (refused k) e h = e ∙ ap refused h

module _ (f : List ℕ) (c : Content) (q : List ℕ) (e0 : examine_pattern q (pattern_of f c) ≡ 0) (m : Nine) (a : Allowance) (n : ℕ) (bs : List ℕ)
    (l : loading f m a ≡ ok c) (h : length (records_of c) ≤ n / 2) where
  passed : passing q f c ≡ ok c
  unfolding passing
  passed = rw e0

  follow_ok : (cs : List Choice) → choices bs ≡ ok cs
      → following f m a q n bs ≡ ok (record { content = c; frames = run (pattern_of f c) cs })
  unfolding following
  follow_ok cs e = rw (l, le-leb (length (records_of c)) (n / 2) h, passed, e)

  follow_21 : choices bs ≡ refused 21 → following f m a q n bs ≡ refused 21
  unfolding following
  follow_21 e = rw (l, le-leb (length (records_of c)) (n / 2) h, passed, e)

  answer_is : (cs : List Choice) → choices bs ≡ ok cs → (follow f m a q n bs).answer ≡ ok (standing (pattern_of f c) (run (pattern_of f c) cs))
  unfolding follow
  answer_is cs e = let w = follow_ok cs e in rw w

  frames_are : (cs : List Choice) → choices bs ≡ ok cs → (follow f m a q n bs).frames ≡ frame_table n (run (pattern_of f c) cs)
  unfolding follow
  frames_are cs e = let w = follow_ok cs e in rw w

  pub follow_holds : (cs : List Choice) → choices bs ≡ ok cs → FollowHolds f c (run (pattern_of f c) cs) m a q n bs
  follow_holds cs e =
      let p = pattern_of f c in
      let G = good_file q p e0 in
      let is = answer_is cs e in
      record {
        done = (λ k. (done_iff p G (run p cs)).0 (ok_same (sym is ∙ k)), λ k. is ∙ ap ok ((done_iff p G (run p cs)).1 k));
        top = λ g gs k. is ∙ ap ok (top_is p G g gs (run p cs) (run_stack p G cs) k);
        table = frames_are cs e;
      }

  pub others_21 : ((ds : List Choice) → ¬ (choices bs ≡ ok ds)) → ((follow f m a q n bs).answer ≡ refused 21) × ((follow f m a q n bs).frames ≡ frame_table n [])
  unfolding follow
  others_21 none-are = let w = follow_21 (refused_21 bs none-are) in rw w (refl, refl)

-- what was read has a name for each local but one of each record, where its tree is whole
abbrev AllNamed : Content → Type 0
AllNamed c = (l : Lvar) → c.lvar ≡ some l → Whole (walk.rlens (records_of c)) → (i : ℕ) (r : Rec) → i < length (records_of c)
    → walk.Named (get_or (records_of c) i r) (get_or (names_of c) i [])

names_of_lem : (f : List ℕ) (c : Content) (m : Nine) (a : Allowance) → loading f m a ≡ ok c → Whole (rlens (pattern_of f c))
    → (l : Lvar) → c.lvar ≡ some l → (i : ℕ) (r : Rec) → i < length (records_of c)
    → suc (length (get_or l.names i [])) ≡ (get_or (records_of c) i r).head.nlocals
names_of_lem f c m a q w l e i r h =
    let x = loading_reading f m a c q in
    let all : AllNamed c = subst AllNamed x.0 (walk.file_names_lem f (granted a) x.1.0 x.1.1) in
    let named = all l e (rw (pattern_rlens f (records_of c) (files_of c)) at w) i r h in
    rw e at named

module _ (f : List ℕ) (a : Allowance) (q : List ℕ) (x : FilePasses f a q) where
  pub demand3 : (cs : List Choice) → Claim f a q x.content cs
  demand3 cs =
      let c = x.content in
      let p = pattern_of f c in
      let e0 = (passes_iff q p).1 x.passes in
      let G = good_file q p e0 in
      let s = run_stack p G cs in
      let n = pattern_length f (records_of c) (files_of c) in
      record {
        frames = stack_frames q p G (permitting_file q p e0) (run p cs) (length p) (le_refl (length p)) s;
        falls = stack_falls p G (run p cs) (length p) s;
        few = omega (arith, stack_few p G (run p cs) (length p) s, n);
        names = names_of_lem f c x.tables a x.loads ((whole_iff (rlens p)).0 G.tree);
        follows = λ m n bs l h e. follow_holds f c q e0 m a n bs l h cs e;
        others = λ m n bs l h no-list. others_21 f c q e0 m a n bs l h no-list;
      }

-- what was read of a file is the same in all tables in which it loads under an allowance
pub loads_same : (f : List ℕ) (m m' : Nine) (a : Allowance) (c c' : Content) → loading f m a ≡ ok c → loading f m' a ≡ ok c' → c ≡ c'
loads_same f m m' a c c' e e' = sym (loading_reading f m a c e).0 ∙ (loading_reading f m' a c' e').0

-- so the whole claim is about what any tables hold in which a file that passes loads
module _ (f : List ℕ) (a : Allowance) (q : List ℕ) (x : FilePasses f a q) (m : Nine) (c : Content) (e : loading f m a ≡ ok c) (cs : List Choice) where
  pub claim_anywhere : Claim f a q c cs
  claim_anywhere = subst (λ (d : Content). Claim f a q d cs) (loads_same f x.tables m a x.content c x.loads e) (demand3 f a q x cs)

  -- and what it says of follow is about a call over any of them
  pub follow_anywhere : (n : ℕ) (bs : List ℕ) → length (records_of c) ≤ n / 2 → choices bs ≡ ok cs → FollowHolds f c (run (pattern_of f c) cs) m a q n bs
  follow_anywhere n bs h k = claim_anywhere.follows m n bs e h k
