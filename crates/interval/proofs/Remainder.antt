-- The remainder's code: the single numbers, and the greatest magnitude less one, by sums that stay in the width.
use mathlib.Core.Path.{◌≡◌, refl, sym, ◌∙◌}
use mathlib.Core.Logic.{◌⊎◌, inl, inr}
use mathlib.Core.Bool.{Bool, true, false, ◌&&◌, ◌||◌}
use lib.IntN.{ℤ, pos, negsuc, neg_ℤ, ◌+ℤ◌, ◌-ℤ◌, +ℤ_idl}
use lib.Signed.{◌≤ℤ◌, quot_z, rem_z}
use lib.Pow.{pow_pos}
use mir.Syntax.{Width, w64}
use mir.Val.{SFits, to_z, of_z, hbits}
use mir.Facts.{to_z-of_z}
use Rattle.refusal.specs.declared.Refusal.{Refusal}
use Rattle.std.specs.Prelude.{None, Option, Result, Some}
use Rattle.whole.specs.Choice.{pick}
use Rattle.whole.specs.Test.{◌<?◌}
use Rattle.whole.specs.Whole.{max_ℤ}
use Rattle.whole.specs.Range.{least, greatest, clamp, fits?}
use Rattle.whole.specs.Exact.{exactly}
use Rattle.whole.specs.Sized.{width_of}
use Rattle.whole.specs.declared.Size.{Size}
use Rattle.whole.proofs.Found.{found-fits, not_found}
use Rattle.whole.proofs.Linear as L
use Rattle.whole.proofs.Shapes.{lin}
use Rattle.whole.proofs.Fits.{machine, range, low, high}
use Rattle.whole.proofs.Decides.{branch, lt_test, no}
use Rattle.whole.proofs.Calls.{called}
use Rattle.interval.specs.Set.{Interval, ◌⋯◌, bottom, empty?, canonical?}
use Rattle.refusal.specs.Answer.{Answer, is, refused, told}
use Rattle.interval.specs.Mended.{strict, rem_single, rem_within}
use Rattle.interval.proofs.Rem.{signs, one-fits}

-- ---- two single numbers
module _ (s : Size) (x y m n : ℤ) (e : Option ℤ) (h : e ≡ exactly (width_of s) (quot_z m n)) (p : m ≡ x) (o : n ≡ y) where
  asked : e ≡ exactly (width_of s) (quot_z x y)
  asked = rw (p, o) at h

  pub rem-single : (q z k l : ℤ) → e ≡ Some q → z ≡ rem_z m n → k ≡ z → l ≡ z → is (k ⋯ l) ≡ rem_single (width_of s) x y
  unfolding fits?
  rem-single q z k l f r u v = rw (u, v, r, p, o, found-fits (width_of s) (quot_z x y) q (sym asked ∙ f)) refl

  pub rem-over : e ≡ None → refused 2 ≡ rem_single (width_of s) x y
  unfolding fits?
  rem-over f = rw (not_found (width_of s) (quot_z x y) (sym asked ∙ f)) refl

-- ---- the greatest magnitude less one
module _ {w : Width} {x : ℤ} (f : SFits w x) where
  up_one : (clamp w (x +ℤ pos 1) ≡ x +ℤ pos 1) ⊎ ((x ≡ greatest w) × (clamp w (x +ℤ pos 1) ≡ greatest w))
  unfolding clamp
  up_one =
      branch (lt_test (x +ℤ pos 1) (least w)) P (λ h. absurd (omega (lin, low w x f))) λ _.
      branch (lt_test (greatest w) (x +ℤ pos 1)) P (λ h. inr (omega (lin, high w x f), refl)) λ _.
      inl refl
    where
      P : ℤ → Type 0
      P z = (z ≡ x +ℤ pos 1) ⊎ ((x ≡ greatest w) × (z ≡ greatest w))

  down-one : (clamp w (x +ℤ negsuc 0) ≡ x +ℤ negsuc 0) ⊎ ((x ≡ least w) × (clamp w (x +ℤ negsuc 0) ≡ least w))
  unfolding clamp
  down-one =
      branch (lt_test (x +ℤ negsuc 0) (least w)) P (λ h. inr (omega (lin, low w x f), refl)) λ _.
      branch (lt_test (greatest w) (x +ℤ negsuc 0)) P (λ h. absurd (omega (lin, high w x f))) λ _.
      inl refl
    where
      P : ℤ → Type 0
      P z = (z ≡ x +ℤ negsuc 0) ⊎ ((x ≡ least w) × (z ≡ least w))

  -- one more than a number has an opposite
  pub next-negated : (l : ℤ) → l ≡ clamp w (x +ℤ pos 1) → SFits w (neg_ℤ l)
  next-negated l e = elim up_one [
    | inl h ↦ let k : l ≡ x +ℤ pos 1 = e ∙ h in omega (machine, range f, L.sum x (pos 1))
    | inr h ↦ let k : l ≡ greatest w = e ∙ h.1 in omega (machine, pow_pos (hbits w))
  ]

module _ {w : Width} {lo hi : ℤ} (f : SFits w lo) (g : SFits w hi) (o : lo ≤ℤ hi) (l h : ℤ) where
  pub reach-is : l ≡ clamp w (lo +ℤ pos 1) → h ≡ clamp w (hi +ℤ negsuc 0) → max_ℤ (neg_ℤ l) h ≡ max_ℤ (neg_ℤ lo) hi -ℤ pos 1
  reach-is p q = go (up_one f) (down-one g)
    where
      close : (l ≡ lo +ℤ pos 1) ⊎ ((lo ≡ greatest w) × (l ≡ greatest w)) → (h ≡ hi +ℤ negsuc 0) ⊎ ((hi ≡ least w) × (h ≡ least w)) → max_ℤ (neg_ℤ l) h ≡ max_ℤ (neg_ℤ lo) hi -ℤ pos 1
      close (inl s) (inl t) = omega (lin, L.greatest (neg_ℤ l) h, L.greatest (neg_ℤ lo) hi, L.neg lo, L.neg l)
      close (inl s) (inr t) = omega (lin, L.greatest (neg_ℤ l) h, L.greatest (neg_ℤ lo) hi, L.neg lo, L.neg l, pow_pos (hbits w), low w _ f)
      close (inr s) (inl t) = omega (lin, L.greatest (neg_ℤ l) h, L.greatest (neg_ℤ lo) hi, L.neg lo, L.neg l, high w _ g, one-fits w)
      close (inr s) (inr t) = absurd (omega (lin, signs w))

      go : (clamp w (lo +ℤ pos 1) ≡ lo +ℤ pos 1) ⊎ ((lo ≡ greatest w) × (clamp w (lo +ℤ pos 1) ≡ greatest w)) → (clamp w (hi +ℤ negsuc 0) ≡ hi +ℤ negsuc 0) ⊎ ((hi ≡ least w) × (clamp w (hi +ℤ negsuc 0) ≡ least w)) → max_ℤ (neg_ℤ l) h ≡ max_ℤ (neg_ℤ lo) hi -ℤ pos 1
      go (inl s) (inl t) = close (inl (p ∙ s)) (inl (q ∙ t))
      go (inl s) (inr t) = close (inl (p ∙ s)) (inr (t.0, q ∙ t.1))
      go (inr s) (inl t) = close (inr (s.0, p ∙ s.1)) (inl (q ∙ t))
      go (inr s) (inr t) = close (inr (s.0, p ∙ s.1)) (inr (t.0, q ∙ t.1))

-- ---- as the code leaves them
pub negated-need : (x m l : ℤ) → l ≡ clamp w64 (m +ℤ pos 1) → m ≡ x → SFits w64 x → SFits w64 l → SFits w64 (pos 0 -ℤ to_z w64 (of_z w64 l))
negated-need x m l e p f g = rw (to_z-of_z g, +ℤ_idl (neg_ℤ l)) (next-negated f l (rw p at e))

pub reached : (lo hi l h m n p q r : ℤ) → r ≡ max_ℤ p q → p ≡ neg_ℤ l → q ≡ h → l ≡ clamp w64 (m +ℤ pos 1) → h ≡ clamp w64 (n +ℤ negsuc 0) → m ≡ lo → n ≡ hi → SFits w64 lo → SFits w64 hi → (hi <? lo) ≡ false → r ≡ max_ℤ (neg_ℤ lo) hi -ℤ pos 1
reached lo hi l h m n p q r e a b c d i j f g o = (rw (a, b) at e) ∙ reach-is f g (no (lt_test hi lo) o) l h (rw i at c) (rw j at d)

-- the greatest magnitude less one has an opposite
pub reach-need : (lo hi m n h : ℤ) → h ≡ max_ℤ (neg_ℤ m) n -ℤ pos 1 → m ≡ lo → n ≡ hi → (hi <? lo) ≡ false → SFits w64 h → SFits w64 (pos 0 -ℤ to_z w64 (of_z w64 h))
reach-need lo hi m n h e p q o g =
    let k : lo ≤ℤ hi = no (lt_test hi lo) o in
    let d : h ≡ max_ℤ (neg_ℤ lo) hi -ℤ pos 1 = rw (p, q) at e in
    rw (to_z-of_z g, +ℤ_idl (neg_ℤ h)) (omega (machine, range g, L.greatest (neg_ℤ lo) hi, L.neg lo, L.sub (max_ℤ (neg_ℤ lo) hi) (pos 1)))

pub reach-read : (h z : ℤ) → h ≡ z -ℤ pos 1 → SFits w64 h → pos 0 -ℤ to_z w64 (of_z w64 h) ≡ pos 1 -ℤ z
reach-read h z e g = rw (to_z-of_z g) (omega (lin, L.sub z (pos 1)))

pub reach-called : (a m b n r : ℤ) → r ≡ max_ℤ (neg_ℤ m) n -ℤ pos 1 → m ≡ a → n ≡ b → r ≡ max_ℤ (neg_ℤ a) b -ℤ pos 1
reach-called = called (λ x y. max_ℤ (neg_ℤ x) y -ℤ pos 1)

pub within-called : (a : Interval) (l m h n : ℤ) (r : Interval) → r ≡ rem_within a m n → m ≡ l → n ≡ h → r ≡ rem_within a l h
within-called a = called (rem_within a)

pub single-called : (s : Size) (x m y n : ℤ) (r : Result Interval Refusal) → told r ≡ rem_single (width_of s) m n → m ≡ x → n ≡ y → told r ≡ rem_single (width_of s) x y
single-called s x m y n r h p q = rw (p, q) at h

pub ruleset remains = (reach-need, reach-read, reach-called, within-called, single-called)

-- an empty divisor settles the answer, whatever was made
pub empty-strict : (z : Size) (a b : Interval) (s t : Answer Interval) (r : Result Interval Refusal) → told r ≡ strict (width_of z) a b s → empty? b ≡ true → told r ≡ strict (width_of z) a b t
empty-strict z a b s t r h e = h ∙ go (empty? a) (empty? b) e
  where
    go : (p q : Bool) → q ≡ true → pick (canonical? (width_of z) a && canonical? (width_of z) b) (pick (p || q) (is (bottom (width_of z))) s) (refused 1) ≡ pick (canonical? (width_of z) a && canonical? (width_of z) b) (pick (p || q) (is (bottom (width_of z))) t) (refused 1)
    go true q e = refl
    go false q e = rw e

pub strict-called : (z : Size) (a b : Interval) (s r : Result Interval Refusal) (t : Answer Interval) → told r ≡ strict (width_of z) a b (told s) → told s ≡ t → told r ≡ strict (width_of z) a b t
strict-called z a b s r t h e = rw e at h
