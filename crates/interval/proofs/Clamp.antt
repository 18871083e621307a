-- The nearest number of the width, against a number that fits.
use mathlib.Core.Path.{◌≡◌, refl, sym}
use lib.IntN.{ℤ}
use lib.Signed.{◌≤ℤ◌}
use mir.Syntax.{Width}
use mir.Val.{SFits}
use Rattle.whole.specs.Range.{least, greatest, clamp}
use Rattle.whole.specs.Whole.{min_ℤ, max_ℤ, min4, max4}
use Rattle.whole.proofs.Linear.{ints}
use Rattle.whole.proofs.Linear as L
use Rattle.whole.proofs.Fits.{low, high}
use Rattle.whole.proofs.Decides.{branch, lt_test, is-fit}
use Rattle.whole.proofs.Products.{clamp-fit}
use Rattle.interval.proofs.Ends.{min-is, max-is}

module _ (w : Width) {z : ℤ} (f : SFits w z) where
  -- clamping keeps on its side of a number that fits
  pub clamp-under : (p : ℤ) → p ≤ℤ z → clamp w p ≤ℤ z
  unfolding clamp
  clamp-under p h =
      branch (lt_test p (least w)) (λ t. t ≤ℤ z) (λ _. low w z f) λ _.
      branch (lt_test (greatest w) p) (λ t. t ≤ℤ z) (λ e. absurd (let k = high w z f in omega ints)) (λ _. h)

  pub clamp-over : (p : ℤ) → z ≤ℤ p → z ≤ℤ clamp w p
  unfolding clamp
  clamp-over p h =
      branch (lt_test p (least w)) (λ t. z ≤ℤ t) (λ e. absurd (let k = low w z f in omega ints)) λ _.
      branch (lt_test (greatest w) p) (λ t. z ≤ℤ t) (λ _. high w z f) (λ _. h)

  pub clamp-is : clamp w z ≡ z
  clamp-is = sym (clamp-fit w z z (is-fit f) refl)

  module _ (a b c d : ℤ) where
    pub four-under : min4 a b c d ≤ℤ z → min4 (clamp w a) (clamp w b) (clamp w c) (clamp w d) ≤ℤ z
    four-under = min-is P (min_ℤ a b) (min_ℤ c d) (min-is P a b (at a m.0) (at b m.1)) (min-is P c d (at c m.2) (at d m.3))
      where
        P : ℤ → Type 0
        P t = t ≤ℤ z → min4 (clamp w a) (clamp w b) (clamp w c) (clamp w d) ≤ℤ z

        m : (min4 (clamp w a) (clamp w b) (clamp w c) (clamp w d) ≤ℤ clamp w a) × (min4 (clamp w a) (clamp w b) (clamp w c) (clamp w d) ≤ℤ clamp w b) × (min4 (clamp w a) (clamp w b) (clamp w c) (clamp w d) ≤ℤ clamp w c) × (min4 (clamp w a) (clamp w b) (clamp w c) (clamp w d) ≤ℤ clamp w d)
        m =
            let l = L.least (clamp w a) (clamp w b) in
            let r = L.least (clamp w c) (clamp w d) in
            let n = L.least (min_ℤ (clamp w a) (clamp w b)) (min_ℤ (clamp w c) (clamp w d)) in
            (omega ints, omega ints, omega ints, omega ints)

        at : (t : ℤ) → min4 (clamp w a) (clamp w b) (clamp w c) (clamp w d) ≤ℤ clamp w t → P t
        at t h k = let c = clamp-under t k in omega ints

    pub four-over : z ≤ℤ max4 a b c d → z ≤ℤ max4 (clamp w a) (clamp w b) (clamp w c) (clamp w d)
    four-over = max-is P (max_ℤ a b) (max_ℤ c d) (max-is P a b (at a m.0) (at b m.1)) (max-is P c d (at c m.2) (at d m.3))
      where
        P : ℤ → Type 0
        P t = z ≤ℤ t → z ≤ℤ max4 (clamp w a) (clamp w b) (clamp w c) (clamp w d)

        m : (clamp w a ≤ℤ max4 (clamp w a) (clamp w b) (clamp w c) (clamp w d)) × (clamp w b ≤ℤ max4 (clamp w a) (clamp w b) (clamp w c) (clamp w d)) × (clamp w c ≤ℤ max4 (clamp w a) (clamp w b) (clamp w c) (clamp w d)) × (clamp w d ≤ℤ max4 (clamp w a) (clamp w b) (clamp w c) (clamp w d))
        m =
            let l = L.greatest (clamp w a) (clamp w b) in
            let r = L.greatest (clamp w c) (clamp w d) in
            let n = L.greatest (max_ℤ (clamp w a) (clamp w b)) (max_ℤ (clamp w c) (clamp w d)) in
            (omega ints, omega ints, omega ints, omega ints)

        at : (t : ℤ) → clamp w t ≤ℤ max4 (clamp w a) (clamp w b) (clamp w c) (clamp w d) → P t
        at t h k = let c = clamp-over t k in omega ints
