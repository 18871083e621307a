-- Saturated results, and natural numbers: whether they fit, and the end that a result which doesn't fit lies beyond.
use mathlib.Core.Path.{◌≡◌, refl}
use mathlib.Core.Logic.{inl, inr}
use mathlib.Core.Bool.{true, false}
use Prim.Native.Nat.{ℕ, ◌≤◌, ◌<◌, ◌^◌}
use native.Mathlib.Omega.{arith}
use lib.IntN.{ℤ, pos}
use lib.Signed.{◌≤ℤ◌}
use lib.Pow.{pow_pos}
use mir.Syntax.{Width}
use mir.Val.{hbits}
use Rattle.whole.specs.Range.{least, greatest, fits?, clamp}
use Rattle.whole.proofs.Linear.{ints}
use Rattle.whole.proofs.Decides.{Beyond, lt_test, fits-test, yes, no, is_true, is_false, not_beyond}

-- ---- the nearest number of the width
module _ (w : Width) (z : ℤ) where
  pub clamp-fit : (r : ℤ) → fits? w z ≡ true → r ≡ z → r ≡ clamp w z
  unfolding clamp
  clamp-fit r h e =
      let f = yes (fits-test w z) h in
      rw (is_false (lt_test z (least w)) (λ k. not_beyond f (inl k)), is_false (lt_test (greatest w) z) (λ k. not_beyond f (inr k))) e

  pub clamp-low : fits? w z ≡ false → z ≤ℤ pos 0 → least w ≡ clamp w z
  unfolding clamp
  clamp-low h k = rw (is_true (lt_test z (least w)) (λ l. out (no (fits-test w z) h) l)) refl
    where
      out : Beyond w z → least w ≤ℤ z → ⊥
      out (inl n) l = omega ints
      out (inr n) l = omega (ints, pow_pos (hbits w))

  pub clamp-high : fits? w z ≡ false → pos 0 ≤ℤ z → greatest w ≡ clamp w z
  unfolding clamp
  clamp-high h k = rw (is_false (lt_test z (least w)) (λ l. omega (ints, pow_pos (hbits w))), is_true (lt_test (greatest w) z) (λ l. out (no (fits-test w z) h) l)) refl
    where
      out : Beyond w z → z ≤ℤ greatest w → ⊥
      out (inl n) l = omega (ints, pow_pos (hbits w))
      out (inr n) l = omega ints

-- ---- a natural number
module _ (w : Width) (n : ℕ) where
  pub natural-fits : n < 2 ^ hbits w → fits? w (pos n) ≡ true
  natural-fits h = is_true (fits-test w (pos n)) (not_beyond {w = w} (record { sfits = h }))

  pub natural-over : 2 ^ hbits w ≤ n → fits? w (pos n) ≡ false
  natural-over h = is_false (fits-test w (pos n)) (λ f. omega (arith, f.sfits))
