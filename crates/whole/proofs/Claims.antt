-- What the definitions of this crate are, over ℤ: exact results, the nearest number of a width, the common divisor and multiple, the floored remainder.
use mathlib.Core.Path.{◌≡◌, refl, sym, ◌∙◌}
use mathlib.Core.Logic.{◌≢◌, inl, inr}
use Prim.Native.Nat.{ℕ}
use lib.IntN.{ℤ, pos, nat_abs}
use lib.Signed.{◌≤ℤ◌, ◌<ℤ◌}
use lib.Pow.{pow_pos}
use mir.Syntax.{Width, w64}
use mir.Val.{SFits, hbits}
use Rattle.std.specs.Prelude.{None, Some}
use Rattle.whole.specs.Range.{least, greatest, clamp}
use Rattle.whole.specs.Divides.{◌∣ℤ◌, steps, gcd, lcm, Cong, floor_rem}
use Rattle.whole.specs.Exact.{exactly}
use Rattle.whole.proofs.Linear.{ints}
use Rattle.whole.proofs.Fits as Fits
use Rattle.whole.proofs.Decides.{Beyond, fits-test, is_false, is-fit, not_beyond}
use Rattle.whole.proofs.Products as Products
use Rattle.whole.proofs.CommonDivisor as CommonDivisor
use Rattle.whole.proofs.Floor as Floor

-- a contract that says what the answer is admits one answer
pub one_answer : {A : Type 0} (r s answer : A) → r ≡ answer → s ≡ answer → r ≡ s
one_answer r s answer h k = h ∙ sym k

-- the numbers of a width are those from the least to the greatest
pub fits-is-range : (w : Width) (z : ℤ) → (SFits w z → (least w ≤ℤ z) × (z ≤ℤ greatest w)) × ((least w ≤ℤ z) × (z ≤ℤ greatest w) → SFits w z)
fits-is-range w z = (λ h. (Fits.low w z h, Fits.high w z h), λ h. Fits.fits w z h.0 h.1)

-- an exact operation gives the number if it fits, and says that it doesn't if it doesn't
module _ (w : Width) (z : ℤ) where
  pub exactly-is : SFits w z → exactly w z ≡ Some z
  unfolding exactly
  exactly-is h = rw (is-fit h) refl

  pub exactly-not : Beyond w z → exactly w z ≡ None
  unfolding exactly
  exactly-not h = rw (is_false (fits-test w z) (λ f. not_beyond {w = w} f h)) refl

-- the nearest number of the width: z itself, or the end that z lies beyond
module _ (w : Width) (z : ℤ) where
  pub clamp-itself : SFits w z → clamp w z ≡ z
  clamp-itself h = sym (Products.clamp-fit w z z (is-fit h) refl)

  pub clamp-below : z <ℤ least w → clamp w z ≡ least w
  clamp-below h = sym (Products.clamp-low w z (is_false (fits-test w z) (λ f. not_beyond {w = w} f (inl h))) (omega (ints, pow_pos (hbits w))))

  pub clamp-above : greatest w <ℤ z → clamp w z ≡ greatest w
  clamp-above h = sym (Products.clamp-high w z (is_false (fits-test w z) (λ f. not_beyond {w = w} f (inr h))) (omega (ints, pow_pos (hbits w))))

-- the greatest common divisor divides both, and what divides both divides it
module _ (a b : ℕ) where
  pub gcd-divides : (pos (gcd a b) ∣ℤ pos a) × (pos (gcd a b) ∣ℤ pos b)
  gcd-divides = (CommonDivisor.gcd-left a b, CommonDivisor.gcd-right a b)

  pub gcd-greatest : (k : ℤ) → k ∣ℤ pos a → k ∣ℤ pos b → k ∣ℤ pos (gcd a b)
  gcd-greatest k p q = CommonDivisor.gcd-greatest a b p q

  -- the least common multiple is a multiple of both, and divides every other
  pub lcm-multiple : (pos a ∣ℤ pos (lcm a b)) × (pos b ∣ℤ pos (lcm a b))
  lcm-multiple = (CommonDivisor.lcm-left a b, CommonDivisor.lcm-right a b)

  pub lcm-least : (z : ℤ) → pos a ∣ℤ z → pos b ∣ℤ z → pos (lcm a b) ∣ℤ z
  lcm-least z p q = CommonDivisor.lcm-least a b p q

-- a common divisor of 2^63 is refused: that of the least number and 0
pub gcd-of-least : exactly w64 (pos (gcd (nat_abs (least w64)) 0)) ≡ None
unfolding gcd steps
gcd-of-least = exactly-not w64 (pos 9223372036854775808) (inr (omega ints))

-- the floored remainder is the one number from 0 to |m| - 1 that differs from x by a multiple of m
module _ (x m : ℤ) where
  pub floored-is : m ≢ pos 0 → (pos 0 ≤ℤ floor_rem x m) × (floor_rem x m <ℤ pos (nat_abs m)) × Cong (nat_abs m) (floor_rem x m) x
  floored-is nz = (Floor.floor-low x m nz, Floor.floor-high x m nz, Floor.floor-class x m)

  pub floored-only : (r : ℤ) → m ≢ pos 0 → pos 0 ≤ℤ r → r <ℤ pos (nat_abs m) → Cong (nat_abs m) r x → r ≡ floor_rem x m
  floored-only r nz h k d = Floor.floor-only x m r nz h k d

pub floored-by-zero : (x : ℤ) → floor_rem x (pos 0) ≡ x
floored-by-zero x = Floor.floor-zero x
