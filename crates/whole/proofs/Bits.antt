-- A signed 64-bit number by its sign, as the test `n < 0` of the code has it, and the bits of `!n`.
use Prim.Native.Nat.{ℕ, suc, ◌-◌, ◌^◌, ◌<◌}
use mathlib.Core.Path.{◌≡◌, refl}
use mathlib.Core.Bool.{true, false}
use native.Mathlib.Omega.{arith}
use lib.IntN.{ℤ, pos, negsuc}
use lib.Signed.{lt_z}
use mir.Syntax.{w64}
use mir.Val.{SFits, to_z, of_z}
use mir.ValLaws.{to_z_pos, to_z-neg, to_z-of_z}
use borrow.Author.Tests.{ltb-true}

-- the test `n < 0`, as the code has it
pub record Negative (z : ℤ) : Type 0 where
  pub k : ℕ
  pub is : z ≡ negsuc k
  pub fits : k < 2 ^ 63

pub record Natural (z : ℤ) : Type 0 where
  pub k : ℕ
  pub is : z ≡ pos k
  pub fits : k < 2 ^ 63

pub negative : (z : ℤ) → SFits w64 z → lt_z (to_z w64 (of_z w64 z)) (pos 0) ≡ true → Negative z
negative (pos n) f h = absurd (omega (arith, ltb-true n 0 (rw (to_z-of_z w64 (pos n) f) at h)))
negative (negsuc k) f h = record { k = k; is = refl; fits = f.sfits }

pub natural : (z : ℤ) → SFits w64 z → lt_z (to_z w64 (of_z w64 z)) (pos 0) ≡ false → Natural z
natural (pos n) f h = record { k = n; is = refl; fits = f.sfits }
natural (negsuc k) f h = let e = rw (to_z-of_z w64 (negsuc k) f) at h in let z : ◌≡◌ {A = ℕ} 0 1 = cc in absurd (omega arith)

-- `!n` of a negative n
pub flipped : (k : ℕ) → k < 2 ^ 63 → to_z w64 (2 ^ 64 - 1 - of_z w64 (negsuc k)) ≡ pos k
flipped k h =
    let e : 2 ^ 64 - 1 - (2 ^ 64 - suc k) ≡ k = omega arith in
    rw e (to_z_pos w64 k h)

-- `!h` of a natural number
pub flipped-half : (k : ℕ) → k < 2 ^ 63 → to_z w64 (2 ^ 64 - 1 - k) ≡ negsuc k
flipped-half k h =
    let e : 2 ^ 64 - 1 - k ≡ 2 ^ 64 - suc k = omega arith in
    rw e (to_z-neg w64 k h)
