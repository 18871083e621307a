-- The remainder's range: it covers, and its ends fit.
use mathlib.Core.Path.{◌≡◌}
use mathlib.Core.Logic.{◌≢◌, ◌⊎◌, inl, inr}
use lib.Pow.{pow_pos}
use lib.IntN.{ℤ, pos, negsuc, neg_ℤ, ◌+ℤ◌, ◌-ℤ◌}
use lib.Signed.{◌≤ℤ◌, rem_z}
use mir.Syntax.{Width, w8, w16, w32, w64, w128}
use mir.Val.{hbits}
use Rattle.whole.specs.Range.{least, greatest}
use Rattle.whole.proofs.Linear.{ints, abs, from-≢}
use Rattle.whole.proofs.Linear as L
use Rattle.whole.proofs.Shapes.{lin}
use Rattle.whole.proofs.Divide.{rem-small, rem-nonneg, rem-nonpos}
use Rattle.interval.specs.Set.{Interval, ◌∈◌, Proper}
use Rattle.interval.specs.Mended.{magnitude, rem_within, rem_range}
use Rattle.whole.proofs.Decides.{branch, le_test}
use Rattle.interval.proofs.Test.{only-test}

module _ {a b : Interval} {x d : ℤ} (p : x ∈ a) (q : d ∈ b) (nz : d ≢ pos 0) where
  -- a remainder is smaller than the greatest magnitude
  within : ((pos 1 -ℤ magnitude b) ≤ℤ rem_z x d) × (rem_z x d ≤ℤ (magnitude b -ℤ pos 1))
  within =
      let s = rem-small x d nz in
      omega (lin, s, abs (rem_z x d), abs d, L.greatest (neg_ℤ b.min) b.max, L.neg b.min)

  pub rem-covers : rem_z x d ∈ rem_range a (magnitude b)
  unfolding rem_within
  rem-covers =
      branch (only-test a (pos 0)) P (λ h. record { low = rem-nonneg x d (omega ints); high = rem-nonpos x d (omega ints) }) λ _.
      branch (le_test (pos 0) a.min) P (λ h. record { low = rem-nonneg x d (omega ints); high = within.1 }) λ _.
      branch (le_test a.max (pos 0)) P (λ h. record { low = within.0; high = rem-nonpos x d (omega ints) }) λ _.
      record { low = within.0; high = within.1 }
    where
      P : Interval → Type 0
      P v = rem_z x d ∈ v

pub proper : {w : Width} {v : Interval} → v.min ≤ℤ v.max → least w ≤ℤ v.min → v.max ≤ℤ greatest w → Proper w v
proper h k l = record { ordered = h; above = k; below = l }

pub mirror : (w : Width) → neg_ℤ (least w) ≡ greatest w +ℤ pos 1
mirror w = omega (lin, pow_pos (hbits w))

pub signs : (w : Width) → (least w ≤ℤ negsuc 0) × (pos 0 ≤ℤ greatest w)
signs w = omega ints

-- 1 fits every width
pub one-fits : (w : Width) → pos 1 ≤ℤ greatest w
one-fits w8 = omega ints
one-fits w16 = omega ints
one-fits w32 = omega ints
one-fits w64 = omega ints
one-fits w128 = omega ints

-- the greatest magnitude is from 1 to MAX + 1
module _ {w : Width} (a : Interval) {b : Interval} (q : Proper w b) (nz : (b.min ≢ pos 0) ⊎ (b.max ≢ pos 0)) where
  size : (pos 1 ≤ℤ magnitude b) × (magnitude b ≤ℤ (greatest w +ℤ pos 1))
  size = elim nz [
    | inl h ↦ omega (lin, from-≢ h, mirror w, L.greatest (neg_ℤ b.min) b.max, L.neg b.min)
    | inr h ↦ omega (lin, from-≢ h, mirror w, L.greatest (neg_ℤ b.min) b.max, L.neg b.min)
  ]

  pub rem-proper : Proper w (rem_range a (magnitude b))
  unfolding rem_within
  rem-proper =
      branch (only-test a (pos 0)) (Proper w) (λ _. proper (omega lin) (omega (lin, signs w)) (omega (lin, signs w))) λ _.
      branch (le_test (pos 0) a.min) (Proper w) (λ _. proper (omega (lin, size)) (omega (lin, signs w)) (omega (lin, size))) λ _.
      branch (le_test a.max (pos 0)) (Proper w) (λ _. proper (omega (lin, size)) (omega (lin, size, mirror w)) (omega (lin, signs w))) λ _.
      proper (omega (lin, size)) (omega (lin, size, mirror w)) (omega (lin, size))
