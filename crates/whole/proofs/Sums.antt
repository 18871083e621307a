-- What the code's sums, differences, negations and products are, for `search`: `results` is handed to it beside `flags`.
use mathlib.Core.Path.{◌≡◌}
use lib.IntN.{ℤ, pos, neg_ℤ, ◌+ℤ◌, ◌-ℤ◌, ◌*ℤ◌, +ℤ_idl}
use mir.Syntax.{Width}
use mir.Val.{SFits, to_z, of_z}
use mir.Facts.{to_z-of_z}

-- ---- a result of two locals is that of the numbers which they hold
module _ {w : Width} (f : ℤ → ℤ → ℤ) (x y : ℤ) where
  read_of : SFits w x → SFits w y → f (to_z w (of_z w x)) (to_z w (of_z w y)) ≡ f x y
  read_of g h = simp (to_z-of_z g, to_z-of_z h)

module _ {w : Width} (x y : ℤ) where
  pub add_read : SFits w x → SFits w y → to_z w (of_z w x) +ℤ to_z w (of_z w y) ≡ x +ℤ y
  add_read = read_of {w = w} ◌+ℤ◌ x y

  pub sub_read : SFits w x → SFits w y → to_z w (of_z w x) -ℤ to_z w (of_z w y) ≡ x -ℤ y
  sub_read = read_of {w = w} ◌-ℤ◌ x y

  pub mul-read : SFits w x → SFits w y → to_z w (of_z w x) *ℤ to_z w (of_z w y) ≡ x *ℤ y
  mul-read = read_of {w = w} ◌*ℤ◌ x y

-- a negation of the code is 0 less the number
pub neg-read : {w : Width} (x : ℤ) → SFits w x → pos 0 -ℤ to_z w (of_z w x) ≡ neg_ℤ x
neg-read x f = simp (to_z-of_z f) (+ℤ_idl (neg_ℤ x))

pub ruleset results = (add_read, sub_read, mul-read, neg-read)
