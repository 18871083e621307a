-- SFits w z is MIN ≤ z ≤ MAX, at every width; and the rules by which `omega` proves SFits itself, from `range` of those that it needs.
use Prim.Native.Nat.{ℕ, suc, ◌+◌, ◌^◌, ◌≤◌, max}
use mathlib.Core.Logic.{◌↔◌}
use lib.Pow.{pow_pos}
use lib.IntN.{ℤ, pos, negsuc, neg_ℤ, ◌+ℤ◌, ◌-ℤ◌}
use lib.Signed.{◌≤ℤ◌}
use mir.Syntax.{Width}
use mir.Val.{SFits, hbits}
use Rattle.whole.specs.Whole.{up, dn}
use Rattle.whole.specs.Range.{least, greatest}
use Rattle.whole.proofs.Linear.{ints, sum, sub, neg}
use Rattle.whole.proofs.Shapes.{lin}

-- what a number that fits says of its parts. (No rule of a set: a rule has one statement, which would be a `max`, and each splits the proof)
pub range : {w : Width} {z : ℤ} → SFits w z → (suc (up z) ≤ 2 ^ hbits w + dn z) × (dn z ≤ 2 ^ hbits w + up z)
range {w} {z = pos k} h = omega ints
range {w} {z = negsuc k} h = omega ints

-- u − d fits
abbrev pub Between : ℕ → ℕ → Width → Type 0
Between u d w = max (suc (u + u)) (d + d) ≤ 2 ^ hbits w + (u + d)

pub to-fits : (w : Width) (z : ℤ) → Between (up z) (dn z) w → SFits w z
to-fits w (pos k) h = record { sfits = omega ints }
to-fits w (negsuc k) h = record { sfits = omega ints }

pub to-fits-sum : (w : Width) (x y : ℤ) → Between (up x + up y) (dn x + dn y) w → SFits w (x +ℤ y)
to-fits-sum w x y h = to-fits w (x +ℤ y) (omega (ints, sum x y))

pub to-fits-sub : (w : Width) (x y : ℤ) → Between (up x + dn y) (dn x + up y) w → SFits w (x -ℤ y)
to-fits-sub w x y h = to-fits w (x -ℤ y) (omega (ints, sub x y))

pub to-fits-neg : (w : Width) (x : ℤ) → Between (dn x) (up x) w → SFits w (neg_ℤ x)
to-fits-neg w x h = to-fits w (neg_ℤ x) (omega (ints, neg x))

-- `omega (machine, range p)` proves SFits w (x +ℤ y) from p : SFits w z and what else is known of x, y and z
pub ruleset machine = (to-fits-sub, to-fits-sum, to-fits-neg, to-fits, lin)

-- ---- the ends

module _ (w : Width) where
  pub low : (z : ℤ) → SFits w z → least w ≤ℤ z
  low z h = omega (ints, range h)

  pub high : (z : ℤ) → SFits w z → z ≤ℤ greatest w
  high z h = omega (ints, range h)

  pub fits : (z : ℤ) → least w ≤ℤ z → z ≤ℤ greatest w → SFits w z
  fits z h k = omega (machine, pow_pos (hbits w))

  pub fits_iff : (z : ℤ) → SFits w z ↔ ((least w ≤ℤ z) × (z ≤ℤ greatest w))
  fits_iff z = (λ h. (low z h, high z h), λ p. fits z p.0 p.1)

  -- what lies between two numbers that fit
  pub fits-between : (a z b : ℤ) → SFits w a → SFits w b → a ≤ℤ z → z ≤ℤ b → SFits w z
  fits-between a z b p q h k = omega (machine, range p, range q)

pub zero-fits : {w : Width} → SFits w (pos 0)
zero-fits {w} = record { sfits = pow_pos (hbits w) }

-- -1 and the least number
pub ones-fits : {w : Width} → SFits w (negsuc 0)
ones-fits {w} = record { sfits = pow_pos (hbits w) }

pub least_fits : (w : Width) → SFits w (least w)
least_fits w = omega (machine, pow_pos (hbits w))

pub greatest-fits : (w : Width) → SFits w (greatest w)
greatest-fits w = omega (machine, pow_pos (hbits w))
