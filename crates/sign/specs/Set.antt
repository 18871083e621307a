-- What a sign stands for: the eight signs are the eight subsets of {negative, zero, positive}.
use Rattle.std.specs.Prelude.{◌≡◌, Bool, true, false, zero, suc, ℤ, pos, negsuc}
use Rattle.sign.specs.declared.Sign.{Sign}
use Rattle.sign.specs.declared.Sign.TheVariants.{Top, Bottom, Negative, Zero, Positive, NonNeg, NonZero, NonPos}

-- where a number lies from 0
pub data Side : Type 0 where
  negative nought positive : Side

abbrev pub side_of : ℤ → Side
side_of (negsuc k) = negative
side_of (pos zero) = nought
side_of (pos (suc k)) = positive

-- the sign as a subset of the three sides
infix 5 ◌has◌
abbrev pub ◌has◌ : Sign → Side → Bool
Top has d = true
Bottom has d = false
Negative has negative = true
Negative has nought = false
Negative has positive = false
Zero has negative = false
Zero has nought = true
Zero has positive = false
Positive has negative = false
Positive has nought = false
Positive has positive = true
NonNeg has negative = false
NonNeg has nought = true
NonNeg has positive = true
NonZero has negative = true
NonZero has nought = false
NonZero has positive = true
NonPos has negative = true
NonPos has nought = true
NonPos has positive = false

-- x is one of the numbers that s stands for
infix 4 ◌∈◌
pub record ◌∈◌ (x : ℤ) (s : Sign) : Type 0 where
  pub is : (s has side_of x) ≡ true

-- every number, and no number
abbrev pub top : Sign
top = Top

abbrev pub bottom : Sign
bottom = Bottom

-- the one sign that has just these sides
pub record Subset (f : Side → Bool) : Type 0 where
  pub sign : Sign
  pub sides : (d : Side) → (sign has d) ≡ f d
  pub only : (s : Sign) → ((d : Side) → (s has d) ≡ f d) → s ≡ sign
