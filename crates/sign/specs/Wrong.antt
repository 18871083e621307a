-- The pairs of signs that document 01 names where the Rust is wrong, by its numbers 1 to 3.
use Rattle.std.specs.Prelude.{◌≢◌, Bool, false, ◌&&◌, ◌||◌, List, [], ◌∷◌, ℤ, pos}
use Rattle.std.specs.Int.Signed.{quot_z}
use Rattle.sign.specs.declared.Sign.{Sign}
use Rattle.sign.specs.declared.Sign.TheVariants.{Negative, Zero, Positive, NonNeg, NonZero, NonPos}
use Rattle.sign.specs.Set.{◌∈◌}
use Rattle.sign.specs.Sides.{◌same◌}

abbrev pub Pairs : Type 0
Pairs = List (Sign × Sign)

abbrev pub listed : Pairs → Sign → Sign → Bool
listed [] a b = false
listed (p ∷ ps) a b = ((a same p.0) && (b same p.1)) || listed ps a b

-- 1: the weak comparison's two cells
abbrev pub exchanged : Pairs
exchanged = (Zero, NonNeg) ∷ (Zero, NonPos) ∷ []

-- 2: the five quotients
abbrev pub missing0 : Pairs
missing0 = (Negative, NonZero) ∷ (Positive, NonZero) ∷ (NonZero, Negative) ∷ (NonZero, Positive) ∷ (NonZero, NonZero) ∷ []

-- 3: the six ordered pairs of two different signs among NonNeg, NonZero, NonPos
abbrev pub overlapping : Pairs
overlapping = (NonNeg, NonZero) ∷ (NonNeg, NonPos) ∷ (NonZero, NonNeg) ∷ (NonZero, NonPos) ∷ (NonPos, NonNeg) ∷ (NonPos, NonZero) ∷ []

-- a number of both
pub record Shared (a b : Sign) : Type 0 where
  pub number : ℤ
  pub in_left : number ∈ a
  pub in_right : number ∈ b

-- a quotient by a number that isn't 0, of numbers of a and b, that s hasn't
pub record Missed (a b s : Sign) : Type 0 where
  pub dividend : ℤ
  pub divisor : ℤ
  pub in_left : dividend ∈ a
  pub in_right : divisor ∈ b
  pub not-0 : divisor ≢ pos 0
  pub misses : quot_z dividend divisor ∈ s → ⊥
