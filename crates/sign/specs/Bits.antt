-- The three bits of a sign: 4 for the negative side, 2 for 0, 1 for the positive side.
use Rattle.std.specs.Prelude.{Bool, not, ℕ, eqb}
use Rattle.std.specs.Int.Bits.{bit_and}
use Rattle.sign.specs.declared.Sign.{Sign}
use Rattle.sign.specs.declared.Sign.TheVariants.{Top, Bottom, Negative, Zero, Positive, NonNeg, NonZero, NonPos}
use Rattle.sign.specs.Sides.{sign_of}

abbrev pub bits_of : Sign → ℕ
bits_of Top = 7
bits_of Bottom = 0
bits_of Negative = 4
bits_of Zero = 2
bits_of Positive = 1
bits_of NonNeg = 3
bits_of NonZero = 5
bits_of NonPos = 6

-- the sign that has just the sides whose bits are set
abbrev pub set? : ℕ → ℕ → Bool
set? n bit = not (eqb (bit_and n bit) 0)

abbrev pub of_bits : ℕ → Sign
of_bits n = sign_of (set? n 4) (set? n 2) (set? n 1)
