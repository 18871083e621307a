-- Signs put together from sides: the sign of the sides that pass a test, the sides that an operation reaches, and inclusion.
use Rattle.std.specs.Prelude.{Bool, true, false, ◌&&◌, ◌||◌, not}
use Rattle.sign.specs.declared.Sign.{Sign}
use Rattle.sign.specs.declared.Sign.TheVariants.{Top, Bottom, Negative, Zero, Positive, NonNeg, NonZero, NonPos}
use Rattle.sign.specs.Set.{Side, negative, nought, positive, ◌has◌}

-- the sign by its three sides
abbrev pub sign_of : Bool → Bool → Bool → Sign
sign_of true true true = Top
sign_of true true false = NonPos
sign_of true false true = NonZero
sign_of true false false = Negative
sign_of false true true = NonNeg
sign_of false true false = Zero
sign_of false false true = Positive
sign_of false false false = Bottom

-- the sign that has just the sides which pass
abbrev pub those : (Side → Bool) → Sign
those f = sign_of (f negative) (f nought) (f positive)

-- a side passes; each does
abbrev pub some : (Side → Bool) → Bool
some f = f negative || (f nought || f positive)

abbrev pub each : (Side → Bool) → Bool
each f = f negative && (f nought && f positive)

-- s has a side at all, and t has all that s has
abbrev pub filled : Sign → Bool
filled s = some (λ d. s has d)

infix 5 ◌inside◌
abbrev pub ◌inside◌ : Sign → Sign → Bool
s inside t = each (λ d. not (s has d) || (t has d))

infix 5 ◌same◌
abbrev pub ◌same◌ : Sign → Sign → Bool
s same t = (s inside t) && (t inside s)

-- its own sides and 0, if it has any
abbrev pub with_nought : Sign → Sign
with_nought s = sign_of (s has negative) (filled s) (s has positive)

-- the side of -x, and the sides that x + y and x * y can have
abbrev pub opposite : Side → Side
opposite negative = positive
opposite nought = nought
opposite positive = negative

abbrev pub sum : Side → Side → Sign
sum negative negative = Negative
sum negative nought = Negative
sum negative positive = Top
sum nought negative = Negative
sum nought nought = Zero
sum nought positive = Positive
sum positive negative = Top
sum positive nought = Positive
sum positive positive = Positive

abbrev pub product : Side → Side → Sign
product negative negative = Positive
product negative nought = Zero
product negative positive = Negative
product nought q = Zero
product positive negative = Negative
product positive nought = Zero
product positive positive = Positive

-- the sides that some number of a and some number of b reach
abbrev pub reached : (Side → Side → Sign) → Sign → Sign → Sign
reached f a b = those (λ d. some (λ p. some (λ q. (a has p) && ((b has q) && (f p q has d)))))
