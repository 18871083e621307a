-- The names of signs, and of the four ways in which two values compare.
use Rattle.std.specs.declared.cmp.Ordering.{Ordering}
use Rattle.std.specs.declared.cmp.Ordering.TheVariants.{Equal, Greater, Less}
use Rattle.std.specs.Prelude.{ℕ, List, None, Option, Some}
use Rattle.sign.specs.declared.Sign.{Sign}
use Rattle.sign.specs.declared.Sign.TheVariants.{Top, Bottom, Negative, Zero, Positive, NonNeg, NonZero, NonPos}
use Rattle.text.specs.Ascii.{ascii}

abbrev pub order_name : Option Ordering → List ℕ
order_name (Some Less) = ascii "Less"
order_name (Some Equal) = ascii "Equal"
order_name (Some Greater) = ascii "Greater"
order_name None = ascii "None"

abbrev pub sign_name : Sign → List ℕ
sign_name Top = ascii "Top"
sign_name Bottom = ascii "Bottom"
sign_name Negative = ascii "Negative"
sign_name Zero = ascii "Zero"
sign_name Positive = ascii "Positive"
sign_name NonNeg = ascii "NonNeg"
sign_name NonZero = ascii "NonZero"
sign_name NonPos = ascii "NonPos"
