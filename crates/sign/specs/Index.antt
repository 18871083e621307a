-- The place of each sign in the Rust's order, by which the tables are read and the check shows a sign.
use Rattle.std.specs.Prelude.{ℕ}
use Rattle.sign.specs.declared.Sign.{Sign}
use Rattle.sign.specs.declared.Sign.TheVariants.{Top, Bottom, Negative, Zero, Positive, NonNeg, NonZero, NonPos}

abbrev pub index_of : Sign → ℕ
index_of Top = 0
index_of Bottom = 1
index_of Negative = 2
index_of Zero = 3
index_of Positive = 4
index_of NonNeg = 5
index_of NonZero = 6
index_of NonPos = 7
