-- How the numbers of two signs compare, read off the sign of their differences x - y: x < y just if it is negative, and so on.
use Rattle.std.specs.declared.cmp.Ordering.{Ordering}
use Rattle.std.specs.Prelude.{None, Option, Some}
use Rattle.std.specs.declared.cmp.Ordering.TheVariants.{Equal, Greater, Less}
use Rattle.whole.specs.Choice.{pick}
use Rattle.sign.specs.declared.Sign.{Sign}
use Rattle.sign.specs.declared.Sign.TheVariants.{Negative, Zero, Positive, NonNeg, NonPos}
use Rattle.sign.specs.Sides.{filled, ◌inside◌}

-- all are less, all equal or all greater
abbrev pub strictly : Sign → Option Ordering
strictly d = pick (filled d) (pick (d inside Negative) (Some Less) (pick (d inside Zero) (Some Equal) (pick (d inside Positive) (Some Greater) None))) None

-- the same, with equal numbers let in
abbrev pub weakly : Sign → Option Ordering
weakly d = pick (filled d) (pick (d inside Zero) (Some Equal) (pick (d inside NonPos) (Some Less) (pick (d inside NonNeg) (Some Greater) None))) None
