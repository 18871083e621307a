-- The twins that are right, by the rules of document 01.
use Rattle.std.specs.declared.cmp.Ordering.{Ordering}
use Rattle.std.specs.Prelude.{Option}
use Rattle.sign.specs.declared.Sign.{Sign}
use Rattle.sign.specs.declared.Sign.TheVariants.{Top, Bottom, Negative, Zero, Positive, NonNeg, NonZero, NonPos}
use Rattle.whole.specs.Choice.{pick}
use Rattle.sign.specs.Sides.{filled, ◌inside◌, ◌same◌}
use Rattle.sign.specs.Compared.{weakly}
use Rattle.sign.specs.Ported as ported

unfoldable pub weak_cmp : Sign → Sign → Option Ordering
weak_cmp a b = weakly (ported.sub a b)

-- as ported, with Top for NonZero
abbrev pub top_for_non_zero : Sign → Sign
top_for_non_zero s = pick (s same NonZero) Top s

unfoldable pub div : Sign → Sign → Sign
div a b = top_for_non_zero (ported.div a b)

unfoldable pub logical_not : Sign → Sign
logical_not s = pick (s same Bottom) Bottom (pick (s same Zero) Positive (pick (s same Positive) Zero NonNeg))

-- true if all differences lie in r, false if none does, else both; both too where there is none
abbrev pub judged : Sign → Sign → Sign
judged r d = pick (filled d) (pick (d inside r) Positive (pick (filled (ported.meet d r)) NonNeg Zero)) NonNeg

unfoldable pub equals : Sign → Sign → Sign
equals a b = judged Zero (ported.sub a b)

unfoldable pub less : Sign → Sign → Sign
less a b = judged Negative (ported.sub a b)

unfoldable pub greater : Sign → Sign → Sign
greater a b = judged Positive (ported.sub a b)

unfoldable pub less_or_equal : Sign → Sign → Sign
less_or_equal a b = judged NonPos (ported.sub a b)

unfoldable pub greater_or_equal : Sign → Sign → Sign
greater_or_equal a b = judged NonNeg (ported.sub a b)
