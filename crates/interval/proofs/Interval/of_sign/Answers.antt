use Rattle.interval.specs.Ported.{of_sign}
use Rattle.interval.proofs.Interval.of_sign.Goals as goal

pub returns-in-Top : goal.returns-in-Top
unfolding of_sign
returns-in-Top c = cc

pub returns-in-Bottom : goal.returns-in-Bottom
unfolding of_sign
returns-in-Bottom c = cc

pub returns-in-Negative : goal.returns-in-Negative
unfolding of_sign
returns-in-Negative c = cc

pub returns-in-Zero : goal.returns-in-Zero
unfolding of_sign
returns-in-Zero c = cc

pub returns-in-Positive : goal.returns-in-Positive
unfolding of_sign
returns-in-Positive c = cc

pub returns-in-NonNeg : goal.returns-in-NonNeg
unfolding of_sign
returns-in-NonNeg c = cc

pub returns-in-NonZero : goal.returns-in-NonZero
unfolding of_sign
returns-in-NonZero c = cc

pub returns-in-NonPos : goal.returns-in-NonPos
unfolding of_sign
returns-in-NonPos c = cc
