use Rattle.interval.specs.Mended.{rem}
use Rattle.interval.proofs.Calls.{asked}
use Rattle.interval.proofs.Remainder.{empty-strict, strict-called}
use Rattle.interval.proofs.mended.rem.Goals as goal

pub returns-then-is_empty : goal.returns-then-is_empty
unfolding rem
returns-then-is_empty c = search (empty-strict, asked)

pub rem_of-requires : goal.rem_of-requires
rem_of-requires c = search asked

pub returns : goal.returns
unfolding rem
returns c = search (strict-called, asked)
