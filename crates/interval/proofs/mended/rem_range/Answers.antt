use Rattle.whole.proofs.Flags.{flags}
use Rattle.interval.proofs.Calls.{asked}
use Rattle.interval.proofs.Remainder.{remains}
use Rattle.interval.proofs.mended.rem_range.Goals as goal

pub reach-high-requires : goal.reach-high-requires
reach-high-requires c = search (remains, asked, flags) depth 8 fits 5000

pub overflow_sub-high : goal.overflow_sub-high
overflow_sub-high c = search (remains, asked, flags) depth 8 fits 5000

pub remainders-requires : goal.remainders-requires
remainders-requires c = search (remains, asked, flags) depth 8 fits 5000

pub returns : goal.returns
returns c = search (remains, flags) depth 8 fits 5000
