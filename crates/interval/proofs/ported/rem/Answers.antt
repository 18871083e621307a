use Rattle.whole.specs.declared.Size.TheVariants.{B64}
use Rattle.whole.proofs.Flags.{flags}
use Rattle.interval.specs.Ported.{rem}
use Rattle.interval.proofs.Remainder.{single-called}
use Rattle.interval.proofs.Calls.{asked}
use Rattle.interval.proofs.ported.rem.Goals as goal

pub returns-then-rem_nothing : goal.returns-then-rem_nothing
unfolding rem
returns-then-rem_nothing c = search (asked, flags) depth 8 fits 5000

pub returns-then-both_single : goal.returns-then-both_single
unfolding rem
returns-then-both_single c = search (single-called B64, asked, flags) depth 8 fits 5000

pub returns : goal.returns
unfolding rem
returns c = search (asked, flags) depth 8 fits 5000
