use Rattle.whole.proofs.Flags.{flags}
use Rattle.interval.specs.Mended.{narrowed}
use Rattle.interval.proofs.Calls.{asked, made, end-called}
use Rattle.interval.proofs.narrowed.Goals.{then-is_bottom-via-then-is_bottom, then-is_bottom-via-else-is_bottom+then-is_bottom-2}
use Rattle.interval.proofs.narrowed.Goals as goal

pub returns-then-is_bottom : goal.returns-then-is_bottom
unfolding narrowed
returns-then-is_bottom c = elim c.then-is_bottom.branch [ then-is_bottom-via-then-is_bottom w ↦ search (asked, flags) depth 8 fits 5000 | then-is_bottom-via-else-is_bottom+then-is_bottom-2 w ↦ search (asked, flags) depth 8 fits 5000 ]

pub returns : goal.returns
unfolding narrowed
returns c = search (made, end-called, asked, flags) depth 8 fits 5000
