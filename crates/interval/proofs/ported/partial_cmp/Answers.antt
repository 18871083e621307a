use Rattle.whole.proofs.Flags.{told, flags}
use Rattle.interval.specs.Ported.{partial_cmp}
use Rattle.interval.proofs.PortedCalls.{same-told}
use Rattle.interval.proofs.ported.partial_cmp.Goals as goal

pub returns-then-eq : goal.returns-then-eq
unfolding partial_cmp
returns-then-eq c = search (same-told, told, flags)

pub returns-then-around : goal.returns-then-around
unfolding partial_cmp
returns-then-around c = search (same-told, told, flags)

pub returns-then-around-2 : goal.returns-then-around-2
unfolding partial_cmp
returns-then-around-2 c = search (same-told, told, flags)

pub returns : goal.returns
unfolding partial_cmp
returns c = search (same-told, told, flags)
