use Rattle.whole.proofs.Flags.{flags}
use Rattle.interval.proofs.PortedCalls.{up}
use Rattle.interval.proofs.ported.rem_up_to.Goals as goal

pub weak_cmp-requires : goal.weak_cmp-requires
weak_cmp-requires c = search (up, flags) depth 8 fits 5000

pub overflow_sub-m : goal.overflow_sub-m
overflow_sub-m c = search (up, flags) depth 8 fits 5000

pub overflow_add-m : goal.overflow_add-m
overflow_add-m c = search (up, flags) depth 8 fits 5000

pub overflow_sub-m-2 : goal.overflow_sub-m-2
overflow_sub-m-2 c = search (up, flags) depth 8 fits 5000

pub rem_by-requires : goal.rem_by-requires
rem_by-requires c = search (up, flags) depth 8 fits 5000

pub returns : goal.returns
returns c = search (up, flags) depth 8 fits 5000
