use Rattle.congruence.proofs.Calls.{only-call}
use Rattle.congruence.proofs.Values.{only-told, values}
use Rattle.congruence.specs.Ported.{one_number}
use Rattle.congruence.proofs.ported.one_number.Goals as goal
use Rattle.congruence.proofs.ported.one_number.Goals.{else-a-eq0-via-then-a-eq0+else-only, else-a-eq0-via-else-a-eq0}

pub returns-then-only : goal.returns-then-only
unfolding one_number
returns-then-only c = search (only-told, only-call, values) depth 8 fits 5000

pub returns-else-a-eq0 : goal.returns-else-a-eq0
unfolding one_number
returns-else-a-eq0 c = elim c.else-a-eq0.branch [
  | else-a-eq0-via-then-a-eq0+else-only w ↦ search (only-told, only-call, values) depth 8 fits 5000
  | else-a-eq0-via-else-a-eq0 w ↦ search (w.if-a-eq0.false, only-told, only-call, values) depth 8 fits 5000
]
