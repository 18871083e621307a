use mathlib.Core.Path.{sym, ◌∙◌}
use borrow.Author.Tests.{eq-eqb}
use Rattle.congruence.proofs.Values.{values}
use Rattle.congruence.specs.Ported.{held}
use Rattle.congruence.proofs.held.Goals as goal
use Rattle.congruence.proofs.held.Goals.{then-m-eq0, else-m-eq0}

pub returns-then-c-m : goal.returns-then-c-m
unfolding held
returns-then-c-m c = elim c.if-m-eq0.branch [
  | then-m-eq0 w ↦ search values depth 8
  | else-m-eq0 w ↦ let h = sym w.value-is ∙ c.if-c-m.true in search (w.if-m-eq0.false, values) depth 8
]

pub returns-else-c-m : goal.returns-else-c-m
unfolding held
returns-else-c-m c = elim c.if-m-eq0.branch [
  | then-m-eq0 w ↦ let h = eq-eqb _ _ w.if-m-eq0.true in cc
  | else-m-eq0 w ↦ let h = sym w.value-is ∙ c.if-c-m.false in search (w.if-m-eq0.false, values) depth 8
]
