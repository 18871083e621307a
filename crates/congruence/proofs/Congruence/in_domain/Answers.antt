use mathlib.Core.Path.{sym, ◌∙◌}
use borrow.Author.Tests.{eq-eqb}
use Rattle.congruence.proofs.Values.{values}
use Rattle.congruence.specs.Set.{domain?}
use Rattle.congruence.proofs.Congruence.in_domain.Goals as goal
use Rattle.congruence.proofs.Congruence.in_domain.Goals.{then-self-eq0, else-self-eq0+then-self-gt0, else-self-eq0+else-self-gt0}

pub returns-then-self : goal.returns-then-self
unfolding domain?
returns-then-self c = elim c.if-self-eq0.branch [
  | then-self-eq0 w ↦ search values
  | else-self-eq0+then-self-gt0 w ↦ let h = sym w.value-is ∙ c.if-self.true in search (w.if-self-eq0.false, values) depth 8
  | else-self-eq0+else-self-gt0 w ↦ cc
]

pub returns-else-self : goal.returns-else-self
unfolding domain?
returns-else-self c = elim c.if-self-eq0.branch [
  | then-self-eq0 w ↦ let h = eq-eqb _ _ w.if-self-eq0.true in cc
  | else-self-eq0+then-self-gt0 w ↦ let h = sym w.value-is ∙ c.if-self.false in search (w.if-self-eq0.false, values) depth 8
  | else-self-eq0+else-self-gt0 w ↦ search (w.if-self-eq0.false, values) depth 8
]
