use mathlib.Core.Path.{refl, sym}
use Rattle.interval.specs.Ported.{equal_by}
use Rattle.interval.proofs.ported.equals.Goals as goal

pub returns-in-Some-Less : goal.returns-in-Some-Less
unfolding equal_by
returns-in-Some-Less c = rw (sym c.in-Some-Less.ensures, c.in-Some-Less.field-0-is) refl

pub returns-in-Some-Equal : goal.returns-in-Some-Equal
unfolding equal_by
returns-in-Some-Equal c = rw (sym c.in-Some-Equal.ensures, c.in-Some-Equal.field-0-is) refl

pub returns-in-Some-Greater : goal.returns-in-Some-Greater
unfolding equal_by
returns-in-Some-Greater c = rw (sym c.in-Some-Greater.ensures, c.in-Some-Greater.field-0-is) refl

pub returns-in-None : goal.returns-in-None
unfolding equal_by
returns-in-None c = rw (sym c.in-None.ensures) refl
