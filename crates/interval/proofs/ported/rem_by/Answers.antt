use mathlib.Core.Path.{◌≡◌, refl}
use Rattle.std.specs.declared.cmp.Ordering.TheVariants.{Less, Equal, Greater}
use Rattle.whole.proofs.Flags.{flags}
use Rattle.interval.specs.Ported.{rem_by}
use Rattle.interval.proofs.Calls.{made}
use Rattle.interval.proofs.ported.rem_by.Goals as goal

pub returns-in-Some-Less : goal.returns-in-Some-Less
unfolding rem_by
returns-in-Some-Less c = let e : c.in-Some-Less.field-0 ≡ Less = rw c.in-Some-Less.is at c.in-Some-Less.field-0-is in rw (c.in-Some-Less.is, e) (search (made, flags))

pub returns-in-Some-Equal : goal.returns-in-Some-Equal
unfolding rem_by
returns-in-Some-Equal c = let e : c.in-Some-Equal.field-0 ≡ Equal = rw c.in-Some-Equal.is at c.in-Some-Equal.field-0-is in rw (c.in-Some-Equal.is, e) refl

pub returns-in-Some-Greater : goal.returns-in-Some-Greater
unfolding rem_by
returns-in-Some-Greater c = let e : c.in-Some-Greater.field-0 ≡ Greater = rw c.in-Some-Greater.is at c.in-Some-Greater.field-0-is in rw (c.in-Some-Greater.is, e) (search (made, flags))

pub returns-in-None : goal.returns-in-None
unfolding rem_by
returns-in-None c = rw c.in-None.is (search (made, flags))
