use mathlib.Core.Path.{refl}
use mir.Syntax.{w64}
use mir.ValLaws.{to_z-of_z}
use Rattle.whole.specs.Sized.{width_of}
use Rattle.text.proofs.Ends.{at-greatest, at_least, between}
use Rattle.text.proofs.end.put_end.Goals as goal

pub returns-then-n-greatest : goal.returns-then-n-greatest
returns-then-n-greatest c =
    rw (at-greatest (width_of c.args.size) c.args.n _ _ c.greatest.ensures refl c.ranges.n (record { sfits = c.greatest.type_inv }) c.if-n-greatest.true) c.put_word.ensures

pub returns-then-n-least : goal.returns-then-n-least
returns-then-n-least c =
    rw (at_least (width_of c.args.size) c.args.n _ _ c.greatest.ensures c.least.ensures c.if-n-greatest.false c.ranges.n (record { sfits = c.least.type_inv }) c.if-n-least.true) c.put_word-then-n-least.ensures

pub returns : goal.returns
returns c =
    rw (between (width_of c.args.size) c.args.n _ _ c.greatest.ensures c.least.ensures c.if-n-greatest.false c.if-n-least.false) (rw (to_z-of_z w64 c.args.n c.ranges.n) at c.put_number.ensures)
