use mathlib.Core.Path.{refl, ap}
use mathlib.Core.Bool.{true}
use lib.IntN.{pos}
use mir.Syntax.{w64}
use Rattle.std.specs.Prelude.{Ok}
use Rattle.whole.proofs.Flags.{eq_is}
use Rattle.step.proofs.Calls.{bit-flag, one-fits}
use Rattle.step.proofs.run.logical.Goals as goal

pub returns-then-is_bit : goal.returns-then-is_bit
returns-then-is_bit c = let f = c.ranges.x in rw (bit-flag c.args.x _ true c.is_bit.ensures c.if-is_bit.true f) (ap Ok (eq_is {w = w64} c.args.x (pos 1) _ _ refl refl f one-fits))
