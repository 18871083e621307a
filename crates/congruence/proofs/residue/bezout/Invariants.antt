use mathlib.Core.Path.{◌≡◌}
use Prim.Native.Nat.{◌<◌}
use lib.IntN.{pos, ◌*ℤ◌}
use Rattle.whole.specs.Divides.{gcd, Cong}
use Rattle.congruence.proofs.residue.bezout.Given as goal

abbrev pub invariant-loop-y : goal.invariant-loop-y
invariant-loop-y l = (l.s < l.n) × (l.t < l.n) × (gcd l.x l.y ≡ gcd l.a l.n) × Cong l.n (pos l.s *ℤ pos l.a) (pos l.x) × Cong l.n (pos l.t *ℤ pos l.a) (pos l.y)

abbrev pub decreases-loop-y : goal.decreases-loop-y
decreases-loop-y l = l.y
