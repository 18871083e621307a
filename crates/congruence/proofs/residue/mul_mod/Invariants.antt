use mathlib.Core.Path.{◌≡◌}
use Prim.Native.Nat.{◌+◌, ◌*◌, ◌%◌, ◌<◌}
use Rattle.congruence.proofs.residue.mul_mod.Given as goal

abbrev pub invariant-loop-k : goal.invariant-loop-k
invariant-loop-k l = (l.sum < l.n) × (l.x < l.n) × ((l.sum + l.k * l.x) % l.n ≡ l.a * l.b % l.n)

abbrev pub decreases-loop-k : goal.decreases-loop-k
decreases-loop-k l = l.k
