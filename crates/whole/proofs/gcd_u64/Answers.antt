use mathlib.Core.Path.{◌≡◌, sym, ◌∙◌, subst}
use native.Mathlib.Nat.{mod-lt, pos_of_ne-zero}
use Rattle.whole.specs.Divides.{gcd}
use Rattle.whole.proofs.CommonDivisor.{gcd-step, gcd-n-0}
use Rattle.whole.proofs.gcd_u64.Goals as goal

-- Each step keeps the gcd of the two, and the second falls.

pub loop-y-smaller : goal.loop-y-smaller
loop-y-smaller c = mod-lt c.loop-y.x (pos_of_ne-zero c.loop-y-test.true)

pub loop-y-preserved : goal.loop-y-preserved
loop-y-preserved c = sym (gcd-step c.loop-y.x c.loop-y.y (pos_of_ne-zero c.loop-y-test.true)) ∙ c.loop-y.invariant

pub returns : goal.returns
returns c = sym (gcd-n-0 c.loop-y.x) ∙ subst (λ t. gcd c.loop-y.x t ≡ gcd c.args.a c.args.b) c.loop-y-test.false c.loop-y.invariant
