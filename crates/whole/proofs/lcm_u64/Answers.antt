use mathlib.Core.Path.{sym, ap, ◌∙◌}
use Prim.Native.Nat.{◌*◌, ◌/◌}
use native.Mathlib.Omega.{arith}
use lib.IntN.{pos}
use mir.Syntax.{w64}
use Rattle.whole.specs.Exact.{exactly}
use Rattle.whole.proofs.CommonDivisor.{lcm-zero, lcm-is}
use Rattle.whole.proofs.Products.{natural-fits, natural-over}
use Rattle.whole.proofs.lcm_u64.Goals as goal

-- The product a / g * b is the lcm.

pub returns-then-g-eq0 : goal.returns-then-g-eq0
unfolding exactly
returns-then-g-eq0 c =
    rw (lcm-zero c.args.a c.args.b (sym c.gcd_u64-g.ensures ∙ c.if-g-eq0.true), natural-fits w64 0 (omega arith))

pub returns-in_err-checked_mul : goal.returns-in_err-checked_mul
unfolding exactly
returns-in_err-checked_mul c =
    let n = c.args.a / c.gcd_u64-g.result * c.args.b in
    let h = rw c.in_err-checked_mul.was at c.checked_mul.ensures in
    rw (c.from_residual.ensures, sym (lcm-is c.args.a c.args.b c.gcd_u64-g.result c.gcd_u64-g.ensures), natural-over w64 n (omega arith))

pub returns : goal.returns
returns c =
    let h = rw c.in_ok-checked_mul.was at c.checked_mul.ensures in
    c.exact_of.ensures ∙ ap (λ m. exactly w64 (pos m)) (h.1 ∙ lcm-is c.args.a c.args.b c.gcd_u64-g.result c.gcd_u64-g.ensures)
