use Prim.Native.Nat.{◌<◌, ◌*◌, ◌^◌}
use native.Mathlib.Omega.{arith}
use native.Mathlib.Nat.{mod-eq_of_lt}
use lib.Bits.{or_shifted}
use mir.Syntax.{w64}
use mir.ValLaws.{to_z_pos}
use Rattle.whole.proofs.Bits.{Negative, Natural, negative, natural, flipped}
use Rattle.sheet.proofs.signed.fold.Goals as goal
use Rattle.sheet.proofs.signed.fold.Goals.{Else-n-lt0, Then-n-lt0}

minus : (c : Then-n-lt0) → Negative c.args.n
minus c = negative c.args.n c.ranges.n c.if-n-lt0.true

plus : (c : Else-n-lt0) → Natural c.args.n
plus c = natural c.args.n c.ranges.n c.if-n-lt0.false

pub overflow_cast-result : goal.overflow_cast-result
overflow_cast-result c =
    let q = minus c in
    rw (q.is, flipped q.k q.fits) (tt, record { fits = omega (arith, q.fits) })

pub overflow_cast-result-else-n-lt0 : goal.overflow_cast-result-else-n-lt0
overflow_cast-result-else-n-lt0 c =
    let q = plus c in
    rw (q.is, to_z_pos w64 q.k q.fits) (tt, record { fits = omega (arith, q.fits) })

pub returns-then-n-lt0 : goal.returns-then-n-lt0
returns-then-n-lt0 c =
    let q = minus c in
    let s : q.k * 2 < 2 ^ 64 = omega (arith, q.fits) in
    rw (q.is, flipped q.k q.fits, mod-eq_of_lt {n = q.k * 2} {m = 2 ^ 64} s) (or_shifted q.k 1 1 (omega arith))

pub returns-else-n-lt0 : goal.returns-else-n-lt0
returns-else-n-lt0 c =
    let q = plus c in
    let s : q.k * 2 < 2 ^ 64 = omega (arith, q.fits) in
    rw (q.is, to_z_pos w64 q.k q.fits) (mod-eq_of_lt {n = q.k * 2} {m = 2 ^ 64} s)
