use Prim.Native.Nat.{◌<◌, ◌^◌, ◌/◌, ◌%◌}
use mathlib.Core.Path.{◌≡◌, sym, ◌∙◌}
use native.Mathlib.Omega.{arith}
use lib.Bits.{and_mask}
use mir.Syntax.{w64}
use mir.ValLaws.{to_z_pos}
use borrow.Author.Tests.{eq-eqb, ne_eqb}
use Rattle.whole.proofs.Bits.{flipped-half}
use Rattle.sheet.proofs.signed.unfold.Goals as goal

pub returns-then-n-eq0 : goal.returns-then-n-eq0
returns-then-n-eq0 c =
    let n = c.args.n in
    let h : n / 2 < 2 ^ 63 = omega arith in
    let e : n % 2 ≡ 0 = sym (and_mask n 1) ∙ c.if-n-eq0.true in
    rw (to_z_pos w64 (n / 2) h, eq-eqb (n % 2) 0 e)

pub returns-else-n-eq0 : goal.returns-else-n-eq0
returns-else-n-eq0 c =
    let n = c.args.n in
    let h : n / 2 < 2 ^ 63 = omega arith in
    let e : (n % 2 ≡ 0 → ⊥) = λ z. c.if-n-eq0.false (and_mask n 1 ∙ z) in
    rw (flipped-half (n / 2) h, ne_eqb (n % 2) 0 e)
