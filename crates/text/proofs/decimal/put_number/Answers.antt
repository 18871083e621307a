use Prim.Native.Nat.{ℕ}
use mathlib.Core.Path.{◌≡◌, sym, ap, ◌∙◌}
use mathlib.Core.List.{◌∷◌}
use lib.IntN.{ℤ, nat_abs}
use mir.Syntax.{w64}
use mir.Val.{SFits, to_z, of_z}
use mir.ValLaws.{to_z-of_z}
use Rattle.text.specs.Decimal.{digits, decimal}
use Rattle.whole.proofs.Bits.{Negative, Natural, negative, natural}
use Rattle.text.proofs.Room.{length-plus, length-minus}
use Rattle.text.proofs.decimal.put_number.Goals as goal

-- a number by its sign
module _ (z : ℤ) (f : SFits w64 z) (m : ℕ) (e : m ≡ nat_abs (to_z w64 (of_z w64 z))) where
  same : nat_abs z ≡ m
  same = sym (e ∙ ap nat_abs (to_z-of_z w64 z f))

  below : Negative z → decimal z ≡ 45 ∷ digits m
  below q = rw (← same) (length-minus z q.k q.is)

  above : Natural z → decimal z ≡ digits m
  above q = rw (← same) (length-plus z q.k q.is)

pub returns-then-n-lt0 : goal.returns-then-n-lt0
returns-then-n-lt0 c =
    let a = c.args in
    let q = below a.n c.ranges.n c.magnitude-m.result c.magnitude-m.ensures (negative a.n c.ranges.n c.if-n-lt0.true) in
    rw q c.put_below.ensures

pub returns-else-n-lt0 : goal.returns-else-n-lt0
returns-else-n-lt0 c =
    let a = c.args in
    let q = above a.n c.ranges.n c.magnitude-m.result c.magnitude-m.ensures (natural a.n c.ranges.n c.if-n-lt0.false) in
    rw q c.put_natural.ensures
