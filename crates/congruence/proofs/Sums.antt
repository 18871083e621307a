-- A sum and a difference modulo m, of two floored remainders: nothing on the way is beyond m.
use mathlib.Core.Path.{◌≡◌, sym, subst}
use mathlib.Core.Logic.{◌≢◌}
use native.Mathlib.Omega.{arith}
use lib.IntN.{ℤ, pos, neg_ℤ, nat_abs, ◌+ℤ◌, ◌-ℤ◌}
use lib.Signed.{◌≤ℤ◌, ◌<ℤ◌}
use mir.Syntax.{Width}
use mir.Val.{SFits}
use Rattle.whole.specs.Divides.{Cong, floor_rem}
use Rattle.whole.proofs.Linear.{ints, wholes, read, abs, sub}
use Rattle.whole.proofs.Shapes.{lin}
use Rattle.whole.proofs.Fits.{machine, range}
use Rattle.whole.proofs.Divides.{∣-refl, ∣--}
use Rattle.whole.proofs.Congruence.{∣-at, Cong-+, Cong-neg, Cong-trans}
use Rattle.whole.proofs.Floor.{floor-low, floor-high, floor-class, floor-only}

module _ (x y m : ℤ) (h : pos 0 <ℤ m) where
  abbrev a : ℤ
  a = floor_rem x m

  abbrev b : ℤ
  b = floor_rem y m

  nz : m ≢ pos 0
  nz = omega ints

  own : pos (nat_abs m) ≡ m
  own = omega (ints, abs m)

  pub low-a : pos 0 ≤ℤ a
  low-a = floor-low x m nz

  pub high-a : a <ℤ m
  high-a = subst (λ t. floor_rem x m <ℤ t) own (floor-high x m nz)

  pub low-b : pos 0 ≤ℤ b
  low-b = floor-low y m nz

  pub high-b : b <ℤ m
  high-b = subst (λ t. floor_rem y m <ℤ t) own (floor-high y m nz)

  together : Cong (nat_abs m) (a +ℤ b) (x +ℤ y)
  together = Cong-+ a x b y (floor-class x m) (floor-class y m)

  apart : Cong (nat_abs m) (a -ℤ b) (x -ℤ y)
  apart = Cong-+ a x (neg_ℤ b) (neg_ℤ y) (floor-class x m) (Cong-neg b y (floor-class y m))

  -- by one m less or more
  less : (z : ℤ) → Cong (nat_abs m) (z -ℤ m) z
  less z = ∣-at (z -ℤ m -ℤ z) (off z m (pos (nat_abs m)) own) (∣-- (∣-at (pos 0) (none (pos (nat_abs m))) (∣-- (∣-refl (pos (nat_abs m))) (∣-refl (pos (nat_abs m))))) (∣-refl (pos (nat_abs m))))
    where
      none : (k : ℤ) → k -ℤ k ≡ pos 0
      none k = rw (read k) (simp wholes (omega arith))

      off : (z m k : ℤ) → k ≡ m → pos 0 -ℤ k ≡ z -ℤ m -ℤ z
      off z m k e = subst (λ t. pos 0 -ℤ k ≡ z -ℤ t -ℤ z) e (flat z k)
        where
          flat : (z k : ℤ) → pos 0 -ℤ k ≡ z -ℤ k -ℤ z
          flat z k = rw (read z, read k) (simp wholes (omega arith))

  more : (z : ℤ) → Cong (nat_abs m) (z +ℤ m) z
  more z = ∣-at (z +ℤ m -ℤ z) (off z m (pos (nat_abs m)) own) (∣-refl (pos (nat_abs m)))
    where
      off : (z m k : ℤ) → k ≡ m → k ≡ z +ℤ m -ℤ z
      off z m k e = subst (λ t. k ≡ z +ℤ t -ℤ z) e (flat z k)
        where
          flat : (z k : ℤ) → k ≡ z +ℤ k -ℤ z
          flat z k = rw (read z, read k) (simp wholes (omega arith))

  module _ {w : Width} (f : SFits w m) where
    pub room : SFits w (m -ℤ b)
    room = omega (machine, range f, low-b, high-b)

    pub sum_fits : a <ℤ (m -ℤ b) → SFits w (a +ℤ b)
    sum_fits k = omega (machine, range f, low-a, low-b)

    pub wrapped-fits : (m -ℤ b) ≤ℤ a → SFits w (a -ℤ (m -ℤ b))
    wrapped-fits k = omega (machine, range f, high-a, low-a, low-b, high-b, sub m b)

    pub difference-fits : b ≤ℤ a → SFits w (a -ℤ b)
    difference-fits k = omega (machine, range f, high-a, low-b)

    pub turned-fits : a <ℤ b → SFits w (a +ℤ (m -ℤ b))
    turned-fits k = omega (machine, range f, low-a, high-b, low-b, sub m b)

  pub sum_is : a <ℤ (m -ℤ b) → a +ℤ b ≡ floor_rem (x +ℤ y) m
  sum_is k = floor-only (x +ℤ y) m (a +ℤ b) nz (omega (lin, low-a, low-b)) (subst (λ t. (a +ℤ b) <ℤ t) (sym own) (omega lin)) together

  pub wrapped-is : (m -ℤ b) ≤ℤ a → a -ℤ (m -ℤ b) ≡ floor_rem (x +ℤ y) m
  wrapped-is k = floor-only (x +ℤ y) m (a -ℤ (m -ℤ b)) nz (omega (lin, sub m b)) (subst (λ t. (a -ℤ (m -ℤ b)) <ℤ t) (sym own) (omega (lin, sub m b, high-a, high-b)))
      (subst (λ t. Cong (nat_abs m) t (x +ℤ y)) (group a b m) (Cong-trans (a +ℤ b -ℤ m) (a +ℤ b) (x +ℤ y) (less (a +ℤ b)) together))
    where
      group : (a b m : ℤ) → a +ℤ b -ℤ m ≡ a -ℤ (m -ℤ b)
      group a b m = rw (read a, read b, read m) (simp wholes (omega arith))

  pub difference-is : b ≤ℤ a → a -ℤ b ≡ floor_rem (x -ℤ y) m
  difference-is k = floor-only (x -ℤ y) m (a -ℤ b) nz (omega lin) (subst (λ t. (a -ℤ b) <ℤ t) (sym own) (omega (lin, high-a, low-b))) apart

  pub turned-is : a <ℤ b → a +ℤ (m -ℤ b) ≡ floor_rem (x -ℤ y) m
  turned-is k = floor-only (x -ℤ y) m (a +ℤ (m -ℤ b)) nz (omega (lin, low-a, high-b, sub m b)) (subst (λ t. (a +ℤ (m -ℤ b)) <ℤ t) (sym own) (omega (lin, sub m b)))
      (subst (λ t. Cong (nat_abs m) t (x -ℤ y)) (group a b m) (Cong-trans (a -ℤ b +ℤ m) (a -ℤ b) (x -ℤ y) (more (a -ℤ b)) apart))
    where
      group : (a b m : ℤ) → a -ℤ b +ℤ m ≡ a +ℤ (m -ℤ b)
      group a b m = rw (read a, read b, read m) (simp wholes (omega arith))
