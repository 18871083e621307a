-- The floored remainder: it lies from 0 to |m| - 1, differs from x by a multiple of m, and is the only such number.
use mathlib.Core.Path.{◌≡◌, refl, ap, ◌∙◌, subst}
use mathlib.Core.Logic.{◌≢◌}
use Prim.Native.Nat.{ℕ, suc, ◌<◌, ◌/◌}
use Rattle.std.specs.Int.{int_rem_euclid}
use native.Mathlib.Nat.{mod-one, mod-lt, div-add-mod'}
use native.Mathlib.Omega.{arith}
use lib.IntN.{ℤ, pos, negsuc, neg_ℤ, nat_abs, ◌+ℤ◌, ◌-ℤ◌, ◌*ℤ◌, zero-*ℤ}
use lib.Signed.{◌≤ℤ◌, ◌<ℤ◌, rem_z, quot_z}
use Rattle.whole.specs.Divides.{◌∣ℤ◌, Cong, floor_rem}
use Rattle.whole.proofs.Linear.{ints, wholes, read, sum, sub, abs, from-≢}
use Rattle.whole.proofs.Shapes.{lin}
use Rattle.whole.proofs.Ring.{nat_abs-zero}
use Rattle.whole.proofs.Decides.{lt_test, branch, is_false}
use Rattle.whole.proofs.Divide.{quot-rem, nat_abs-rem, rem-small, rem-zero, small-multiple}
use Rattle.whole.proofs.Divides.{∣-refl, ∣-+}
use Rattle.whole.proofs.Congruence.{∣-at, Cong-trans, Cong-sym}

-- ---- by the sign of the truncated remainder
module _ (x m : ℤ) where
  pub floor-up : pos 0 ≤ℤ rem_z x m → floor_rem x m ≡ rem_z x m
  unfolding floor_rem
  floor-up h = rw (is_false (lt_test (rem_z x m) (pos 0)) (λ k. omega ints)) refl

pub floor-zero : (x : ℤ) → floor_rem x (pos 0) ≡ x
unfolding floor_rem
floor-zero x = branch (lt_test (rem_z x (pos 0)) (pos 0)) (λ t. t ≡ x) (λ h. omega (ints, rem-zero x, sum (rem_z x (pos 0)) (pos 0))) (λ h. rem-zero x)

pub floor-one : (x : ℤ) → floor_rem x (negsuc 0) ≡ pos 0
floor-one x = let e = nat_abs-zero (rem_z x (negsuc 0)) (nat_abs-rem x (negsuc 0) ∙ mod-one (nat_abs x)) in floor-up x (negsuc 0) (omega ints) ∙ e

-- ---- what it is
module _ (x m : ℤ) (nz : m ≢ pos 0) where
  pub floor-low : pos 0 ≤ℤ floor_rem x m
  unfolding floor_rem
  floor-low = branch (lt_test (rem_z x m) (pos 0)) (λ t. pos 0 ≤ℤ t) (λ h. omega (lin, rem-small x m nz, abs (rem_z x m), abs m)) (λ h. h)

  pub floor-high : floor_rem x m <ℤ pos (nat_abs m)
  unfolding floor_rem
  floor-high = branch (lt_test (rem_z x m) (pos 0)) (λ t. t <ℤ pos (nat_abs m)) (λ h. omega (lin, abs m)) (λ h. omega (ints, rem-small x m nz, abs (rem_z x m), abs m))

-- a multiple of m is one of |m|
pub to-abs : (m z : ℤ) → m ∣ℤ z → pos (nat_abs m) ∣ℤ z
to-abs (pos k) z h = h
to-abs (negsuc k) z h = record { by = neg_ℤ h.by; is = turned z h.by (pos (suc k)) h.is }
  where
    turned : (z u m : ℤ) → z ≡ u *ℤ neg_ℤ m → z ≡ neg_ℤ u *ℤ m
    turned z u m = rw (read z, read u, read m) (simp wholes (omega arith))

move : (x q m r : ℤ) → x ≡ q *ℤ m +ℤ r → r -ℤ x ≡ neg_ℤ q *ℤ m
move x q m r = rw (read x, read q, read m, read r) (simp wholes (omega arith))

-- the truncated remainder differs from x by a multiple of m
pub rem-class : (x m : ℤ) → Cong (nat_abs m) (rem_z x m) x
rem-class x m = to-abs m (rem_z x m -ℤ x) (record { by = neg_ℤ (quot_z x m); is = move x (quot_z x m) m (rem_z x m) (quot-rem x m) })

pub floor-class : (x m : ℤ) → Cong (nat_abs m) (floor_rem x m) x
unfolding floor_rem
floor-class x m = branch (lt_test (rem_z x m) (pos 0)) (λ t. Cong (nat_abs m) t x) (λ h. above) (λ h. rem-class x m)
  where
    above : Cong (nat_abs m) (rem_z x m +ℤ pos (nat_abs m)) x
    above = ∣-at (rem_z x m +ℤ pos (nat_abs m) -ℤ x) (moved (rem_z x m) x (pos (nat_abs m))) (∣-+ (rem-class x m) (∣-refl (pos (nat_abs m))))
      where
        moved : (r x k : ℤ) → (r -ℤ x) +ℤ k ≡ r +ℤ k -ℤ x
        moved r x k = rw (read r, read x, read k) (simp wholes (omega arith))

-- two numbers from 0 to n - 1 that differ by a multiple of n are one
pub same-residue : (n : ℕ) (a b : ℤ) → pos 0 ≤ℤ a → a <ℤ pos n → pos 0 ≤ℤ b → b <ℤ pos n → Cong n a b → a ≡ b
same-residue n a b h k l m d =
    let s : nat_abs (d.by *ℤ pos n) < nat_abs (pos n) = subst (λ t. nat_abs t < n) d.is (omega (ints, abs (a -ℤ b), sub a b)) in
    let z : a -ℤ b ≡ pos 0 = d.is ∙ ap (λ t. t *ℤ pos n) (small-multiple d.by (pos n) s) ∙ zero-*ℤ (pos n) in
    omega (ints, sub a b)

pub floor-only : (x m r : ℤ) → m ≢ pos 0 → pos 0 ≤ℤ r → r <ℤ pos (nat_abs m) → Cong (nat_abs m) r x → r ≡ floor_rem x m
floor-only x m r nz h k d = same-residue (nat_abs m) r (floor_rem x m) h k (floor-low x m nz) (floor-high x m nz) (Cong-trans r x (floor_rem x m) d (Cong-sym (floor_rem x m) x (floor-class x m)))

-- ---- the library's Euclidean remainder is such a number
module _ (x m : ℤ) (nz : m ≢ pos 0) where
  size : 0 < nat_abs m
  size = omega (ints, abs m, from-≢ nz)

  parts : (x : ℤ) → (q : ℤ) × (x ≡ q *ℤ pos (nat_abs m) +ℤ int_rem_euclid x m)
  parts (pos a) = (pos (a / nat_abs m), simp wholes (omega (arith, div-add-mod' a (nat_abs m))))
  parts (negsuc a) = (negsuc (a / nat_abs m), simp wholes (omega (arith, div-add-mod' a (nat_abs m), mod-lt a size)))

  euclid-class : Cong (nat_abs m) (int_rem_euclid x m) x
  euclid-class = record { by = neg_ℤ (parts x).0; is = move x (parts x).0 (pos (nat_abs m)) (int_rem_euclid x m) (parts x).1 }

  euclid-low : (x : ℤ) → pos 0 ≤ℤ int_rem_euclid x m
  euclid-low (pos a) = omega ints
  euclid-low (negsuc a) = omega ints

  euclid-high : (x : ℤ) → int_rem_euclid x m <ℤ pos (nat_abs m)
  euclid-high (pos a) = omega (ints, mod-lt a size)
  euclid-high (negsuc a) = omega (ints, size)

  pub euclid_is : int_rem_euclid x m ≡ floor_rem x m
  euclid_is = floor-only x m (int_rem_euclid x m) nz (euclid-low x) (euclid-high x) euclid-class
