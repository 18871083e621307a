-- How many bytes a number takes in decimal.
use Prim.Native.Nat.{ℕ, zero, suc, ◌*◌, ◌/◌, ◌≤◌, ◌<◌}
use mathlib.Core.Path.{◌≡◌, refl}
use mathlib.Core.List.{List}
use mathlib.Core.Logic.{⊎_elim}
use native.Mathlib.Omega.{arith}
use lib.IntN.{ℤ, pos, negsuc}
use lib.ListN.{length}
use mir.Syntax.{Width, w64}
use mir.Val.{SFits}
use Rattle.text.specs.Decimal.{digits, decimal}
use Rattle.text.specs.End.{end_text}
use Rattle.text.proofs.Digits.{lt-or-le, one-digit, longer}
use Rattle.text.proofs.Ends.{EndOf, top, bottom, number, end_of}

-- 10 to the power k + 1
abbrev pub tens : ℕ → ℕ
tens zero = 10
tens (suc k) = 10 * tens k

pub digits-below : (k n : ℕ) → n < tens k → length (digits n) ≤ suc k
digits-below zero n h = omega (arith, one-digit n h)
digits-below (suc k) n h = ⊎_elim
    (λ s. omega (arith, one-digit n s))
    (λ l. omega (arith, longer n l, digits-below k (n / 10) (omega (arith, h))))
    (lt-or-le n 10)

pub decimal-below : (z : ℤ) → SFits w64 z → length (decimal z) ≤ 20
unfolding decimal
decimal-below (pos n) f =
    let t : tens 18 ≡ 10000000000000000000 = refl in
    omega (arith, digits-below 18 n (omega (arith, t, f.sfits)))
decimal-below (negsuc n) f =
    let t : tens 18 ≡ 10000000000000000000 = refl in
    omega (arith, digits-below 18 (suc n) (omega (arith, t, f.sfits)))

end_below : (w : Width) (z : ℤ) (t : List ℕ) → SFits w64 z → EndOf w z t → length t ≤ 20
end_below w z _ f (top e) = omega arith
end_below w z _ f (bottom e) = omega arith
end_below w z _ f number = decimal-below z f

pub end-text-below : (w : Width) (z : ℤ) → SFits w64 z → length (end_text w z) ≤ 20
end-text-below w z f = end_below w z (end_text w z) f (end_of w z)
