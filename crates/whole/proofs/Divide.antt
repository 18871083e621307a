-- The quotient toward zero and its remainder: x = q·d + r with |r| < |d| and r of x's sign, and nothing else is; the quotient rises with the dividend.
use mathlib.Core.Path.{◌≡◌, refl, ap, ◌∙◌}
use mathlib.Core.Logic.{◌≢◌, ◌⊎◌, inl, inr}
use Prim.Native.Nat.{ℕ, zero, suc, ◌*◌, ◌/◌, ◌%◌, ◌≤◌, ◌<◌}
use native.Mathlib.Omega.{arith}
use native.Mathlib.Nat.{div-add-mod', mod-lt, mod-le, le_trans, div-mul-le_self, le-div_iff_mul-le, mul-le-mul_left, div-zero, zero-div, div-le_self, div-lt_self, lt_of_le_of_lt, mod-zero, div-one}
use lib.IntN.{ℤ, pos, negsuc, neg_ℤ, nat_abs, ◌+ℤ◌, ◌-ℤ◌, ◌*ℤ◌}
use lib.Pow.{pow_pos}
use lib.Signed.{◌≤ℤ◌, ◌<ℤ◌, quot_z, rem_z, mag_rem}
use mir.Syntax.{Width}
use mir.Val.{SFits, hbits}
use Rattle.whole.specs.Whole.{min_ℤ, max_ℤ, min4, max4}
use Rattle.whole.proofs.Linear.{ints, wholes, sum, sub, neg, abs, from-≢, split, least, greatest}
use Rattle.whole.proofs.Shapes.{lin}
use Rattle.whole.proofs.Fits.{machine, range}
use Rattle.whole.specs.Range as Range
use Rattle.whole.proofs.Ring.{nat_abs-*ℤ, nat_abs-zero, -ℤ-*ℤ}

pub quot-rem : (x d : ℤ) → x ≡ quot_z x d *ℤ d +ℤ rem_z x d
quot-rem (pos a) (pos b) = simp wholes (omega (arith, div-add-mod' a b))
quot-rem (pos a) (negsuc b) = simp wholes (omega (arith, div-add-mod' a (suc b)))
quot-rem (negsuc a) (pos b) = simp wholes (omega (arith, div-add-mod' (suc a) b))
quot-rem (negsuc a) (negsuc b) = simp wholes (omega (arith, div-add-mod' (suc a) (suc b)))

pub nat_abs-rem : (x d : ℤ) → nat_abs (rem_z x d) ≡ nat_abs x % nat_abs d
nat_abs-rem (pos a) d = refl
nat_abs-rem (negsuc a) d = omega (arith, abs (neg_ℤ (pos (suc a % nat_abs d))), neg (pos (suc a % nat_abs d)))

pub rem-small : (x d : ℤ) → d ≢ pos 0 → nat_abs (rem_z x d) < nat_abs d
rem-small x d h = rw nat_abs-rem (mod-lt (nat_abs x) (omega (ints, abs d, from-≢ h)))

pub rem-nonneg : (x d : ℤ) → pos 0 ≤ℤ x → pos 0 ≤ℤ rem_z x d
rem-nonneg (pos a) d h = omega ints
rem-nonneg (negsuc a) d h = absurd h.le

pub rem-nonpos : (x d : ℤ) → x ≤ℤ pos 0 → rem_z x d ≤ℤ pos 0
rem-nonpos (pos a) d h = omega (ints, mod-le a (nat_abs d))
rem-nonpos (negsuc a) d h = omega (ints, neg (pos (suc a % nat_abs d)))

pub rem_below : (x d : ℤ) → pos 0 <ℤ d → (neg_ℤ d <ℤ rem_z x d) × (rem_z x d <ℤ d)
rem_below x d h = let f : d ≢ pos 0 = omega ints in omega (lin, abs (rem_z x d), abs d, rem-small x d f)

pub nat_abs-quot : (x d : ℤ) → nat_abs (quot_z x d) ≡ nat_abs x / nat_abs d
nat_abs-quot (pos a) (pos b) = refl
nat_abs-quot (pos a) (negsuc b) = omega (arith, abs (neg_ℤ (pos (a / suc b))), neg (pos (a / suc b)))
nat_abs-quot (negsuc a) (pos b) = omega (arith, abs (neg_ℤ (pos (suc a / b))), neg (pos (suc a / b)))
nat_abs-quot (negsuc a) (negsuc b) = refl

-- a multiple of d that is smaller than d is none
pub small-multiple : (k d : ℤ) → nat_abs (k *ℤ d) < nat_abs d → k ≡ pos 0
small-multiple k d h = nat_abs-zero k (none (nat_abs k) (rw nat_abs-*ℤ at h))
  where
    none : (j : ℕ) → j * nat_abs d < nat_abs d → j ≡ 0
    none zero h = refl
    none (suc j) h = absurd (omega arith)

-- ---- nothing else is the quotient and the remainder

module _ (x d q r : ℤ) (whole : x ≡ q *ℤ d +ℤ r) (small : nat_abs r < nat_abs d)
    (same_sign : ((pos 0 ≤ℤ x) × (pos 0 ≤ℤ r)) ⊎ ((x ≤ℤ pos 0) × (r ≤ℤ pos 0))) where
  near : d ≢ pos 0 → nat_abs (rem_z x d -ℤ r) < nat_abs d
  near nz = elim same_sign [
    | inl s ↦ omega (ints, abs r, abs (rem_z x d), abs (rem_z x d -ℤ r), sub (rem_z x d) r, rem-small x d nz, rem-nonneg x d s.0)
    | inr s ↦ omega (ints, abs r, abs (rem_z x d), abs (rem_z x d -ℤ r), sub (rem_z x d) r, rem-small x d nz, rem-nonpos x d s.0)
  ]

  multiple : (q -ℤ quot_z x d) *ℤ d ≡ rem_z x d -ℤ r
  multiple = -ℤ-*ℤ q (quot_z x d) d ∙ omega (ints, sub (q *ℤ d) (quot_z x d *ℤ d), sub (rem_z x d) r, sum (q *ℤ d) r, sum (quot_z x d *ℤ d) (rem_z x d), quot-rem x d)

  pub quot_unique : q ≡ quot_z x d
  quot_unique =
      let z : q -ℤ quot_z x d ≡ pos 0 = small-multiple (q -ℤ quot_z x d) d (rw multiple (near (nonzero d small))) in
      omega (ints, sub q (quot_z x d))
    where
      nonzero : (d : ℤ) → nat_abs r < nat_abs d → d ≢ pos 0
      nonzero d h e = omega (ints, abs d)

  pub rem-unique : r ≡ rem_z x d
  rem-unique =
      let e : q *ℤ d ≡ quot_z x d *ℤ d = ap (λ t. t *ℤ d) quot_unique in
      omega (ints, sum (q *ℤ d) r, sum (quot_z x d *ℤ d) (rem_z x d), quot-rem x d)

-- ---- signs

pub quot-neg : (x d : ℤ) → quot_z x (neg_ℤ d) ≡ neg_ℤ (quot_z x d)
quot-neg (pos a) (pos zero) = simp wholes (omega (arith, div-zero a))
quot-neg (pos a) (pos (suc b)) = refl
quot-neg (pos a) (negsuc b) = simp wholes (omega arith)
quot-neg (negsuc a) (pos zero) = simp wholes (omega (arith, div-zero (suc a)))
quot-neg (negsuc a) (pos (suc b)) = simp wholes (omega arith)
quot-neg (negsuc a) (negsuc b) = refl

pub neg-quot : (x d : ℤ) → quot_z (neg_ℤ x) d ≡ neg_ℤ (quot_z x d)
neg-quot (pos zero) (pos b) = simp wholes (omega (arith, zero-div b))
neg-quot (pos zero) (negsuc b) = simp wholes (omega (arith, zero-div (suc b)))
neg-quot (pos (suc a)) (pos b) = refl
neg-quot (pos (suc a)) (negsuc b) = simp wholes (omega arith)
neg-quot (negsuc a) (pos b) = simp wholes (omega arith)
neg-quot (negsuc a) (negsuc b) = refl

-- ---- the quotient rises with the dividend, and falls with a divisor

div_mono : (a b : ℕ) {k : ℕ} → 0 < k → a ≤ b → a / k ≤ b / k
div_mono a b {k} p h = (le-div_iff_mul-le p).1 (le_trans (div-mul-le_self a k) h)

div-anti : (a : ℕ) {j k : ℕ} → 0 < j → j ≤ k → a / k ≤ a / j
div-anti a {j} {k} p h = (le-div_iff_mul-le p).1 (le_trans (mul-le-mul_left (a / k) h) (div-mul-le_self a k))

pub quot-mono : (x y d : ℤ) → pos 0 <ℤ d → x ≤ℤ y → quot_z x d ≤ℤ quot_z y d
quot-mono (pos a) (pos b) (pos k) s h = omega (ints, div_mono a b {k = k} (omega ints) (omega ints))
quot-mono (pos a) (negsuc b) (pos k) s h = absurd h.le
quot-mono (negsuc a) (pos b) (pos k) s h = omega (ints, neg (pos (suc a / k)))
quot-mono (negsuc a) (negsuc b) (pos k) s h = omega (ints, neg (pos (suc a / k)), neg (pos (suc b / k)), div_mono (suc b) (suc a) {k = k} (omega ints) (omega ints))
quot-mono x y (negsuc k) s h = absurd s.lt

pub quot-anti : (x y d : ℤ) → d <ℤ pos 0 → x ≤ℤ y → quot_z y d ≤ℤ quot_z x d
quot-anti x y d s h =
    let k : pos 0 <ℤ neg_ℤ d = omega (ints, neg d) in
    omega (ints, simp quot-neg at (quot-mono x y (neg_ℤ d) k h), neg (quot_z x d), neg (quot_z y d))

pub quot-divisor : (x c d : ℤ) → pos 0 ≤ℤ x → pos 0 <ℤ c → c ≤ℤ d → quot_z x d ≤ℤ quot_z x c
quot-divisor (pos a) (pos j) (pos k) s p h = omega (ints, div-anti a {j = j} {k = k} (omega ints) (omega ints))
quot-divisor (pos a) (pos j) (negsuc k) s p h = absurd h.le
quot-divisor (pos a) (negsuc j) d s p h = absurd p.lt
quot-divisor (negsuc a) c d s p h = absurd s.le

pub quot-divisor-neg : (x c d : ℤ) → x ≤ℤ pos 0 → pos 0 <ℤ c → c ≤ℤ d → quot_z x c ≤ℤ quot_z x d
quot-divisor-neg x c d s p h =
    let k : pos 0 ≤ℤ neg_ℤ x = omega (ints, neg x) in
    omega (ints, simp neg-quot at (quot-divisor (neg_ℤ x) c d k p h), neg (quot_z x c), neg (quot_z x d))

-- ---- the corners of a quotient by a positive interval

quot-between : (x y c d : ℤ) → pos 0 <ℤ c → c ≤ℤ y → y ≤ℤ d → (min_ℤ (quot_z x c) (quot_z x d) ≤ℤ quot_z x y) × (quot_z x y ≤ℤ max_ℤ (quot_z x c) (quot_z x d))
quot-between x y c d p h k = elim (split (pos 0) x) [ inl s ↦ falling s | inr s ↦ rising s ]
  where
    p' : pos 0 <ℤ y
    p' = omega ints

    falling : pos 0 ≤ℤ x → (min_ℤ (quot_z x c) (quot_z x d) ≤ℤ quot_z x y) × (quot_z x y ≤ℤ max_ℤ (quot_z x c) (quot_z x d))
    falling s = omega (ints, quot-divisor x c y s p h, quot-divisor x y d s p' k, least (quot_z x c) (quot_z x d), greatest (quot_z x c) (quot_z x d))

    rising : x <ℤ pos 0 → (min_ℤ (quot_z x c) (quot_z x d) ≤ℤ quot_z x y) × (quot_z x y ≤ℤ max_ℤ (quot_z x c) (quot_z x d))
    rising s = omega (ints, quot-divisor-neg x c y (omega ints) p h, quot-divisor-neg x y d (omega ints) p' k, least (quot_z x c) (quot_z x d), greatest (quot_z x c) (quot_z x d))

pub quot-corners : (x y a b c d : ℤ) → a ≤ℤ x → x ≤ℤ b → pos 0 <ℤ c → c ≤ℤ y → y ≤ℤ d →
    (min4 (quot_z a c) (quot_z a d) (quot_z b c) (quot_z b d) ≤ℤ quot_z x y) × (quot_z x y ≤ℤ max4 (quot_z a c) (quot_z a d) (quot_z b c) (quot_z b d))
quot-corners x y a b c d h k p l m =
    let p' : pos 0 <ℤ y = omega ints in
    let q = quot-between a y c d p l m in
    let r = quot-between b y c d p l m in (
      omega (ints, quot-mono a x y p' h, least (min_ℤ (quot_z a c) (quot_z a d)) (min_ℤ (quot_z b c) (quot_z b d))),
      omega (ints, quot-mono x b y p' k, greatest (max_ℤ (quot_z a c) (quot_z a d)) (max_ℤ (quot_z b c) (quot_z b d))),
    )

-- ---- the quotient and the remainder fit, but for MIN / -1

pub fits-rem : {w : Width} {x : ℤ} (d : ℤ) → SFits w x → SFits w (rem_z x d)
fits-rem {x} d h = record { sfits = lt_of_le_of_lt (mag_rem x d) h.sfits }

pub fits-quot : {w : Width} (x d : ℤ) → SFits w x → d ≢ negsuc 0 → SFits w (quot_z x d)
fits-quot (pos a) (pos b) h f = omega (machine, range h, div-le_self a b)
fits-quot (pos a) (negsuc b) h f = omega (machine, range h, div-le_self a (suc b))
fits-quot (negsuc a) (pos b) h f = omega (machine, range h, div-le_self (suc a) b)
fits-quot (negsuc a) (negsuc zero) h f = absurd (f refl)
fits-quot (negsuc a) (negsuc (suc b)) h f = omega (machine, range h, div-lt_self {n = suc a} {k = suc (suc b)} (omega arith) (omega arith))

pub fits-quot-above : (w : Width) (x d : ℤ) → SFits w x → Range.least w <ℤ x → SFits w (quot_z x d)
fits-quot-above w x d h k = omega (machine, range h, abs (quot_z x d), nat_abs-quot x d, div-le_self (nat_abs x) (nat_abs d), abs x, pow_pos (hbits w))

-- ---- by 0, by 1 and by -1
pub rem-zero : (x : ℤ) → rem_z x (pos 0) ≡ x
rem-zero (pos a) = ap pos (mod-zero a)
rem-zero (negsuc a) = ap (λ t. neg_ℤ (pos t)) (mod-zero (suc a))

pub quot-zero : (x : ℤ) → quot_z x (pos 0) ≡ pos 0
quot-zero (pos a) = ap pos (div-zero a)
quot-zero (negsuc a) = ap (λ t. neg_ℤ (pos t)) (div-zero (suc a))

quot-one : (x : ℤ) → quot_z x (pos 1) ≡ x
quot-one (pos a) = ap pos (div-one a)
quot-one (negsuc a) = ap (λ t. neg_ℤ (pos t)) (div-one (suc a))

pub quot-minus : (x : ℤ) → quot_z x (negsuc 0) ≡ neg_ℤ x
quot-minus x = quot-neg x (pos 1) ∙ ap neg_ℤ (quot-one x)
