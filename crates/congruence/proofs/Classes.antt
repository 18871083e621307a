-- Classes: the test whether two numbers differ by a multiple, what a number leaves, and the common number of two classes that the meet looks for.
use mathlib.Core.Path.{◌≡◌, refl, sym, ap, ◌∙◌, subst}
use mathlib.Core.Bool.{Bool, true, false, ◌&&◌}
use mathlib.Core.Logic.{◌≢◌, ◌⊎◌, inl, inr}
use Prim.Native.Nat.{ℕ, zero, suc, ◌*◌, ◌/◌, ◌%◌, ◌≤◌, ◌<◌}
use native.Mathlib.Omega.{arith}
use native.Mathlib.Nat.{div-add-mod'}
use lib.IntN.{ℤ, pos, nat_abs, ◌-ℤ◌}
use lib.Pow.{pow_pos}
use mir.Syntax.{Width}
use mir.Val.{hbits}
use Rattle.whole.proofs.Products.{natural-fits}
use Rattle.whole.specs.Choice.{pick}
use Rattle.whole.specs.Range.{fits?}
use Rattle.whole.specs.Divides.{◌∣ℤ◌, gcd, lcm, Cong, floor_rem}
use Rattle.whole.proofs.Linear.{ints, abs}
use Rattle.whole.proofs.Divides.{∣-trans, zero-∣, ∣-≤}
use Rattle.whole.proofs.CommonDivisor.{exact, gcd-left, lcm-left, lcm-right, lcm-least, lcm-comm}
use Rattle.whole.proofs.Congruence.{∣-nat_abs, ∣-to-nat_abs, Cong-sym, Cong-trans, meet-needs, meet-at, meet_left, meet_right}
use Rattle.whole.proofs.Decides.{Decides, eqb-test, both, yes, is_true, is_false, weaken}
use Rattle.whole.proofs.Floor.{floor-low, floor-high, floor-class, same-residue}
use Rattle.congruence.specs.declared.Congruence.{Congruence}
use Rattle.congruence.specs.Set.{cong, bottom}
use Rattle.congruence.specs.Numbers.{alike?}
use Rattle.congruence.specs.Mended.{has?, found, overlap}
use Rattle.congruence.proofs.Sets.{clash}

-- ---- the test

pub alike-test : (m : ℕ) (x y : ℤ) → Decides (Cong m x y) (Cong m x y → ⊥) (alike? m x y)
unfolding alike?
alike-test m x y = weaken there apart (eqb-test (nat_abs (x -ℤ y) % m) 0)
  where
    there : nat_abs (x -ℤ y) % m ≡ 0 → Cong m x y
    there e = ∣-nat_abs (x -ℤ y) (record { by = pos (nat_abs (x -ℤ y) / m); is = ap pos (let f = div-add-mod' (nat_abs (x -ℤ y)) m in omega arith) })

    apart : nat_abs (x -ℤ y) % m ≢ 0 → Cong m x y → ⊥
    apart f h = f (let e = exact (nat_abs (x -ℤ y)) m (∣-to-nat_abs (x -ℤ y) h) in omega (arith, div-add-mod' (nat_abs (x -ℤ y)) m))

-- ---- what a number leaves

module _ (c : ℤ) (p : ℕ) (h : 0 < p) where
  pub left_over : ℕ
  left_over = nat_abs (floor_rem c (pos p))

  some : pos p ≢ pos 0
  some = omega ints

  pub left_is : pos left_over ≡ floor_rem c (pos p)
  unfolding left_over
  left_is = let l = floor-low c (pos p) some in omega (ints, abs (floor_rem c (pos p)))

  pub left_below : left_over < p
  left_below = let l = floor-high c (pos p) some in omega (ints, left_is)

  pub left-class : Cong p (pos left_over) c
  left-class = subst (λ t. Cong p t c) (sym left_is) (floor-class c (pos p))

pub left_by : (c : ℤ) (p k : ℕ) → 0 < p → k ≡ nat_abs (floor_rem c (pos p)) → (k < p) × Cong p (pos k) c
unfolding left_over
left_by c p k h e = subst (λ t. (t < p) × Cong p (pos t) c) (sym e) (left_below c p h, left-class c p h)

-- ---- moduli

pub gcd-some : (m n : ℕ) → 0 < m → 0 < gcd m n
gcd-some m n h = go (gcd m n) (gcd-left m n)
  where
    go : (g : ℕ) → pos g ∣ℤ pos m → 0 < g
    go zero d = absurd (let z : pos m ≡ pos 0 = zero-∣ d in omega ints)
    go (suc g) d = omega arith

pub lcm-pos : (m n : ℕ) → 0 < m → 0 < n → 0 < lcm m n
unfolding lcm
lcm-pos m n h k = go (m / gcd m n) (exact m (gcd m n) (gcd-left m n))
  where
    go : (q : ℕ) → q * gcd m n ≡ m → 0 < q * n
    go zero e = absurd (omega arith)
    go (suc q) e = omega arith

pub lcm-n-0 : (n : ℕ) → lcm n 0 ≡ 0
unfolding lcm
lcm-n-0 n = omega arith

pub lcm-0-n : (n : ℕ) → lcm 0 n ≡ 0
lcm-0-n n = lcm-comm 0 n ∙ lcm-n-0 n

-- a divisor of a number other than 0 is at most that number, and other than 0
pub divisor-some : (m l : ℕ) → 0 < l → pos m ∣ℤ pos l → 0 < m
divisor-some zero l h d = absurd (let z : pos l ≡ pos 0 = zero-∣ d in omega ints)
divisor-some (suc m) l h d = omega arith

pub divisor-most : (m l : ℕ) → 0 < l → pos m ∣ℤ pos l → m ≤ l
divisor-most m l h d = ∣-≤ d (omega ints)

-- ---- the number that is found

found_none : {A : Type 0} (t : ℕ → Bool) (f : ℕ → A) (d : A) (n : ℕ) → ((x : ℕ) → x < n → t x ≡ false) → found t f d n ≡ d
unfolding found
found_none t f d zero h = refl
found_none t f d (suc n) h = rw (h n (omega arith)) (found_none t f d n (λ x k. h x (omega arith)))

found-is : {A : Type 0} (t : ℕ → Bool) (f : ℕ → A) (d : A) (n x : ℕ) → x < n → t x ≡ true → ((y : ℕ) → y < n → t y ≡ true → f y ≡ f x) → found t f d n ≡ f x
unfolding found
found-is t f d zero x h k u = absurd (omega arith)
found-is t f d (suc n) x h k u = go (t n) refl (λ l. found-is t f d n x l k (λ y l. u y (omega arith)))
  where
    go : (b : Bool) → t n ≡ b → (x < n → found t f d n ≡ f x) → pick b (f n) (found t f d n) ≡ f x
    go true e r = u n (omega arith) e
    go false e r =
        let ne : x ≢ n = λ i. clash (sym k ∙ (ap t i ∙ e)) in
        r (omega arith)

-- ---- the common numbers of two classes

module _ (w : Width) (a b : Congruence) where
  abbrev m : ℕ
  m = nat_abs a.modulus

  abbrev n : ℕ
  n = nat_abs b.modulus

  abbrev c : ℤ
  c = a.constant

  abbrev e : ℤ
  e = b.constant

  abbrev l : ℕ
  l = lcm m n

  test : (x : ℕ) → Decides (Cong m (pos x) c × Cong n (pos x) e) ((Cong m (pos x) c → ⊥) ⊎ (Cong n (pos x) e → ⊥)) (has? a (pos x) && has? b (pos x))
  unfolding has?
  test x = both (alike-test m (pos x) c) (alike-test n (pos x) e)

  pass : (x : ℕ) → Cong m (pos x) c → Cong n (pos x) e → (has? a (pos x) && has? b (pos x)) ≡ true
  pass x h k = is_true (test x) fail
    where
      fail : (Cong m (pos x) c → ⊥) ⊎ (Cong n (pos x) e → ⊥) → ⊥
      fail (inl f) = f h
      fail (inr f) = f k

  value : ℕ → Congruence
  value x = pick (fits? w (pos l)) (cong (pos x) (pos l)) a

  as-found : overlap w a b ≡ found (λ x. has? a (pos x) && has? b (pos x)) value bottom l
  unfolding overlap value
  as-found = refl

  pub overlap-none : (Cong (gcd m n) c e → ⊥) → overlap w a b ≡ bottom
  overlap-none f = as-found ∙ found_none (λ x. has? a (pos x) && has? b (pos x)) value bottom l (λ x h. is_false (test x) (λ p. f (meet-needs m n c e (pos x) p.0 p.1)))

  pub overlap-zero : l ≡ 0 → overlap w a b ≡ bottom
  overlap-zero z = as-found ∙ found_none (λ x. has? a (pos x) && has? b (pos x)) value bottom l (λ x h. absurd (omega arith))

  -- one number below the lcm is in both
  only_one : (x y : ℕ) → x < l → y < l → Cong m (pos x) c → Cong n (pos x) e → Cong m (pos y) c → Cong n (pos y) e → y ≡ x
  only_one x y hx hy p q r s =
      let i : pos y ≡ pos x = same-residue l (pos y) (pos x) (omega ints) (omega ints) (omega ints) (omega ints)
      (lcm-least m n (Cong-trans (pos y) c (pos x) r (Cong-sym (pos x) c p)) (Cong-trans (pos y) e (pos x) s (Cong-sym (pos x) e q))) in
      omega ints

  pub overlap-some : (x : ℕ) → x < l → Cong m (pos x) c → Cong n (pos x) e → overlap w a b ≡ pick (fits? w (pos l)) (cong (pos x) (pos l)) a
  unfolding value
  overlap-some x h p q = as-found ∙ found-is (λ x. has? a (pos x) && has? b (pos x)) value bottom l x h (pass x p q)
      (λ y k t. let f = yes (test y) t in ap value (only_one x y h k p q f.0 f.1))

  module _ (d : Cong (gcd m n) c e) (h : 0 < l) where
    pub shared : ℕ
    shared = left_over (meet-at m n c e d) l h

    at-shared : Cong l (pos shared) (meet-at m n c e d)
    unfolding shared
    at-shared = left-class (meet-at m n c e d) l h

    pub shared-below : shared < l
    unfolding shared
    shared-below = left_below (meet-at m n c e d) l h

    pub shared-left : Cong m (pos shared) c
    shared-left = Cong-trans (pos shared) (meet-at m n c e d) c (∣-trans (lcm-left m n) at-shared) (meet_left m n c e d)

    pub shared-right : Cong n (pos shared) e
    shared-right = Cong-trans (pos shared) (meet-at m n c e d) e (∣-trans (lcm-right m n) at-shared) (meet_right m n c e d)

    pub overlap-is : overlap w a b ≡ pick (fits? w (pos l)) (cong (pos shared) (pos l)) a
    overlap-is = overlap-some shared shared-below shared-left shared-right

-- a natural number that is no number of the width isn't 0
pub over-some : (w : Width) (k : ℕ) → fits? w (pos k) ≡ false → 0 < k
over-some w zero h = absurd (clash (sym (natural-fits w 0 (pow_pos (hbits w))) ∙ h))
over-some w (suc k) h = omega arith

-- what the Chinese remainder asks for and gives, at moduli that were worked out
module _ (p q m n : ℕ) (c e : ℤ) (i : p ≡ m) (j : q ≡ n) where
  pub moduli-ready : 0 < lcm m n → lcm m n < 9223372036854775808 → Cong (gcd m n) c e → (0 < p) × (0 < q) × (lcm p q < 9223372036854775808) × Cong (gcd p q) c e
  moduli-ready h k d = rw (i, j) (divisor-some m (lcm m n) h (lcm-left m n), divisor-some n (lcm m n) h (lcm-right m n), k, d)

  pub moduli-met : (x : ℤ) (k : ℕ) → (k < lcm p q) × Cong p x c × Cong q x e → (k < lcm m n) × Cong m x c × Cong n x e
  moduli-met x k h = rw (i, j) at h
