-- Remainders of natural numbers as congruences: doubling, Euclid's steps with a coefficient, the number of the Chinese remainder.
use mathlib.Core.Path.{◌≡◌, sym, ap, ◌∙◌, subst}
use mathlib.Core.Logic.{◌≢◌}
use Prim.Native.Nat.{ℕ, zero, suc, ◌+◌, ◌-◌, ◌*◌, ◌/◌, ◌%◌, ◌<◌}
use native.Mathlib.Omega.{arith}
use native.Mathlib.Nat.{div-add-mod', mod-lt, add-mul-mod_self_right, mul-le-mul_left}
use lib.IntN.{ℤ, pos, negsuc, neg_ℤ, ◌+ℤ◌, ◌-ℤ◌, ◌*ℤ◌, zero-*ℤ}
use Rattle.whole.specs.Divides.{◌∣ℤ◌, gcd, lcm, Cong}
use Rattle.whole.proofs.Linear.{ints, wholes, read, sub}
use Rattle.whole.proofs.Ring.{ring, *ℤ--ℤ, one-*ℤ}
use Rattle.whole.proofs.Divides.{∣-refl, zero-∣, ∣-trans, ∣-+, ∣-*}
use Rattle.whole.proofs.CommonDivisor.{gcd-left, gcd-right, gcd-n-0, exact, lcm-right, lcm-is}
use Rattle.whole.proofs.Congruence.{∣-at, Cong-refl, Cong-sym, Cong-trans, Cong-+, Cong-neg}

-- a number and its remainder
pub to-mod : (a n : ℕ) → Cong n (pos a) (pos (a % n))
to-mod a n = record { by = pos (a / n); is = omega (ints, sub (pos a) (pos (a % n)), div-add-mod' a n) }

pub scale : {n : ℕ} (k x y : ℤ) → Cong n x y → Cong n (k *ℤ x) (k *ℤ y)
scale k x y h = ∣-at (k *ℤ x -ℤ k *ℤ y) (*ℤ--ℤ k x y) (∣-* k h)

pub scale-r : {n : ℕ} (k x y : ℤ) → Cong n x y → Cong n (x *ℤ k) (y *ℤ k)
scale-r {n} k x y h = ∣-at (x *ℤ k -ℤ y *ℤ k) (turn k x y) (∣-* k h)
  where
    turn : (k x y : ℤ) → k *ℤ (x -ℤ y) ≡ x *ℤ k -ℤ y *ℤ k
    turn k x y = rw (read k, read x, read y) (simp wholes (omega arith))

pub minus : {n : ℕ} (x c y e : ℤ) → Cong n x c → Cong n y e → Cong n (x -ℤ y) (c -ℤ e)
minus x c y e h k = Cong-+ x c (neg_ℤ y) (neg_ℤ e) h (Cong-neg y e k)

-- (a + (n - b)) % n
pub sub-mod : (a b n : ℕ) → b < n → Cong n (pos ((a + (n - b)) % n)) (pos a -ℤ pos b)
sub-mod a b n h = Cong-trans (pos ((a + (n - b)) % n)) (pos (a + (n - b))) (pos a -ℤ pos b)
    (Cong-sym (pos (a + (n - b))) (pos ((a + (n - b)) % n)) (to-mod (a + (n - b)) n))
    (record { by = pos 1; is = omega (ints, sub (pos (a + (n - b))) (pos a -ℤ pos b), sub (pos a) (pos b)) })

-- ---- doubling

halves : (k : ℕ) → k / 2 * 2 + k % 2 ≡ k
halves k = div-add-mod' k 2

whole : (s k x n s' x' i j h : ℕ) → s' + i * n ≡ s → x' + j * n ≡ x + x → k ≡ h * 2 → s + k * x ≡ (s' + h * x') + (i + h * j) * n
whole s k x n s' x' i j h p q r =
    let f : h * (x' + j * n) ≡ h * (x + x) = ap (λ t. h * t) q in
    let g : k * x ≡ h * 2 * x = ap (λ t. t * x) r in
    omega arith

pub even_step : (s k x n : ℕ) → k % 2 ≢ 1 → (s + k * x) % n ≡ (s + k / 2 * ((x + x) % n)) % n
even_step s k x n h =
    ap (λ t. t % n) (whole s k x n s ((x + x) % n) 0 ((x + x) / n) (k / 2) (omega arith) (omega (arith, div-add-mod' (x + x) n)) (omega (arith, halves k, mod-lt k {m = 2} (omega arith))))
    ∙ add-mul-mod_self_right (s + k / 2 * ((x + x) % n)) (0 + k / 2 * ((x + x) / n)) n

odd-whole : (s k x n s' x' i j h : ℕ) → s' + i * n ≡ s + x → x' + j * n ≡ x + x → k ≡ h * 2 + 1 → s + k * x ≡ (s' + h * x') + (i + h * j) * n
odd-whole s k x n s' x' i j h p q r =
    let f : h * (x' + j * n) ≡ h * (x + x) = ap (λ t. h * t) q in
    let g : k * x ≡ (h * 2 + 1) * x = ap (λ t. t * x) r in
    omega arith

pub odd_step : (s k x n : ℕ) → k % 2 ≡ 1 → (s + k * x) % n ≡ ((s + x) % n + k / 2 * ((x + x) % n)) % n
odd_step s k x n h =
    ap (λ t. t % n) (odd-whole s k x n ((s + x) % n) ((x + x) % n) ((s + x) / n) ((x + x) / n) (k / 2) (omega (arith, div-add-mod' (s + x) n)) (omega (arith, div-add-mod' (x + x) n)) (omega (arith, halves k)))
    ∙ add-mul-mod_self_right ((s + x) % n + k / 2 * ((x + x) % n)) ((s + x) / n + k / 2 * ((x + x) / n)) n

pub pos_of_lt : {a n : ℕ} → a < n → 0 < n
pos_of_lt h = omega arith

pub nothing_left : (s k x n : ℕ) → k ≡ 0 → s % n ≡ (s + k * x) % n
nothing_left s k x n e = ap (λ t. t % n) (let f : k * x ≡ 0 * x = ap (λ t. t * x) e in omega arith)

-- ---- one of Euclid's steps, with its coefficient

pub euclid : (a n x y s t : ℕ) → 0 < n → Cong n (pos s *ℤ pos a) (pos x) → Cong n (pos t *ℤ pos a) (pos y) →
    Cong n (pos ((s + (n - x / y * t % n)) % n) *ℤ pos a) (pos (x % y))
euclid a n x y s t pn h k =
    let q = x / y in
    let p = q * t % n in
    let u = (s + (n - p)) % n in
    let e1 : Cong n (pos u) (pos s -ℤ pos q *ℤ pos t) =
    Cong-trans (pos u) (pos s -ℤ pos p) (pos s -ℤ pos q *ℤ pos t) (sub-mod s p n (mod-lt (q * t) pn))
    (minus (pos s) (pos s) (pos p) (pos q *ℤ pos t) (Cong-refl n (pos s)) (Cong-sym (pos (q * t)) (pos p) (to-mod (q * t) n))) in
    let e2 = scale-r (pos a) (pos u) (pos s -ℤ pos q *ℤ pos t) e1 in
    let e3 = minus (pos s *ℤ pos a) (pos x) (pos q *ℤ (pos t *ℤ pos a)) (pos q *ℤ pos y) h (scale (pos q) (pos t *ℤ pos a) (pos y) k) in
    subst (λ z. Cong n (pos u *ℤ pos a) z) (rest x y)
    (Cong-trans (pos u *ℤ pos a) ((pos s -ℤ pos q *ℤ pos t) *ℤ pos a) (pos x -ℤ pos q *ℤ pos y) e2
    (subst (λ z. Cong n z (pos x -ℤ pos q *ℤ pos y)) (sym (spread (pos s) (pos q) (pos t) (pos a))) e3))
  where
    rest : (x y : ℕ) → pos x -ℤ pos (x / y) *ℤ pos y ≡ pos (x % y)
    rest x y = omega (ints, sub (pos x) (pos (x / y * y)), div-add-mod' x y)

    spread : (s q t a : ℤ) → (s -ℤ q *ℤ t) *ℤ a ≡ s *ℤ a -ℤ q *ℤ (t *ℤ a)
    spread s q t a = simp ring

pub starts : (a n : ℕ) → Cong n (pos (1 % n) *ℤ pos a) (pos a) × Cong n (pos 0 *ℤ pos a) (pos n)
starts a n = (
  subst (λ z. Cong n (pos (1 % n) *ℤ pos a) z) (one-*ℤ (pos a)) (scale-r (pos a) (pos (1 % n)) (pos 1) (Cong-sym (pos 1) (pos (1 % n)) (to-mod 1 n))),
  subst (λ z. Cong n z (pos n)) (sym (zero-*ℤ (pos a))) (record { by = negsuc 0; is = minus_one (pos n) }),
)
  where
    minus_one : (z : ℤ) → pos 0 -ℤ z ≡ negsuc 0 *ℤ z
    minus_one z = rw (read z) (simp wholes (omega arith))

pub ends : (a n x y s : ℕ) → y ≡ 0 → gcd x y ≡ gcd a n → Cong n (pos s *ℤ pos a) (pos x) → Cong n (pos s *ℤ pos a) (pos (gcd a n))
ends a n x y s e g h = subst (λ t. Cong n (pos s *ℤ pos a) (pos t)) (sym (gcd-n-0 x) ∙ (ap (λ t. gcd x t) (sym e) ∙ g)) h

-- ---- the Chinese remainder: c + m t, where t is (e - c) / g times the coefficient, modulo n / g

swap : (m n g p q : ℕ) → p * g ≡ m → q * g ≡ n → m * q ≡ p * n
swap m n g p q h k =
    let f : p * g * q ≡ m * q = ap (λ t. t * q) h in
    let l : p * (q * g) ≡ p * n = ap (λ t. p * t) k in
    omega arith

module _ (c m e n g s : ℕ) (gis : g ≡ gcd m n) (cm : c < m) (en : e < n) (agree : Cong (gcd m n) (pos c) (pos e)) (bez : Cong n (pos s *ℤ pos m) (pos (gcd m n))) where
  D : ℕ
  D = (e + (n - c % n)) % n

  g-m : pos g ∣ℤ pos m
  g-m = subst (λ t. pos t ∣ℤ pos m) (sym gis) (gcd-left m n)

  g-n : pos g ∣ℤ pos n
  g-n = subst (λ t. pos t ∣ℤ pos n) (sym gis) (gcd-right m n)

  pub g-pos : 0 < g
  g-pos = go g g-m
    where
      go : (g : ℕ) → pos g ∣ℤ pos m → 0 < g
      go zero h = absurd (let z : pos m ≡ pos 0 = zero-∣ h in omega ints)
      go (suc g) h = omega arith

  n_pos : 0 < n
  n_pos = omega arith

  pub N-pos : 0 < n / g
  N-pos = go (n / g) (exact n g g-n)
    where
      go : (q : ℕ) → q * g ≡ n → 0 < q
      go zero h = absurd (omega arith)
      go (suc q) h = omega arith

  D-is : Cong n (pos D) (pos e -ℤ pos c)
  unfolding D
  D-is = Cong-trans (pos D) (pos e -ℤ pos (c % n)) (pos e -ℤ pos c) (sub-mod e (c % n) n (mod-lt c n_pos))
      (minus (pos e) (pos e) (pos (c % n)) (pos c) (Cong-refl n (pos e)) (Cong-sym (pos c) (pos (c % n)) (to-mod c n)))

  g-D : pos g ∣ℤ pos D
  g-D = ∣-at (pos D) (joined (pos D) (pos e -ℤ pos c))
      (∣-+ (∣-trans g-n D-is) (subst (λ t. pos t ∣ℤ (pos e -ℤ pos c)) (sym gis) (Cong-sym (pos c) (pos e) agree)))
    where
      joined : (x y : ℤ) → (x -ℤ y) +ℤ y ≡ x
      joined x y = rw (read x, read y) (simp wholes (omega arith))

  T0 : ℕ
  T0 = D / g * s % n

  t : ℕ
  t = T0 % (n / g)

  m-n : m * (n / g) ≡ lcm m n
  m-n = swap m n g (m / g) (n / g) (exact m g g-m) (exact n g g-n) ∙ lcm-is m n g gis

  below : c + m * t < lcm m n
  unfolding t
  below =
      let h = mul-le-mul_left m (mod-lt T0 N-pos) in
      omega (arith, m-n)

  same-t : Cong n (pos m *ℤ pos t) (pos m *ℤ pos T0)
  unfolding t
  same-t = Cong-sym (pos m *ℤ pos T0) (pos m *ℤ pos t)
      (∣-trans (∣-trans (lcm-right m n) (subst (λ z. pos z ∣ℤ (pos m *ℤ pos (n / g))) m-n (∣-refl (pos (m * (n / g))))))
      (record { by = pos (T0 / (n / g)); is = spread (pos m) (pos T0) (pos (T0 / (n / g))) (pos (n / g)) (pos t) (ap pos (sym (div-add-mod' T0 (n / g)))) }))
    where
      multiply : (m q N t : ℤ) → m *ℤ (q *ℤ N +ℤ t) -ℤ m *ℤ t ≡ q *ℤ (m *ℤ N)
      multiply m q N t = rw (read m, read q, read N, read t) (simp wholes (omega arith))

      spread : (m T q N t : ℤ) → T ≡ q *ℤ N +ℤ t → m *ℤ T -ℤ m *ℤ t ≡ q *ℤ (m *ℤ N)
      spread m T q N t h = ap (λ z. m *ℤ z -ℤ m *ℤ t) h ∙ multiply m q N t

  same-T0 : Cong n (pos m *ℤ pos T0) (pos D)
  unfolding T0
  same-T0 = Cong-trans (pos m *ℤ pos T0) (pos m *ℤ pos (D / g * s)) (pos D)
      (scale (pos m) (pos T0) (pos (D / g * s)) (Cong-sym (pos (D / g * s)) (pos T0) (to-mod (D / g * s) n)))
      (subst (λ z. Cong n (pos m *ℤ pos (D / g * s)) z) (ap pos (exact D g g-D))
      (subst (λ z. Cong n z (pos (D / g) *ℤ pos g)) (turn (pos (D / g)) (pos s) (pos m))
      (scale (pos (D / g)) (pos s *ℤ pos m) (pos g) (subst (λ z. Cong n (pos s *ℤ pos m) (pos z)) (sym gis) bez))))
    where
      turn : (d s m : ℤ) → d *ℤ (s *ℤ m) ≡ m *ℤ (d *ℤ s)
      turn d s m = simp ring

  right : Cong n (pos (c + m * t)) (pos e)
  right = subst (λ z. Cong n (pos c +ℤ pos m *ℤ pos t) z) (back (pos c) (pos e))
      (Cong-+ (pos c) (pos c) (pos m *ℤ pos t) (pos e -ℤ pos c) (Cong-refl n (pos c))
      (Cong-trans (pos m *ℤ pos t) (pos D) (pos e -ℤ pos c) (Cong-trans (pos m *ℤ pos t) (pos m *ℤ pos T0) (pos D) same-t same-T0) D-is))
    where
      back : (c e : ℤ) → c +ℤ (e -ℤ c) ≡ e
      back c e = rw (read c, read e) (simp wholes (omega arith))

  left : Cong m (pos (c + m * t)) (pos c)
  left = record { by = pos t; is = omega (ints, sub (pos (c + m * t)) (pos c)) }

  -- as the code forms it
  pub crt-is : (c + m * ((((e + (n - c % n)) % n) / g * s % n) % (n / g)) < lcm m n)
      × Cong m (pos (c + m * ((((e + (n - c % n)) % n) / g * s % n) % (n / g)))) (pos c)
      × Cong n (pos (c + m * ((((e + (n - c % n)) % n) / g * s % n) % (n / g)))) (pos e)
  unfolding D T0 t
  crt-is = (below, left, right)

  pub crt-by : (d p : ℕ) → d ≡ (e + (n - c % n)) % n → p ≡ d / g * s % n →
      (c + m * (p % (n / g)) < lcm m n) × Cong m (pos (c + m * (p % (n / g)))) (pos c) × Cong n (pos (c + m * (p % (n / g)))) (pos e)
  crt-by d p h k = subst (λ z. (c + m * (z % (n / g)) < lcm m n) × Cong m (pos (c + m * (z % (n / g)))) (pos c) × Cong n (pos (c + m * (z % (n / g)))) (pos e))
      (sym (k ∙ ap (λ z. z / g * s % n) h)) crt-is
