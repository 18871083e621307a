-- The mended quotient, where both intervals have a number: the four quotients of ends bound all quotients by divisors on one side of 0.
use mathlib.Core.Path.{◌≡◌}
use mathlib.Core.Logic.{◌≢◌, ◌⊎◌, inl, inr}
use mathlib.Core.Bool.{true, false}
use lib.IntN.{ℤ, pos, negsuc, neg_ℤ}
use lib.Signed.{◌≤ℤ◌, ◌<ℤ◌, quot_z}
use mir.Syntax.{Width}
use mir.Val.{SFits}
use Rattle.whole.specs.Whole.{min4, max4}
use Rattle.whole.specs.Range.{least}
use Rattle.whole.proofs.Linear.{ints}
use Rattle.whole.proofs.Linear as L
use Rattle.whole.proofs.Fits.{fits, low, high}
use Rattle.whole.proofs.Divide.{quot-neg, quot-corners}
use Rattle.whole.proofs.Decides.{Decides, branch, both, either, equal, is_false}
use Rattle.refusal.specs.Answer.{Answer, is}
use Rattle.interval.specs.Set.{Interval, ◌⋯◌, ◌∈◌, ◌∉◌, ◌∈?◌, top, bottom, single, Proper}
use Rattle.interval.specs.Results.{Least, LeastAnswer, least-is, Covering, covering}
use Rattle.interval.specs.Promise.{Quotients}
use Rattle.interval.specs.Mended.{ranged, low_corner, high_corner, unbounded?, quotients_of}
use Rattle.interval.proofs.Calls.{made}
use Rattle.interval.proofs.Test.{in-test, only-test, is-in, not_in, contrary, other}
use Rattle.interval.proofs.Ends.{low-in, high-in, min-is, max-is, corner-ends}
use Rattle.interval.proofs.Ranges.{spread, four-fit}
use Rattle.interval.proofs.First.{and-false, or-true}
use Rattle.interval.proofs.Remainders.{quotient_fits}

-- ---- a bound of four opposites is one of the numbers
module _ {p q r s : ℤ} (z m : ℤ) where
  from-below : p ≤ℤ m → q ≤ℤ m → r ≤ℤ m → s ≤ℤ m → min4 (neg_ℤ p) (neg_ℤ q) (neg_ℤ r) (neg_ℤ s) ≤ℤ neg_ℤ z → z ≤ℤ m
  from-below a b c d = min-is P _ _ (min-is P _ _ (at p a) (at q b)) (min-is P _ _ (at r c) (at s d))
    where
      P : ℤ → Type 0
      P t = t ≤ℤ neg_ℤ z → z ≤ℤ m

      at : (t : ℤ) → t ≤ℤ m → P (neg_ℤ t)
      at t h k = omega (ints, L.neg t, L.neg z)

  from-above : m ≤ℤ p → m ≤ℤ q → m ≤ℤ r → m ≤ℤ s → neg_ℤ z ≤ℤ max4 (neg_ℤ p) (neg_ℤ q) (neg_ℤ r) (neg_ℤ s) → m ≤ℤ z
  from-above a b c d = max-is P _ _ (max-is P _ _ (at p a) (at q b)) (max-is P _ _ (at r c) (at s d))
    where
      P : ℤ → Type 0
      P t = neg_ℤ z ≤ℤ t → m ≤ℤ z

      at : (t : ℤ) → m ≤ℤ t → P (neg_ℤ t)
      at t h k = omega (ints, L.neg t, L.neg z)

-- ---- the quotients by divisors on one side of 0
module _ {a b : Interval} where
  by-positive : pos 0 <ℤ b.min → (x y : ℤ) → x ∈ a → y ∈ b → quot_z x y ∈ (low_corner quot_z a b ⋯ high_corner quot_z a b)
  by-positive h x y s t = let c = quot-corners x y a.min a.max b.min b.max s.low s.high h t.low t.high in record { low = c.0; high = c.1 }

  -- by the opposite divisors, whose quotients are the opposites
  by-negative : b.max <ℤ pos 0 → (x y : ℤ) → x ∈ a → y ∈ b → quot_z x y ∈ (low_corner quot_z a b ⋯ high_corner quot_z a b)
  by-negative h x y s t =
      let e = quot-corners x (neg_ℤ y) a.min a.max (neg_ℤ b.max) (neg_ℤ b.min) s.low s.high (omega (ints, L.neg b.max)) (omega (ints, L.neg y, L.neg b.max)) (omega (ints, L.neg y, L.neg b.min)) in
      let l = simp quot-neg at e.0 in
      let g = simp quot-neg at e.1 in
      let c = spread (quot_z a.min b.min) (quot_z a.min b.max) (quot_z a.max b.min) (quot_z a.max b.max) in
      record { low = from-above (quot_z x y) _ c.0.1 c.0.0 c.0.3 c.0.2 g; high = from-below (quot_z x y) _ c.1.1 c.1.0 c.1.3 c.1.2 l }

  pub quot-least : a.min ≤ℤ a.max → b.min ≤ℤ b.max → pos 0 ∉ b → Least quot_z a b (low_corner quot_z a b ⋯ high_corner quot_z a b)
  quot-least h k n = record { covers = all n; low-is = (corner-ends h k quot_z).0; high_is = (corner-ends h k quot_z).1 }
    where
      all : pos 0 ∉ b → (x y : ℤ) → x ∈ a → y ∈ b → quot_z x y ∈ (low_corner quot_z a b ⋯ high_corner quot_z a b)
      all (inl c) = by-positive c
      all (inr c) = by-negative c

module _ {w : Width} {a b : Interval} (p : Proper w a) (q : Proper w b) where
  pub unbounded-test : Decides ((pos 0 ∈ b) ⊎ ((least w ∈ a) × (negsuc 0 ∈ b))) ((pos 0 ∉ b) × ((least w ∉ a) ⊎ (negsuc 0 ∉ b))) (unbounded? w a b)
  unfolding unbounded?
  unbounded-test = either (in-test (pos 0) b) (both (in-test (least w) a) (in-test (negsuc 0) b))

  -- the quotient at two ends fits
  corner-fits : (least w ∉ a) ⊎ (negsuc 0 ∉ b) → (x y : ℤ) → x ∈ a → y ∈ b → SFits w (quot_z x y)
  corner-fits (inl c) x y s t = quotient_fits (fits w x (omega ints) (omega ints)) (inl (other s c))
  corner-fits (inr c) x y s t = quotient_fits (fits w x (omega ints) (omega ints)) (inr (other t c))

  ranged-is : (least w ∉ a) ⊎ (negsuc 0 ∉ b) → ranged w (low_corner quot_z a b) (high_corner quot_z a b) ≡ is (low_corner quot_z a b ⋯ high_corner quot_z a b)
  ranged-is c = rw (is-in (there e.0), is-in (there e.1))
    where
      l : a.min ∈ a
      l = low-in p.ordered

      h : a.max ∈ a
      h = high-in p.ordered

      e : SFits w (low_corner quot_z a b) × SFits w (high_corner quot_z a b)
      e = four-fit _ _ _ _ w ((corner-fits c _ _ l (low-in q.ordered), corner-fits c _ _ l (high-in q.ordered)), (corner-fits c _ _ h (low-in q.ordered), corner-fits c _ _ h (high-in q.ordered)))

      there : {n : ℤ} → SFits w n → n ∈ top w
      there {n} f = record { low = low w n f; high = high w n f }

  found : (pos 0 ∈ b) ⊎ ((least w ∈ a) × (negsuc 0 ∈ b)) → unbounded? w a b ≡ true
  unfolding unbounded?
  found (inl h) = rw (is-in h)
  found (inr h) = rw (is-in h.0, is-in h.1) (or-true (pos 0 ∈? b))

  free : pos 0 ∉ b → (least w ∉ a) ⊎ (negsuc 0 ∉ b) → unbounded? w a b ≡ false
  unfolding unbounded?
  free n (inl c) = rw (not_in n, not_in c)
  free n (inr c) = rw (not_in n, not_in c) (and-false (least w ∈? a))

  by_zero : b ≡ single (pos 0) → quotients_of w a b ≡ is (bottom w)
  by_zero e = rw (e, equal (pos 0))

  unbounded : b ≢ single (pos 0) → (pos 0 ∈ b) ⊎ ((least w ∈ a) × (negsuc 0 ∈ b)) → quotients_of w a b ≡ is (top w)
  unbounded n u = rw (is_false (only-test b (pos 0)) (λ h. n (made b.min b.max (pos 0) (pos 0) h.0 h.1)), found u)

  bounded : pos 0 ∉ b → (least w ∉ a) ⊎ (negsuc 0 ∉ b) → LeastAnswer quot_z a b (quotients_of w a b)
  bounded n c = rw (is_false (only-test b (pos 0)) (λ h. contrary n (record { low = omega ints; high = omega ints })), free n c, ranged-is c) (least-is (quot-least p.ordered q.ordered n))

  covers : Covering quot_z (λ x y. (y ≢ pos 0) × SFits w (quot_z x y)) ⊥ a b (quotients_of w a b)
  covers =
      branch (only-test b (pos 0)) C (λ h. covering (λ m. m) (λ x y s t c. absurd (c.0 (omega ints)))) λ _.
      branch unbounded-test C (λ _. covering (λ m. m) (λ x y s t c. record { low = low w _ c.1; high = high w _ c.1 })) λ u.
      rw (ranged-is u.1) (covering (λ m. m) (λ x y s t c. (quot-least p.ordered q.ordered u.0).covers x y s t))
    where
      C : Answer Interval → Type 0
      C = Covering quot_z (λ x y. (y ≢ pos 0) × SFits w (quot_z x y)) ⊥ a b

  pub quotients : Quotients w a b (quotients_of w a b)
  quotients = record { by_zero = by_zero; unbounded = unbounded; bounded = bounded; covers = covers }
