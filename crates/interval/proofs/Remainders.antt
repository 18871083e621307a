-- The mended remainder by document 01's rule, where both intervals have a number.
use mathlib.Core.Path.{◌≡◌, refl, sym, ap, ◌∙◌}
use mathlib.Core.Logic.{◌≢◌, ◌⊎◌, inl, inr}
use mathlib.Core.Bool.{Bool, false, ◌&&◌}
use Prim.Native.Nat.{ℕ}
use lib.Pow.{pow_pos}
use lib.IntN.{ℤ, pos, negsuc, neg_ℤ, nat_abs, ◌-ℤ◌}
use lib.Signed.{◌≤ℤ◌, ◌<ℤ◌, quot_z, rem_z}
use mir.Syntax.{Width}
use mir.Val.{SFits, hbits}
use Rattle.whole.specs.Test.{◌≟◌}
use Rattle.whole.specs.Range.{least}
use Rattle.whole.proofs.Linear.{ints, abs, from-≢, split}
use Rattle.whole.proofs.Linear as L
use Rattle.whole.proofs.Shapes.{lin}
use Rattle.whole.proofs.Fits.{fits, low, high, zero-fits}
use Rattle.whole.proofs.Divide.{fits-quot, fits-quot-above, rem-nonneg, rem-nonpos}
use Rattle.whole.proofs.Decides.{Decides, holds, fails, branch, both, eq_test, le_test, equal, unequal, is_true, is_false}
use Rattle.refusal.specs.Answer.{Answer, is, refused}
use Rattle.interval.specs.Set.{Interval, ◌⋯◌, ◌∈◌, ◌∉◌, top, bottom, single, is_only, Proper}
use Rattle.interval.specs.Results.{Covering, covering, refusing}
use Rattle.interval.specs.Promise.{Magnitude, Several, MinByMinusOne, Remainders}
use Rattle.interval.specs.Mended.{magnitude, rem_within, rem_single, rem_of}
use Rattle.interval.proofs.Calls.{made}
use Rattle.interval.proofs.Test.{in-test, only-test, is-in, contrary}
use Rattle.interval.proofs.Ends.{low-in, high-in, only}
use Rattle.interval.proofs.Rem.{rem-covers}
use Rattle.interval.proofs.First.{and-false}

-- ---- the greatest magnitude
module _ {b : Interval} (o : b.min ≤ℤ b.max) where
  below : (y : ℤ) → y ∈ b → pos (nat_abs y) ≤ℤ magnitude b
  below y h = omega (ints, abs y, L.greatest (neg_ℤ b.min) b.max, L.neg b.min)

  pub magnitude-found : Magnitude b (magnitude b)
  magnitude-found = elim (split (neg_ℤ b.min) b.max) [
    | inl h ↦ record { bounds = below; number = b.max; number_in = high-in o; reached = omega (ints, abs b.max, L.greatest (neg_ℤ b.min) b.max, L.neg b.min) }
    | inr h ↦ record { bounds = below; number = b.min; number_in = low-in o; reached = omega (ints, abs b.min, L.greatest (neg_ℤ b.min) b.max, L.neg b.min) }
  ]

  pub magnitude-only : (m : ℤ) → Magnitude b m → m ≡ magnitude b
  magnitude-only m g =
      let l : neg_ℤ b.min ≤ℤ m = low_end (g.bounds b.min (low-in o)) in
      let h : b.max ≤ℤ m = high_end (g.bounds b.max (high-in o)) in
      let n : m ≤ℤ magnitude b = rw g.reached at (below g.number g.number_in) in
      omega (ints, L.greatest (neg_ℤ b.min) b.max, L.neg b.min)
    where
      low_end : pos (nat_abs b.min) ≤ℤ m → neg_ℤ b.min ≤ℤ m
      low_end h = omega (ints, abs b.min, L.neg b.min)

      high_end : pos (nat_abs b.max) ≤ℤ m → b.max ≤ℤ m
      high_end h = omega (ints, abs b.max)

-- ---- the one quotient that doesn't fit
pub min-by-minus-one : (w : Width) → quot_z (least w) (negsuc 0) ∉ top w
min-by-minus-one w = inr (omega (lin, pow_pos (hbits w)))

pub not-these : (w : Width) {a b : Interval} → MinByMinusOne w a b → quot_z a.min b.min ∈ top w → ⊥
not-these w m = rw (m.0, m.1) (contrary (min-by-minus-one w))

module _ {w : Width} {x y : ℤ} (f : SFits w x) where
  pub quotient_fits : (x ≢ least w) ⊎ (y ≢ negsuc 0) → SFits w (quot_z x y)
  quotient_fits (inl n) = fits-quot-above w x y f (omega (ints, low w x f, from-≢ n))
  quotient_fits (inr n) = fits-quot x y f n

-- ---- refused where it is said, and nowhere else
module _ {f : ℤ → ℤ → ℤ} {Counts : ℤ → ℤ → Type 0} {R : Type 0} {a b : Interval} where
  pub refused-only : {r : Answer Interval} → Covering f Counts R a b r → r ≡ refused 2 → R
  refused-only {r} (covering n c) e = absurd (let z : ◌≡◌ {A = ℕ} 0 1 = cc in omega ints)
  refused-only (refusing m) e = m

  pub refused-when : {r : Answer Interval} → Covering f Counts R a b r → R → r ≡ refused 2
  refused-when (covering n c) m = absurd (n m)
  refused-when (refusing m) k = refl

-- for a reason that says the same
pub same-reason : {f : ℤ → ℤ → ℤ} {Counts : ℤ → ℤ → Type 0} {R S : Type 0} {a b : Interval} {r : Answer Interval} → (R → S) → (S → R) → Covering f Counts R a b r → Covering f Counts S a b r
same-reason g h (covering n c) = covering (λ s. n (h s)) c
same-reason g h (refusing m) = refusing (g m)

-- ---- of two single numbers
module _ {w : Width} {a b : Interval} (f : SFits w a.min) (d : a.min ≡ a.max) (e : b.min ≡ b.max) where
  beyond : (a.min ≢ least w) ⊎ (b.min ≢ negsuc 0) → quot_z a.min b.min ∉ top w → ⊥
  beyond s n = let g = quotient_fits f s in contrary n (record { low = low w _ g; high = high w _ g })

  these-two : {s t : Bool} → Decides (a.min ≡ least w) (a.min ≢ least w) s → Decides (b.min ≡ negsuc 0) (b.min ≢ negsuc 0) t → quot_z a.min b.min ∉ top w → MinByMinusOne w a b
  these-two (holds u) (holds v) n = (made a.min a.max (least w) (least w) u (sym d ∙ u), made b.min b.max (negsuc 0) (negsuc 0) v (sym e ∙ v))
  these-two (holds u) (fails v) n = absurd (beyond (inr v) n)
  these-two (fails u) t n = absurd (beyond (inl u) n)

  pub alone-covers : Covering rem_z (λ x y. y ≢ pos 0) (MinByMinusOne w a b) a b (rem_single w a.min b.min)
  alone-covers =
      branch (in-test _ (top w)) (Covering rem_z (λ x y. y ≢ pos 0) (MinByMinusOne w a b) a b)
      (λ h. covering (λ m. not-these w m h) (λ x y u v nz. rw (only d u, only e v) (record { low = omega ints; high = omega ints })))
      (λ n. refusing (these-two (eq_test a.min (least w)) (eq_test b.min (negsuc 0)) n))

module _ {w : Width} {a b : Interval} (p : Proper w a) (q : Proper w b) where
  by_zero : b ≡ single (pos 0) → rem_of w a b ≡ is (bottom w)
  by_zero e = rw (e, equal (pos 0))

  nonzero : b ≢ single (pos 0) → is_only b (pos 0) ≡ false
  nonzero n = is_false (only-test b (pos 0)) (λ h. n (made b.min b.max (pos 0) (pos 0) h.0 h.1))

  several : Several a b → ((a.min ≟ a.max) && (b.min ≟ b.max)) ≡ false
  several (inl n) = rw (unequal n)
  several (inr n) = rw (unequal n) (and-false (a.min ≟ a.max))

  not-only : a ≢ single (pos 0) → is_only a (pos 0) ≡ false
  not-only n = is_false (only-test a (pos 0)) (λ h. n (made a.min a.max (pos 0) (pos 0) h.0 h.1))

  left-fits : SFits w a.min
  left-fits = fits w a.min p.above (omega ints)

  -- ---- two single numbers
  of_two : (x y : ℤ) → a ≡ single x → b ≡ single y → y ≢ pos 0 → (MinByMinusOne w a b → ⊥) → rem_of w a b ≡ is (single (rem_z x y))
  of_two x y d e nz n = rw (d, e, unequal nz, equal x, equal y, is-in fit)
    where
      ways : {t : Bool} → Decides (x ≡ least w) (x ≢ least w) t → (x ≢ least w) ⊎ (y ≢ negsuc 0)
      ways (holds u) = inr (λ v. n (d ∙ ap single u, e ∙ ap single v))
      ways (fails u) = inl u

      f : SFits w x
      f = rw (ap (λ i. i.min) d) at left-fits

      fit : quot_z x y ∈ top w
      fit = let g = quotient_fits f (ways (eq_test x (least w))) in record { low = low w (quot_z x y) g; high = high w (quot_z x y) g }

  of_zero : b ≢ single (pos 0) → a ≡ single (pos 0) → rem_of w a b ≡ is (single (pos 0))
  unfolding rem_within
  of_zero nz e =
      rw (nonzero nz, e, equal (pos 0))
      (branch (eq_test b.min b.max) (λ r. r ≡ is (single (pos 0))) (λ h. rw (is-in fit, none)) (λ _. refl))
    where
      none : rem_z (pos 0) b.min ≡ pos 0
      none = omega (ints, rem-nonneg (pos 0) b.min (omega ints), rem-nonpos (pos 0) b.min (omega ints))

      fit : quot_z (pos 0) b.min ∈ top w
      fit = let g = quotient_fits {y = b.min} (zero-fits {w = w}) (inl (omega ints)) in record { low = low w _ g; high = high w _ g }

  -- ---- one of them with several
  module _ (s : Several a b) (nz : b ≢ single (pos 0)) where
    from_zero_up : a ≢ single (pos 0) → pos 0 ≤ℤ a.min → (m : ℤ) → Magnitude b m → rem_of w a b ≡ is (pos 0 ⋯ (m -ℤ pos 1))
    unfolding rem_within
    from_zero_up na h m g = rw (nonzero nz, several s, not-only na, is_true (le_test (pos 0) a.min) (λ k. omega ints), magnitude-only q.ordered m g)

    to-zero : a ≢ single (pos 0) → a.max ≤ℤ pos 0 → (m : ℤ) → Magnitude b m → rem_of w a b ≡ is ((pos 1 -ℤ m) ⋯ pos 0)
    unfolding rem_within
    to-zero na h m g = rw (nonzero nz, several s, not-only na, is_false (le_test (pos 0) a.min) below-zero, is_true (le_test a.max (pos 0)) (λ k. omega ints), magnitude-only q.ordered m g)
      where
        below-zero : pos 0 ≤ℤ a.min → ⊥
        below-zero k = na (made a.min a.max (pos 0) (pos 0) (omega ints) (omega ints))

    across : a.min <ℤ pos 0 → pos 0 <ℤ a.max → (m : ℤ) → Magnitude b m → rem_of w a b ≡ is ((pos 1 -ℤ m) ⋯ (m -ℤ pos 1))
    unfolding rem_within
    across h k m g = rw (nonzero nz, several s, is_false (only-test a (pos 0)) (λ e. omega ints), is_false (le_test (pos 0) a.min) (λ e. omega ints), is_false (le_test a.max (pos 0)) (λ e. omega ints), magnitude-only q.ordered m g)

  -- ---- it covers, refused by 2 for MIN and -1 alone
  covers : Covering rem_z (λ x y. y ≢ pos 0) (MinByMinusOne w a b) a b (rem_of w a b)
  covers =
      branch (only-test b (pos 0)) C (λ h. covering (λ m. omega (ints, ap (λ i. i.min) m.1)) (λ x y s t nz. absurd (nz (omega ints)))) λ _.
      branch (both (eq_test a.min a.max) (eq_test b.min b.max)) C (λ h. alone-covers left-fits h.0 h.1) λ s.
      covering (λ m. more s m) (λ x y u v nz. rem-covers u v nz)
    where
      C : Answer Interval → Type 0
      C = Covering rem_z (λ x y. y ≢ pos 0) (MinByMinusOne w a b) a b

      more : Several a b → MinByMinusOne w a b → ⊥
      more (inl n) m = n (ap (λ i. i.min) m.0 ∙ sym (ap (λ i. i.max) m.0))
      more (inr n) m = n (ap (λ i. i.min) m.1 ∙ sym (ap (λ i. i.max) m.1))

  pub remainders : Remainders w a b (rem_of w a b)
  remainders = record {
    by_zero = by_zero;
    too_wide = (refused-only covers, refused-when covers);
    of_two = of_two;
    of_zero = of_zero;
    from_zero_up = from_zero_up;
    to-zero = to-zero;
    across = across;
    covers = covers;
  }
