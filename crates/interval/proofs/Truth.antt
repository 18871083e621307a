-- Comparisons and logic: each is a test on two numbers, shown by a verdict of two tests on their ranges.
use mathlib.Core.Path.{◌≡◌, refl}
use mathlib.Core.Logic.{◌≢◌, ◌⊎◌, inl, inr}
use mathlib.Core.Bool.{Bool, not, ◌&&◌, ◌||◌}
use lib.IntN.{ℤ, pos}
use lib.Signed.{◌≤ℤ◌, ◌<ℤ◌}
use Rattle.whole.proofs.Linear.{ints, split}
use Rattle.whole.specs.Test.{◌≟◌, truth}
use Rattle.interval.specs.Set.{Interval, ◌⋯◌, ◌∈◌, single}
use Rattle.interval.specs.Promise.{Some, All, Verdict, always, never, sometimes}
use Rattle.interval.specs.Mended.{verdict, less_v, less_or_equal_v, equals_v, and_v, or_v, not_v}
use Rattle.whole.proofs.Decides.{Decides, holds, fails, le_test, lt_test, eq_test, both, either, isn't}
use Rattle.interval.proofs.Test.{only-test}
use Rattle.interval.proofs.Ends.{low-in, high-in}

one_in : pos 1 ∈ (pos 0 ⋯ pos 1)
one_in = record { low = omega ints; high = omega ints }

zero_in : pos 0 ∈ (pos 0 ⋯ pos 1)
zero_in = record { low = omega ints; high = omega ints }

self : (n : ℤ) → n ∈ single n
self n = record { low = omega ints; high = omega ints }

module _ {A L B M R S : Type 0} where
  -- the test's value is in the verdict, if `every` rules out that it fails, and `none` that it holds
  pub told : {every none b : Bool} → Decides A L every → Decides B M none → Decides R S b → (A → S → ⊥) → (B → R → ⊥) → truth b ∈ verdict every none
  unfolding verdict
  told (holds a) n (holds r) f g = self (pos 1)
  told (holds a) n (fails s) f g = absurd (f a s)
  told (fails l) (holds b) (holds r) f g = absurd (g b r)
  told (fails l) (holds b) (fails s) f g = self (pos 0)
  told (fails l) (fails m) (holds r) f g = one_in
  told (fails l) (fails m) (fails s) f g = zero_in

module _ {a b : Interval} {x y : ℤ} (p : x ∈ a) (q : y ∈ b) where
  -- logic. The tests on ranges are `is_only`, 000's `singleton`
  pub and-told : truth ((x ≟ pos 1) && (y ≟ pos 1)) ∈ and_v a b
  and-told = told (both (only-test a _) (only-test b _)) (either (only-test a _) (only-test b _)) (both (eq_test x _) (eq_test y _)) every none
    where
      every : ((a.min ≡ pos 1) × (a.max ≡ pos 1)) × ((b.min ≡ pos 1) × (b.max ≡ pos 1)) → (x ≢ pos 1) ⊎ (y ≢ pos 1) → ⊥
      every h (inl s) = s (omega ints)
      every h (inr s) = s (omega ints)

      none : ((a.min ≡ pos 0) × (a.max ≡ pos 0)) ⊎ ((b.min ≡ pos 0) × (b.max ≡ pos 0)) → (x ≡ pos 1) × (y ≡ pos 1) → ⊥
      none (inl h) r = omega ints
      none (inr h) r = omega ints

  pub or-told : truth ((x ≟ pos 1) || (y ≟ pos 1)) ∈ or_v a b
  or-told = told (either (only-test a _) (only-test b _)) (both (only-test a _) (only-test b _)) (either (eq_test x _) (eq_test y _)) every none
    where
      every : ((a.min ≡ pos 1) × (a.max ≡ pos 1)) ⊎ ((b.min ≡ pos 1) × (b.max ≡ pos 1)) → (x ≢ pos 1) × (y ≢ pos 1) → ⊥
      every (inl h) s = s.0 (omega ints)
      every (inr h) s = s.1 (omega ints)

      none : ((a.min ≡ pos 0) × (a.max ≡ pos 0)) × ((b.min ≡ pos 0) × (b.max ≡ pos 0)) → (x ≡ pos 1) ⊎ (y ≡ pos 1) → ⊥
      none h (inl r) = omega ints
      none h (inr r) = omega ints

pub not-told : {a : Interval} {x : ℤ} → x ∈ a → truth (not (x ≟ pos 1)) ∈ not_v a
not-told {a} {x} p = told (only-test a _) (only-test a _) (isn't (eq_test x _)) (λ h s. omega ints) (λ h r. r (omega ints))

-- ---- exact: the verdict is the one that the pairs call for

module _ {P N : ℤ → ℤ → Type 0} {a b : Interval} {A L B M : Type 0} where
  settled : {every none : Bool} → Decides A L every → Decides B M none → (A → All P a b) → (B → All N a b) → (L → Some N a b) → (M → Some P a b) → Verdict P N a b (verdict every none)
  unfolding verdict
  settled (holds h) d f g l m = always (f h)
  settled (fails h) (holds k) f g l m = never (g k)
  settled (fails h) (fails k) f g l m = sometimes (m k) (l h)

module _ {a b : Interval} (h : a.min ≤ℤ a.max) (k : b.min ≤ℤ b.max) where
  module _ {P : ℤ → ℤ → Type 0} where
    high-low : P a.max b.min → Some P a b
    high-low p = record { left = a.max; right = b.min; left_in = high-in h; right-in = low-in k; at = p }

    low-high : P a.min b.max → Some P a b
    low-high p = record { left = a.min; right = b.max; left_in = low-in h; right-in = high-in k; at = p }

  pub less-exact : Verdict ◌<ℤ◌ (λ x y. y ≤ℤ x) a b (less_v a b)
  less-exact = settled (lt_test _ _) (le_test _ _) (λ t x y p q. omega ints) (λ t x y p q. omega ints) high-low low-high

  pub less-or-equal-exact : Verdict ◌≤ℤ◌ (λ x y. y <ℤ x) a b (less_or_equal_v a b)
  less-or-equal-exact = settled (le_test _ _) (lt_test _ _) (λ t x y p q. omega ints) (λ t x y p q. omega ints) high-low low-high

  pub equals-exact : Verdict ◌≡◌ ◌≢◌ a b (equals_v a b)
  equals-exact = settled (both (le_test _ _) (le_test _ _)) (either (lt_test _ _) (lt_test _ _)) (λ t x y p q. omega ints) apart differ meet
    where
      apart : (a.max <ℤ b.min) ⊎ (b.max <ℤ a.min) → All ◌≢◌ a b
      apart (inl t) x y p q = omega ints
      apart (inr t) x y p q = omega ints

      differ : (b.min <ℤ a.max) ⊎ (a.min <ℤ b.max) → Some ◌≢◌ a b
      differ (inl t) = high-low (omega ints)
      differ (inr t) = low-high (omega ints)

      -- the greater of the two low ends is in both
      meet : (b.min ≤ℤ a.max) × (a.min ≤ℤ b.max) → Some ◌≡◌ a b
      meet t = elim (split a.min b.min) [
        | inl s ↦ record { left = b.min; right = b.min; left_in = record { low = s; high = t.0 }; right-in = low-in k; at = refl }
        | inr s ↦ record { left = a.min; right = a.min; left_in = low-in h; right-in = record { low = omega ints; high = t.1 }; at = refl }
      ]
