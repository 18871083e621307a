-- The tests on intervals and what they decide; the tests on numbers are `whole`'s (Decides).
use mathlib.Core.Path.{◌≡◌}
use mathlib.Core.Logic.{◌≢◌, ◌⊎◌, inl, inr}
use mathlib.Core.Bool.{true, false}
use lib.IntN.{ℤ}
use Rattle.whole.proofs.Linear.{ints}
use Rattle.whole.proofs.Decides.{Decides, both, weaken, le_test, eq_test, is_true, is_false}
use Rattle.interval.specs.Set.{Interval, ◌∈◌, ◌∉◌, ◌∈?◌, is_only}

pub in-test : (x : ℤ) (i : Interval) → Decides (x ∈ i) (x ∉ i) (x ∈? i)
in-test x i = weaken (λ h. record { low = h.0; high = h.1 }) (λ h. h) (both (le_test i.min x) (le_test x i.max))

pub only-test : (i : Interval) (n : ℤ) → Decides ((i.min ≡ n) × (i.max ≡ n)) ((i.min ≢ n) ⊎ (i.max ≢ n)) (is_only i n)
only-test i n = both (eq_test i.min n) (eq_test i.max n)

pub contrary : {x : ℤ} {i : Interval} → x ∉ i → x ∈ i → ⊥
contrary (inl c) h = omega ints
contrary (inr c) h = omega ints

-- ---- a test's value, from the fact: `rw (is-in h) t`
pub is-in : {x : ℤ} {i : Interval} → x ∈ i → (x ∈? i) ≡ true
is-in {x} {i} h = is_true (in-test x i) (λ c. contrary c h)

pub not_in : {x : ℤ} {i : Interval} → x ∉ i → (x ∈? i) ≡ false
not_in {x} {i} c = is_false (in-test x i) (contrary c)

-- a number of i is not outside it
pub other : {x y : ℤ} {i : Interval} → y ∈ i → x ∉ i → y ≢ x
other h c e = contrary c (rw e at h)
