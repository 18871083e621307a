-- The sign of an interval is exact: it has the sides of 0 on which the interval has a number, and no other.
use mathlib.Core.Path.{◌≡◌, refl}
use mathlib.Core.Logic.{◌≢◌, ◌⊎◌, inl, inr, ◌↔◌}
use mathlib.Core.Bool.{Bool, true}
use Prim.Native.Nat.{ℕ, zero, suc}
use lib.IntN.{ℤ, pos, negsuc}
use lib.Signed.{◌≤ℤ◌, ◌<ℤ◌}
use mir.Syntax.{w64}
use Rattle.whole.proofs.Linear.{ints, from-≢}
use Rattle.whole.proofs.Decides.{Decides, holds, fails, branch, le_test, lt_test}
use Rattle.sign.specs.declared.Sign.{Sign}
use Rattle.sign.specs.declared.Sign.TheVariants.{Top, Bottom, Negative, Zero, Positive, NonNeg, NonPos}
use Rattle.sign.specs.Set as S
use Rattle.sign.specs.Set.{Side, negative, nought, positive, side_of, ◌has◌}
use Rattle.sign.proofs.Laws.{side-below, side-above}
use Rattle.interval.specs.Set.{Interval, ◌∈◌, Canonical}
use Rattle.interval.specs.PortedPromise.{Occurs, ExactSign}
use Rattle.interval.specs.Ported.{sign_of, side_sign}
use Rattle.interval.proofs.Test.{only-test}
use Rattle.interval.proofs.Ends.{low-in, high-in}
use Rattle.interval.proofs.Rem.{signs}
use Rattle.interval.proofs.Canonical.{bottom-test, has-number}

-- ---- a side, as an order
was-negative : (x : ℤ) → side_of x ≡ negative → x <ℤ pos 0
was-negative (negsuc k) e = omega ints
was-negative (pos zero) e = let z : ◌≡◌ {A = ℕ} 0 1 = cc in absurd (omega ints)
was-negative (pos (suc k)) e = let z : ◌≡◌ {A = ℕ} 0 1 = cc in absurd (omega ints)

was-nought : (x : ℤ) → side_of x ≡ nought → x ≡ pos 0
was-nought (negsuc k) e = let z : ◌≡◌ {A = ℕ} 0 1 = cc in absurd (omega ints)
was-nought (pos zero) e = refl
was-nought (pos (suc k)) e = let z : ◌≡◌ {A = ℕ} 0 1 = cc in absurd (omega ints)

was-positive : (x : ℤ) → side_of x ≡ positive → pos 0 <ℤ x
was-positive (negsuc k) e = let z : ◌≡◌ {A = ℕ} 0 1 = cc in absurd (omega ints)
was-positive (pos zero) e = let z : ◌≡◌ {A = ℕ} 0 1 = cc in absurd (omega ints)
was-positive (pos (suc k)) e = omega ints

module _ {a : Interval} where
  decided : {d : Side} {t : Bool} → Decides (Occurs a d) (Occurs a d → ⊥) t → (t ≡ true) ↔ Occurs a d
  decided (holds o) = (λ _. o, λ _. refl)
  decided (fails f) = (λ e. absurd (let z : ◌≡◌ {A = ℕ} 0 1 = cc in omega ints), λ o. absurd (f o))

  -- a sign is exact if each of its three tests decides whether the side occurs
  sides : (s : Sign) → Decides (Occurs a negative) (Occurs a negative → ⊥) (s has negative) → Decides (Occurs a nought) (Occurs a nought → ⊥) (s has nought) → Decides (Occurs a positive) (Occurs a positive → ⊥) (s has positive) → ExactSign a s
  sides s n z p negative = decided n
  sides s n z p nought = decided z
  sides s n z p positive = decided p

  -- ---- the witnesses, and why there is none
  low-negative : a.min ≤ℤ a.max → a.min <ℤ pos 0 → Occurs a negative
  low-negative o h = record { number = a.min; number_in = low-in o; side = side-below a.min h }

  high-positive : a.min ≤ℤ a.max → pos 0 <ℤ a.max → Occurs a positive
  high-positive o h = record { number = a.max; number_in = high-in o; side = side-above a.max h }

  zero-there : a.min ≤ℤ pos 0 → pos 0 ≤ℤ a.max → Occurs a nought
  zero-there h k = record { number = pos 0; number_in = record { low = h; high = k }; side = refl }

  no-negative : pos 0 ≤ℤ a.min → Occurs a negative → ⊥
  no-negative h o = let k = was-negative o.number o.side in let m = o.number_in in omega ints

  no-positive : a.max ≤ℤ pos 0 → Occurs a positive → ⊥
  no-positive h o = let k = was-positive o.number o.side in let m = o.number_in in omega ints

  no-zero-above : pos 0 <ℤ a.min → Occurs a nought → ⊥
  no-zero-above h o = let k = was-nought o.number o.side in let m = o.number_in in omega ints

  no-zero-below : a.max <ℤ pos 0 → Occurs a nought → ⊥
  no-zero-below h o = let k = was-nought o.number o.side in let m = o.number_in in omega ints

  no_number : a.max <ℤ a.min → (d : Side) → Occurs a d → ⊥
  no_number h d o = let m = o.number_in in omega ints

  side-exact : a.min ≤ℤ a.max → (a.min ≢ pos 0) ⊎ (a.max ≢ pos 0) → ExactSign a (side_sign a)
  unfolding side_sign
  side-exact o n =
      branch (lt_test a.max (pos 0)) E (λ h. sides Negative (holds (low-negative o (omega ints))) (fails (no-zero-below h)) (fails (no-positive (omega ints)))) λ f.
      branch (le_test a.max (pos 0)) E (λ h. sides NonPos (holds (low-negative o (below f h n))) (holds (zero-there (omega ints) f)) (fails (no-positive h))) λ g.
      branch (lt_test (pos 0) a.min) E (λ h. sides Positive (fails (no-negative (omega ints))) (fails (no-zero-above h)) (holds (high-positive o g))) λ k.
      branch (le_test (pos 0) a.min) E (λ h. sides NonNeg (fails (no-negative h)) (holds (zero-there k f)) (holds (high-positive o g))) λ m.
      sides Top (holds (low-negative o m)) (holds (zero-there k f)) (holds (high-positive o g))
    where
      E : Sign → Type 0
      E = ExactSign a

      below : pos 0 ≤ℤ a.max → a.max ≤ℤ pos 0 → (a.min ≢ pos 0) ⊎ (a.max ≢ pos 0) → a.min <ℤ pos 0
      below f h (inl n) = omega (ints, from-≢ n)
      below f h (inr n) = absurd (n (omega ints))

pub sign-exact : {a : Interval} → Canonical w64 a → ExactSign a (sign_of a)
unfolding sign_of
sign-exact {a} c =
    branch (bottom-test w64 a) (ExactSign a) (λ h. let e : a.max <ℤ a.min = omega (ints, signs w64) in sides Bottom (fails (no_number e negative)) (fails (no_number e nought)) (fails (no_number e positive))) λ n.
    branch (only-test a (pos 0)) (ExactSign a) (λ h. sides Zero (fails (no-negative (omega ints))) (holds (zero-there (omega ints) (omega ints))) (fails (no-positive (omega ints)))) λ z.
    side-exact (has-number c n).ordered z

-- so each number of the interval is one of its sign
pub sign-covers : {a : Interval} → Canonical w64 a → (x : ℤ) → x ∈ a → S.◌∈◌ x (sign_of a)
sign-covers c x h = record { is = (sign-exact c (side_of x)).1 (record { number = x; number_in = h; side = refl }) }

-- at any width: a range with ordered ends
pub ordered-sign-covers : {a : Interval} → a.min ≤ℤ a.max → (x : ℤ) → x ∈ a → S.◌∈◌ x (sign_of a)
unfolding sign_of
ordered-sign-covers {a} o x h = record { is = (exact (side_of x)).1 (record { number = x; number_in = h; side = refl }) }
  where
    exact : ExactSign a (sign_of a)
    exact =
        branch (bottom-test w64 a) (ExactSign a) (λ h. absurd (omega (ints, signs w64))) λ n.
        branch (only-test a (pos 0)) (ExactSign a) (λ h. sides Zero (fails (no-negative (omega ints))) (holds (zero-there (omega ints) (omega ints))) (fails (no-positive (omega ints)))) λ z.
        side-exact o z
