-- What the library's methods of `i64` promise, as the definitions say it.
use mathlib.Core.Path.{◌≡◌, refl, ap, ◌∙◌}
use mathlib.Core.Bool.{Bool, true, false}
use lib.IntN.{ℤ, pos, negsuc}
use lib.Signed.{quot_z}
use mir.Syntax.{Width}
use mir.Val.{SFits}
use Rattle.std.specs.Prelude.{Err, None, Ok, OkIff, Option, Result, Some, SomeIff, is_some}
use Rattle.std.specs.Result.{result_ok}
use Rattle.std.specs.Int.{CanDivide, IsNonZero, int_min, int_max, saturate_signed}
use Rattle.whole.specs.Choice.{pick}
use Rattle.whole.specs.Test.{◌<?◌}
use Rattle.whole.specs.Whole.{min_ℤ, max_ℤ}
use Rattle.whole.specs.Range.{least, greatest, fits?, clamp}
use Rattle.whole.specs.Exact.{exactly}
use Rattle.whole.proofs.Linear.{ints}
use Rattle.whole.proofs.Decides.{branch, le_test, lt_test, fits-test, is_true, is_false, not_beyond}

module _ (w : Width) (z : ℤ) where
  -- a checked operation is an exact one
  pub exactly_is : (r : Option ℤ) → SomeIff r (SFits w z) z → r ≡ exactly w z
  unfolding exactly
  exactly_is None h = rw (is_false (fits-test w z) h)
  exactly_is (Some x) h = rw (is_true (fits-test w z) (not_beyond h.0), h.1)

  pub converted_is : {E : Type 0} (r : Result ℤ E) → OkIff r (SFits w z) z → result_ok r ≡ exactly w z
  unfolding exactly
  converted_is (Err e) h = rw (is_false (fits-test w z) h)
  converted_is (Ok x) h = rw (is_true (fits-test w z) (not_beyond h.0), h.1)

  -- whether there is a result
  pub found_is : (r : Option ℤ) (b : Bool) → b ≡ is_some r → r ≡ exactly w z → b ≡ fits? w z
  unfolding exactly
  found_is r b h k = h ∙ (ap is_some k ∙ go (fits? w z))
    where
      go : (t : Bool) → is_some (pick t (Some z) None) ≡ t
      go true = refl
      go false = refl

-- a checked quotient, where the divisor isn't 0
pub divided_is : (w : Width) (x d : ℤ) (r : Option ℤ) → IsNonZero w d → SomeIff r (CanDivide w x d) (quot_z x d) → r ≡ exactly w (quot_z x d)
divided_is w x d None p h = exactly_is w (quot_z x d) None (λ f. h (p, f))
divided_is w x d (Some n) p h = exactly_is w (quot_z x d) (Some n) (h.0.1, h.1)

-- a saturated number is the nearest
pub clamp_is : (w : Width) (z : ℤ) → saturate_signed w z ≡ clamp w z
unfolding clamp
clamp_is w (pos n) =
    branch (lt_test (pos n) (least w)) (λ v. saturate_signed w (pos n) ≡ v) (λ h. absurd (omega ints)) λ _.
    branch (lt_test (greatest w) (pos n)) (λ v. saturate_signed w (pos n) ≡ v) (λ h. omega ints) (λ h. omega ints)
clamp_is w (negsuc n) =
    branch (lt_test (negsuc n) (least w)) (λ v. saturate_signed w (negsuc n) ≡ v) (λ h. omega ints) λ k.
    branch (lt_test (greatest w) (negsuc n)) (λ v. saturate_signed w (negsuc n) ≡ v) (λ h. absurd (omega ints)) (λ h. omega ints)

pub min_is : (a b : ℤ) → int_min a b ≡ min_ℤ a b
unfolding min_ℤ ◌<?◌
min_is a b = branch (le_test a b) (λ v. int_min a b ≡ v) (λ h. rw (is_false (lt_test b a) (λ k. omega ints))) (λ h. rw (is_true (lt_test b a) (λ k. omega ints)))

pub max_is : (a b : ℤ) → int_max a b ≡ max_ℤ a b
unfolding max_ℤ ◌<?◌
max_is a b = branch (le_test a b) (λ v. int_max a b ≡ v) (λ h. rw (is_false (lt_test b a) (λ k. omega ints))) (λ h. rw (is_true (lt_test b a) (λ k. omega ints)))
