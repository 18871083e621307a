-- What the mended rules are made of: the class of a number modulo a natural number, and the exact one, stand for what they should.
use mathlib.Core.Path.{◌≡◌, refl, sym, ◌∙◌, subst}
use mathlib.Core.Bool.{Bool, true, false}
use mathlib.Core.Logic.{◌↔◌}
use Prim.Native.Nat.{ℕ}
use lib.IntN.{ℤ, pos}
use mir.Syntax.{Width}
use mir.Val.{SFits}
use Rattle.std.specs.Prelude.{None, Some}
use Rattle.whole.specs.Choice.{pick}
use Rattle.whole.specs.Range.{fits?}
use Rattle.whole.specs.Divides.{Cong, floor_rem}
use Rattle.whole.specs.Exact.{exactly}
use Rattle.whole.proofs.Decides.{branch, fits-test, eqb-test, is-fit, not_beyond}
use Rattle.congruence.specs.Set.{cong, top, bottom, ◌∈◌, Proper}
use Rattle.congruence.specs.Meaning.{Exactly, exact, over}
use Rattle.congruence.specs.Mended.{result_of, class_of, only_of, exact_of}
use Rattle.congruence.proofs.Sets.{all, reduced-in, reduced-out, reduced-proper, top-proper, bottom-proper, single-proper, alone-in, alone-out, at-0-equal, equal-at-0}

module _ (w : Width) (z : ℤ) (m : ℕ) where
  pub class-is : class_of w z m ≡ pick (fits? w (pos m)) (cong (floor_rem z (pos m)) (pos m)) top
  unfolding class_of result_of exactly
  class-is = go (fits? w (pos m))
    where
      go : (t : Bool) → result_of (Some z) (pick t (Some (pos m)) None) top ≡ pick t (cong (floor_rem z (pos m)) (pos m)) top
      go true = refl
      go false = refl

  pub class-in : (x : ℤ) → Cong m x z → x ∈ class_of w z m
  class-in x h = rw class-is (branch (fits-test w (pos m)) (λ t. x ∈ t) (λ f. reduced-in z m x h) (λ b. all x))

  pub class-out : SFits w (pos m) → (x : ℤ) → x ∈ class_of w z m → Cong m x z
  class-out f x h = reduced-out z m x (subst (λ t. x ∈ t) (class-is ∙ rw (is-fit f) refl) h)

  pub class-over : fits? w (pos m) ≡ false → class_of w z m ≡ top
  class-over f = class-is ∙ rw f refl

  pub class-proper : (m ≡ 0 → SFits w z) → Proper w (class_of w z m)
  class-proper f = rw class-is (branch (fits-test w (pos m)) (Proper w) (λ g. reduced-proper w z m f g) (λ b. top-proper w))

  -- ---- exact

  only-is : only_of (exactly w z) ≡ pick (fits? w z) (cong z (pos 0)) bottom
  unfolding only_of exactly
  only-is = go (fits? w z)
    where
      go : (t : Bool) → only_of (pick t (Some z) None) ≡ pick t (cong z (pos 0)) bottom
      go true = refl
      go false = refl

  -- the numbers that differ from z by a multiple of m, or that z alone doesn't fit
  pub exact-right : (R : ℤ → Type 0) → ((x : ℤ) → R x ↔ Cong m x z) → SFits w (pos m) → Exactly w R (exact_of w z m)
  unfolding exact_of
  exact-right R k g = branch (eqb-test m 0) (Exactly w R)
      (λ e. rw only-is (branch (fits-test w z) (Exactly w R)
      (λ f. exact (λ x. (λ h. (one e x).1 (alone-out z x h), λ r. subst (λ t. t ∈ cong z (pos 0)) (sym ((one e x).0 r)) (alone-in z))))
      (λ b. over z (λ f. not_beyond f b) (one e) refl)))
      (λ n. exact (λ x. (λ h. (k x).1 (class-out g x h), λ r. class-in x ((k x).0 r))))
    where
      one : m ≡ 0 → (x : ℤ) → R x ↔ (x ≡ z)
      one e x = (λ r. equal-at-0 x z (subst (λ t. Cong t x z) e ((k x).0 r)), λ i. (k x).1 (subst (λ t. Cong t x z) (sym e) (at-0-equal x z i)))

  pub exact-proper : Proper w (exact_of w z m)
  unfolding exact_of
  exact-proper = branch (eqb-test m 0) (Proper w) (λ e. rw only-is (branch (fits-test w z) (Proper w) (λ f. single-proper w z f) (λ b. bottom-proper w))) (λ n. class-proper (λ e. absurd (n e)))
