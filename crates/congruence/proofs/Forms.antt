-- What is said of canonical forms, said of the values that they are forms of: both stand for the same numbers.
use mathlib.Core.Path.{◌≡◌, sym, ap, ◌∙◌, subst}
use mathlib.Core.Bool.{Bool}
use mathlib.Core.Logic.{◌↔◌}
use lib.IntN.{ℤ, pos, nat_abs}
use mir.Syntax.{Width}
use mir.Val.{SFits}
use Rattle.whole.specs.Test.{truth}
use Rattle.whole.specs.Divides.{lcm}
use Rattle.congruence.specs.declared.Congruence.{Congruence}
use Rattle.congruence.specs.Set.{cong, Value, single, form}
use Rattle.congruence.specs.Meaning.{Shared, Disjoint, Singles, Far, JoinOf, lcm_of, MeetOf, Negation, Sum, Difference, Exactly, exact, over, OneNumber, EqualityOf, ComparisonOf}
use Rattle.congruence.proofs.Sets.{form_in, form-out, form-is, form-canonical, form-modulus}

-- ---- results

pub exactly-of : {w : Width} {R S : ℤ → Type 0} {v : Congruence} → ((z : ℤ) → R z ↔ S z) → Exactly w R v → Exactly w S v
exactly-of f (exact k) = exact (λ z. (λ h. (f z).0 ((k z).0 h), λ s. (k z).1 ((f z).1 s)))
exactly-of f (over z n k e) = over z n (λ y. (λ s. (k y).0 ((f y).1 s), λ i. (f y).0 ((k y).1 i))) e

pub negation-of : (a : Congruence) (z : ℤ) → Negation (form a) z ↔ Negation a z
negation-of a z = (
  λ s. record { x = s.x; of = form-out a s.x s.of; is = s.is },
  λ s. record { x = s.x; of = form_in a s.x s.of; is = s.is },
)

module _ (a b : Congruence) where
  pub sum_of : (z : ℤ) → Sum (form a) (form b) z ↔ Sum a b z
  sum_of z = (
    λ s. record { x = s.x; y = s.y; left = form-out a s.x s.left; right = form-out b s.y s.right; is = s.is },
    λ s. record { x = s.x; y = s.y; left = form_in a s.x s.left; right = form_in b s.y s.right; is = s.is },
  )

  pub difference-of : (z : ℤ) → Difference (form a) (form b) z ↔ Difference a b z
  difference-of z = (
    λ s. record { x = s.x; y = s.y; left = form-out a s.x s.left; right = form-out b s.y s.right; is = s.is },
    λ s. record { x = s.x; y = s.y; left = form_in a s.x s.left; right = form_in b s.y s.right; is = s.is },
  )

  -- ---- common numbers

  pub disjoint-of : Disjoint (form a) (form b) ↔ Disjoint a b
  disjoint-of = (λ f x p q. f x (form_in a x p) (form_in b x q), λ f x p q. f x (form-out a x p) (form-out b x q))

  pub shared_of : Shared (form a) (form b) ↔ Shared a b
  shared_of = (
    λ s. record { number = s.number; left = form-out a s.number s.left; right = form-out b s.number s.right },
    λ s. record { number = s.number; left = form_in a s.number s.left; right = form_in b s.number s.right },
  )

  -- ---- two single numbers are their own forms

  pub singles-of : Singles (form a) (form b) ↔ Singles a b
  singles-of = (λ s. (sym (form-modulus a) ∙ s.0, sym (form-modulus b) ∙ s.1), λ s. (form-modulus a ∙ s.0, form-modulus b ∙ s.1))

  -- what is said of them is said of both
  own-forms : (P : Congruence → Congruence → Type 0) → Singles a b → P (form a) (form b) ↔ P a b
  own-forms P s = (
    λ p. subst (λ t. P t b) (form-is a (single s.0)) (subst (λ t. P (form a) t) (form-is b (single s.1)) p),
    λ p. subst (λ t. P t (form b)) (sym (form-is a (single s.0))) (subst (λ t. P a t) (sym (form-is b (single s.1))) p),
  )

  pub one-number-of : OneNumber (form a) (form b) ↔ OneNumber a b
  one-number-of = (λ o. (own-forms OneNumber (singles-of.0 o.0)).0 o, λ o. (own-forms OneNumber o.0).1 o)

  far-of : (w : Width) → Far w (form a) (form b) ↔ Far w a b
  far-of w = (λ f. (own-forms (Far w) (singles-of.0 f.singles)).0 f, λ f. (own-forms (Far w) f.singles).1 f)

  -- ---- the lattice

  pub join-of : (w : Width) (v : Congruence) → JoinOf w (form a) (form b) v → JoinOf w a b v
  join-of w v j = record {
    left = λ x h. j.left x (form_in a x h);
    right = λ x h. j.right x (form_in b x h);
    least = λ n d f g. j.least (λ k. n ((far-of w).0 k)) d (λ x h. f x (form-out a x h)) (λ x h. g x (form-out b x h));
    far = λ f. j.far ((far-of w).1 f);
  }

  pub meet-of : Value a → (w : Width) (v : Congruence) → MeetOf w (form a) (form b) v → MeetOf w a b v
  meet-of d w v j = record {
    common = λ f x.
        let k = j.common (subst (SFits w) (sym lcm-is) f) x in
        (λ h. let p = k.0 h in (form-out a x p.0, form-out b x p.1), λ h. k.1 (form_in a x h.0, form_in b x h.1));
    none = λ f. j.none (disjoint-of.1 f);
    left = λ f s. j.left (λ g. f (subst (SFits w) lcm-is g)) (shared_of.1 s) ∙ form-is (form a) (form-canonical a d);
  }
    where
      lcm-is : lcm_of (form a) (form b) ≡ lcm_of a b
      lcm-is = ap (λ m. pos (lcm (nat_abs m) (nat_abs (form b).modulus))) (form-modulus a) ∙ ap (λ n. pos (lcm (nat_abs a.modulus) (nat_abs n))) (form-modulus b)

  -- ---- comparisons

  pub equality-of : (v : Congruence) → EqualityOf (form a) (form b) v → EqualityOf a b v
  equality-of v j = record {
    never = (λ e. disjoint-of.0 (j.never.0 e), λ f. j.never.1 (disjoint-of.1 f));
    always = (λ e. one-number-of.0 (j.always.0 e), λ o. j.always.1 (one-number-of.1 o));
    unknown = λ s n. j.unknown (shared_of.1 s) (λ o. n (one-number-of.0 o));
  }

  pub comparison-of : (test : ℤ → ℤ → Bool) (v : Congruence) → ComparisonOf test (form a) (form b) v → ComparisonOf test a b v
  comparison-of test v j = record {
    single = λ s. (own-forms (λ x y. v ≡ cong (truth (test x.constant y.constant)) (pos 0)) s).0 (j.single (singles-of.1 s));
    unknown = λ n. j.unknown (λ s. n (singles-of.0 s));
  }
