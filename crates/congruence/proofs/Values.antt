-- What `search` is handed for the definitions on congruences, beside the `flags` of whole numbers.
use mathlib.Core.Path.{◌≡◌, refl, sym, ap, ap₂, ◌∙◌, subst}
use mathlib.Core.Bool.{Bool, true, false, not, ◌&&◌, ◌||◌}
use Prim.Native.Nat.{ℕ}
use lib.Dec.{eqb}
use lib.IntN.{ℤ, pos}
use mir.Syntax.{Width, w64}
use mir.Val.{SFits, of_z}
use Rattle.std.specs.Bool.{one_answer}
use Rattle.std.specs.Cmp.{signed_Decides}
use Rattle.std.specs.Ordering.{int_eq}
use Rattle.whole.specs.Test.{◌≟◌}
use Rattle.whole.proofs.Decides.{eq_test, equal, yes}
use Rattle.whole.proofs.Fits.{machine, zero-fits}
use Rattle.whole.proofs.Flags.{bools, eq_yes, eq-no-64, eq_is}
use Rattle.refusal.specs.Answer.{Answer, is}
use Rattle.congruence.specs.declared.Congruence.{Congruence}
use Rattle.congruence.specs.Answer.{within}
use Rattle.congruence.specs.Set.{cong, bottom?, domain?, domain_at?, singles?, form}
use Rattle.congruence.specs.Ported as ported
use Rattle.congruence.specs.Mended as mended

-- a struct by its fields
pub built : (a b m n : ℤ) → a ≡ m → b ≡ n → cong a b ≡ cong m n
built a b m n p q = rw (p, q) refl

-- what a call ensures of a test, as the test of the definition
pub bottom-told : (a : Congruence) (r t : Bool) → r ≡ bottom? a → r ≡ t → bottom? a ≡ t
bottom-told a r t p q = sym p ∙ q

pub both_told : (a b : Congruence) (r t : Bool) → r ≡ (domain? a && domain? b) → r ≡ t → (domain? a && domain? b) ≡ t
both_told a b r t p q = sym p ∙ q

pub either-told : (a b : Congruence) (r t : Bool) → r ≡ (bottom? a || bottom? b) → r ≡ t → (bottom? a || bottom? b) ≡ t
either-told a b r t p q = sym p ∙ q

pub singles-told : (a b : Congruence) (r t : Bool) → r ≡ singles? a b → r ≡ t → singles? a b ≡ t
singles-told a b r t p q = sym p ∙ q

pub only-told : (a : Congruence) (k : ℤ) (r t : Bool) → r ≡ ported.only? a k → r ≡ t → ported.only? a k ≡ t
only-told a k r t p q = sym p ∙ q

-- the derived `==`
pub eq-number : (x y : ℤ) → int_eq x y ≡ (x ≟ y)
eq-number x y = one_answer (int_eq x y) (x ≟ y) (signed_Decides x y) (yes (eq_test x y), λ e. subst (λ c. (x ≟ c) ≡ true) e (equal x))

pub same-told : (a b : Congruence) (r t : Bool) → r ≡ (int_eq a.constant b.constant && int_eq a.modulus b.modulus) → r ≡ t → ported.same? a b ≡ t
unfolding ported.same?
same-told a b r t p q = sym (p ∙ ap₂ ◌&&◌ (eq-number a.constant b.constant) (eq-number a.modulus b.modulus)) ∙ q

pub below-told : (a b : Congruence) (r t : Bool) → r ≡ ported.below? a b → r ≡ t → ported.below? a b ≡ t
below-told a b r t p q = sym p ∙ q

-- the test that `need` let through
pub admitted : {t : Bool} {u : Unit {0}} → ◌≡◌ {A = Answer (Unit {0})} (is u) (within t (is tt)) → t ≡ true
admitted {t = true} h = refl
admitted {t = false} h = cc

-- a comparison the other way round
pub turned : (w : Width) (test : ℤ → ℤ → Bool) (a b : Congruence) → mended.on_forms w (mended.comparison test) a b ≡ mended.on_forms w (mended.comparison (λ x y. test y x)) b a
unfolding mended.comparison singles?
turned w test a b = simp (and_comm (domain_at? w a) (domain_at? w b), and_comm ((form a).modulus ≟ pos 0) ((form b).modulus ≟ pos 0))
  where
    and_comm : (s t : Bool) → (s && t) ≡ (t && s)
    and_comm true true = refl
    and_comm true false = refl
    and_comm false true = refl
    and_comm false false = refl

pub domain-at-told : (w : Width) (a : Congruence) (r t : Bool) → r ≡ domain_at? w a → r ≡ t → domain_at? w a ≡ t
domain-at-told w a r t p q = sym p ∙ q

pub domain-told : (a : Congruence) (r t : Bool) → r ≡ domain? a → r ≡ t → domain? a ≡ t
domain-told a r t p q = sym p ∙ q

-- a test that a definition puts together of two, as the code's own ifs have it
pub and_is : (r s t : Bool) → s ≡ true → r ≡ t → r ≡ (s && t)
and_is r s t h e = rw h e

pub and-off : (r s t : Bool) → s ≡ false → r ≡ false → r ≡ (s && t)
and-off r s t h e = rw h e

pub not_on : (s : Bool) → s ≡ false → not s ≡ true
not_on s h = rw h refl

pub not-off : (s : Bool) → s ≡ true → not s ≡ false
not-off s h = rw h refl

pub or_is : (r s t : Bool) → s ≡ false → r ≡ t → r ≡ (s || t)
or_is r s t h e = rw h e

pub or-on : (r s t : Bool) → s ≡ true → r ≡ true → r ≡ (s || t)
or-on r s t h e = rw h e

-- the code's `==` at 64 bits, where a literal's bits are a numeral
pub equal-bits : (x y : ℤ) → of_z w64 x ≡ of_z w64 y → SFits w64 x → SFits w64 y → (x ≟ y) ≡ true
equal-bits x y = eq_yes {w = w64} x y

pub differ-is : (x y : ℤ) (k n : ℕ) → k ≡ of_z w64 x → n ≡ of_z w64 y → SFits w64 x → SFits w64 y → not (eqb k n) ≡ not (x ≟ y)
differ-is x y k n p q f g = ap not (eq_is x y k n p q f g)

pub fits-0 : SFits w64 (pos 0)
fits-0 = zero-fits

pub fits-1 : SFits w64 (pos 1)
fits-1 = omega machine

pub ruleset values = (bottom-told, domain-told, domain-at-told, both_told, either-told, built, and_is, and-off, or_is, or-on, not_on, not-off, equal-bits, eq-no-64, differ-is, fits-0, fits-1, bools)
