-- From what the code's tests and calls leave to what a definition asks: `flags` is what `search` is handed.
-- A signed local holds bits, so a test of x and y is one of `to_z w (of_z w x)` and `to_z w (of_z w y)`, which are x and y since both fit.
use mathlib.Core.Path.{◌≡◌, refl, sym, ap, subst, ◌∙◌}
use mathlib.Core.Logic.{◌≢◌}
use mathlib.Core.Bool.{Bool, true, false, not, ◌&&◌, ◌||◌}
use Prim.Native.Nat.{ℕ, ◌<◌}
use native.Mathlib.Nat.{pos_of_ne-zero}
use lib.IntN.{ℤ, pos}
use lib.Dec.{eqb, lit<}
use lib.Signed.{lt_z, le_z, ◌≤ℤ◌, ◌<ℤ◌}
use mir.Syntax.{Width, w8, w16, w32, w64, w128}
use mir.Val.{SFits, to_z, of_z}
use mir.Facts.{to_z-of_z}
use borrow.Author.Tests.{eqb-true, eqb-false}
use borrow.Author.Rules.{sfits_of}
use Rattle.whole.specs.Choice.{pick}
use Rattle.whole.specs.Test.{◌≤?◌, ◌<?◌, ◌≟◌}
use Rattle.whole.proofs.Decides.{le_test, lt_test, eq_test, equal, unequal, yes, no}

-- ---- a definition that picks, and its compound tests
pub pick_yes : {A : Type 0} (t : Bool) (a b x : A) → t ≡ true → x ≡ a → x ≡ pick t a b
pick_yes t a b x h e = rw h e

pub pick_no : {A : Type 0} (t : Bool) (a b x : A) → t ≡ false → x ≡ b → x ≡ pick t a b
pick_no t a b x h e = rw h e

pub and_yes : (s t : Bool) → s ≡ true → t ≡ true → (s && t) ≡ true
and_yes s t h k = rw (h, k) refl

pub and_no : (s t : Bool) → s ≡ false → (s && t) ≡ false
and_no s t h = rw h refl

pub and-no-2 : (s t : Bool) → s ≡ true → t ≡ false → (s && t) ≡ false
and-no-2 s t h k = rw (h, k) refl

pub or_yes : (s t : Bool) → s ≡ true → (s || t) ≡ true
or_yes s t h = rw h refl

pub or-yes-2 : (s t : Bool) → s ≡ false → t ≡ true → (s || t) ≡ true
or-yes-2 s t h k = rw (h, k) refl

pub or_no : (s t : Bool) → s ≡ false → t ≡ false → (s || t) ≡ false
or_no s t h k = rw (h, k) refl

pub not-was : (s t : Bool) → not s ≡ t → s ≡ not t
not-was true t h = ap not h
not-was false t h = ap not h

-- ---- a test of two signed numbers, taken or left, as the definition's test
module _ {w : Width} (a b : ℤ) (t : Bool) where
  pub lt-flag : lt_z (to_z w (of_z w a)) (to_z w (of_z w b)) ≡ t → SFits w a → SFits w b → (a <? b) ≡ t
  unfolding ◌<?◌
  lt-flag h f g = simp (to_z-of_z f, to_z-of_z g) at h

  pub le-flag : le_z (to_z w (of_z w a)) (to_z w (of_z w b)) ≡ t → SFits w a → SFits w b → (a ≤? b) ≡ t
  unfolding ◌≤?◌
  le-flag h f g = simp (to_z-of_z f, to_z-of_z g) at h

module _ {w : Width} (a b : ℤ) where
  pub eq_yes : of_z w a ≡ of_z w b → SFits w a → SFits w b → (a ≟ b) ≡ true
  eq_yes h f g = let e : a ≡ b = sym (to_z-of_z f) ∙ (ap (to_z w) h ∙ to_z-of_z g) in subst (λ c. (a ≟ c) ≡ true) e (equal a)

pub eq_no : (w : Width) (a b : ℤ) → (of_z w a ≡ of_z w b → ⊥) → (a ≟ b) ≡ false
eq_no w a b h = unequal (λ e. h (ap (of_z w) e))

-- at 64 bits, for `search`: it finds no width under a negation
pub eq-no-64 : (a b : ℤ) → (of_z w64 a ≡ of_z w64 b → ⊥) → (a ≟ b) ≡ false
eq-no-64 = eq_no w64

-- ---- as a fact over ℤ
module _ {w : Width} {a b : ℤ} (p : SFits w a) (q : SFits w b) where
  pub le-true : le_z (to_z w (of_z w a)) (to_z w (of_z w b)) ≡ true → a ≤ℤ b
  le-true e = yes (le_test a b) (le-flag a b true e p q)

  pub le-false : le_z (to_z w (of_z w a)) (to_z w (of_z w b)) ≡ false → b <ℤ a
  le-false e = no (le_test a b) (le-flag a b false e p q)

  pub lt-true : lt_z (to_z w (of_z w a)) (to_z w (of_z w b)) ≡ true → a <ℤ b
  lt-true e = yes (lt_test a b) (lt-flag a b true e p q)

  pub lt-false : lt_z (to_z w (of_z w a)) (to_z w (of_z w b)) ≡ false → b ≤ℤ a
  lt-false e = no (lt_test a b) (lt-flag a b false e p q)

  pub eq-true : of_z w a ≡ of_z w b → a ≡ b
  eq-true e = yes (eq_test a b) (eq_yes a b e p q)

  pub eq-false : (of_z w a ≡ of_z w b → ⊥) → a ≢ b
  eq-false e = no (eq_test a b) (eq_no w a b e)

-- ---- a test that is the value itself: the bits are m and n, which at a literal are numerals
module _ {w : Width} (a b : ℤ) where
  pub lt-is : SFits w a → SFits w b → lt_z (to_z w (of_z w a)) (to_z w (of_z w b)) ≡ (a <? b)
  lt-is f g = sym (lt-flag a b (lt_z (to_z w (of_z w a)) (to_z w (of_z w b))) refl f g)

  pub le_is : SFits w a → SFits w b → le_z (to_z w (of_z w a)) (to_z w (of_z w b)) ≡ (a ≤? b)
  le_is f g = sym (le-flag a b (le_z (to_z w (of_z w a)) (to_z w (of_z w b))) refl f g)

  eq-either : (s : Bool) → eqb (of_z w a) (of_z w b) ≡ s → SFits w a → SFits w b → (a ≟ b) ≡ s
  eq-either true h f g = eq_yes a b (eqb-true (of_z w a) (of_z w b) h) f g
  eq-either false h f g = eq_no w a b (eqb-false (of_z w a) (of_z w b) h)

  -- the second half of an `&&` or `||`
  pub eq_flag : (t : Bool) → eqb (of_z w a) (of_z w b) ≡ t → SFits w a → SFits w b → (a ≟ b) ≡ t
  eq_flag t h f g = eq-either t h f g

  pub eq_is : (m n : ℕ) → m ≡ of_z w a → n ≡ of_z w b → SFits w a → SFits w b → eqb m n ≡ (a ≟ b)
  eq_is m n p q f g = rw (p, q) (sym (eq-either (eqb (of_z w a) (of_z w b)) refl f g))

-- ---- a result
pub back : {w : Width} (r x : ℤ) → SFits w r → r ≡ x → to_z w (of_z w r) ≡ x
back r x f e = to_z-of_z f ∙ e

-- what a call ensures of a test
pub told : (r s t : Bool) → r ≡ s → r ≡ t → s ≡ t
told r s t p q = sym p ∙ q

-- a call's answer, and the branch that was taken on its negation
pub was-false : {r b : Bool} → r ≡ b → not r ≡ true → b ≡ false
was-false {r} {b} e t = sym e ∙ not-was r true t

pub was-true : {r b : Bool} → r ≡ b → not r ≡ false → b ≡ true
was-true {r} {b} e t = sym e ∙ not-was r false t

pub ruleset flags = (back, pick_yes, pick_no, lt-flag, le-flag, eq_yes, eq-no-64, sfits_of, lit<, to_z-of_z, tt)

pub ruleset bools = (lt-is, le_is, eq_is, eq_flag, and_yes, and_no, and-no-2, or_yes, or-yes-2, or_no, flags)

-- ---- what a signed division asks of the divisor's bits
zero_bits : (w : Width) → to_z w 0 ≡ pos 0
zero_bits w8 = refl
zero_bits w16 = refl
zero_bits w32 = refl
zero_bits w64 = refl
zero_bits w128 = refl

pub divisor : {w : Width} {d : ℤ} → SFits w d → d ≢ pos 0 → 0 < of_z w d
divisor {w} h f = pos_of_ne-zero (λ e. f (sym (to_z-of_z h) ∙ ap (to_z w) e ∙ zero_bits w))
