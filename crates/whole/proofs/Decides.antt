-- A test and what it decides: `branch (le_test a b) P f g` proves P of a `pick` on a ≤? b from both its arms, each given the fact.
-- Compound tests are put together as the definitions put them: `both`, `either`, `isn't`.
use mathlib.Core.Path.{◌≡◌, refl}
use mathlib.Core.Logic.{◌≢◌, ◌⊎◌, inl, inr}
use mathlib.Core.Bool.{Bool, true, false, ◌&&◌, ◌||◌, not}
use Prim.Native.Nat.{ℕ, ◌≤◌, ◌<◌}
use native.Mathlib.Omega.{arith}
use lib.Dec.{T, leb, ltb, eqb}
use borrow.Author.Tests.{leb-true, leb-false, ltb-true, ltb-false, eqb-true, eqb-false}
use lib.IntN.{ℤ}
use lib.Signed.{◌≤ℤ◌, ◌<ℤ◌, le_z, lt_z, le_z_yes, lt_z_yes, lt_z_no}
use mir.Syntax.{Width}
use mir.Val.{SFits}
use Rattle.whole.specs.Choice.{pick}
use Rattle.whole.specs.Test.{◌≤?◌, ◌<?◌, ◌≟◌}
use Rattle.whole.specs.Range.{least, greatest, fits?}
use Rattle.whole.proofs.Linear.{ints, le_z-no}
use Rattle.whole.proofs.Fits.{fits, low, high}

-- b says which of two facts holds
pub data Decides (A N : Type 0) : Bool → Type 0 where
  holds : A → Decides A N true
  fails : N → Decides A N false

by-T : {A N : Type 0} (b : Bool) → (T b → A) → (T (not b) → N) → Decides A N b
by-T true f g = holds (f tt)
by-T false f g = fails (g tt)

-- ---- the tests
module _ (a b : ℤ) where
  pub le_test : Decides (a ≤ℤ b) (b <ℤ a) (a ≤? b)
  unfolding ◌≤?◌
  le_test = by-T (le_z a b) le_z_yes (le_z-no {a = a} {b = b})

  pub lt_test : Decides (a <ℤ b) (b ≤ℤ a) (a <? b)
  unfolding ◌<?◌
  lt_test = by-T (lt_z a b) lt_z_yes (lt_z_no {a = a} {b = b})

-- those of natural numbers are the kit's
by_value : {A N : Type 0} (b : Bool) → (b ≡ true → A) → (b ≡ false → N) → Decides A N b
by_value true f g = holds (f refl)
by_value false f g = fails (g refl)

module _ (a b : ℕ) where
  pub leb-test : Decides (a ≤ b) (b < a) (leb a b)
  leb-test = by_value (leb a b) (leb-true a b) (leb-false a b)

  pub ltb-test : Decides (a < b) (b ≤ a) (ltb a b)
  ltb-test = by_value (ltb a b) (ltb-true a b) (ltb-false a b)

  pub eqb-test : Decides (a ≡ b) (a ≢ b) (eqb a b)
  eqb-test = by_value (eqb a b) (eqb-true a b) (eqb-false a b)

-- ---- and their compounds
module _ {A M B N : Type 0} where
  pub both : {p q : Bool} → Decides A M p → Decides B N q → Decides (A × B) (M ⊎ N) (p && q)
  both (holds a) (holds b) = holds (a, b)
  both (holds a) (fails n) = fails (inr n)
  both (fails m) d = fails (inl m)

  pub either : {p q : Bool} → Decides A M p → Decides B N q → Decides (A ⊎ B) (M × N) (p || q)
  either (holds a) d = holds (inl a)
  either (fails m) (holds b) = holds (inr b)
  either (fails m) (fails n) = fails (m, n)

  -- two tests that decide the same
  pub same_test : {p q : Bool} → Decides A M p → Decides B N q → (A → N → ⊥) → (M → B → ⊥) → p ≡ q
  same_test (holds a) (holds b) f g = refl
  same_test (holds a) (fails n) f g = absurd (f a n)
  same_test (fails m) (holds b) f g = absurd (g m b)
  same_test (fails m) (fails n) f g = refl

module _ {A M : Type 0} where
  pub isn't : {p : Bool} → Decides A M p → Decides M A (not p)
  isn't (holds a) = fails a
  isn't (fails m) = holds m

  pub weaken : {B N : Type 0} {p : Bool} → (A → B) → (M → N) → Decides A M p → Decides B N p
  weaken f g (holds a) = holds (f a)
  weaken f g (fails m) = fails (g m)

  -- both arms
  pub branch : {X : Type 0} {p : Bool} {x y : X} → Decides A M p → (P : X → Type 0) → (A → P x) → (M → P y) → P (pick p x y)
  branch (holds a) P f g = f a
  branch (fails m) P f g = g m

  -- the test's value, where one side is impossible
  pub is_true : {p : Bool} → Decides A M p → (M → ⊥) → p ≡ true
  is_true (holds a) f = refl
  is_true (fails m) f = absurd (f m)

  pub is_false : {p : Bool} → Decides A M p → (A → ⊥) → p ≡ false
  is_false (holds a) f = absurd (f a)
  is_false (fails m) f = refl

  -- the fact, where the test's value is known
  pub yes : {p : Bool} → Decides A M p → p ≡ true → A
  yes (holds a) e = a
  yes (fails m) e = let z : ◌≡◌ {A = ℕ} 0 1 = cc in absurd (omega arith)

  pub no : {p : Bool} → Decides A M p → p ≡ false → M
  no (holds a) e = let z : ◌≡◌ {A = ℕ} 0 1 = cc in absurd (omega arith)
  no (fails m) e = m

pub eq_test : (a b : ℤ) → Decides (a ≡ b) (a ≢ b) (a ≟ b)
unfolding ◌≟◌
eq_test a b = weaken there apart (both (by-T (le_z a b) le_z_yes (le_z-no {a = a} {b = b})) (by-T (le_z b a) le_z_yes (le_z-no {a = b} {b = a})))
  where
    there : (a ≤ℤ b) × (b ≤ℤ a) → a ≡ b
    there h = omega ints

    apart : (b <ℤ a) ⊎ (a <ℤ b) → a ≢ b
    apart (inl h) = omega ints
    apart (inr h) = omega ints

pub equal : (x : ℤ) → (x ≟ x) ≡ true
equal x = is_true (eq_test x x) (λ c. c refl)

pub unequal : {x y : ℤ} → x ≢ y → (x ≟ y) ≡ false
unequal {x} {y} c = is_false (eq_test x y) c

-- a number is one of the width, or lies beyond one of its ends
abbrev pub Beyond : Width → ℤ → Type 0
Beyond w z = (z <ℤ least w) ⊎ (greatest w <ℤ z)

pub fits-test : (w : Width) (z : ℤ) → Decides (SFits w z) (Beyond w z) (fits? w z)
unfolding fits?
fits-test w z = weaken (λ h. fits w z h.0 h.1) (λ h. h) (both (le_test (least w) z) (le_test z (greatest w)))

pub not_beyond : {w : Width} {z : ℤ} → SFits w z → Beyond w z → ⊥
not_beyond {w} {z} h (inl k) = let l = low w z h in omega ints
not_beyond {w} {z} h (inr k) = let l = high w z h in omega ints

pub is-fit : {w : Width} {z : ℤ} → SFits w z → fits? w z ≡ true
is-fit {w} {z} h = is_true (fits-test w z) (not_beyond h)
