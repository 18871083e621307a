-- What a call ensures, carried from the numbers that the callee was handed to those that a definition names: `calls` is what `search` is handed.
-- A signed local holds bits, so a callee is handed `to_z w64 (of_z w64 x)` for x.
use mathlib.Core.Path.{◌≡◌, sym, ap, ◌∙◌}
use mathlib.Core.Bool.{Bool, true, false, not}
use lib.Dec.{eqb}
use Rattle.std.specs.Prelude.{Option}
use Rattle.whole.specs.Test.{◌≟◌}
use Rattle.whole.proofs.Flags.{eq_is, was-true, was-false}
use Rattle.congruence.specs.declared.Congruence.{Congruence}
use Prim.Native.Nat.{ℕ}
use lib.IntN.{ℤ, nat_abs, ◌+ℤ◌, ◌-ℤ◌}
use lib.Signed.{rem_z}
use mir.Syntax.{Width, w64}
use mir.Val.{SFits, to_z, of_z}
use mir.Facts.{to_z-of_z}
use Rattle.whole.specs.Exact.{exactly}
use Rattle.refusal.specs.Answer.{Answer, is}
use Rattle.congruence.specs.Numbers.{alike?}
use Rattle.congruence.specs.Ported as ported
use Rattle.congruence.specs.Mended as mended

-- of one number and of two
module _ {A : Type 0} where
  handed-1 : (f : ℤ → A) (x : ℤ) (r : A) → r ≡ f (to_z w64 (of_z w64 x)) → SFits w64 x → r ≡ f x
  handed-1 f x r h p = simp (to_z-of_z p) at h

  handed : (f : ℤ → ℤ → A) (x y : ℤ) (r : A) → r ≡ f (to_z w64 (of_z w64 x)) (to_z w64 (of_z w64 y)) → SFits w64 x → SFits w64 y → r ≡ f x y
  handed f x y r h p q = simp (to_z-of_z p, to_z-of_z q) at h

-- a number that was made
module _ (u : Width) (x y : ℤ) (r : Option ℤ) where
  pub add-call : r ≡ exactly u (to_z w64 (of_z w64 x) +ℤ to_z w64 (of_z w64 y)) → SFits w64 x → SFits w64 y → r ≡ exactly u (x +ℤ y)
  add-call = handed (λ s t. exactly u (s +ℤ t)) x y r

  pub sub-call : r ≡ exactly u (to_z w64 (of_z w64 x) -ℤ to_z w64 (of_z w64 y)) → SFits w64 x → SFits w64 y → r ≡ exactly u (x -ℤ y)
  sub-call = handed (λ s t. exactly u (s -ℤ t)) x y r

module _ (x y : ℤ) (r : Option ℤ) where
  pub gcd-call : r ≡ ported.gcd_of (to_z w64 (of_z w64 x)) (to_z w64 (of_z w64 y)) → SFits w64 x → SFits w64 y → r ≡ ported.gcd_of x y
  gcd-call = handed ported.gcd_of x y r

module _ (x y : ℤ) (r : ℤ) where
  pub rem-call : r ≡ rem_z (to_z w64 (of_z w64 x)) (to_z w64 (of_z w64 y)) → SFits w64 x → SFits w64 y → SFits w64 r → to_z w64 (of_z w64 r) ≡ rem_z x y
  rem-call h p q k = to_z-of_z k ∙ handed rem_z x y r h p q

module _ (x y : ℤ) where
  pub alike-call : (m n : ℕ) (r : Bool) → r ≡ alike? n (to_z w64 (of_z w64 x)) (to_z w64 (of_z w64 y)) → n ≡ m → SFits w64 x → SFits w64 y → r ≡ alike? m x y
  alike-call m n r h e p q = rw e at (handed (alike? n) x y r h p q)

pub magnitude-call : (x : ℤ) (r : ℕ) → r ≡ nat_abs (to_z w64 (of_z w64 x)) → SFits w64 x → r ≡ nat_abs x
magnitude-call = handed-1 nat_abs

pub held-call : (x y : ℤ) (r : Answer Congruence) → r ≡ ported.held (to_z w64 (of_z w64 x)) (to_z w64 (of_z w64 y)) → SFits w64 x → SFits w64 y → r ≡ ported.held x y
held-call = handed ported.held

pub only-call : (a : Congruence) (k : ℤ) (r t : Bool) → r ≡ ported.only? a (to_z w64 (of_z w64 k)) → SFits w64 k → r ≡ t → ported.only? a k ≡ t
only-call a k r t h p q = sym (handed-1 (ported.only? a) k r h p) ∙ q

-- the test of a remainder that a call gave
module _ (x m y r : ℤ) (h : r ≡ rem_z (to_z w64 (of_z w64 x)) (to_z w64 (of_z w64 m))) (p : SFits w64 x) (q : SFits w64 m) where
  rem_is : r ≡ rem_z x m
  rem_is = handed rem_z x m r h p q

  pub rem-equal : (k n : ℕ) → k ≡ of_z w64 r → n ≡ of_z w64 y → SFits w64 r → SFits w64 y → eqb k n ≡ (rem_z x m ≟ y)
  rem-equal k n e f g i = rw (sym rem_is) (eq_is r y k n e f g i)

module _ (x m y : ℤ) (r : Bool) (h : r ≡ (rem_z (to_z w64 (of_z w64 x)) (to_z w64 (of_z w64 m)) ≟ to_z w64 (of_z w64 y))) (p : SFits w64 x) (q : SFits w64 m) (s : SFits w64 y) where
  pub leaves-is : r ≡ (rem_z x m ≟ y)
  leaves-is = simp (to_z-of_z p, to_z-of_z q, to_z-of_z s) at h

  pub leaves-not : not r ≡ not (rem_z x m ≟ y)
  leaves-not = ap not leaves-is

  pub leaves-told : (t : Bool) → r ≡ t → (rem_z x m ≟ y) ≡ t
  leaves-told t e = sym leaves-is ∙ e

  pub leaves-off : not r ≡ true → (rem_z x m ≟ y) ≡ false
  leaves-off e = was-false leaves-is e

  pub leaves-on : not r ≡ false → (rem_z x m ≟ y) ≡ true
  leaves-on e = was-true leaves-is e

-- of whole answers
pub indivisible-call : (d k g n : Option ℤ) (r : Answer Bool) → r ≡ ported.indivisible k n → k ≡ d → n ≡ g → r ≡ ported.indivisible d g
indivisible-call d k g n r h p q = rw (p, q) at h

pub on-truth-call : (s t : Answer Bool) (x k y n r : Answer Congruence) → r ≡ ported.on_truth t k n → t ≡ s → k ≡ x → n ≡ y → r ≡ ported.on_truth s x y
on-truth-call s t x k y n r h o p q = rw (o, p, q) at h

pub is-value : (v u : Congruence) → v ≡ u → is v ≡ is u
is-value v u p = ap is p

pub divided-by-call : (a : Congruence) (k : ℤ) (r : Answer Congruence) → r ≡ ported.divided_by a (to_z w64 (of_z w64 k)) → SFits w64 k → r ≡ ported.divided_by a k
divided-by-call a = handed-1 (ported.divided_by a)

-- of the mended operations' parts
pub only-of-call : (z k : Option ℤ) (v : Congruence) → v ≡ mended.only_of k → k ≡ z → v ≡ mended.only_of z
only-of-call z k v h p = rw p at h

pub by-number-call : (u : Width) (a : Congruence) (k : ℤ) (v : Congruence) → v ≡ mended.by_number u a (to_z w64 (of_z w64 k)) → SFits w64 k → v ≡ mended.by_number u a k
by-number-call u a = handed-1 (mended.by_number u a)

pub has-call : (a : Congruence) (k : ℤ) (r t : Bool) → r ≡ mended.has? a (to_z w64 (of_z w64 k)) → SFits w64 k → r ≡ t → mended.has? a k ≡ t
has-call a k r t h p q = sym (handed-1 (mended.has? a) k r h p) ∙ q

pub alike-off : (x y : ℤ) (m n : ℕ) (r : Bool) → r ≡ alike? n (to_z w64 (of_z w64 x)) (to_z w64 (of_z w64 y)) → n ≡ m → SFits w64 x → SFits w64 y → not r ≡ not (alike? m x y)
alike-off x y m n r h e p q = ap not (alike-call x y m n r h e p q)

pub ruleset calls = (add-call, sub-call, gcd-call, rem-call, alike-call, magnitude-call, held-call, only-call, rem-equal, leaves-is, leaves-not, leaves-told, leaves-off, leaves-on, indivisible-call, on-truth-call, is-value, divided-by-call, only-of-call, by-number-call, alike-off)
