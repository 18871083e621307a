-- What the claims say of the numbers that signs stand for: each sign by the order of the whole numbers, one sign inside another,
-- the least sign of results, how every two numbers compare, and answers that are exact.
use Rattle.std.specs.declared.cmp.Ordering.{Ordering}
use Rattle.std.specs.declared.cmp.Ordering.TheVariants.{Equal, Greater, Less}
use Rattle.std.specs.Prelude.{◌≡◌, ◌≢◌, ℤ, pos, None, Option, Some}
use Rattle.whole.specs.Whole.{◌≼◌, ◌≺◌}
use Rattle.sign.specs.declared.Sign.{Sign}
use Rattle.sign.specs.declared.Sign.TheVariants.{Top, Bottom, Negative, Zero, Positive, NonNeg, NonZero, NonPos}
use Rattle.sign.specs.Set.{◌∈◌}

-- what its name says of x
abbrev pub StandsFor : Sign → ℤ → Type 0
StandsFor Top x = Unit
StandsFor Bottom x = ⊥
StandsFor Negative x = x ≺ pos 0
StandsFor Zero x = x ≡ pos 0
StandsFor Positive x = pos 0 ≺ x
StandsFor NonNeg x = pos 0 ≼ x
StandsFor NonZero x = x ≢ pos 0
StandsFor NonPos x = x ≼ pos 0

-- each number of s is one of t
infix 4 ◌⊑◌
pub record ◌⊑◌ (s t : Sign) : Type 0 where
  pub each : (x : ℤ) → x ∈ s → x ∈ t

-- ---- s is the least sign that has every result

pub record Least₁ (f : ℤ → ℤ) (a s : Sign) : Type 0 where
  pub covers : (x : ℤ) → x ∈ a → f x ∈ s
  pub least : (t : Sign) → ((x : ℤ) → x ∈ a → f x ∈ t) → s ⊑ t

pub record Least (f : ℤ → ℤ → ℤ) (a b s : Sign) : Type 0 where
  pub covers : (x y : ℤ) → x ∈ a → y ∈ b → f x y ∈ s
  pub least : (t : Sign) → ((x y : ℤ) → x ∈ a → y ∈ b → f x y ∈ t) → s ⊑ t

-- over divisors that aren't 0
pub record LeastOver (f : ℤ → ℤ → ℤ) (a b s : Sign) : Type 0 where
  pub covers : (x y : ℤ) → x ∈ a → y ∈ b → y ≢ pos 0 → f x y ∈ s
  pub least : (t : Sign) → ((x y : ℤ) → x ∈ a → y ∈ b → y ≢ pos 0 → f x y ∈ t) → s ⊑ t

-- ---- R holds between every number of a and every number of b, and there are such numbers

pub record Every (R : ℤ → ℤ → Type 0) (a b : Sign) : Type 0 where
  pub left : ℤ
  pub right : ℤ
  pub in_left : left ∈ a
  pub in_right : right ∈ b
  pub all : (x y : ℤ) → x ∈ a → y ∈ b → R x y

infix 4 ◌≻◌ ◌≽◌
abbrev pub ◌≻◌ : ℤ → ℤ → Type 0
x ≻ y = y ≺ x

abbrev pub ◌≽◌ : ℤ → ℤ → Type 0
x ≽ y = y ≼ x

abbrev pub Not : (ℤ → ℤ → Type 0) → ℤ → ℤ → Type 0
Not R x y = R x y → ⊥

-- ---- answers, each with what it says

-- the order by inclusion
pub data Ordered (a b : Sign) : Option Ordering → Type 0 where
  equal : a ⊑ b → b ⊑ a → Ordered a b (Some Equal)
  less : a ⊑ b → (b ⊑ a → ⊥) → Ordered a b (Some Less)
  greater : (a ⊑ b → ⊥) → b ⊑ a → Ordered a b (Some Greater)
  none : (a ⊑ b → ⊥) → (b ⊑ a → ⊥) → Ordered a b None

-- all numbers less, all equal, all greater
pub data Strict (a b : Sign) : Option Ordering → Type 0 where
  less : Every ◌≺◌ a b → Strict a b (Some Less)
  equal : Every ◌≡◌ a b → Strict a b (Some Equal)
  greater : Every ◌≻◌ a b → Strict a b (Some Greater)
  none : (Every ◌≺◌ a b → ⊥) → (Every ◌≡◌ a b → ⊥) → (Every ◌≻◌ a b → ⊥) → Strict a b None

-- the same with equal numbers let in
pub data Weak (a b : Sign) : Option Ordering → Type 0 where
  equal : Every ◌≡◌ a b → Weak a b (Some Equal)
  less : Every ◌≼◌ a b → (Every ◌≡◌ a b → ⊥) → Weak a b (Some Less)
  greater : Every ◌≽◌ a b → (Every ◌≡◌ a b → ⊥) → Weak a b (Some Greater)
  none : (Every ◌≼◌ a b → ⊥) → (Every ◌≽◌ a b → ⊥) → Weak a b None

-- true (Positive) if R holds for every pair, false (Zero) if for none, else both (NonNeg)
pub data Judged (R : ℤ → ℤ → Type 0) (a b : Sign) : Sign → Type 0 where
  holds : Every R a b → Judged R a b Positive
  fails : Every (Not R) a b → Judged R a b Zero
  both : (Every R a b → ⊥) → (Every (Not R) a b → ⊥) → Judged R a b NonNeg
