-- What document 01 says of the ported operations: 64-bit, and set statements of canonical intervals.
use Rattle.std.specs.declared.cmp.Ordering.{Ordering}
use Rattle.std.specs.declared.cmp.Ordering.TheVariants.{Equal, Greater, Less}
use Rattle.std.specs.Prelude.{◌≡◌, ◌≢◌, ◌⊎◌, ◌↔◌, true, ℤ, ◌*ℤ◌, None, Option, Some}
use Rattle.std.specs.Int.{w64}
use Rattle.std.proofs.Common.{SFits}
use Rattle.whole.specs.Range.{least, greatest}
use Rattle.refusal.specs.Answer.{Answer, is, refused}
use Rattle.sign.specs.declared.Sign.{Sign}
use Rattle.sign.specs.Set.{Side, side_of, ◌has◌}
use Rattle.interval.specs.declared.Pair.{Pair}
use Rattle.interval.specs.Set.{Interval, ◌∈◌, ◌⊆◌, bottom}
use Rattle.interval.specs.Promise.{Several, MinByMinusOne}

-- ---- the lattice
-- v has both, and nothing smaller does
pub record Join (a b v : Interval) : Type 0 where
  pub left : a ⊆ v
  pub right : b ⊆ v
  pub least-one : (u : Interval) → a ⊆ u → b ⊆ u → v ⊆ u

-- the order is inclusion
pub data Compared (a b : Interval) : Option Ordering → Type 0 where
  equal : a ≡ b → Compared a b (Some Equal)
  less : a ⊆ b → (b ⊆ a → ⊥) → Compared a b (Some Less)
  greater : b ⊆ a → (a ⊆ b → ⊥) → Compared a b (Some Greater)
  neither : (a ⊆ b → ⊥) → (b ⊆ a → ⊥) → Compared a b None

-- ---- where a comparison may hold: the numbers of each side that have a partner on the other
pub record Partner (R : ℤ → Type 0) (i : Interval) : Type 0 where
  pub number : ℤ
  pub number_in : number ∈ i
  pub at : R number

pub record Sides (R : ℤ → ℤ → Type 0) (a b : Interval) (p : Pair) : Type 0 where
  pub left_is : (x : ℤ) → (x ∈ p.left) ↔ ((x ∈ a) × Partner (λ y. R x y) b)
  pub right_is : (y : ℤ) → (y ∈ p.right) ↔ ((y ∈ b) × Partner (λ x. R x y) a)

-- `maybe_less_when`, refused by 2 where it would step below MIN or above MAX
pub data Answered (R : ℤ → ℤ → Type 0) (a b : Interval) : Answer Pair → Type 0 where
  answers : {p : Pair} → Sides R a b p → Answered R a b (is p)
  refuses : (b.max ≡ least w64) ⊎ (a.min ≡ greatest w64) → Answered R a b (refused 2)

-- ---- the sign of an interval: the sides of 0 on which it has a number
pub record Occurs (a : Interval) (d : Side) : Type 0 where
  pub number : ℤ
  pub number_in : number ∈ a
  pub side : side_of number ≡ d

abbrev pub ExactSign : Interval → Sign → Type 0
ExactSign a s = (d : Side) → ((s has d) ≡ true) ↔ Occurs a d

-- ---- arithmetic
-- a result that fits 64 bits counts
abbrev pub Fitting : (ℤ → ℤ → ℤ) → ℤ → ℤ → Type 0
Fitting f x y = SFits w64 (f x y)

-- where a remainder is refused by 2: for MIN and -1, and for a divisor with MIN where it asks for the greatest magnitude
abbrev pub RemRefused : Interval → Interval → Type 0
RemRefused a b = MinByMinusOne w64 a b ⊎ ((a ≢ bottom w64) × Several a b × (b.min ≡ least w64))

-- no end is MIN or MAX
pub record Inner (i : Interval) : Type 0 where
  pub low_end : (i.min ≢ least w64) × (i.min ≢ greatest w64)
  pub high_end : (i.max ≢ least w64) × (i.max ≢ greatest w64)

-- all four corner products fit
pub record CornersFit (a b : Interval) : Type 0 where
  pub low-low : SFits w64 (a.min *ℤ b.min)
  pub low-high : SFits w64 (a.min *ℤ b.max)
  pub high-low : SFits w64 (a.max *ℤ b.min)
  pub high-high : SFits w64 (a.max *ℤ b.max)
