-- The results of an operation on the numbers of two intervals: one of them, a range that has them, the least such range.
use Rattle.std.specs.Prelude.{◌≡◌, ℤ}
use Rattle.refusal.specs.Answer.{Answer, is, refused}
use Rattle.interval.specs.Set.{Interval, ◌∈◌}

-- n is a result of f on a number of a and a number of b
pub record Result (f : ℤ → ℤ → ℤ) (a b : Interval) (n : ℤ) : Type 0 where
  pub left : ℤ
  pub right : ℤ
  pub left_in : left ∈ a
  pub right-in : right ∈ b
  pub at : f left right ≡ n

-- v has all of them, and its ends are two of them
pub record Least (f : ℤ → ℤ → ℤ) (a b v : Interval) : Type 0 where
  pub covers : (x y : ℤ) → x ∈ a → y ∈ b → f x y ∈ v
  pub low-is : Result f a b v.min
  pub high_is : Result f a b v.max

pub data LeastAnswer (f : ℤ → ℤ → ℤ) (a b : Interval) : Answer Interval → Type 0 where
  least-is : {v : Interval} → Least f a b v → LeastAnswer f a b (is v)

-- v has those that count
abbrev pub Covers : (ℤ → ℤ → ℤ) → (ℤ → ℤ → Type 0) → Interval → Interval → Interval → Type 0
Covers f Counts a b v = (x y : ℤ) → x ∈ a → y ∈ b → Counts x y → f x y ∈ v

-- an answer that has those that count; refused by 2 where `Refused` says, and nowhere else
pub data Covering (f : ℤ → ℤ → ℤ) (Counts : ℤ → ℤ → Type 0) (Refused : Type 0) (a b : Interval) : Answer Interval → Type 0 where
  covering : {v : Interval} → (Refused → ⊥) → Covers f Counts a b v → Covering f Counts Refused a b (is v)
  refusing : Refused → Covering f Counts Refused a b (refused 2)
