-- What document 01 promises of the mended operations, over the width: each record speaks of the operation itself, on every two intervals.
use Rattle.std.specs.Prelude.{◌≡◌, ◌≢◌, ◌⊎◌, ◌↔◌, ℤ, pos, negsuc, nat_abs, ◌-ℤ◌, ◌≤ℤ◌, ◌<ℤ◌}
use Rattle.std.specs.Int.Signed.{quot_z, rem_z}
use Rattle.std.specs.Int.{Width}
use Rattle.std.proofs.Common.{SFits}
use Rattle.whole.specs.Range.{least, greatest}
use Rattle.refusal.specs.Answer.{Answer, is, refused}
use Rattle.interval.specs.Set.{Interval, ◌⋯◌, ◌∈◌, ◌∉◌, ◌⊆◌, top, bottom, single, Proper, Canonical}
use Rattle.interval.specs.Results.{Least, LeastAnswer, Covering}

-- an operation on two intervals
abbrev pub Operation : Type 0
Operation = Interval → Interval → Answer Interval

-- what is not in the domain, on either side, is refused by 1
abbrev pub OutsideRefused : Width → Operation → Type 0
OutsideRefused w op = (a b : Interval) → (Canonical w a → ⊥) ⊎ (Canonical w b → ⊥) → op a b ≡ refused 1

-- the answer beside bottom is v
abbrev pub BesideBottom : Width → Interval → Operation → Type 0
BesideBottom w v op = (a b : Interval) → Canonical w a → Canonical w b → (a ≡ bottom w) ⊎ (b ≡ bottom w) → op a b ≡ is v

-- ---- arithmetic: bottom in, bottom out; P is what holds of the answer where both intervals have a number
pub record Arithmetic (w : Width) (P : Interval → Interval → Answer Interval → Type 0) (op : Operation) : Type 0 where
  pub outside : OutsideRefused w op
  pub beside : BesideBottom w (bottom w) op
  pub full : {a b : Interval} → Proper w a → Proper w b → P a b (op a b)

-- the same of an operation on one interval
pub record Arithmetic₁ (w : Width) (P : Interval → Answer Interval → Type 0) (op : Interval → Answer Interval) : Type 0 where
  pub outside : (a : Interval) → (Canonical w a → ⊥) → op a ≡ refused 1
  pub beside : op (bottom w) ≡ is (bottom w)
  pub full : {a : Interval} → Proper w a → P a (op a)

-- the least range holding all exact results; refused by 2 if an end of it doesn't fit, and else not
pub data Exact (w : Width) (f : ℤ → ℤ → ℤ) (a b : Interval) : Answer Interval → Type 0 where
  fitting : {v : Interval} → Least f a b v → Proper w v → Exact w f a b (is v)
  too_wide : (v : Interval) → Least f a b v → (v.min ∉ top w) ⊎ (v.max ∉ top w) → Exact w f a b (refused 2)

-- two numbers whose result doesn't fit
pub record Beyond (w : Width) (f : ℤ → ℤ → ℤ) (a b : Interval) : Type 0 where
  pub left : ℤ
  pub right : ℤ
  pub left_in : left ∈ a
  pub right-in : right ∈ b
  pub beyond : f left right ∉ top w

-- ---- div: the least range of all quotients, where the divisor's range excludes 0 and MIN / -1 can't occur
pub record Quotients (w : Width) (a b : Interval) (r : Answer Interval) : Type 0 where
  pub by_zero : b ≡ single (pos 0) → r ≡ is (bottom w)
  pub unbounded : b ≢ single (pos 0) → (pos 0 ∈ b) ⊎ ((least w ∈ a) × (negsuc 0 ∈ b)) → r ≡ is (top w)
  pub bounded : pos 0 ∉ b → (least w ∉ a) ⊎ (negsuc 0 ∉ b) → LeastAnswer quot_z a b r
  pub covers : Covering quot_z (λ x y. (y ≢ pos 0) × SFits w (quot_z x y)) ⊥ a b r

-- ---- rem
-- m is the greatest magnitude in b
pub record Magnitude (b : Interval) (m : ℤ) : Type 0 where
  pub bounds : (y : ℤ) → y ∈ b → pos (nat_abs y) ≤ℤ m
  pub number : ℤ
  pub number_in : number ∈ b
  pub reached : pos (nat_abs number) ≡ m

-- one of the two has more than one number
abbrev pub Several : Interval → Interval → Type 0
Several a b = (a.min ≢ a.max) ⊎ (b.min ≢ b.max)

-- MIN and -1, alone
abbrev pub MinByMinusOne : Width → Interval → Interval → Type 0
MinByMinusOne w a b = (a ≡ single (least w)) × (b ≡ single (negsuc 0))

pub record Remainders (w : Width) (a b : Interval) (r : Answer Interval) : Type 0 where
  pub by_zero : b ≡ single (pos 0) → r ≡ is (bottom w)
  pub too_wide : (r ≡ refused 2) ↔ MinByMinusOne w a b
  pub of_two : (x y : ℤ) → a ≡ single x → b ≡ single y → y ≢ pos 0 → (MinByMinusOne w a b → ⊥) → r ≡ is (single (rem_z x y))
  pub of_zero : b ≢ single (pos 0) → a ≡ single (pos 0) → r ≡ is (single (pos 0))
  pub from_zero_up : Several a b → b ≢ single (pos 0) → a ≢ single (pos 0) → pos 0 ≤ℤ a.min → (m : ℤ) → Magnitude b m → r ≡ is (pos 0 ⋯ (m -ℤ pos 1))
  pub to-zero : Several a b → b ≢ single (pos 0) → a ≢ single (pos 0) → a.max ≤ℤ pos 0 → (m : ℤ) → Magnitude b m → r ≡ is ((pos 1 -ℤ m) ⋯ pos 0)
  pub across : Several a b → b ≢ single (pos 0) → a.min <ℤ pos 0 → pos 0 <ℤ a.max → (m : ℤ) → Magnitude b m → r ≡ is ((pos 1 -ℤ m) ⋯ (m -ℤ pos 1))
  pub covers : Covering rem_z (λ x y. y ≢ pos 0) (MinByMinusOne w a b) a b r

-- ---- comparisons: P holds for every pair of numbers; its contrary N for every pair; each for some
pub record Some (P : ℤ → ℤ → Type 0) (a b : Interval) : Type 0 where
  pub left : ℤ
  pub right : ℤ
  pub left_in : left ∈ a
  pub right-in : right ∈ b
  pub at : P left right

abbrev pub All : (ℤ → ℤ → Type 0) → Interval → Interval → Type 0
All P a b = (x y : ℤ) → x ∈ a → y ∈ b → P x y

pub data Verdict (P N : ℤ → ℤ → Type 0) (a b : Interval) : Interval → Type 0 where
  always : All P a b → Verdict P N a b (single (pos 1))
  never : All N a b → Verdict P N a b (single (pos 0))
  sometimes : Some P a b → Some N a b → Verdict P N a b (pos 0 ⋯ pos 1)

pub data Judged (P N : ℤ → ℤ → Type 0) (a b : Interval) : Answer Interval → Type 0 where
  judged : {v : Interval} → Verdict P N a b v → Judged P N a b (is v)

pub record Comparison (w : Width) (P N : ℤ → ℤ → Type 0) (op : Operation) : Type 0 where
  pub outside : OutsideRefused w op
  pub beside : BesideBottom w (pos 0 ⋯ pos 1) op
  pub full : {a b : Interval} → Proper w a → Proper w b → Judged P N a b (op a b)

-- ---- narrow
-- the new end where the previous one is infinite, else the previous one
pub data Taken (infinite new previous : ℤ) : ℤ → Type 0 where
  renewed : previous ≡ infinite → Taken infinite new previous new
  kept : previous ≢ infinite → Taken infinite new previous previous

pub data Between (new previous : Interval) : Answer Interval → Type 0 where
  between : {v : Interval} → new ⊆ v → v ⊆ previous → Between new previous (is v)

pub record Narrowing (w : Width) (op : Operation) : Type 0 where
  pub outside : OutsideRefused w op
  pub beside : BesideBottom w (bottom w) op
  pub ordered : {new previous : Interval} {low high : ℤ} → Proper w new → Proper w previous → Taken (least w) new.min previous.min low → Taken (greatest w) new.max previous.max high → low ≤ℤ high → op new previous ≡ is (low ⋯ high)
  pub emptied : {new previous : Interval} {low high : ℤ} → Proper w new → Proper w previous → Taken (least w) new.min previous.min low → Taken (greatest w) new.max previous.max high → high <ℤ low → op new previous ≡ is (bottom w)
  pub inside : {new previous : Interval} → Canonical w new → Canonical w previous → new ⊆ previous → Between new previous (op new previous)

-- ---- an answer that is canonical, if it isn't refused by 2
pub data Well (w : Width) : Answer Interval → Type 0 where
  shown : {v : Interval} → Canonical w v → Well w (is v)
  refusing : Well w (refused 2)
