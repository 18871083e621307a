-- Demand 3 in plain numbers: of the numbers that stand in the rooms of `check` and `run`, by ≤, divisibility and the signs of integers.
use Rattle.std.specs.Prelude.{◌≡◌, ◌≢◌, List, ℕ, ◌+◌, ◌*◌, ◌<◌, ℤ, pos, ◌-ℤ◌, get_or, ◌≤ℤ◌, ◌<ℤ◌, Err}
use Rattle.std.specs.Int.{w64}
use Rattle.refusal.specs.declared.Refusal.{Refusal}
use Rattle.whole.specs.Divides.{◌∣ℤ◌}
use Rattle.sheet.specs.Got.{got}
use Rattle.sheet.specs.declared.step.Step.{Step}
use Rattle.sheet.specs.Sheet.{parse}
use Rattle.step.specs.declared.Operator.{Operator}
use Rattle.step.specs.declared.Action.TheVariants.{Input, Does}
use Rattle.step.specs.Run.{run_op}
use Rattle.panel.specs.Run.{actions_of}

-- the number at place i of a room
abbrev pub entry : List ℤ → ℕ → ℤ
entry room i = get_or room i (pos 0)

-- what the number of a sign says of x: 0 Top, 2 Negative, 3 Zero, 4 Positive, 5 NonNeg, 6 NonZero, 7 NonPos; 1, Bottom, is said of none
pub data SignSays : (sign x : ℤ) → Type 0 where
  any : {x : ℤ} → SignSays (pos 0) x
  negative : {x : ℤ} → x <ℤ pos 0 → SignSays (pos 2) x
  nought : {x : ℤ} → x ≡ pos 0 → SignSays (pos 3) x
  positive : {x : ℤ} → pos 0 <ℤ x → SignSays (pos 4) x
  from-0 : {x : ℤ} → pos 0 ≤ℤ x → SignSays (pos 5) x
  not-0 : {x : ℤ} → x ≢ pos 0 → SignSays (pos 6) x
  to-0 : {x : ℤ} → x ≤ℤ pos 0 → SignSays (pos 7) x

-- x lies between the two ends of step k
pub record Between (shown : List ℤ) (k : ℕ) (x : ℤ) : Type 0 where
  pub low : entry shown (k * 5) ≤ℤ x
  pub high : x ≤ℤ entry shown (k * 5 + 1)

-- x lies in what the check's room shows of step k: between its ends, a multiple of the modulus from the constant (with modulus 0 the constant itself), and of its sign
pub record Inside (shown : List ℤ) (k : ℕ) (x : ℤ) : Type 0 where
  pub range : Between shown k x
  pub spacing : entry shown (k * 5 + 3) ∣ℤ (x -ℤ entry shown (k * 5 + 2))
  pub sign : SignSays (entry shown (k * 5 + 4)) x

-- step k of the sheet names three earlier steps, and between the ends of each there is a number, drawn freely, on which the operator stops by r
pub record Stopping (bytes : List ℕ) (shown : List ℤ) (r : Refusal) (k : ℕ) : Type 0 where
  pub steps : List Step
  pub end : ℕ
  pub read : parse bytes ≡ got steps end
  pub operator : Operator
  pub a : ℕ
  pub b : ℕ
  pub c : ℕ
  pub is : get_or (actions_of steps) k (Input (pos 0) (pos 0)) ≡ Does operator a b c
  pub a-earlier : a < k
  pub b-earlier : b < k
  pub c-earlier : c < k
  pub x : ℤ
  pub y : ℤ
  pub z : ℤ
  pub x-in : Between shown a x
  pub y-in : Between shown b y
  pub z-in : Between shown c z
  pub stops : run_op w64 operator x y z ≡ Err r
