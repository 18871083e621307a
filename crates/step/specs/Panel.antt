-- What the desk knows of a panel: what is shown of a step, and what each operator does to numbers and to shown values; and the laws that it
-- needs of them. The stopping panel of a width is one; panels that wrap, narrower ones and other shown values are others.
use Rattle.std.specs.Prelude.{◌≡◌, ℤ, pos, ◌≤ℤ◌, Err, Ok, Result}
use Rattle.refusal.specs.declared.Refusal.{Refusal}
use Rattle.step.specs.declared.Operator.{Operator}

pub record Panel : Type 1 where
  pub Shown : Type 0
  -- a run's number lies in it
  pub Has : Shown → ℤ → Type 0
  -- what the numbers of a refusal are drawn from: the range
  pub Drawn : Shown → ℤ → Type 0
  -- what every shown value is: not empty, canonical, with ends of the width
  pub Good : Shown → Type 0
  -- the number 0, which stands past the last step
  pub zero : Shown
  pub of_input : ℤ → ℤ → Shown
  pub Valid : Operator → Type 0
  pub ValidInput : ℤ → ℤ → Type 0
  pub run : Operator → ℤ → ℤ → ℤ → Result ℤ Refusal
  pub show : Operator → Shown → Shown → Shown → Result Shown Refusal

-- numbers, each drawn from its own operand, on which the operator stops by r
pub record Stopped (P : Panel) (o : Operator) (s t u : P.Shown) (r : Refusal) : Type 0 where
  pub x : ℤ
  pub y : ℤ
  pub z : ℤ
  pub x-in : P.Drawn s x
  pub y-in : P.Drawn t y
  pub z-in : P.Drawn u z
  pub stop : P.run o x y z ≡ Err r

-- the answer to an operator is honest: what it shows holds the number of every run, and what it refuses some numbers stop
pub data Honest (P : Panel) (o : Operator) (s t u : P.Shown) : Result P.Shown Refusal → Type 0 where
  gives-in : {v : P.Shown} → ((x y z : ℤ) → P.Has s x → P.Has t y → P.Has u z → (n : ℤ) × (P.run o x y z ≡ Ok n) × P.Has v n) → P.Good v → Honest P o s t u (Ok v)
  stops-by : {r : Refusal} → Stopped P o s t u r → Honest P o s t u (Err r)

pub record Lawful (P : Panel) : Type 0 where
  pub zero_has : P.Has P.zero (pos 0)
  pub zero-good : P.Good P.zero
  pub input-good : (l h : ℤ) → P.ValidInput l h → P.Good (P.of_input l h)
  pub input-has : (l h x : ℤ) → P.ValidInput l h → l ≤ℤ x → x ≤ℤ h → P.Has (P.of_input l h) x
  pub honest : (o : Operator) (s t u : P.Shown) → P.Valid o → P.Good s → P.Good t → P.Good u → Honest P o s t u (P.show o s t u)
