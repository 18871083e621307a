-- What the check promises of runs, for any panel.
use Rattle.std.specs.Prelude.{◌≡◌, List, [], ◌∷◌, ◌++◌, ℕ, ℤ, drop, ◌≤ℤ◌}
use Rattle.refusal.specs.declared.Refusal.{Refusal}
use Rattle.step.specs.Panel.{Panel, Stopped}
use Rattle.step.specs.declared.Operator.{Operator}
use Rattle.step.specs.declared.Action.{Action}
use Rattle.step.specs.declared.Action.TheVariants.{Input, Does}
use Rattle.panel.specs.Run.{takes, Run, ended}
use Rattle.desk.specs.Check.{shown_at, Check, passed}

-- an operator or an input that the panel takes
abbrev pub ValidAction : Panel → Action → Type 0
ValidAction P (Input l h) = P.ValidInput l h
ValidAction P (Does o p q r) = P.Valid o

pub data AllValid (P : Panel) : List Action → Type 0 where
  none : AllValid P []
  next : {s : Action} {ss : List Action} → ValidAction P s → AllValid P ss → AllValid P (s ∷ ss)

-- each shown value is good
pub data AllGood (P : Panel) : List P.Shown → Type 0 where
  nil : AllGood P []
  cons : {v : P.Shown} {vs : List P.Shown} → P.Good v → AllGood P vs → AllGood P (v ∷ vs)

-- the inputs are as many as the sheet's, each in its range
abbrev pub Takes : Action → List ℤ → Type 0
Takes (Input l h) [] = ⊥
Takes (Input l h) (x ∷ ins) = (l ≤ℤ x) × (x ≤ℤ h)
Takes (Does o p q r) ins = Unit {0}

abbrev pub Suits : List Action → List ℤ → Type 0
Suits [] [] = Unit {0}
Suits [] (x ∷ ins) = ⊥
Suits (s ∷ ss) ins = Takes s ins × Suits ss (drop (takes s) ins)

-- each number lies in what is shown at its place, and there are as many
pub data Each (P : Panel) : List ℤ → List P.Shown → Type 0 where
  none : Each P [] []
  next : {n : ℤ} {v : P.Shown} {ns : List ℤ} {vs : List P.Shown} → P.Has v n → Each P ns vs → Each P (n ∷ ns) (v ∷ vs)

-- the run reaches the last step, and each number lies in what is shown
pub record Ends (P : Panel) (run : Run) (vs : List P.Shown) : Type 0 where
  pub numbers : List ℤ
  pub ends : run ≡ ended numbers
  pub each : Each P numbers vs

-- numbers, each drawn from what is shown of its operand, on which the step stops by r
pub data StepStops (P : Panel) (vs : List P.Shown) (r : Refusal) : Action → Type 0 where
  stopping : {o : Operator} {a b c : ℕ} → Stopped P o (shown_at P vs a) (shown_at P vs b) (shown_at P vs c) r → StepStops P vs r (Does o a b c)

-- the steps before one pass, with vs shown, and that one stops by r
pub record StopsAfter (P : Panel) (check : List Action → Check P.Shown) (steps : List Action) (vs : List P.Shown) (r : Refusal) : Type 0 where
  pub before : List Action
  pub step : Action
  pub after : List Action
  pub parts : steps ≡ before ++ (step ∷ after)
  pub earlier : check before ≡ passed vs
  pub stops : StepStops P vs r step
