-- A valid step and a valid sheet: constants and range ends of 64 bits, low at most high, operands earlier, a known operator.
use Rattle.std.specs.Prelude.{ℕ, ◌+◌, ◌≤◌, ◌<◌, ◌≡◌, List, [], ◌∷◌, ℤ, pos, length, ◌≤ℤ◌}
use Rattle.std.specs.Int.{w64}
use Rattle.std.proofs.Common.{SFits}
use Rattle.sheet.specs.declared.operator.Fields.{Fields}
use Rattle.sheet.specs.declared.operator.Fields.TheVariants.{Constant, Input, One, Two, Three}
use Rattle.sheet.specs.Operator.{rows, fields_of}
use Rattle.sheet.specs.Step.{Step}

-- the fields of step k
pub data Fit (k : ℕ) : Fields → (x y z : ℤ) → Type 0 where
  constant : {x : ℤ} → SFits w64 x → Fit k Constant x (pos 0) (pos 0)
  input : {low high : ℤ} → SFits w64 low → SFits w64 high → low ≤ℤ high → Fit k Input low high (pos 0)
  one : {i : ℕ} → i < k → Fit k One (pos i) (pos 0) (pos 0)
  two : {i j : ℕ} → i < k → j < k → Fit k Two (pos i) (pos j) (pos 0)
  three : {i j l : ℕ} → i < k → j < k → l < k → Fit k Three (pos i) (pos j) (pos l)

pub record Valid (k : ℕ) (s : Step) : Type 0 where
  pub number : ℕ
  pub is : s.operator ≡ pos number
  pub known : number < length rows
  pub fit : Fit k (fields_of number) s.a s.b s.c

-- steps from step k on
pub data ValidFrom : ℕ → List Step → Type 0 where
  ended : {k : ℕ} → ValidFrom k []
  and : {k : ℕ} {x : Step} {xs : List Step} → Valid k x → ValidFrom (k + 1) xs → ValidFrom k (x ∷ xs)

pub record ValidSheet (xs : List Step) : Type 0 where
  pub few : length xs ≤ 256
  pub steps : ValidFrom 0 xs
