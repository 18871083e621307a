-- What reading gives: a value and the place after it, or a refusal by its number of document 01 and its place.
use Rattle.std.specs.Prelude.{ℕ}

pub data Got (A : Type 0) : Type 0 where
  got : A → ℕ → Got A
  refused : ℕ → ℕ → Got A

-- a value, and what follows at the place after it
abbrev pub and_then : {A B : Type 0} → Got A → (A → ℕ → Got B) → Got B
and_then (got x p) f = f x p
and_then (refused n p) f = refused n p

-- what is wrong with a value, by the refusal's number
pub data Fault : Type 0 where
  none : Fault
  fault : ℕ → Fault

-- the first of two faults
abbrev pub or_else : Fault → Fault → Fault
or_else none g = g
or_else (fault n) g = fault n

-- whether all is right, or a refusal's number and its place
pub data Verdict : Type 0 where
  fine : Verdict
  wrong : ℕ → ℕ → Verdict

abbrev pub verdict_of : {A : Type 0} → Got A → Verdict
verdict_of (got x p) = fine
verdict_of (refused n p) = wrong n p
