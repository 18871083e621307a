-- What an answer tells, by document 01: its value, or the number by which it is refused.
use Rattle.std.specs.Prelude.{ℕ, Result, Ok, Err}
use Rattle.refusal.specs.declared.Refusal.{Refusal}
use Rattle.refusal.specs.Number.{number_of}

pub data Answer (A : Type 0) : Type 0 where
  is : A → Answer A
  refused : ℕ → Answer A

-- what a call's result tells
abbrev pub told : {A : Type 0} → Result A Refusal → Answer A
told (Ok v) = is v
told (Err r) = refused (number_of r)

-- of a call over a sheet: done, with a count; or refused by a number, at a step, at a byte, or with no place
pub data Told : Type 0 where
  done : ℕ → Told
  at_step : (number step : ℕ) → Told
  at_byte : (number byte : ℕ) → Told
  refused_by : ℕ → Told
