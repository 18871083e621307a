-- What a call over a sheet tells: a count, or a fault by the refusal's number and its place.
use Rattle.std.specs.Prelude.{ℕ, Result, Ok, Err}
use Rattle.refusal.specs.Number.{number_of}
use Rattle.refusal.specs.Answer.{Told, done, at_step, at_byte, refused_by}
use Rattle.refusal.specs.declared.Fault.{Fault}
use Rattle.refusal.specs.declared.Fault.TheVariants.{AtStep, AtByte, By}

abbrev pub fault_told : Fault → Told
fault_told (AtStep r k) = at_step (number_of r) k
fault_told (AtByte r p) = at_byte (number_of r) p
fault_told (By r) = refused_by (number_of r)

-- a count, or a fault
abbrev pub Counted : Type 0
Counted = Result ℕ Fault

abbrev pub count_told : Counted → Told
count_told (Ok n) = done n
count_told (Err f) = fault_told f
