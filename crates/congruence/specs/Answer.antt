-- What is answered where a test says that the arguments are in the domain; outside, the refusal is 1, first of all.
use Rattle.std.specs.Prelude.{Bool}
use Rattle.whole.specs.Choice.{pick}
use Rattle.refusal.specs.Answer.{Answer, refused}

abbrev pub within : {A : Type 0} → Bool → Answer A → Answer A
within inside r = pick inside r (refused 1)
