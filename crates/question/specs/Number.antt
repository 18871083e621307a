-- What the family `number` is answered: an operation's name, and two numbers that end the line.
use Rattle.std.specs.Prelude.{ℕ, List, pos, nat_abs, Option, Some, None, Result, Ok, Err, ℤ}
use Rattle.std.specs.Int.{w64}
use Rattle.whole.specs.Choice.{pick}
use Rattle.whole.specs.Divides.{gcd, lcm}
use Rattle.whole.specs.Exact.{exactly}
use Rattle.refusal.specs.declared.Refusal.TheVariants.{DoesNotFit}
use Rattle.question.specs.declared.answer.Answer.{Answer}
use Rattle.question.specs.declared.answer.Answer.TheVariants.{Number}
use Rattle.question.specs.declared.answer.NotAnswered.{NotAnswered}
use Rattle.question.specs.declared.answer.NotAnswered.TheVariants.{Refused, NotUnderstood}
use Rattle.question.specs.Taken.{is, name_after, next_after, two_after}

-- a number that fits, or 2
abbrev pub exact_answer : Option ℤ → Result Answer NotAnswered
exact_answer (Some n) = Ok (Number (Some n))
exact_answer None = Err (Refused DoesNotFit)

abbrev pub of_two : (ℕ → ℕ → ℕ) → Option (ℤ × ℤ) → Result Answer NotAnswered
of_two f (Some (a, b)) = exact_answer (exactly w64 (pos (f (nat_abs a) (nat_abs b))))
of_two f None = Err NotUnderstood

unfoldable pub number_answer : List ℕ → ℕ → Result Answer NotAnswered
number_answer s at =
    pick (is "gcd" (name_after s at)) (of_two gcd (two_after s (next_after s at)))
    (pick (is "lcm" (name_after s at)) (of_two lcm (two_after s (next_after s at))) (Err NotUnderstood))
