-- The number by which an answer is refused, 0 if it isn't; and what it says that this is 1, or 4, exactly if a test says so.
use Rattle.std.specs.Prelude.{◌≡◌, Bool, ℕ, eqb}
use Rattle.refusal.specs.Answer as answers
use Rattle.interval.specs.declared.Interval.{Interval}
use Rattle.refusal.specs.Answer.{Answer, is, refused}
use Rattle.congruence.specs.declared.Congruence.{Congruence}

abbrev pub range_number : Answer Interval → ℕ
range_number (is v) = 0
range_number (refused n) = n

abbrev pub spacing_number : answers.Answer Congruence → ℕ
spacing_number (answers.is v) = 0
spacing_number (answers.refused n) = n

pub record Refuses (n : ℕ) (one four : Bool) : Type 0 where
  pub by-1 : eqb n 1 ≡ one
  pub by_4 : eqb n 4 ≡ four
