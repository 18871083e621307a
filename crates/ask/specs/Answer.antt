-- The text of an answer.
use Rattle.std.specs.Prelude.{ℕ, List, [], ◌∷◌, Some, None, Result, Ok, Err}
use Rattle.refusal.specs.Number.{number_of}
use Rattle.whole.specs.Choice.{pick}
use Rattle.text.specs.Ascii.{ascii}
use Rattle.text.specs.Decimal.{decimal}
use Rattle.whole.specs.Sized.{width_of}
use Rattle.question.specs.declared.answer.Answer as answers
use Rattle.question.specs.declared.answer.NotAnswered as not_answered
use Rattle.say.specs.Texts.{range_text, pair_text, spacing_text, refusal_text, not_understood}
use Rattle.say.specs.Names.{order_name, sign_name}

abbrev pub answer_said : Result answers.Answer not_answered.NotAnswered → List (List ℕ)
answer_said (Ok (answers.TheVariants.Sign s)) = sign_name s ∷ []
answer_said (Ok (answers.TheVariants.Range z i)) = range_text (width_of z) i.min i.max
answer_said (Ok (answers.TheVariants.Ranges p)) = pair_text p.left p.right
answer_said (Ok (answers.TheVariants.Spacing c)) = spacing_text c.constant c.modulus
answer_said (Ok (answers.TheVariants.Order o)) = order_name o ∷ []
answer_said (Ok (answers.TheVariants.Truth t)) = pick t (ascii "true") (ascii "false") ∷ []
answer_said (Ok (answers.TheVariants.Number (Some n))) = decimal n ∷ []
answer_said (Ok (answers.TheVariants.Number None)) = ascii "None" ∷ []
answer_said (Err (not_answered.TheVariants.Refused r)) = refusal_text (number_of r)
answer_said (Err not_answered.TheVariants.NotUnderstood) = not_understood
