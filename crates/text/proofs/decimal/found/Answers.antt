use Rattle.std.proofs.Common.{sym}
use mathlib.Core.Logic.{⊎_elim}
use Rattle.text.proofs.Reading.{found-none, found-large, found-value}
use Rattle.text.proofs.decimal.found.Goals as goal

pub returns-then-v-gt9223372036854775808 : goal.returns-then-v-gt9223372036854775808
returns-then-v-gt9223372036854775808 c =
    ⊎_elim (λ z. sym (found-none _ _ _ z)) (λ p. sym (found-large _ _ _ p.0 p.1)) c.if-v-gt9223372036854775808.either

pub returns-else-v-gt9223372036854775808 : goal.returns-else-v-gt9223372036854775808
returns-else-v-gt9223372036854775808 c = sym (found-value _ _ _ c.if-v-gt9223372036854775808.false.0 c.if-v-gt9223372036854775808.false.1)
