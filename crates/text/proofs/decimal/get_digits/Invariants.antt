use Rattle.std.proofs.Common.{◌≡◌, ◌+◌, drop}
use Rattle.text.specs.Number.{total, many}
use Rattle.text.proofs.decimal.get_digits.Given as goal

abbrev pub invariant-loop-n : goal.invariant-loop-n
invariant-loop-n l = (total l.rest 0 ≡ total (drop l.n l.rest) l.v) × (many l.rest ≡ l.n + many (drop l.n l.rest))
