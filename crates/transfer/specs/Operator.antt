-- Operators by their numbers in a sheet. One on which the Rust panics is refused by 4, one outside 2 to 15 by 1.
use Rattle.std.specs.Prelude.{Bool, ◌&&◌, ◌||◌, ℤ, pos}
use Rattle.whole.specs.Choice.{pick}
use Rattle.whole.specs.Test.{◌≤?◌, ◌<?◌, ◌≟◌}
use Rattle.refusal.specs.declared.Refusal.{Refusal}
use Rattle.refusal.specs.declared.Refusal.TheVariants.{NotInDomain, WouldPanic}

abbrev pub outside? : ℤ → Bool
outside? op = (op <? pos 2) || (pos 15 <? op)

-- those of two operands, and those of one
abbrev pub two? : ℤ → Bool
two? op = (pos 2 ≤? op) && (op ≤? pos 13)

abbrev pub one? : ℤ → Bool
one? op = (op ≟ pos 14) || (op ≟ pos 15)

-- the refusal of an operator that has no arm in the Rust's match
unfoldable pub other : ℤ → Refusal
other op = pick (outside? op) NotInDomain WouldPanic
