use borrow.Author.Rules.{rules}
use Rattle.interval.specs.Mended.{greater_or_equal}
use Rattle.interval.proofs.mended.greater_or_equal.Goals as goal

pub returns : goal.returns
unfolding greater_or_equal
returns c = search rules
