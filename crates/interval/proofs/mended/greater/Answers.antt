use borrow.Author.Rules.{rules}
use Rattle.interval.specs.Mended.{greater}
use Rattle.interval.proofs.mended.greater.Goals as goal

pub returns : goal.returns
unfolding greater
returns c = search rules
