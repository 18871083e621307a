use Rattle.sign.specs.declared.tables.TheConstants.{ADDITION}
use Rattle.sign.specs.declared.Sign.TheVariants.{Top}
use Rattle.sign.specs.Ported.{add}
use Rattle.sign.proofs.Cells.{signs, reads}
use Rattle.sign.proofs.ported.add.Goals as goal

-- `sign::ported::add` reads its table: the rule is one test of the 64 cells.
-- Assumes nothing.
pub returns : goal.returns
unfolding add
returns c = reads signs ADDITION Top add tt c.index_of.result c.index_of-2.result c.args.a c.args.b c.index_of.ensures c.index_of-2.ensures
