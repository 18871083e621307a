use Rattle.sign.specs.declared.tables.TheConstants.{MULTIPLICATION}
use Rattle.sign.specs.declared.Sign.TheVariants.{Top}
use Rattle.sign.specs.Ported.{mul}
use Rattle.sign.proofs.Cells.{signs, reads}
use Rattle.sign.proofs.ported.mul.Goals as goal

-- `sign::ported::mul` reads its table: the rule is one test of the 64 cells.
-- Assumes nothing.
pub returns : goal.returns
unfolding mul
returns c = reads signs MULTIPLICATION Top mul tt c.index_of.result c.index_of-2.result c.args.a c.args.b c.index_of.ensures c.index_of-2.ensures
