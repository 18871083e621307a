use Rattle.std.specs.Prelude.{None}
use Rattle.sign.specs.declared.tables.TheConstants.{WEAK_CONCRETE_COMPARISON}
use Rattle.sign.specs.Ported.{weak_cmp, sub, add, neg}
use Rattle.sign.proofs.Cells.{orders, reads}
use Rattle.sign.proofs.ported.weak_cmp.Goals as goal

-- `sign::ported::weak_cmp` reads its table: the rule is one test of the 64 cells.
-- Assumes nothing.
pub returns : goal.returns
unfolding weak_cmp sub add neg
returns c = reads orders WEAK_CONCRETE_COMPARISON None weak_cmp tt c.index_of.result c.index_of-2.result c.args.a c.args.b c.index_of.ensures c.index_of-2.ensures
