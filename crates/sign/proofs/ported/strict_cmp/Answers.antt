use Rattle.std.specs.Prelude.{None}
use Rattle.sign.specs.declared.tables.TheConstants.{STRICT_CONCRETE_COMPARISON}
use Rattle.sign.specs.Ported.{strict_cmp, sub, add, neg}
use Rattle.sign.proofs.Cells.{orders, reads}
use Rattle.sign.proofs.ported.strict_cmp.Goals as goal

-- `sign::ported::strict_cmp` reads its table: the rule is one test of the 64 cells.
-- Assumes nothing.
pub returns : goal.returns
unfolding strict_cmp sub add neg
returns c = reads orders STRICT_CONCRETE_COMPARISON None strict_cmp tt c.index_of.result c.index_of-2.result c.args.a c.args.b c.index_of.ensures c.index_of-2.ensures
