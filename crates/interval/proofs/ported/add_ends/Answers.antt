use mathlib.Core.Logic.{inl, inr}
use Rattle.whole.proofs.Flags.{flags}
use Rattle.interval.proofs.PortedCalls.{sum-called}
use Rattle.interval.proofs.Calls.{asked}
use Rattle.interval.proofs.ported.add_ends.Goals as goal

pub returns-then-y-infinite : goal.returns-then-y-infinite
returns-then-y-infinite c = elim c.if-y-infinite.either [ inl h ↦ search (asked, flags) depth 8 fits 5000 | inr h ↦ search (asked, flags) depth 8 fits 5000 ]

pub returns-else-y-infinite : goal.returns-else-y-infinite
returns-else-y-infinite c = search (sum-called, asked, flags) depth 8 fits 5000
