use lib.ListN.{take}
use Rattle.say.specs.Said.{Puts}
use Rattle.say.specs.Texts.{spaced}
use Rattle.say.proofs.Page.numbers.Given as goal

abbrev pub invariant-loop-n : goal.invariant-loop-n
invariant-loop-n l = Puts (spaced (take l.n-index l.list)) l.initial.self l.self
