use Rattle.std.proofs.Common.{◌∙◌}
use Rattle.text.proofs.Words.{starts}
use Rattle.text.proofs.word.begins_with.Goals as goal

pub returns : goal.returns
returns c = c.starts_with.ensures.value ∙ rw c.rest.ensures (starts _ _)
