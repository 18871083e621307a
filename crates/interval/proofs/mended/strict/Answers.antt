use mathlib.Core.Path.{sym, ◌∙◌}
use Rattle.interval.proofs.Full.{is-made-of, not_left, not_right}
use Rattle.interval.proofs.mended.strict.Goals.{else-is_full-via-then-is_full+else-is_full-2, else-is_full-via-else-is_full}
use Rattle.interval.proofs.mended.strict.Goals as goal

pub returns-then-is_full-2 : goal.returns-then-is_full-2
returns-then-is_full-2 c = is-made-of _ _ _ _ (sym c.is_full.ensures ∙ c.if-is_full.true) (sym c.is_full-then-is_full.ensures ∙ c.if-is_full-2.true)

pub returns-else-is_full : goal.returns-else-is_full
returns-else-is_full c = c.unmade.ensures ∙ elim c.else-is_full.branch [
  | else-is_full-via-then-is_full+else-is_full-2 w ↦ not_right _ _ _ _ (sym w.is_full-then-is_full.ensures ∙ w.if-is_full-2.false)
  | else-is_full-via-else-is_full w ↦ not_left _ _ _ _ (sym c.is_full.ensures ∙ w.if-is_full.false)
]
