-- The fourteen numbers of document 01, worked out by the definitions.
use mathlib.Core.Path.{◌≡◌, refl, ap, ◌∙◌}
use mathlib.Core.List.{List, [], ◌∷◌}
use lib.IntN.{pos}
use mir.Syntax.{w64}
use Rattle.whole.specs.Test.{◌≟◌, ◌<?◌, ◌≤?◌}
use Rattle.whole.specs.Whole.{min_ℤ, max_ℤ}
use Rattle.whole.specs.Range.{fits?}
use Rattle.whole.specs.Exact.{exactly}
use Rattle.whole.specs.Divides.{steps, gcd, lcm, floor_rem}
use Rattle.sign.specs.declared.Sign.TheVariants.{Positive}
use Rattle.sign.specs.Ported as sign
use Rattle.sign.specs.Mended as sign_mended
use Rattle.interval.specs.Set.{◌⋯◌, single, canonical?}
use Rattle.interval.specs.Ported as range
use Rattle.interval.specs.Mended as range_mended
use Rattle.congruence.specs.Set.{cong, top, bottom?, domain?, domain_at?, form}
use Rattle.congruence.specs.Numbers.{formula, gcd_then, abs_then, alike?, divides?}
use Rattle.congruence.specs.Ported as spacing
use Rattle.congruence.specs.Mended as spacing_mended
use Rattle.sheet.specs.declared.step.Step.{Step}
use Rattle.sheet.specs.Step.{step}
use Rattle.sheet.proofs.Claims.{fourteen-read}
use Rattle.step.specs.Kind.{operator_of, action_of}
use Rattle.step.specs.Range.{range_op}
use Rattle.step.specs.Spacing.{spacing_op}
use Rattle.step.specs.Signs.{sign_op}
use Rattle.step.specs.Show.{shown, show_op, input_shown}
use Rattle.step.specs.Stopping.{stopping}
use Rattle.panel.specs.Run.{actions_of}
use Rattle.desk.specs.Check.{passed, check_step, check_from, check_sheet}
use Rattle.desk.specs.Five.{flat}
use Rattle.desk.specs.Answer.{result_of}
use Rattle.desk.specs.Fourteen.{Fourteen}
use Rattle.desk.proofs.Answers.{checks-read, checked-all}

-- the steps of (14)
abbrev steps-14 : List Step
steps-14 = step (pos 1) (pos 1) (pos 4) (pos 0) ∷ step (pos 0) (pos 250) (pos 0) (pos 0) ∷ step (pos 4) (pos 0) (pos 1) (pos 0) ∷ []

passes-14 : check_sheet (stopping w64) steps-14 ≡ passed (shown (pos 1 ⋯ pos 4) top Positive ∷ shown (single (pos 250)) (cong (pos 250) (pos 0)) Positive ∷ shown (pos 250 ⋯ pos 1000) (cong (pos 0) (pos 250)) Positive ∷ [])
unfolding check_from check_step show_op range_op spacing_op sign_op input_shown actions_of action_of operator_of canonical? range_mended.mul spacing_mended.product spacing_mended.beside spacing_mended.result_of spacing_mended.over form bottom? domain? domain_at? formula gcd_then exactly fits? gcd steps floor_rem range.sign_of range.side_sign sign.mul sign.of_number min_ℤ max_ℤ ◌≟◌ ◌<?◌ ◌≤?◌
passes-14 = refl

pub fourteen : Fourteen
unfolding flat sign.mul sign.weak_cmp sign.div sign.sub sign.add sign.neg sign_mended.weak_cmp sign_mended.div range.weak_cmp range.ge_by range.neg range.rem range.rem_large range.rem_by range.widen canonical? range_mended.greater_or_equal range_mended.less_or_equal range_mended.verdict range_mended.rem range_mended.rem_within domain? domain_at? bottom? form floor_rem ◌≟◌ ◌<?◌ ◌≤?◌ max_ℤ spacing.met spacing.met_classes spacing.on_truth spacing.indivisible spacing.reduced spacing.normalize spacing.separated spacing.joined spacing.made spacing.negated spacing.asserted spacing.held spacing.divided spacing.divided_by spacing.only? abs_then gcd_then exactly fits? gcd lcm steps spacing_mended.common spacing_mended.beside spacing_mended.overlap spacing_mended.found spacing_mended.has? alike? spacing_mended.apart? spacing_mended.joint spacing_mended.class_of spacing_mended.result_of spacing_mended.negative spacing_mended.exact_of spacing_mended.quotient spacing_mended.by_number divides?
fourteen = record {
  number-1 = refl;
  number-2 = (refl, refl);
  number-3 = (refl, refl);
  number-4 = (refl, refl);
  number-5 = (refl, refl);
  number-6 = refl;
  number-7 = (refl, refl);
  number-8 = (refl, refl);
  number-9 = (refl, refl);
  number-10 = (refl, refl);
  number-11 = (refl, refl);
  number-12 = (refl, refl);
  number-13 = refl;
  number-14 = λ room h. checks-read w64 _ room steps-14 10 fourteen-read ∙ checked-all w64 steps-14 room h ∙ ap result_of passes-14;
}
