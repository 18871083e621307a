-- The stopping panel of a width: it shows range, spacing and sign, and a refusal's numbers are drawn from the ranges.
use Rattle.std.specs.Prelude.{ℤ}
use Rattle.std.specs.Int.{Width}
use Rattle.interval.specs.Set.{◌⋯◌, Proper, ◌∈◌ as ◌∈ʳ◌}
use Rattle.congruence.specs.Set.{◌∈◌ as ◌∈ˢ◌, Proper as ProperSpacing}
use Rattle.sign.specs.Set.{◌∈◌ as ◌∈ᵍ◌}
use Rattle.step.specs.declared.show.Shown.{Shown}
use Rattle.step.specs.Run.{run_op}
use Rattle.step.specs.Show.{show_op, input_shown, zero_shown}
use Rattle.step.specs.Valid.{ValidOperator}
use Rattle.step.specs.Panel.{Panel}

-- x lies in the range, the spacing and the sign that are shown
pub record InShown (v : Shown) (x : ℤ) : Type 0 where
  pub range : x ∈ʳ v.range
  pub spacing : x ∈ˢ v.spacing
  pub sign : x ∈ᵍ v.sign

-- a range with a number, whose numbers fit, and a canonical spacing of the width
pub record GoodShown (w : Width) (v : Shown) : Type 0 where
  pub range : Proper w v.range
  pub spacing : ProperSpacing w v.spacing

abbrev pub stopping : Width → Panel
stopping w = record {
  Shown = Shown;
  Has = InShown;
  Drawn = λ v x. x ∈ʳ v.range;
  Good = GoodShown w;
  zero = zero_shown;
  of_input = input_shown;
  Valid = ValidOperator w;
  ValidInput = λ l h. Proper w (l ⋯ h);
  run = run_op w;
  show = show_op w;
}
