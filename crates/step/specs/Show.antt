-- What each operator shows: range, spacing and sign together, or the range's refusal; and what an input shows.
use Rattle.refusal.specs.declared.Refusal.{Refusal}
use Rattle.std.specs.Prelude.{ℤ, pos, Err, Ok, Result}
use Rattle.std.specs.Int.{Width}
use Rattle.whole.specs.Choice.{pick}
use Rattle.whole.specs.Test.{◌≟◌}
use Rattle.interval.specs.declared.Interval.{Interval}
use Rattle.interval.specs.Set.{◌⋯◌, single}
use Rattle.interval.specs.Ported.{sign_of}
use Rattle.congruence.specs.declared.Congruence.{Congruence}
use Rattle.congruence.specs.Set.{cong, top}
use Rattle.sign.specs.declared.Sign.{Sign}
use Rattle.sign.specs.declared.Sign.TheVariants.{Zero}
use Rattle.step.specs.declared.Operator.{Operator}
use Rattle.step.specs.declared.show.Shown.{Shown}
use Rattle.step.specs.Range.{range_op}
use Rattle.step.specs.Spacing.{spacing_op}
use Rattle.step.specs.Signs.{sign_op}

abbrev pub shown : Interval → Congruence → Sign → Shown
shown i c s = record { range = i; spacing = c; sign = s }

-- spacing and sign beside a range that is shown
abbrev pub beside : Congruence → Sign → Result Interval Refusal → Result Shown Refusal
beside c s (Ok v) = Ok (shown v c s)
beside c s (Err r) = Err r

unfoldable pub show_op : Width → Operator → Shown → Shown → Shown → Result Shown Refusal
show_op w o s t u =
    beside
    (spacing_op w o s.range s.spacing t.spacing u.spacing)
    (sign_op o s.range s.sign t.sign u.sign)
    (range_op w o s.range t.range u.range)

unfoldable pub input_shown : ℤ → ℤ → Shown
input_shown l h = shown (l ⋯ h) (pick (l ≟ h) (cong l (pos 0)) top) (sign_of (l ⋯ h))

-- the number 0, which stands past the last step
abbrev pub zero_shown : Shown
zero_shown = shown (single (pos 0)) (cong (pos 0) (pos 0)) Zero
