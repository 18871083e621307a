-- A pair that stands for nothing, made bottom, stands for the same; and what is made so is canonical.
use lib.Signed.{◌≤ℤ◌}
use mir.Syntax.{Width}
use Rattle.whole.specs.Range.{least, greatest}
use Rattle.whole.proofs.Linear.{ints}
use Rattle.whole.proofs.Decides.{branch, lt_test}
use Rattle.interval.specs.Set.{Interval, ◌∈◌, ◌⊆◌, Canonical, some, none}
use Rattle.interval.specs.Mended.{filled}
use Rattle.interval.proofs.Canonical.{nothing}

module _ (w : Width) (v : Interval) where
  pub into : v ⊆ filled w v
  unfolding filled
  into x h = branch (lt_test v.max v.min) (λ u. x ∈ u) (λ e. absurd (omega ints)) (λ _. h)

  pub out_of : filled w v ⊆ v
  unfolding filled
  out_of x = branch (lt_test v.max v.min) (λ u. x ∈ u → x ∈ v) (λ _ h. absurd (nothing w h)) (λ _ h. h)

  pub filled-canonical : least w ≤ℤ v.min → v.max ≤ℤ greatest w → Canonical w (filled w v)
  unfolding filled
  filled-canonical l g = branch (lt_test v.max v.min) (Canonical w) (λ _. none) (λ h. some (record { ordered = h; above = l; below = g }))
