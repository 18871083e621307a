-- What an interval stands for, and when it is canonical, at a width.
use Rattle.std.specs.Prelude.{Bool, ◌&&◌, ◌⊎◌, ℤ, ◌≤ℤ◌, ◌<ℤ◌}
use Rattle.std.specs.Int.{Width}
use Rattle.whole.specs.Choice.{pick}
use Rattle.whole.specs.Range.{least, greatest, fits?}
use Rattle.whole.specs.Test.{◌≤?◌, ◌<?◌, ◌≟◌}
pub use Rattle.interval.specs.declared.Interval.{Interval}

infix 5 ◌⋯◌
abbrev pub ◌⋯◌ : ℤ → ℤ → Interval
a ⋯ b = record { min = a; max = b }

-- x is one of the numbers that i stands for
infix 4 ◌∈◌ ◌∉◌ ◌∈?◌ ◌⊆◌
pub record ◌∈◌ (x : ℤ) (i : Interval) : Type 0 where
  pub low : i.min ≤ℤ x
  pub high : x ≤ℤ i.max

abbrev pub ◌∉◌ : ℤ → Interval → Type 0
x ∉ i = (x <ℤ i.min) ⊎ (i.max <ℤ x)

abbrev pub ◌∈?◌ : ℤ → Interval → Bool
x ∈? i = (i.min ≤? x) && (x ≤? i.max)

-- every number of i is one of j
abbrev pub ◌⊆◌ : Interval → Interval → Type 0
i ⊆ j = (x : ℤ) → x ∈ i → x ∈ j

abbrev pub top : Width → Interval
top w = least w ⋯ greatest w

abbrev pub bottom : Width → Interval
bottom w = greatest w ⋯ least w

abbrev pub single : ℤ → Interval
single n = n ⋯ n

-- i is the one number n
abbrev pub is_only : Interval → ℤ → Bool
is_only i n = (i.min ≟ n) && (i.max ≟ n)

abbrev pub is_bottom : Width → Interval → Bool
is_bottom w i = (i.min ≟ greatest w) && (i.max ≟ least w)

abbrev pub empty? : Interval → Bool
empty? i = i.max <? i.min

abbrev pub in_width? : Width → Interval → Bool
in_width? w i = fits? w i.min && fits? w i.max

-- min at most max and both numbers of the width, or bottom: the domain
unfoldable pub canonical? : Width → Interval → Bool
canonical? w i = pick (empty? i) (is_bottom w i) (in_width? w i)

-- an interval that has a number, all of whose numbers fit
pub record Proper (w : Width) (i : Interval) : Type 0 where
  pub ordered : i.min ≤ℤ i.max
  pub above : least w ≤ℤ i.min
  pub below : i.max ≤ℤ greatest w

-- the canonical intervals of a width
pub data Canonical (w : Width) : Interval → Type 0 where
  some : {i : Interval} → Proper w i → Canonical w i
  none : Canonical w (bottom w)
