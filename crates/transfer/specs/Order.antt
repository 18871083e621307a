-- What a comparison shows, by how its left side stands to the right.
use Rattle.std.specs.declared.cmp.Ordering.{Ordering}
use Rattle.std.specs.declared.cmp.Ordering.TheVariants.{Equal, Greater, Less}
use Rattle.std.specs.Prelude.{None, Option, Some}

unfoldable pub by_order : {A : Type 0} → Option Ordering → (less equal greater unknown : A) → A
by_order (Some Less) less equal greater unknown = less
by_order (Some Equal) less equal greater unknown = equal
by_order (Some Greater) less equal greater unknown = greater
by_order None less equal greater unknown = unknown
