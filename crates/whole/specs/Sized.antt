-- The widths that panels have, and an exact number held to one of them.
use Rattle.std.specs.Prelude.{None, Option, Some, ℤ}
use Rattle.std.specs.Int.{Width, w16, w32, w64}
use Rattle.whole.specs.Exact.{exactly}
use Rattle.whole.specs.declared.Size.{Size}
use Rattle.whole.specs.declared.Size.TheVariants.{B16, B32, B64}

abbrev pub width_of : Size → Width
width_of B16 = w16
width_of B32 = w32
width_of B64 = w64

-- the number, if it is also one of this width
unfoldable pub held_to : Width → Option ℤ → Option ℤ
held_to w (Some z) = exactly w z
held_to w None = None
