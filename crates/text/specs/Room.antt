-- Bytes that are put into a lent buffer at a place. Where they don't fit the buffer is kept.
use Rattle.std.specs.Prelude.{ℕ, ◌+◌, List, Bool, leb, length, Option, Some, None}
use Rattle.std.proofs.lemmas.List.Edits.{sets}
use Rattle.whole.specs.Choice.{pick}

abbrev pub fits_at : List ℕ → ℕ → List ℕ → Bool
fits_at out at bs = leb (at + length bs) (length out)

unfoldable pub put_bytes : List ℕ → ℕ → List ℕ → List ℕ
put_bytes out at bs = pick (fits_at out at bs) (sets out at bs) out

-- the place after the bytes, if they fit
unfoldable pub put_answer : List ℕ → ℕ → List ℕ → Option ℕ
put_answer out at bs = pick (fits_at out at bs) (Some (at + length bs)) None
