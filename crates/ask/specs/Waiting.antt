-- What waits between two reads.
use Rattle.std.specs.Prelude.{◌≡◌, ◌<◌, ℕ, List, [], ◌++◌, length, take}
use Rattle.ask.specs.Unfinished.{unfinished}
use Rattle.ask.specs.declared.State.{State}
use Rattle.ask.specs.declared.State.TheVariants.{Waiting, Skipping, Ended}

abbrev pub waiting : State → ℕ
waiting (Waiting n) = n
waiting Skipping = 0
waiting Ended = 0

-- after bytes that waited more came: what is unfinished then waits at the start of the buffer, or fills it; at the end none came
abbrev pub ReadOn : State → List ℕ → List ℕ → List ℕ → Type 0
ReadOn (Waiting n) waited more buf = (n < length buf) × (take n buf ≡ unfinished (waited ++ more))
ReadOn Skipping waited more buf = length (unfinished (waited ++ more)) ≡ length buf
ReadOn Ended waited more buf = more ≡ []

-- in a line to skip more came: it ended there, and what is unfinished then waits, or it goes on; at the end none came
abbrev pub Skipped : State → List ℕ → List ℕ → Type 0
Skipped (Waiting n) more buf = (length (unfinished more) < length more) × (take n buf ≡ unfinished more)
Skipped Skipping more buf = (0 < length more) × (unfinished more ≡ more)
Skipped Ended more buf = more ≡ []
