-- What the run answers is determined: the answer, and what the lent room holds then.
use mathlib.Core.Path.{◌≡◌, sym, ◌∙◌}
use mathlib.Core.List.{List}
use Prim.Native.Nat.{ℕ}
use lib.IntN.{ℤ}
use Rattle.refusal.specs.Count.{Counted}
use Rattle.refusal.proofs.Claims.{count-tells}
use Rattle.panel.specs.Answer.{Ran}

-- any two answers that the promise of `run` admits are equal, and the rooms with them
pub run-determined : (bytes : List ℕ) (ins room after after' : List ℤ) (r r' : Counted) → Ran bytes ins room after r → Ran bytes ins room after' r' → (r ≡ r') × (after ≡ after')
run-determined bytes ins room after after' r r' h h' = (count-tells r r' (h.0 ∙ sym h'.0), h.1 ∙ sym h'.1)
