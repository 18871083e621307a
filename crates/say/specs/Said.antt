-- What is said: texts that are put into the output one after the other. A text that has no room is left out.
use Rattle.std.specs.Prelude.{ℕ, ◌+◌, ◌≤◌, ◌≡◌, List, [], ◌∷◌, ◌++◌, length}
use Rattle.std.proofs.lemmas.List.Edits.{sets}
use Rattle.whole.specs.Choice.{pick}
use Rattle.text.specs.Room.{fits_at, put_bytes}
use Rattle.say.specs.declared.Page.{Page}

-- the place after a text that is put at a place
unfoldable pub next : List ℕ → ℕ → List ℕ → ℕ
next out at t = pick (fits_at out at t) (at + length t) at

-- the output that the texts leave, and the place after them
unfoldable pub output : List (List ℕ) → List ℕ → ℕ → List ℕ
output [] out at = out
output (t ∷ ts) out at = output ts (put_bytes out at t) (next out at t)

unfoldable pub place : List (List ℕ) → List ℕ → ℕ → ℕ
place [] out at = at
place (t ∷ ts) out at = place ts (put_bytes out at t) (next out at t)

-- the texts as one
unfoldable pub joined : List (List ℕ) → List ℕ
joined [] = []
joined (t ∷ ts) = t ++ joined ts

-- how many bytes they take together
abbrev pub size : List (List ℕ) → ℕ
size [] = 0
size (t ∷ ts) = length t + size ts

pub record Says (ts : List (List ℕ)) (out : List ℕ) (at : ℕ) (left : List ℕ) (end : ℕ) : Type 0 where
  pub leaves : left ≡ output ts out at
  pub ends : end ≡ place ts out at

-- texts that are said on a page, which keeps the bytes that were lent to it
pub record Puts (ts : List (List ℕ)) (before after : Page) : Type 0 where
  pub says : Says ts before.bytes.now before.made after.bytes.now after.made
  pub same : after.bytes.ghost_name ≡ before.bytes.ghost_name

-- texts that stand at the start of an output, all n bytes of them, and the rest of it is kept
pub record Prints (ts : List (List ℕ)) (out left : List ℕ) (n : ℕ) : Type 0 where
  pub leaves : left ≡ sets out 0 (joined ts)
  pub counts : n ≡ length (joined ts)
  pub fits : n ≤ length out
