-- Bytes that were stored had room.
use Prim.Native.Nat.{ℕ, ◌+◌, ◌*◌, ◌≤◌}
use mathlib.Core.Path.{◌≡◌, refl}
use mathlib.Core.List.{List}
use mathlib.Core.Bool.{Bool, true, false}
use native.Mathlib.Omega.{arith}
use lib.Dec.{leb}
use lib.ListN.{length, drop}
use borrow.Author.Tests.{leb-true}
use Rattle.whole.specs.Choice.{pick}
use Rattle.std.specs.Prelude.{Option, Some, None}
use Rattle.std.proofs.lemmas.Option.{some_pair_parts, none-some}
use Rattle.text.specs.Hex.{hex_bytes, hex_answer}

pub fitting : (s : List ℕ) (at : ℕ) (out : List ℕ) (n next : ℕ) → hex_answer s at out ≡ Some (n, next) → n ≤ length out
unfolding hex_answer
fitting s at out n next e = by-test (leb size (length out)) refl e
  where
    size : ℕ
    size = length (hex_bytes (drop at s))

    by-test : (t : Bool) → leb size (length out) ≡ t → pick {A = Option (ℕ × ℕ)} t (Some (size, at + 2 * size)) None ≡ Some (n, next) → n ≤ length out
    by-test true l h =
        let m = (some_pair_parts size n (at + 2 * size) next h).0 in
        omega (arith, leb-true size (length out) l)
    by-test false l h = absurd (none-some (n, next) h)
