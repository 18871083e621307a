-- Bytes that are put where there is room, and where there is none.
use Prim.Native.Nat.{ℕ, ◌+◌, ◌≤◌, ◌<◌}
use mathlib.Core.Path.{◌≡◌, refl, sym, ◌∙◌}
use mathlib.Core.List.{List, ◌∷◌, append_assoc}
use mathlib.Core.Bool.{true, false}
use native.Mathlib.Omega.{arith}
use lib.ListN.{length, take, drop}
use lib.Seq.{sets, sets-eq, drop-drop}
use lib.IntN.{ℤ, pos, negsuc, nat_abs}
use borrow.Author.Tests.{le-leb, lt-leb}
use borrow.Rule.Slice.PartMut.{put_mid}
use Rattle.std.specs.Prelude.{Some, None}
use Rattle.text.specs.Room.{fits_at, put_bytes, put_answer}
use Rattle.text.specs.Decimal.{digits, decimal}
use Rattle.text.proofs.Digits.{a-digit}

-- as many bytes as bs has
module _ (out : List ℕ) (at k : ℕ) (bs : List ℕ) (is : k ≡ length bs) where
  pub room : (e : ℕ) → at + k ≤ length out → e ≡ at + k → (Some e ≡ put_answer out at bs) × (sets out at bs ≡ put_bytes out at bs)
  unfolding put_answer put_bytes
  room e h f =
      let b : fits_at out at bs ≡ true = le-leb (at + length bs) (length out) (rw is at h) in
      (rw (f, is, b), rw b)

  pub no_room : (at + k ≤ length out → ⊥) → (None ≡ put_answer out at bs) × (out ≡ put_bytes out at bs)
  unfolding put_answer put_bytes
  no_room h =
      let b : fits_at out at bs ≡ false = lt-leb (at + length bs) (length out) (omega (arith, h)) in
      (rw b, rw b)

  -- a copy into the part
  pub copied : at + k ≤ length out → put_mid at k out bs ≡ sets out at bs
  copied h =
      let l : at + length bs ≤ length out = rw is at h in
      sym (sets-eq bs out at l ∙ append_assoc (take at out) bs (drop (at + length bs) out) ∙ rw (is, drop-drop (length bs) at out) refl)

-- a number by its sign: z is its digits, or `-` and its digits
pub length-plus : (z : ℤ) (k : ℕ) → z ≡ pos k → decimal z ≡ digits (nat_abs z)
unfolding decimal
length-plus z k e = rw e

pub length-minus : (z : ℤ) (k : ℕ) → z ≡ negsuc k → decimal z ≡ 45 ∷ digits (nat_abs z)
unfolding decimal
length-minus z k e = rw e

pub some : (z : ℤ) → 0 < length (decimal z)
unfolding decimal
some (pos n) = a-digit n
some (negsuc n) = omega arith
