-- Where the output has room for all that is said, it holds the texts one after the other, and nothing else in it changes.
use Prim.Native.Nat.{ℕ, suc, ◌+◌, ◌≤◌}
use mathlib.Core.Path.{◌≡◌, refl, sym, ap, ◌∙◌}
use mathlib.Core.List.{List, [], ◌∷◌, ◌++◌}
use native.Mathlib.Omega.{arith}
use lib.ListN.{length, set, drop, length-append}
use lib.Seq.{sets, length-sets, sets-eq}
use borrow.Author.Tests.{le-leb}
use Rattle.text.specs.Room.{put_bytes}
use Rattle.say.specs.Said.{next, output, place, joined, Says, Prints}

sets-append : (t u l : List ℕ) (at : ℕ) → sets l at (t ++ u) ≡ sets (sets l at t) (at + length t) u
sets-append [] u l at = let e : at ≡ at + 0 = omega arith in ap (λ (i : ℕ). sets l i u) e
sets-append (x ∷ t) u l at =
    let e : suc at + length t ≡ at + suc (length t) = omega arith in
    sets-append t u (set l at x) (suc at) ∙ ap (λ (i : ℕ). sets (sets (set l at x) (suc at) t) i u) e

-- a text that fits is put, and the next stands after it
module _ (out : List ℕ) (at : ℕ) (t : List ℕ) (h : at + length t ≤ length out) where
  put : put_bytes out at t ≡ sets out at t
  unfolding put_bytes
  put = rw (le-leb (at + length t) (length out) h)

  after : next out at t ≡ at + length t
  unfolding next
  after = rw (le-leb (at + length t) (length out) h)

pub all_said : (ts : List (List ℕ)) (out : List ℕ) (at : ℕ) → at + length (joined ts) ≤ length out → (output ts out at ≡ sets out at (joined ts)) × (place ts out at ≡ at + length (joined ts))
unfolding output place joined
all_said [] out at h = (refl, omega arith)
all_said (t ∷ ts) out at h =
    let l = length-append t (joined ts) in
    let f : at + length t ≤ length out = omega (arith, l) in
    let k : at + length t + length (joined ts) ≤ length (sets out at t) = omega (arith, l, length-sets out at t) in
    let r = all_said ts (sets out at t) (at + length t) k in
    (rw (put out at t f, after out at t f) (r.0 ∙ sym (sets-append t (joined ts) out at)), rw (put out at t f, after out at t f) (r.1 ∙ omega (arith, l)))

pub says-text : (ts : List (List ℕ)) (out : List ℕ) (at : ℕ) (left : List ℕ) (end : ℕ) → Says ts out at left end → at + length (joined ts) ≤ length out → (left ≡ sets out at (joined ts)) × (end ≡ at + length (joined ts))
says-text ts out at left end s h = let r = all_said ts out at h in (s.leaves ∙ r.0, s.ends ∙ r.1)

-- in room that suffices all of it is printed
pub prints-all : (ts : List (List ℕ)) (out left : List ℕ) (n : ℕ) → Says ts out 0 left n → length (joined ts) ≤ length out → Prints ts out left n
prints-all ts out left n s h =
    let r = says-text ts out 0 left n s (omega arith) in
    let c : n ≡ length (joined ts) = r.1 ∙ omega arith in
    record { leaves = r.0; counts = c; fits = omega arith }

-- what is printed is the text, and what was there after it
pub printed-text : (ts : List (List ℕ)) (out left : List ℕ) (n : ℕ) → Prints ts out left n → left ≡ joined ts ++ drop n out
printed-text ts out left n p =
    let d : 0 + length (joined ts) ≡ n = omega (arith, p.counts) in
    p.leaves ∙ sets-eq (joined ts) out 0 (omega (arith, p.counts, p.fits)) ∙ rw d refl
