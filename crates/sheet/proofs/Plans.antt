-- What writing answers and stores, by what was found of its list.
use Prim.Native.Nat.{ℕ, ◌+◌, ◌/◌, ◌%◌, ◌≤◌, ◌<◌}
use mathlib.Core.Path.{◌≡◌, refl}
use mathlib.Core.List.{List, [], ◌∷◌}
use native.Mathlib.Omega.{arith}
use lib.IntN.{ℤ}
use lib.ListN.{length, length-append}
use lib.Seq.{sets}
use borrow.Author.Tests.{lt-ltb, le-ltb, le-leb, lt-leb, eq-eqb, ne_eqb}
use Rattle.sheet.specs.Got.{fine, wrong}
use Rattle.sheet.specs.Number.{write_number}
use Rattle.sheet.specs.Sheet.{steps_of, steps_fault, steps_bytes, bytes_of}
use Rattle.refusal.specs.Answer.{done, at_step, refused_by}
use Rattle.sheet.specs.Answer.{fill, answer, content, plan_for, writing}
use Rattle.sheet.proofs.Listed.{Filled, filled-then}

-- a step for each four numbers
pub steps-count : (l : List ℤ) → length (steps_of l) ≡ length l / 4
unfolding steps_of
steps-count [] = refl
steps-count (o ∷ []) = refl
steps-count (o ∷ x ∷ []) = refl
steps-count (o ∷ x ∷ y ∷ []) = refl
steps-count (o ∷ x ∷ y ∷ z ∷ l) = omega (arith, steps-count l)

module _ (l : List ℤ) (out : List ℕ) where
  pub write-uneven : (length l % 4 ≡ 0 → ⊥) → (refused_by 1 ≡ answer (writing l) out) × (out ≡ content (writing l) out)
  unfolding writing
  write-uneven h =
      let e = ne_eqb (length l % 4) 0 h in
      (rw e, rw e)

  module _ (even : length l % 4 ≡ 0) where
    pub write-many : 256 < length l / 4 → (at_step 10 0 ≡ answer (writing l) out) × (out ≡ content (writing l) out)
    unfolding writing
    write-many h =
        let e = eq-eqb (length l % 4) 0 even in
        let m = lt-ltb 256 (length l / 4) h in
        (rw (e, m), rw (e, m))

    plan : length l / 4 ≤ 256 → writing l ≡ plan_for (steps_fault 0 (steps_of l)) (bytes_of (steps_of l))
    unfolding writing
    plan h = rw (eq-eqb (length l % 4) 0 even, le-ltb 256 (length l / 4) h)

    pub write-wrong : length l / 4 ≤ 256 → (n k : ℕ) → steps_fault 0 (steps_of l) ≡ wrong n k → (at_step n k ≡ answer (writing l) out) × (out ≡ content (writing l) out)
    write-wrong h n k e = (rw (plan h, e), rw (plan h, e))

    module _ (few : length l / 4 ≤ 256) (right : steps_fault 0 (steps_of l) ≡ fine) where
      fills : writing l ≡ fill (length (bytes_of (steps_of l))) (bytes_of (steps_of l))
      fills = rw (plan few, right)

      pub write-size : length (bytes_of (steps_of l)) ≡ length (write_number (length l / 4)) + length (steps_bytes (steps_of l))
      unfolding bytes_of
      write-size = rw (steps-count l) (length-append (write_number (length l / 4)) (steps_bytes (steps_of l)))

      pub write-short : length out < length (bytes_of (steps_of l)) → (refused_by 16 ≡ answer (writing l) out) × (out ≡ content (writing l) out)
      write-short h =
          let b = lt-leb (length (bytes_of (steps_of l))) (length out) h in
          (rw (fills, b), rw (fills, b))

      pub write-long : (size : ℕ) → size ≡ length (bytes_of (steps_of l)) → size ≤ length out → (done size ≡ answer (writing l) out) × (sets out 0 (bytes_of (steps_of l)) ≡ content (writing l) out)
      write-long size e h =
          let b = le-leb (length (bytes_of (steps_of l))) (length out) (omega arith) in
          (rw (fills, b, e), rw (fills, b))

      -- the count's bytes, and then the steps'
      pub write-stored : (r : ℕ) (after after' : List ℕ) → Filled out 0 (write_number (length l / 4)) r after → after' ≡ sets after r (steps_bytes (steps_of l)) → after' ≡ sets out 0 (bytes_of (steps_of l))
      unfolding bytes_of
      write-stored r after after' f g = rw (steps-count l) (filled-then out 0 (write_number (length l / 4)) (steps_bytes (steps_of l)) r after f _ after' (refl, g)).1
