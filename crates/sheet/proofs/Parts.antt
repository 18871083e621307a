-- A field, a step and the steps of a sheet, by what was read of them.
use Prim.Native.Nat.{ℕ, zero, suc, ◌+◌, ◌-◌, ◌*◌, ◌≤◌, ◌<◌}
use mathlib.Core.Path.{◌≡◌, refl, ◌∙◌}
use mathlib.Core.List.{List, [], ◌∷◌}
use mathlib.Core.Bool.{Bool, true, false}
use native.Mathlib.Omega.{arith}
use lib.Dec.{ltb, leb}
use lib.IntN.{ℤ, pos}
use lib.ListN.{length, set}
use lib.Seq.{sets}
use borrow.Author.Tests.{lt-ltb, le-ltb, le-leb, lt-leb}
use Rattle.whole.specs.Choice.{pick}
use Rattle.whole.specs.Test.{◌<?◌}
use Rattle.sheet.specs.declared.operator.Kind.TheVariants.{Signed, High, Earlier}
use Rattle.sheet.specs.Got.{Got, got, refused, and_then, none, fault, fine, wrong, verdict_of}
use Rattle.sheet.specs.Number.{read_number}
use Rattle.sheet.specs.Signed.{unfold_number}
use Rattle.sheet.specs.Operator.{fields_of}
use Rattle.sheet.specs.Field.{field_at, judged}
use Rattle.sheet.specs.Step.{Step, fields_at, step_at}
use Rattle.sheet.specs.Sheet.{steps_from, steps_in, parse, flat}
use Rattle.refusal.specs.Answer.{done, at_byte, refused_by}
use Rattle.sheet.specs.Answer.{answer, content, plan_of, reading}

module _ (s : List ℕ) (at : ℕ) where
  pub signed-got : (n p : ℕ) → read_number s at ≡ got n p → field_at Signed s at 0 (pos 0) ≡ got (unfold_number n) p
  unfolding field_at
  signed-got n p e = rw e

  pub signed-refused : (n p : ℕ) → read_number s at ≡ refused n p → field_at Signed s at 0 (pos 0) ≡ refused n p
  unfolding field_at
  signed-refused n p e = rw e

  -- a high end is a signed number that is then held against the low end
  high-signed : (low : ℤ) → field_at High s at 0 low ≡ and_then (field_at Signed s at 0 (pos 0)) (λ x p. judged (pick (x <? low) (fault 9) none) x at p)
  unfolding field_at
  high-signed low = by_number (read_number s at)
    where
      by_number : (x : Got ℕ)
          → and_then x (λ n p. judged (pick (unfold_number n <? low) (fault 9) none) (unfold_number n) at p)
          ≡ and_then (and_then x (λ n p. got (unfold_number n) p)) (λ y p. judged (pick (y <? low) (fault 9) none) y at p)
      by_number (got n p) = refl
      by_number (refused n p) = refl

  pub high-got : (low x : ℤ) (p : ℕ) → field_at Signed s at 0 (pos 0) ≡ got x p → (x <? low) ≡ false → field_at High s at 0 low ≡ got x p
  high-got low x p e t = high-signed low ∙ rw (e, t)

  pub high-below : (low x : ℤ) (p : ℕ) → field_at Signed s at 0 (pos 0) ≡ got x p → (x <? low) ≡ true → field_at High s at 0 low ≡ refused 9 at
  high-below low x p e t = high-signed low ∙ rw (e, t)

  pub high-refused : (low : ℤ) (n p : ℕ) → field_at Signed s at 0 (pos 0) ≡ refused n p → field_at High s at 0 low ≡ refused n p
  high-refused low n p e = high-signed low ∙ rw e

  pub operand-got : (k n p : ℕ) → read_number s at ≡ got n p → n < k → field_at Earlier s at k (pos 0) ≡ got (pos n) p
  unfolding field_at ◌<?◌
  operand-got k n p e h = rw (e, le-ltb n 0 (omega arith), lt-ltb n k h)

  pub operand-late : (k n p : ℕ) → read_number s at ≡ got n p → k ≤ n → field_at Earlier s at k (pos 0) ≡ refused 8 at
  unfolding field_at ◌<?◌
  operand-late k n p e h = rw (e, le-ltb n 0 (omega arith), le-ltb n k h)

  pub operand-refused : (k n p : ℕ) → read_number s at ≡ refused n p → field_at Earlier s at k (pos 0) ≡ refused n p
  unfolding field_at
  operand-refused k n p e = rw e

  pub step-known : (k op p : ℕ) → read_number s at ≡ got op p → op < 17 → step_at s at k ≡ fields_at (fields_of op) s op p k
  unfolding step_at
  step-known k op p e h = rw (e, lt-ltb op 17 h)

  pub step-unknown : (k op p : ℕ) → read_number s at ≡ got op p → 17 ≤ op → step_at s at k ≡ refused 7 at
  unfolding step_at
  step-unknown k op p e h = rw (e, le-ltb op 17 h)

  pub step-refused : (k n p : ℕ) → read_number s at ≡ refused n p → step_at s at k ≡ refused n p
  unfolding step_at
  step-refused k n p e = rw e

-- ---- the steps of a sheet

pub steps-done : (n k : ℕ) (s : List ℕ) (at : ℕ) → n ≤ k → steps_from (n - k) s k at ≡ pick (ltb at (length s)) (refused 11 at) (got [] at)
unfolding steps_from
steps-done n k s at h =
    let e : n - k ≡ 0 = omega arith in
    rw e

steps-more : (n k : ℕ) (s : List ℕ) (at : ℕ) → k < n
    → steps_from (n - k) s k at ≡ and_then (step_at s at k) (λ x q. and_then (steps_from (n - (k + 1)) s (k + 1) q) (λ xs r. got (x ∷ xs) r))
unfolding steps_from
steps-more n k s at h =
    let e : n - k ≡ suc (n - (k + 1)) = omega arith in
    rw e

-- a step put before those that follow it
abbrev pub put : Step → Got (List Step) → Got (List Step)
put x g = and_then g (λ xs r. got (x ∷ xs) r)

pub turn_step : (n k : ℕ) (s : List ℕ) (at : ℕ) (x : Step) (q : ℕ) → k < n → step_at s at k ≡ got x q → steps_from (n - k) s k at ≡ put x (steps_from (n - (k + 1)) s (k + 1) q)
turn_step n k s at x q h e = rw (steps-more n k s at h, e)

pub turn-refused : (n k : ℕ) (s : List ℕ) (at m p : ℕ) → k < n → step_at s at k ≡ refused m p → steps_from (n - k) s k at ≡ refused m p
turn-refused n k s at m p h e = rw (steps-more n k s at h, e)

pub verdict-put : (x : Step) (g : Got (List Step)) → verdict_of (put x g) ≡ verdict_of g
verdict-put x (got xs r) = refl
verdict-put x (refused n p) = refl

pub flat-put : (x : Step) (g : Got (List Step)) → verdict_of g ≡ fine → flat (steps_in (put x g)) ≡ x.operator ∷ x.a ∷ x.b ∷ x.c ∷ flat (steps_in g)
unfolding flat
flat-put x (got xs r) h = refl
flat-put x (refused n p) h = let z : ◌≡◌ {A = ℕ} 0 1 = cc in absurd (omega arith)

pub flat-done : (t : Bool) (at : ℕ) → flat (steps_in (pick t (refused 11 at) (got [] at))) ≡ []
unfolding flat
flat-done true at = refl
flat-done false at = refl

-- four stores, as the code writes them
pub sets-four : (l : List ℤ) (k : ℕ) (op a b c : ℤ) (vs : List ℤ) → sets l (k * 4) (op ∷ a ∷ b ∷ c ∷ vs) ≡ sets (set (set (set (set l (k * 4) op) (k * 4 + 1) a) (k * 4 + 2) b) (k * 4 + 3) c) ((k + 1) * 4) vs
sets-four l k op a b c vs =
    let e₁ : k * 4 + 1 ≡ suc (k * 4) = omega arith in
    let e₂ : k * 4 + 2 ≡ suc (suc (k * 4)) = omega arith in
    let e₃ : k * 4 + 3 ≡ suc (suc (suc (k * 4))) = omega arith in
    let e₄ : (k + 1) * 4 ≡ suc (suc (suc (suc (k * 4)))) = omega arith in
    rw (e₁, e₂, e₃, e₄)

pub length-flat : (xs : List Step) → length (flat xs) ≡ length xs * 4
unfolding flat
length-flat [] = refl
length-flat (x ∷ xs) = omega (arith, length-flat xs)

-- as many steps as were counted
pub steps-length : (n : ℕ) (s : List ℕ) (k at : ℕ) → verdict_of (steps_from n s k at) ≡ fine → length (steps_in (steps_from n s k at)) ≡ n
unfolding steps_from
steps-length zero s k at h = none_left (ltb at (length s))
  where
    none_left : (t : Bool) → length (steps_in (pick t (refused 11 at) (got [] at))) ≡ 0
    none_left true = refl
    none_left false = refl
steps-length (suc n) s k at h = by-step (step_at s at k) (λ q. steps_from n s (k + 1) q) (λ q. steps-length n s (k + 1) q) h
  where
    by-rest : (x : Step) (g : Got (List Step)) → (verdict_of g ≡ fine → length (steps_in g) ≡ n) → verdict_of (put x g) ≡ fine → length (steps_in (put x g)) ≡ suc n
    by-rest x (got xs r) ih h' = omega (arith, ih refl)
    by-rest x (refused m p) ih h' = let z : ◌≡◌ {A = ℕ} 0 1 = cc in absurd (omega arith)

    by-step : (x : Got Step) (f : ℕ → Got (List Step)) → ((q : ℕ) → verdict_of (f q) ≡ fine → length (steps_in (f q)) ≡ n) → verdict_of (and_then x (λ y q. put y (f q))) ≡ fine → length (steps_in (and_then x (λ y q. put y (f q)))) ≡ suc n
    by-step (got y q) f ih h' = by-rest y (f q) (ih q) h'
    by-step (refused m p) f ih h' = let z : ◌≡◌ {A = ℕ} 0 1 = cc in absurd (omega arith)

-- ---- the whole sheet, by its count

pub parse-count : (s : List ℕ) (n p : ℕ) → read_number s 0 ≡ got n p → n ≤ 256 → parse s ≡ steps_from n s 0 p
unfolding parse
parse-count s n p h l = rw (h, le-ltb 256 n l)

pub parse-many : (s : List ℕ) (n p : ℕ) → read_number s 0 ≡ got n p → 256 < n → parse s ≡ refused 10 0
unfolding parse
parse-many s n p h l = rw (h, lt-ltb 256 n l)

pub parse-refused : (s : List ℕ) (m p : ℕ) → read_number s 0 ≡ refused m p → parse s ≡ refused m p
unfolding parse
parse-refused s m p h = rw h

pub refused-of : {A : Type 0} (x : Got A) (n p : ℕ) → verdict_of x ≡ wrong n p → x ≡ refused n p
refused-of (got y q) n p h = let z : ◌≡◌ {A = ℕ} 0 1 = cc in absurd (omega arith)
refused-of (refused m q) n p h = cc

pub read-refused : (s : List ℕ) (out : List ℤ) (n p : ℕ) → parse s ≡ refused n p → (at_byte n p ≡ answer (reading s) out) × (out ≡ content (reading s) out)
unfolding reading
read-refused s out n p h = (rw h, rw h)

module _ (s : List ℕ) (out : List ℤ) (n : ℕ) where
  read_short : (g : Got (List Step)) → verdict_of g ≡ fine → length (steps_in g) ≡ n → length out < n * 4 → (refused_by 16 ≡ answer (plan_of g) out) × (out ≡ content (plan_of g) out)
  read_short (got xs p) f e h =
      let b : leb (length (flat xs)) (length out) ≡ false = lt-leb (length (flat xs)) (length out) (omega (arith, length-flat xs)) in
      (rw b, rw b)
  read_short (refused m q) f e h = let z : ◌≡◌ {A = ℕ} 0 1 = cc in absurd (omega arith)

  read-long : (g : Got (List Step)) → verdict_of g ≡ fine → length (steps_in g) ≡ n → n * 4 ≤ length out → (done n ≡ answer (plan_of g) out) × (sets out 0 (flat (steps_in g)) ≡ content (plan_of g) out)
  read-long (got xs p) f e h =
      let b : leb (length (flat xs)) (length out) ≡ true = le-leb (length (flat xs)) (length out) (omega (arith, length-flat xs)) in
      (rw (b, e), rw b)
  read-long (refused m q) f e h = let z : ◌≡◌ {A = ℕ} 0 1 = cc in absurd (omega arith)

  pub no_room : verdict_of (parse s) ≡ fine → length (steps_in (parse s)) ≡ n → length out < n * 4 → (refused_by 16 ≡ answer (reading s) out) × (out ≡ content (reading s) out)
  unfolding reading
  no_room = read_short (parse s)

  pub room : verdict_of (parse s) ≡ fine → length (steps_in (parse s)) ≡ n → n * 4 ≤ length out → (done n ≡ answer (reading s) out) × (sets out 0 (flat (steps_in (parse s))) ≡ content (reading s) out)
  unfolding reading
  room = read-long (parse s)
