-- What an answer of reading or writing says of the sheet.
use Prim.Native.Nat.{ℕ, suc, ◌+◌, ◌/◌, ◌%◌, ◌≤◌}
use mathlib.Core.Path.{◌≡◌, refl, ap}
use mathlib.Core.List.{List, [], ◌∷◌}
use mathlib.Core.Bool.{Bool, true, false}
use native.Mathlib.Omega.{arith}
use lib.Dec.{ltb, leb, eqb}
use lib.IntN.{ℤ}
use lib.ListN.{length, take, drop}
use lib.Seq.{sets, sets-eq, take-append_seam}
use borrow.Author.Tests.{leb-true, ltb-false, eqb-true, le-leb, le-ltb, eq-eqb, leb-false}
use Rattle.whole.specs.Choice.{pick}
use Rattle.sheet.specs.Got.{Got, got, refused, Verdict, fine, wrong, verdict_of}
use Rattle.sheet.specs.Number.{read_number}
use Rattle.sheet.specs.Step.{Step}
use Rattle.sheet.specs.Sheet.{parse, steps_fault, bytes_of, flat, steps_of, steps_from}
use Rattle.refusal.specs.Answer.{done, at_step, at_byte, refused_by}
use Rattle.sheet.specs.Answer.{stop, answer, content, plan_of, reading, plan_for, writing}
use Rattle.sheet.specs.Lent.{Words}
use Rattle.sheet.proofs.Parts.{length-flat, steps-length}
use Rattle.sheet.proofs.Plans.{steps-count}
use Rattle.sheet.proofs.Stepped.{got_of}
use Rattle.sheet.proofs.Sheeted.{Fitted, none_left, fitted}

-- ---- steps and their numbers

pub steps-flat : (xs : List Step) → steps_of (flat xs) ≡ xs
unfolding steps_of flat
steps-flat [] = refl
steps-flat (x ∷ xs) = ap (λ (ys : List Step). x ∷ ys) (steps-flat xs)

pub flat-steps : (l : List ℤ) → length l % 4 ≡ 0 → flat (steps_of l) ≡ l
unfolding steps_of flat
flat-steps [] h = refl
flat-steps (o ∷ []) h = absurd (omega arith)
flat-steps (o ∷ x ∷ []) h = absurd (omega arith)
flat-steps (o ∷ x ∷ y ∷ []) h = absurd (omega arith)
flat-steps (o ∷ x ∷ y ∷ z ∷ l) h = ap (λ (m : List ℤ). o ∷ x ∷ y ∷ z ∷ m) (flat-steps l (omega arith))

pub words-fitted : (l : List ℤ) → Words l → Fitted (steps_of l)
unfolding steps_of
words-fitted [] h = none_left
words-fitted (o ∷ []) h = none_left
words-fitted (o ∷ x ∷ []) h = none_left
words-fitted (o ∷ x ∷ y ∷ []) h = none_left
words-fitted (o ∷ x ∷ y ∷ z ∷ l) h = fitted (h 1) (h 2) (h 3) (words-fitted l (λ j. h (suc (suc (suc (suc j))))))

-- what was stored first is there
pub stored-first {ℓ} : {A : Type ℓ} (out vs : List A) → length vs ≤ length out → take (length vs) (sets out 0 vs) ≡ vs
stored-first out vs h = rw (sets-eq vs out 0 (omega arith)) (take-append_seam vs (drop (0 + length vs) out))

-- ---- an answer that reads

pub record Reads (s : List ℕ) (room : List ℤ) (n : ℕ) : Type 0 where
  pub steps : List Step
  pub end : ℕ
  pub parsed : parse s ≡ got steps end
  pub count : n ≡ length steps
  pub fits : length (flat steps) ≤ length room
  pub stored : content (reading s) room ≡ sets room 0 (flat steps)

pub reads : (s : List ℕ) (room : List ℤ) (n : ℕ) → answer (reading s) room ≡ done n → Reads s room n
unfolding reading
reads s room n h = by-parse (parse s) refl h
  where
    by-room : (xs : List Step) (p : ℕ) (t : Bool) → parse s ≡ got xs p → leb (length (flat xs)) (length room) ≡ t → pick t (done (length xs)) (refused_by 16) ≡ done n → Reads s room n
    by-room xs p true e l g = record {
      steps = xs;
      end = p;
      parsed = e;
      count = (cc);
      fits = leb-true (length (flat xs)) (length room) l;
      stored = rw (e, l);
    }
    by-room xs p false e l g = let z : ◌≡◌ {A = ℕ} 0 1 = cc in absurd (omega arith)

    by-parse : (g : Got (List Step)) → parse s ≡ g → answer (plan_of g) room ≡ done n → Reads s room n
    by-parse (got xs p) e g = by-room xs p (leb (length (flat xs)) (length room)) e refl g
    by-parse (refused m p) e g = let z : ◌≡◌ {A = ℕ} 0 1 = cc in absurd (omega arith)

pub reads-back : (s : List ℕ) (room : List ℤ) (xs : List Step) (p : ℕ) → parse s ≡ got xs p → length (flat xs) ≤ length room → (answer (reading s) room ≡ done (length xs)) × (content (reading s) room ≡ sets room 0 (flat xs))
unfolding reading
reads-back s room xs p e h =
    let b = le-leb (length (flat xs)) (length room) h in
    (rw (e, b), rw (e, b))

-- a refusal with a place is that of the bytes
pub refuses : (s : List ℕ) (room : List ℤ) (r p : ℕ) → answer (reading s) room ≡ at_byte r p → parse s ≡ refused r p
unfolding reading
refuses s room r p h = by-parse (parse s) refl h
  where
    by-room : (xs : List Step) (t : Bool) → pick t (done (length xs)) (refused_by 16) ≡ at_byte r p → ⊥
    by-room xs true g = let z : ◌≡◌ {A = ℕ} 0 1 = cc in omega arith
    by-room xs false g = let z : ◌≡◌ {A = ℕ} 0 1 = cc in omega arith

    by-parse : (g : Got (List Step)) → parse s ≡ g → answer (plan_of g) room ≡ at_byte r p → parse s ≡ refused r p
    by-parse (got xs q) e g = absurd (by-room xs (leb (length (flat xs)) (length room)) g)
    by-parse (refused m q) e g =
        let em : m ≡ r = cc in
        let eq : q ≡ p = cc in
        rw (em, eq) at e

-- 256 steps at most, so that 1024 numbers are room for any sheet
pub parse-few : (s : List ℕ) (xs : List Step) (end : ℕ) → parse s ≡ got xs end → length xs ≤ 256
unfolding parse
parse-few s xs end h =
    let g = got_of (read_number s 0) _ xs end h in
    by_count g.0 g.1.0 (ltb 256 g.0) refl g.1.1.1
  where
    by_count : (n p : ℕ) (t : Bool) → ltb 256 n ≡ t → pick t (refused 10 0) (steps_from n s 0 p) ≡ got xs end → length xs ≤ 256
    by_count n p true l e = let z : ◌≡◌ {A = ℕ} 0 1 = cc in absurd (omega arith)
    by_count n p false l e =
        let c : length xs ≡ n = rw e at (steps-length n s 0 p (ap verdict_of e)) in
        omega (arith, ltb-false 256 n l)

pub enough-room : (s : List ℕ) (room : List ℤ) → 1024 ≤ length room → (r : ℕ) → answer (reading s) room ≡ refused_by r → ⊥
unfolding reading
enough-room s room long r h = by-parse (parse s) refl h
  where
    by-room : (xs : List Step) (t : Bool) → length xs ≤ 256 → leb (length (flat xs)) (length room) ≡ t → pick t (done (length xs)) (refused_by 16) ≡ refused_by r → ⊥
    by-room xs true few l g = let z : ◌≡◌ {A = ℕ} 0 1 = cc in omega arith
    by-room xs false few l g = omega (arith, leb-false (length (flat xs)) (length room) l, length-flat xs)

    by-parse : (g : Got (List Step)) → parse s ≡ g → answer (plan_of g) room ≡ refused_by r → ⊥
    by-parse (got xs p) e g = by-room xs (leb (length (flat xs)) (length room)) (parse-few s xs p e) refl g
    by-parse (refused m p) e g = let z : ◌≡◌ {A = ℕ} 0 1 = cc in omega arith

-- ---- an answer that writes

pub record Writes (l : List ℤ) (out : List ℕ) (n : ℕ) : Type 0 where
  pub even : length l % 4 ≡ 0
  pub few : length (steps_of l) ≤ 256
  pub right : steps_fault 0 (steps_of l) ≡ fine
  pub count : n ≡ length (bytes_of (steps_of l))
  pub fits : length (bytes_of (steps_of l)) ≤ length out
  pub stored : content (writing l) out ≡ sets out 0 (bytes_of (steps_of l))

pub writes : (l : List ℤ) (out : List ℕ) (n : ℕ) → answer (writing l) out ≡ done n → Writes l out n
unfolding writing
writes l out n h = by_tests (eqb (length l % 4) 0) (ltb 256 (length l / 4)) (steps_fault 0 (steps_of l)) (leb (length bs) (length out)) refl refl refl refl h
  where
    bs : List ℕ
    bs = bytes_of (steps_of l)

    by_tests : (t₁ t₂ : Bool) (v : Verdict) (t₃ : Bool) → eqb (length l % 4) 0 ≡ t₁ → ltb 256 (length l / 4) ≡ t₂ → steps_fault 0 (steps_of l) ≡ v → leb (length bs) (length out) ≡ t₃
        → answer (pick t₁ (pick t₂ (stop (at_step 10 0)) (plan_for v bs)) (stop (refused_by 1))) out ≡ done n → Writes l out n
    by_tests true false fine true e₁ e₂ e₃ e₄ g = record {
      even = eqb-true (length l % 4) 0 e₁;
      few = omega (arith, steps-count l, ltb-false 256 (length l / 4) e₂);
      right = e₃;
      count = (cc);
      fits = leb-true (length bs) (length out) e₄;
      stored = rw (e₁, e₂, e₃, e₄);
    }
    by_tests true false fine false e₁ e₂ e₃ e₄ g = let z : ◌≡◌ {A = ℕ} 0 1 = cc in absurd (omega arith)
    by_tests true false (wrong m k) t₃ e₁ e₂ e₃ e₄ g = let z : ◌≡◌ {A = ℕ} 0 1 = cc in absurd (omega arith)
    by_tests true true v t₃ e₁ e₂ e₃ e₄ g = let z : ◌≡◌ {A = ℕ} 0 1 = cc in absurd (omega arith)
    by_tests false t₂ v t₃ e₁ e₂ e₃ e₄ g = let z : ◌≡◌ {A = ℕ} 0 1 = cc in absurd (omega arith)

pub writes-back : (l : List ℤ) (out : List ℕ) → length l % 4 ≡ 0 → length (steps_of l) ≤ 256 → steps_fault 0 (steps_of l) ≡ fine → length (bytes_of (steps_of l)) ≤ length out
    → (answer (writing l) out ≡ done (length (bytes_of (steps_of l)))) × (content (writing l) out ≡ sets out 0 (bytes_of (steps_of l)))
unfolding writing
writes-back l out even few right h =
    let e₁ = eq-eqb (length l % 4) 0 even in
    let e₂ = le-ltb 256 (length l / 4) (omega (arith, steps-count l)) in
    let e₄ = le-leb (length (bytes_of (steps_of l))) (length out) h in
    (rw (e₁, e₂, right, e₄), rw (e₁, e₂, right, e₄))
