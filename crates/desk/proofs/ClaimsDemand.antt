-- Demand 3, for every lawful panel.
use mathlib.Core.Path.{◌≡◌, refl, sym, ap}
use mathlib.Core.List.{List, [], ◌∷◌, ◌++◌}
use Prim.Native.Nat.{ℕ, zero, suc, ◌+◌}
use native.Mathlib.Nat.{add-zero}
use native.Mathlib.Omega.{arith}
use lib.IntN.{ℤ}
use lib.ListN.{length, length-append}
use Rattle.std.specs.Prelude.{Err, Ok, Result}
use Rattle.refusal.specs.declared.Refusal.{Refusal}
use Rattle.step.specs.Panel.{Panel, Honest, gives-in, stops-by, Lawful}
use Rattle.step.specs.declared.Action.{Action}
use Rattle.step.specs.declared.Action.TheVariants.{Input, Does}
use Rattle.panel.specs.Run.{at, run_step, run_from}
use Rattle.desk.specs.Check.{shown_at, passed, refused_at, shown_by, check_step, check_on, check_from}
use Rattle.desk.specs.Promise.{ValidAction, AllValid, next as and_step, Takes, Suits, AllGood, nil, cons, Each, none, next, Ends, StepStops, stopping, StopsAfter}

differ : {S : Type 0} {vs us : List S} {r : Refusal} → passed vs ≡ refused_at us r → ⊥
differ e = let z : ◌≡◌ {A = ℕ} 0 1 = cc in omega arith

-- what one step shows is fair to its runs
data StepFair (P : Panel) (shown : List P.Shown) (s : Action) : Result P.Shown Refusal → Type 0 where
  goes : {v : P.Shown} → ((ins env : List ℤ) → Each P env shown → Takes s ins → (n : ℤ) × (run_step P.run ins env s ≡ Ok n) × P.Has v n) → P.Good v → StepFair P shown s (Ok v)
  halts : {r : Refusal} → StepStops P shown r s → StepFair P shown s (Err r)

module _ (P : Panel) (L : Lawful P) where
  -- each number lies in what is shown at its place
  pub look : {ns : List ℤ} {vs : List P.Shown} → Each P ns vs → (k : ℕ) → P.Has (shown_at P vs k) (at ns k)
  look none k = L.zero_has
  look (next h e) zero = h
  look (next h e) (suc k) = look e k

  more : {ns : List ℤ} {vs : List P.Shown} {n : ℤ} {v : P.Shown} → Each P ns vs → P.Has v n → Each P (ns ++ (n ∷ [])) (vs ++ (v ∷ []))
  more none g = next g none
  more (next h e) g = next h (more e g)

  look-good : {vs : List P.Shown} → AllGood P vs → (k : ℕ) → P.Good (shown_at P vs k)
  look-good nil k = L.zero-good
  look-good (cons p e) zero = p
  look-good (cons p e) (suc k) = look-good e k

  more-good : {vs : List P.Shown} {v : P.Shown} → AllGood P vs → P.Good v → AllGood P (vs ++ (v ∷ []))
  more-good nil g = cons g nil
  more-good (cons h e) g = cons h (more-good e g)

  step-fair : (shown : List P.Shown) (s : Action) → AllGood P shown → ValidAction P s → StepFair P shown s (check_step P shown s)
  unfolding run_step check_step
  step-fair shown (Input l h) ps f = goes taken (L.input-good l h f)
    where
      taken : (ins env : List ℤ) → Each P env shown → Takes (Input l h) ins → (n : ℤ) × ◌≡◌ {A = Result ℤ Refusal} (Ok (at ins 0)) (Ok n) × P.Has (P.of_input l h) n
      taken [] env e t = absurd t
      taken (x ∷ ins) env e t = (x, refl, L.input-has l h x f t.0 t.1)
  step-fair shown (Does o a b c) ps f = from (L.honest o _ _ _ f (look-good ps a) (look-good ps b) (look-good ps c))
    where
      from : {r : Result P.Shown Refusal} → Honest P o (shown_at P shown a) (shown_at P shown b) (shown_at P shown c) r → StepFair P shown (Does o a b c) r
      from (gives-in g p) = goes (λ ins env e t. g (at env a) (at env b) (at env c) (look e a) (look e b) (look e c)) p
      from (stops-by m) = halts (stopping m)

  passed-from : (steps : List Action) (shown vs : List P.Shown) (ins env : List ℤ) → AllGood P shown → Each P env shown → AllValid P steps → Suits steps ins → check_from P shown steps ≡ passed vs → Ends P (run_from P.run ins env steps) vs
  unfolding check_from run_from
  passed-from [] shown vs ins env ps e f t c = record { numbers = env; ends = refl; each = let d : shown ≡ vs = cc in rw d at e }
  passed-from (s ∷ ss) shown vs ins env ps e (and_step f₀ f₁) t c = go (passed-from ss) (step-fair shown s ps f₀) c
    where
      Rest : Type 0
      Rest = (shown vs : List P.Shown) (ins env : List ℤ) → AllGood P shown → Each P env shown → AllValid P ss → Suits ss ins → check_from P shown ss ≡ passed vs → Ends P (run_from P.run ins env ss) vs

      go : {a : Result P.Shown Refusal} → Rest → StepFair P shown s a → check_on shown a (λ v. check_from P (shown ++ (v ∷ [])) ss) ≡ passed vs → Ends P (run_from P.run ins env (s ∷ ss)) vs
      go rest (halts m) c = absurd (differ (sym c))
      go rest (goes g p) c = let (n, d, h) = g ins env e t.0 in rw d (rest _ vs _ _ (more-good ps p) (more e h) f₁ t.1 c)

  refused-from : (steps : List Action) (shown vs : List P.Shown) (r : Refusal) → AllGood P shown → AllValid P steps → check_from P shown steps ≡ refused_at vs r → StopsAfter P (check_from P shown) steps vs r
  unfolding check_from
  refused-from [] shown vs r ps f c = absurd (differ c)
  refused-from (s ∷ ss) shown vs r ps (and_step f₀ f₁) c = go (refused-from ss) (step-fair shown s ps f₀) refl c
    where
      Rest : Type 0
      Rest = (shown vs : List P.Shown) (r : Refusal) → AllGood P shown → AllValid P ss → check_from P shown ss ≡ refused_at vs r → StopsAfter P (check_from P shown) ss vs r

      go : {a : Result P.Shown Refusal} → Rest → StepFair P shown s a → check_step P shown s ≡ a → check_on shown a (λ v. check_from P (shown ++ (v ∷ [])) ss) ≡ refused_at vs r → StopsAfter P (check_from P shown) (s ∷ ss) vs r
      go rest (goes {v = v} g p) d c =
          let m = rest (shown ++ (v ∷ [])) vs r (more-good ps p) f₁ c in
          record { before = s ∷ m.before; step = m.step; after = m.after; parts = ap (λ l. s ∷ l) m.parts; earlier = rw d m.earlier; stops = m.stops }
      go rest (halts {r = q} m) d c =
          let a : shown ≡ vs = cc in
          let b : q ≡ r = cc in
          record { before = []; step = s; after = ss; parts = refl; earlier = ap passed a; stops = rw (← a, ← b) m }

  good-from : (steps : List Action) (shown : List P.Shown) → AllGood P shown → AllValid P steps → AllGood P (shown_by (check_from P shown steps))
  unfolding check_from
  good-from [] shown ps f = ps
  good-from (s ∷ ss) shown ps (and_step f₀ f₁) = go (good-from ss) (step-fair shown s ps f₀)
    where
      Rest : Type 0
      Rest = (shown : List P.Shown) → AllGood P shown → AllValid P ss → AllGood P (shown_by (check_from P shown ss))

      go : {a : Result P.Shown Refusal} → Rest → StepFair P shown s a → AllGood P (shown_by (check_on shown a (λ v. check_from P (shown ++ (v ∷ [])) ss)))
      go rest (halts m) = ps
      go rest (goes g p) = rest _ (more-good ps p) f₁

  -- ---- every shown value is good
  pub all-good : (steps : List Action) → AllValid P steps → AllGood P (shown_by (check_from P [] steps))
  all-good steps f = good-from steps [] nil f

  -- ---- demand 3

  pub passed-runs : (steps : List Action) → AllValid P steps → (vs : List P.Shown) → check_from P [] steps ≡ passed vs → (ins : List ℤ) → Suits steps ins → Ends P (run_from P.run ins [] steps) vs
  passed-runs steps f vs c ins t = passed-from steps [] vs ins [] nil none f t c

  pub refused-stops : (steps : List Action) → AllValid P steps → (vs : List P.Shown) (r : Refusal) → check_from P [] steps ≡ refused_at vs r → StopsAfter P (check_from P []) steps vs r
  refused-stops steps f vs r c = refused-from steps [] vs r nil f c

-- ---- a passed sheet shows as many values as it has steps, so the step that is refused is the one whose number is their count
module _ (P : Panel) where
  count : (steps : List Action) (shown vs : List P.Shown) → check_from P shown steps ≡ passed vs → length vs ≡ length shown + length steps
  unfolding check_from
  count [] shown vs c = let e : vs ≡ shown = cc in rw (e, add-zero)
  count (s ∷ ss) shown vs c = go (count ss) (check_step P shown s) c
    where
      go : ((shown vs : List P.Shown) → check_from P shown ss ≡ passed vs → length vs ≡ length shown + length ss) → (a : Result P.Shown Refusal) → check_on shown a (λ v. check_from P (shown ++ (v ∷ [])) ss) ≡ passed vs → length vs ≡ length shown + suc (length ss)
      go rest (Err r) c = absurd (differ (sym c))
      go rest (Ok v) c = omega (arith, rest (shown ++ (v ∷ [])) vs c, length-append shown (v ∷ []))

  pub shows-each : (steps : List Action) (vs : List P.Shown) → check_from P [] steps ≡ passed vs → length vs ≡ length steps
  shows-each steps vs c = omega (arith, count steps [] vs c)

  -- a sheet of no steps passes
  pub no-steps-pass : check_from P [] [] ≡ passed []
  unfolding check_from
  no-steps-pass = refl
