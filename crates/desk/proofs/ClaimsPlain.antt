-- Demand 3 in plain numbers, for the answers of `check` and `run` on any bytes: what stands in the rooms, by ≤, divisibility and signs.
use mathlib.Core.Path.{◌≡◌, refl, sym, ap, subst, ◌∙◌}
use mathlib.Core.List.{List, [], ◌∷◌, ◌++◌}
use Prim.Native.Nat.{ℕ, zero, suc, ◌+◌, ◌*◌, ◌≤◌, ◌<◌}
use native.Mathlib.Omega.{arith}
use lib.IntN.{ℤ, pos, negsuc, nat_abs}
use lib.ListN.{length, get_or, drop, take-append-drop}
use lib.Seq.{get_or-append_seam}
use mir.Syntax.{w64}
use Rattle.refusal.specs.declared.Refusal.{Refusal}
use Rattle.whole.specs.Divides.{◌∣ℤ◌}
use Rattle.whole.proofs.Linear.{ints}
use Rattle.whole.proofs.Divides.{∣-refl, ∣-trans, ∣-neg}
use Rattle.sign.specs.declared.Sign.{Sign}
use Rattle.sign.specs.declared.Sign.TheVariants.{Top, Bottom, Negative, Zero, Positive, NonNeg, NonZero, NonPos}
use Rattle.interval.specs.Set.{◌∈◌ as ◌∈ʳ◌}
use Rattle.sign.specs.Set.{◌∈◌ as ◌∈ᵍ◌}
use Rattle.sign.specs.Index.{index_of}
use Rattle.sheet.specs.Lent.{Bytes}
use Rattle.sheet.proofs.Claims.{read-valid}
use Rattle.step.specs.declared.Action.{Action}
use Rattle.step.specs.declared.Action.TheVariants.{Input}
use Rattle.step.specs.declared.show.Shown.{Shown}
use Rattle.step.specs.Show.{zero_shown}
use Rattle.step.specs.Stopping.{InShown, stopping}
use Rattle.panel.specs.Run.{actions_of}
use Rattle.panel.specs.Answer.{Ran}
use Rattle.std.specs.Prelude.{Ok, Err}
use Rattle.refusal.specs.declared.Fault.TheVariants.{AtStep}
use Rattle.refusal.specs.Count.{Counted}
use Rattle.desk.specs.Five.{flat, shown_in}
use Rattle.desk.specs.Promise.{StepStops, stopping as stops-on}
use Rattle.desk.specs.Answer.{Checked}
use Rattle.desk.specs.Kept.{InRanges, StopsThere}
use Rattle.desk.specs.Plain.{entry, SignSays, any, negative, nought, positive, from-0, not-0, to-0, Between, Inside, Stopping}
use Rattle.desk.proofs.Fives.{sign-back, found}
use Rattle.desk.proofs.ClaimsDemand.{shows-each}
use Rattle.desk.proofs.Names.{Names, names_at}
use Rattle.desk.proofs.Claims.{passed-code, refused-code, shown-fives}

never : {A : Type 0} → ◌≡◌ {A = ℕ} 0 1 → A
never e = absurd (omega arith)

-- ---- what a shown value says, in plain numbers

says : (s : Sign) (x : ℤ) → x ∈ᵍ s → SignSays (pos (index_of s)) x
says Top x h = any
says Bottom x h = never (let e = h.is in cc)
says Negative (negsuc k) h = negative {x = negsuc k} (omega ints)
says Negative (pos zero) h = never (let e = h.is in cc)
says Negative (pos (suc k)) h = never (let e = h.is in cc)
says Zero (negsuc k) h = never (let e = h.is in cc)
says Zero (pos zero) h = nought {x = pos zero} refl
says Zero (pos (suc k)) h = never (let e = h.is in cc)
says Positive (negsuc k) h = never (let e = h.is in cc)
says Positive (pos zero) h = never (let e = h.is in cc)
says Positive (pos (suc k)) h = positive {x = pos (suc k)} (omega ints)
says NonNeg (negsuc k) h = never (let e = h.is in cc)
says NonNeg (pos zero) h = from-0 {x = pos zero} (omega ints)
says NonNeg (pos (suc k)) h = from-0 {x = pos (suc k)} (omega ints)
says NonZero (negsuc k) h = not-0 {x = negsuc k} (λ e. omega ints)
says NonZero (pos zero) h = never (let e = h.is in cc)
says NonZero (pos (suc k)) h = not-0 {x = pos (suc k)} (λ e. omega ints)
says NonPos (negsuc k) h = to-0 {x = negsuc k} (omega ints)
says NonPos (pos zero) h = to-0 {x = pos zero} (omega ints)
says NonPos (pos (suc k)) h = never (let e = h.is in cc)

by-magnitude : (m z : ℤ) → pos (nat_abs m) ∣ℤ z → m ∣ℤ z
by-magnitude (pos n) z d = d
by-magnitude (negsuc n) z d = ∣-trans (∣-neg (∣-refl (negsuc n))) d

-- the sign's number stands in the fifth place
sign-entry : (vs : List Shown) (rest : List ℤ) (k : ℕ) → k < length vs → entry (flat vs ++ rest) (k * 5 + 4) ≡ pos (index_of (get_or vs k zero_shown).sign)
unfolding flat
sign-entry [] rest k h = absurd (omega arith)
sign-entry (v ∷ vs) rest zero h = refl
sign-entry (v ∷ vs) rest (suc k) h =
    let e : suc k * 5 + 4 ≡ suc (suc (suc (suc (suc (k * 5 + 4))))) = omega arith in
    rw e (sign-entry vs rest k (omega arith))

inside : (shown : List ℤ) (k : ℕ) (x : ℤ) (s : Sign) → entry shown (k * 5 + 4) ≡ pos (index_of s) → InShown (shown_in shown k) x → Inside shown k x
unfolding shown_in
inside shown k x s e h = record {
  range = record { low = h.range.low; high = h.range.high };
  spacing = by-magnitude _ _ h.spacing.class;
  sign = rw e (says s x (rw (e, sign-back s) at h.sign));
}

in-range : (vs : List Shown) (shown rest : List ℤ) → shown ≡ flat vs ++ rest → (a : ℕ) (x : ℤ) → a < length vs → x ∈ʳ (get_or vs a zero_shown).range → x ∈ʳ (shown_in shown a).range
in-range vs shown rest e a x h m =
    let p : shown_in shown a ≡ get_or vs a zero_shown = ap (λ l. shown_in l a) e ∙ found vs rest a h in
    subst (λ (v : Shown). x ∈ʳ v.range) (sym p) m

between : (shown : List ℤ) (a : ℕ) (x : ℤ) → x ∈ʳ (shown_in shown a).range → Between shown a x
unfolding shown_in
between shown a x q = record { low = q.low; high = q.high }

-- ---- demand 3

module _ (bytes : List ℕ) (lent : Bytes bytes) (room shown : List ℤ) where
  -- if `check` passes n steps, then for all inputs in their ranges `run` ends with n, and each number of its room lies in what the check's room shows
  pub passed-plainly : (n : ℕ) → Checked bytes room shown (Ok n) → (ins : List ℤ) → InRanges bytes ins → (room' numbers : List ℤ) (r : Counted) → n ≤ length room' → Ran bytes ins room' numbers r
      → (r ≡ Ok n) × ((k : ℕ) → k < n → Inside shown k (entry numbers k))
  passed-plainly n c ins i room' numbers r l g =
      let p = passed-code bytes lent room shown n c ins i room' numbers r l g in
      let f = shown-fives bytes room shown n c in
      (p.ends, λ k h. inside shown k _ (get_or f.values k zero_shown).sign (ap (λ t. entry t (k * 5 + 4)) f.in-room ∙ sign-entry f.values f.rest k (omega (arith, f.many))) (p.lies k h))

  -- if it refuses step k by r, that step names three earlier steps, and numbers between the ends shown of these stop it by r
  pub refused-plainly : (r : Refusal) (k : ℕ) → Checked bytes room shown (Err (AtStep r k)) → Stopping bytes shown r k
  refused-plainly r k c = from (refused-code bytes lent room shown r k c)
    where
      from : StopsThere bytes shown r k → Stopping bytes shown r k
      from t = go t.stops.step t.stops.stops named (ap (λ l. get_or l k first_step) t.stops.parts ∙ seam)
        where
          first_step : Action
          first_step = Input (pos 0) (pos 0)

          seam : get_or (t.stops.before ++ (t.stops.step ∷ t.stops.after)) k first_step ≡ t.stops.step
          seam = rw (sym t.place) (get_or-append_seam t.stops.before t.stops.step t.stops.after first_step)

          named : Names k t.stops.step
          named = let z : 0 + length t.stops.before ≡ k = omega (arith, t.place) in rw z at (names_at t.steps (read-valid bytes lent t.steps t.end t.read).steps t.stops.before t.stops.step t.stops.after t.stops.parts)

          many : length t.earlier ≡ k
          many = shows-each (stopping w64) t.stops.before t.earlier t.stops.earlier ∙ t.place

          in-room : shown ≡ flat t.earlier ++ drop (k * 5) shown
          in-room = sym (take-append-drop (k * 5) shown) ∙ ap (λ l. l ++ drop (k * 5) shown) t.in-room

          go : (s : Action) → StepStops (stopping w64) t.earlier r s → Names k s → get_or (actions_of t.steps) k first_step ≡ s → Stopping bytes shown r k
          go _ (stops-on {o} {a} {b} {c} m) e q =
              let f = e m.x m.y m.z r m.stop in
              record {
                steps = t.steps;
                end = t.end;
                read = t.read;
                operator = o;
                a = a;
                b = b;
                c = c;
                is = q;
                a-earlier = f.first;
                b-earlier = f.second;
                c-earlier = f.third;
                x = m.x;
                y = m.y;
                z = m.z;
                x-in = between shown a m.x (in-range t.earlier shown _ in-room a m.x (omega (arith, f.first, many)) m.x-in);
                y-in = between shown b m.y (in-range t.earlier shown _ in-room b m.y (omega (arith, f.second, many)) m.y-in);
                z-in = between shown c m.z (in-range t.earlier shown _ in-room c m.z (omega (arith, f.third, many)) m.z-in);
                stops = m.stop;
              }
