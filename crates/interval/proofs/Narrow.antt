-- The mended narrowing: between new and previous, if new is inside previous; and its ends.
use mathlib.Core.Path.{◌≡◌}
use mathlib.Core.Logic.{◌⊎◌, inl, inr}
use mathlib.Core.Bool.{true, ◌||◌}
use lib.IntN.{ℤ}
use lib.Signed.{◌≤ℤ◌, ◌<ℤ◌}
use mir.Syntax.{Width}
use Rattle.whole.specs.Choice.{pick}
use Rattle.whole.specs.Test.{◌≟◌}
use Rattle.whole.specs.Range.{least, greatest}
use Rattle.whole.proofs.Linear.{ints}
use Rattle.whole.proofs.Decides.{branch, either, lt_test, eq_test, unequal, is_true, is_false}
use Rattle.interval.specs.Set.{Interval, ◌⋯◌, ◌⊆◌, bottom, is_bottom, Proper, Canonical, some}
use Rattle.refusal.specs.Answer.{is}
use Rattle.interval.specs.Promise.{OutsideRefused, BesideBottom, Taken, renewed, kept, Between, between}
use Rattle.interval.specs.Mended.{narrowed, filled, narrow}
use Rattle.interval.proofs.Canonical.{IsBottom, bottom-test, bottom-empty, bottom-is, bottom-found, not-bottom, nothing, canonical-is, has-number}
use Rattle.interval.proofs.First.{outside, or-true}

module _ (w : Width) {new previous : Interval} (s : new ⊆ previous) where
  -- ends between those of new and those of previous
  pair : {lo hi : ℤ} → new.min ≤ℤ new.max → (previous.min ≤ℤ lo) × (lo ≤ℤ new.min) → (new.max ≤ℤ hi) × (hi ≤ℤ previous.max) → Between new previous (is (filled w (lo ⋯ hi)))
  unfolding filled
  pair {lo} {hi} o h k = branch (lt_test hi lo) (λ v. Between new previous (is v)) (λ e. absurd (omega ints)) (λ e. between (λ x m. record { low = omega ints; high = omega ints }) (λ x m. record { low = omega ints; high = omega ints }))

  at-bottom : IsBottom w previous ⊎ IsBottom w new → Between new previous (is (filled w (bottom w)))
  unfolding filled
  at-bottom e = branch (lt_test (least w) (greatest w)) (λ v. Between new previous (is v)) (λ _. between (inside e) (λ x m. absurd (nothing w m))) (λ h. absurd (omega (ints, bottom-empty w)))
    where
      inside : IsBottom w previous ⊎ IsBottom w new → new ⊆ bottom w
      inside (inl e) x m = let k = s x m in record { low = omega ints; high = omega ints }
      inside (inr e) x m = record { low = omega ints; high = omega ints }

  ends : Proper w new → Between new previous (is (filled w (pick (previous.min ≟ least w) new.min previous.min ⋯ pick (previous.max ≟ greatest w) new.max previous.max)))
  ends p =
      let l = s new.min (record { low = omega ints; high = p.ordered }) in
      let h = s new.max (record { low = p.ordered; high = omega ints }) in
      pair p.ordered
      (branch (eq_test previous.min (least w)) (λ n. (previous.min ≤ℤ n) × (n ≤ℤ new.min)) (λ _. (l.low, omega ints)) (λ _. (omega ints, l.low)))
      (branch (eq_test previous.max (greatest w)) (λ n. (new.max ≤ℤ n) × (n ≤ℤ previous.max)) (λ _. (omega ints, h.high)) (λ _. (h.high, omega ints)))

  pub between-them : Canonical w new → Canonical w previous → Between new previous (narrow w new previous)
  unfolding narrow narrowed
  between-them c d = rw (canonical-is c, canonical-is d) (branch (either (bottom-test w previous) (bottom-test w new)) (λ v. Between new previous (is (filled w v))) at-bottom (λ n. ends (has-number c n.1)))

-- ---- by the cases of its arguments
module _ (w : Width) where
  pub narrow-outside : OutsideRefused w (narrow w)
  unfolding narrow
  narrow-outside a b n = rw (outside w a b n)

  pub narrow-beside : BesideBottom w (bottom w) (narrow w)
  unfolding narrow narrowed filled
  narrow-beside a b c d e = rw (canonical-is c, canonical-is d, one-bottom e, bottom-is w)
    where
      one-bottom : (a ≡ bottom w) ⊎ (b ≡ bottom w) → (is_bottom w b || is_bottom w a) ≡ true
      one-bottom (inl e) = rw (e, bottom-found w) (or-true (is_bottom w b))
      one-bottom (inr e) = rw (e, bottom-found w)

taken : {i n p l : ℤ} → Taken i n p l → pick (p ≟ i) n p ≡ l
taken {i} {p} (renewed e) = rw (is_true (eq_test p i) (λ f. f e))
taken (kept f) = rw (unequal f)

module _ {w : Width} {new previous : Interval} {lo hi : ℤ} (p : Proper w new) (q : Proper w previous) (l : Taken (least w) new.min previous.min lo) (h : Taken (greatest w) new.max previous.max hi) where
  narrow-is : narrow w new previous ≡ is (filled w (lo ⋯ hi))
  unfolding narrow narrowed
  narrow-is = rw (canonical-is (some p), canonical-is (some q), not-bottom p, not-bottom q, taken l, taken h)

  pub narrow-ordered : lo ≤ℤ hi → narrow w new previous ≡ is (lo ⋯ hi)
  unfolding filled
  narrow-ordered o = rw (narrow-is, is_false (lt_test hi lo) (λ k. omega ints))

  pub narrow-emptied : hi <ℤ lo → narrow w new previous ≡ is (bottom w)
  unfolding filled
  narrow-emptied o = rw (narrow-is, is_true (lt_test hi lo) (λ k. omega ints))
