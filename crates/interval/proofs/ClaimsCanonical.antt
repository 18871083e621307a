-- The test of the domain, and that the mended operations have canonical answers.
use mathlib.Core.Path.{◌≡◌, refl}
use mathlib.Core.Logic.{◌↔◌, inl, inr}
use mathlib.Core.Bool.{Bool, true, false, not, ◌||◌}
use lib.IntN.{ℤ, pos}
use lib.Signed.{◌≤ℤ◌, ≤ℤ_refl, rem_z}
use mir.Syntax.{Width, w64}
use mir.Val.{SFits}
use Rattle.whole.specs.Choice.{pick}
use Rattle.whole.specs.Range.{least, greatest}
use Rattle.whole.proofs.Linear.{ints}
use Rattle.whole.proofs.Fits.{fits, low, high}
use Rattle.whole.proofs.Divide.{fits-rem}
use Rattle.whole.proofs.Decides.{branch, both, either, eq_test, is-fit}
use Rattle.interval.specs.Set.{Interval, ◌⋯◌, top, bottom, empty?, is_bottom, in_width?, canonical?, Proper, Canonical, some, none}
use Rattle.refusal.specs.Answer.{Answer}
use Rattle.interval.specs.Mended.{neg, add, sub, mul, div, rem, rem_single, equals, less, greater, less_or_equal, greater_or_equal, narrowed, filled, narrow}
use Rattle.interval.specs.Promise.{Operation, Arithmetic, Exact, fitting, too_wide, Comparison, Verdict, Judged, judged, always, never, sometimes, Well, shown, refusing}
use Rattle.interval.proofs.Test.{in-test, only-test}
use Rattle.interval.proofs.Rem.{proper, signs, one-fits, rem-proper}
use Rattle.interval.proofs.Canonical.{bottom-test, canonical-is, is-canonical, in-width}
use Rattle.interval.proofs.First.{strict-full}
use Rattle.interval.proofs.Ranges.{ranged-exact}
use Rattle.interval.proofs.Quotients.{quot-least, unbounded-test}
use Rattle.interval.proofs.Fill.{filled-canonical}
use Rattle.interval.proofs.Claims.{neg-exact, add-exact, sub-exact, mul-exact, div-rule, rem-rule, equals-exact, less-exact, greater-exact, less-or-equal-exact, greater-or-equal-exact}

-- ---- the test that every mended operation makes first decides whether an interval is canonical
pub canonical-test : (w : Width) (i : Interval) → (canonical? w i ≡ true) ↔ Canonical w i
canonical-test w i = (is-canonical w i, canonical-is)

-- every pair of 64-bit numbers has its ends in the width: there it is min at most max, or bottom
pub canonical-64 : {i : Interval} → SFits w64 i.min → SFits w64 i.max → canonical? w64 i ≡ (not (empty? i) || is_bottom w64 i)
unfolding canonical?
canonical-64 {i} f g = go (empty? i)
  where
    go : (p : Bool) → pick p (is_bottom w64 i) (in_width? w64 i) ≡ (not p || is_bottom w64 i)
    go true = refl
    go false = rw (is-fit f, is-fit g)

-- ---- arithmetic
well : {w : Width} {f : ℤ → ℤ → ℤ} {a b : Interval} {r : Answer Interval} → Exact w f a b r → Well w r
well (fitting l p) = shown (some p)
well (too_wide v l c) = refusing

-- a side that is bottom gives bottom
module _ {w : Width} {P : Interval → Interval → Answer Interval → Type 0} {op : Operation} (m : Arithmetic w P op) where
  beside-well : {a b : Interval} → Canonical w a → Canonical w b → (Proper w a → Proper w b → Well w (op a b)) → Well w (op a b)
  beside-well (some p) (some q) f = f p q
  beside-well {a} (some p) none f = rw (m.beside a (bottom w) (some p) none (inr refl)) (shown none)
  beside-well {b} none d f = rw (m.beside (bottom w) b none d (inl refl)) (shown none)

pub neg-canonical : {w : Width} {a : Interval} → Canonical w a → Well w (neg w a)
neg-canonical {w} (some p) = well ((neg-exact w).full p)
neg-canonical {w} none = rw (neg-exact w).beside (shown none)

module _ {w : Width} {a b : Interval} (c : Canonical w a) (d : Canonical w b) where
  pub add-canonical : Well w (add w a b)
  add-canonical = beside-well (add-exact w) c d (λ p q. well ((add-exact w).full p q))

  pub sub-canonical : Well w (sub w a b)
  sub-canonical = beside-well (sub-exact w) c d (λ p q. well ((sub-exact w).full p q))

  pub mul-canonical : Well w (mul w a b)
  mul-canonical = beside-well (mul-exact w) c d (λ p q. well ((mul-exact w).full p q))

  pub div-canonical : Well w (div w a b)
  unfolding div
  div-canonical =
      beside-well (div-rule w) c d λ p q.
      rw (strict-full p q)
      (branch (only-test b (pos 0)) (Well w) (λ _. shown none) λ _.
      branch (unbounded-test p q) (Well w) (λ _. shown (some (proper (omega (ints, signs w)) (omega ints) (omega ints)))) λ u.
      well (ranged-exact p q _ _ (quot-least p.ordered q.ordered u.0)))

  pub rem-canonical : Well w (rem w a b)
  unfolding rem
  rem-canonical =
      beside-well (rem-rule w) c d λ p q.
      rw (strict-full p q)
      (branch (only-test b (pos 0)) (Well w) (λ _. shown none) λ nz.
      branch (both (eq_test a.min a.max) (eq_test b.min b.max)) (Well w) (λ _. alone p) λ _.
      shown (some (rem-proper a q nz)))
    where
      alone : Proper w a → Well w (rem_single w a.min b.min)
      alone p =
          let f = fits-rem {w = w} b.min (fits w a.min p.above (omega ints)) in
          branch (in-test _ (top w)) (Well w) (λ _. shown (some (proper (≤ℤ_refl (rem_z a.min b.min)) (low w _ f) (high w _ f)))) (λ _. refusing)

-- ---- comparisons
both-proper : (w : Width) → Proper w (pos 0 ⋯ pos 1)
both-proper w = proper (omega ints) (omega (ints, signs w)) (one-fits w)

verdict-proper : {w : Width} {P N : ℤ → ℤ → Type 0} {a b v : Interval} → Verdict P N a b v → Proper w v
verdict-proper {w} (always h) = proper (omega ints) (omega (ints, signs w)) (one-fits w)
verdict-proper {w} (never h) = proper (omega ints) (omega (ints, signs w)) (omega (ints, signs w))
verdict-proper {w} (sometimes h k) = both-proper w

judged-well : {w : Width} {P N : ℤ → ℤ → Type 0} {a b : Interval} {r : Answer Interval} → Judged P N a b r → Well w r
judged-well (judged h) = shown (some (verdict-proper h))

module _ {w : Width} {P N : ℤ → ℤ → Type 0} {op : Operation} (m : Comparison w P N op) where
  compared-well : {a b : Interval} → Canonical w a → Canonical w b → Well w (op a b)
  compared-well (some p) (some q) = judged-well (m.full p q)
  compared-well {a} (some p) none = rw (m.beside a (bottom w) (some p) none (inr refl)) (shown (some (both-proper w)))
  compared-well {b} none d = rw (m.beside (bottom w) b none d (inl refl)) (shown (some (both-proper w)))

module _ {w : Width} {a b : Interval} (c : Canonical w a) (d : Canonical w b) where
  pub equals-canonical : Well w (equals w a b)
  equals-canonical = compared-well (equals-exact w) c d

  pub less-canonical : Well w (less w a b)
  less-canonical = compared-well (less-exact w) c d

  pub greater-canonical : Well w (greater w a b)
  greater-canonical = compared-well (greater-exact w) c d

  pub less-or-equal-canonical : Well w (less_or_equal w a b)
  less-or-equal-canonical = compared-well (less-or-equal-exact w) c d

  pub greater-or-equal-canonical : Well w (greater_or_equal w a b)
  greater-or-equal-canonical = compared-well (greater-or-equal-exact w) c d

-- ---- narrowing
pub narrow-canonical : {w : Width} {new previous : Interval} → Canonical w new → Canonical w previous → Well w (narrow w new previous)
unfolding narrow narrowed
narrow-canonical {w} {new} {previous} c d =
    let e = in-width c in
    let f = in-width d in
    rw (canonical-is c, canonical-is d)
    (shown
    (branch (either (bottom-test w previous) (bottom-test w new)) (λ v. Canonical w (filled w v)) (λ _. filled-canonical w (bottom w) (omega (ints, signs w)) (omega (ints, signs w))) λ _.
    filled-canonical w _
    (branch (eq_test previous.min (least w)) (λ n. least w ≤ℤ n) (λ _. e.0) (λ _. f.0))
    (branch (eq_test previous.max (greatest w)) (λ n. n ≤ℤ greatest w) (λ _. e.3) (λ _. f.3))))
