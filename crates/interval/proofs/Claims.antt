-- What the mended operations are, by document 01's words (specs/Promise.antt): each claim speaks of the operation itself, at every width and on every two intervals.
use mathlib.Core.Path.{◌≡◌, refl, ap}
use mathlib.Core.Logic.{◌≢◌, inl, inr}
use Prim.Native.Nat.{ℕ}
use lib.IntN.{ℤ, neg_ℤ, ◌+ℤ◌, ◌-ℤ◌, ◌*ℤ◌}
use lib.Signed.{◌≤ℤ◌, ◌<ℤ◌}
use mir.Syntax.{Width, w64}
use Rattle.refusal.specs.declared.Refusal.{Refusal}
use Rattle.interval.specs.declared.Pair.{Pair}
use Rattle.std.specs.Prelude.{Err, Ok, Result}
use Rattle.whole.proofs.Linear.{ints}
use Rattle.whole.proofs.Linear as L
use Rattle.refusal.specs.Answer.{Answer, is, refused, told}
use Rattle.refusal.proofs.Claims.{number-tells}
use Rattle.interval.specs.Set.{Interval, ◌∈◌, ◌∉◌, top, bottom, Proper, Canonical, none}
use Rattle.interval.specs.Mended.{ranged, neg, add, sub, mul, div, rem, less_v, less_or_equal_v, equals_v, equals, less, greater, less_or_equal, greater_or_equal, magnitude, narrowed, filled, narrow, join}
use Rattle.interval.specs.Promise.{Operation, Arithmetic, Arithmetic₁, Exact, fitting, too_wide, Beyond, Quotients, Magnitude, Remainders, Comparison, Narrowing}
use Rattle.interval.proofs.Ends.{add-least, sub-least, mul-least, neg-least}
use Rattle.interval.proofs.Truth as T
use Rattle.interval.proofs.Rem.{proper}
use Rattle.interval.proofs.Canonical.{canonical-is}
use Rattle.interval.proofs.Ranges.{ranged-exact}
use Rattle.interval.proofs.Quotients.{quotients}
use Rattle.interval.proofs.Remainders.{magnitude-found, magnitude-only, remainders}
use Rattle.interval.proofs.Narrow.{narrow-outside, narrow-beside, narrow-ordered, narrow-emptied, between-them}
use Rattle.interval.proofs.First.{strict-outside, strict-beside, strict-full, arithmetic, comparison, exchanged}

-- ---- two answers that tell the same are the same, so a contract on what is told fixes the answer
pub answer-fixed : (r s : Result Interval Refusal) → told r ≡ told s → r ≡ s
answer-fixed (Ok u) (Ok v) e = cc
answer-fixed (Ok u) (Err r) e = let z : ◌≡◌ {A = ℕ} 0 1 = cc in absurd (omega ints)
answer-fixed (Err q) (Ok v) e = let z : ◌≡◌ {A = ℕ} 0 1 = cc in absurd (omega ints)
answer-fixed (Err q) (Err r) e = ap Err (number-tells q r cc)

pub pair-fixed : (r s : Result Pair Refusal) → told r ≡ told s → r ≡ s
pair-fixed (Ok u) (Ok v) e = cc
pair-fixed (Ok u) (Err r) e = let z : ◌≡◌ {A = ℕ} 0 1 = cc in absurd (omega ints)
pair-fixed (Err q) (Ok v) e = let z : ◌≡◌ {A = ℕ} 0 1 = cc in absurd (omega ints)
pair-fixed (Err q) (Err r) e = ap Err (number-tells q r cc)

-- ---- neg, add, sub, mul: the least range holding all exact results, or 2 where one of its ends doesn't fit
pub add-exact : (w : Width) → Arithmetic w (Exact w ◌+ℤ◌) (add w)
unfolding add
add-exact w = arithmetic w _ (λ a b p q. ranged-exact p q _ _ (add-least p.ordered q.ordered))

pub sub-exact : (w : Width) → Arithmetic w (Exact w ◌-ℤ◌) (sub w)
unfolding sub
sub-exact w = arithmetic w _ (λ a b p q. ranged-exact p q _ _ (sub-least p.ordered q.ordered))

pub mul-exact : (w : Width) → Arithmetic w (Exact w ◌*ℤ◌) (mul w)
unfolding mul
mul-exact w = arithmetic w _ (λ a b p q. ranged-exact p q _ _ (mul-least p.ordered q.ordered))

pub neg-exact : (w : Width) → Arithmetic₁ w (λ a. Exact w (λ x y. neg_ℤ x) a a) (neg w)
unfolding neg
neg-exact w = record {
  outside = λ a f. strict-outside w made a a (inl f);
  beside = strict-beside w made (bottom w) (bottom w) none none (inl refl);
  full = λ p. rw (strict-full p p _) (ranged-exact p p _ _ (neg-least p.ordered p.ordered));
}
  where
    made : Operation
    made a b = ranged w (neg_ℤ a.max) (neg_ℤ a.min)

-- so refused by 2 exactly when a result of two numbers doesn't fit
-- (what is beyond the width is in no proper interval)
outside : {w : Width} {x : ℤ} {v : Interval} → Proper w v → x ∉ top w → x ∈ v → ⊥
outside p (inl c) h = omega ints
outside p (inr c) h = omega ints

module _ {w : Width} {f : ℤ → ℤ → ℤ} {a b : Interval} where
  pub refused-if : {r : Answer Interval} → Exact w f a b r → Beyond w f a b → r ≡ refused 2
  refused-if (fitting l p) e = absurd (outside p e.beyond (l.covers e.left e.right e.left_in e.right-in))
  refused-if (too_wide v l c) e = refl

  pub only-refused-if : {r : Answer Interval} → Exact w f a b r → r ≡ refused 2 → Beyond w f a b
  only-refused-if {r} (fitting l p) e = absurd (let z : ◌≡◌ {A = ℕ} 0 1 = cc in omega ints)
  only-refused-if (too_wide v l (inl c)) e = record { left = l.low-is.left; right = l.low-is.right; left_in = l.low-is.left_in; right-in = l.low-is.right-in; beyond = rw l.low-is.at c }
  only-refused-if (too_wide v l (inr c)) e = record { left = l.high_is.left; right = l.high_is.right; left_in = l.high_is.left_in; right-in = l.high_is.right-in; beyond = rw l.high_is.at c }

-- ---- div: the least range of all quotients toward zero where they have bounds, else top, and bottom by [0, 0]
pub div-rule : (w : Width) → Arithmetic w (Quotients w) (div w)
unfolding div
div-rule w = arithmetic w _ (λ a b p q. quotients p q)

-- ---- rem: by the greatest magnitude in the divisor; it has every remainder, and is refused by 2 for MIN and -1 alone
pub rem-rule : (w : Width) → Arithmetic w (Remainders w) (rem w)
unfolding rem
rem-rule w = arithmetic w _ (λ a b p q. remainders p q)

-- there is one greatest magnitude in a divisor that has a number
pub magnitude-one : {w : Width} {b : Interval} → Proper w b → Magnitude b (magnitude b) × ((m : ℤ) → Magnitude b m → m ≡ magnitude b)
magnitude-one q = (magnitude-found q.ordered, magnitude-only q.ordered)

-- ---- the comparisons: true if they hold for every pair, false if for none, else both
pub equals-exact : (w : Width) → Comparison w ◌≡◌ ◌≢◌ (equals w)
unfolding equals
equals-exact w = comparison w equals_v (λ a b p q. T.equals-exact p.ordered q.ordered)

pub less-exact : (w : Width) → Comparison w ◌<ℤ◌ (λ x y. y ≤ℤ x) (less w)
unfolding less
less-exact w = comparison w less_v (λ a b p q. T.less-exact p.ordered q.ordered)

pub less-or-equal-exact : (w : Width) → Comparison w ◌≤ℤ◌ (λ x y. y <ℤ x) (less_or_equal w)
unfolding less_or_equal
less-or-equal-exact w = comparison w less_or_equal_v (λ a b p q. T.less-or-equal-exact p.ordered q.ordered)

pub greater-exact : (w : Width) → Comparison w (λ x y. y <ℤ x) (λ x y. x ≤ℤ y) (greater w)
unfolding greater
greater-exact w = exchanged (less w) (less-exact w)

pub greater-or-equal-exact : (w : Width) → Comparison w (λ x y. y ≤ℤ x) (λ x y. x <ℤ y) (greater_or_equal w)
unfolding greater_or_equal
greater-or-equal-exact w = exchanged (less_or_equal w) (less-or-equal-exact w)

-- ---- narrow: as ported, made bottom if empty; if new is inside previous, the answer lies between them
pub narrow-rule : (w : Width) → Narrowing w (narrow w)
narrow-rule w = record { outside = narrow-outside w; beside = narrow-beside w; ordered = narrow-ordered; emptied = narrow-emptied; inside = λ c d s. between-them w s c d }

-- at 64 bits it is the ported one, made bottom if empty
pub narrow-ported : {new previous : Interval} → Canonical w64 new → Canonical w64 previous → narrow w64 new previous ≡ is (filled w64 (narrowed w64 new previous))
unfolding narrow
narrow-ported c d = rw (canonical-is c, canonical-is d)

-- ---- the join is the least interval that holds both
pub join-left : (a b : Interval) {x : ℤ} → x ∈ a → x ∈ join a b
unfolding join
join-left a b h = record { low = omega (ints, L.least a.min b.min); high = omega (ints, L.greatest a.max b.max) }

pub join-right : (a b : Interval) {x : ℤ} → x ∈ b → x ∈ join a b
unfolding join
join-right a b h = record { low = omega (ints, L.least a.min b.min); high = omega (ints, L.greatest a.max b.max) }

pub join-proper : {w : Width} {a b : Interval} → Proper w a → Proper w b → Proper w (join a b)
unfolding join
join-proper {a} {b} p q = let l = L.least a.min b.min in let g = L.greatest a.max b.max in proper (omega ints) (omega ints) (omega ints)
