-- Join, meet, order and widening of intervals, by the sets; and error 7 of document 01.
use mathlib.Core.Path.{◌≡◌, refl}
use mathlib.Core.Logic.{◌≢◌, ◌⊎◌, inl, inr, ◌↔◌}
use mathlib.Core.Bool.{true}
use lib.IntN.{ℤ, pos}
use lib.Signed.{◌≤ℤ◌, ◌<ℤ◌}
use mir.Syntax.{Width, w64}
use Rattle.whole.specs.Choice.{pick}
use Rattle.whole.specs.Test.{◌<?◌, ◌≟◌}
use Rattle.whole.specs.Range.{least, greatest}
use Rattle.whole.proofs.Linear.{ints}
use Rattle.whole.proofs.Linear as L
use Rattle.whole.proofs.Decides.{branch, both, le_test, lt_test, eq_test}
use Rattle.interval.specs.Set.{Interval, ◌⋯◌, ◌∈◌, ◌⊆◌, bottom, Proper, Canonical, some, none, empty?}
use Rattle.interval.specs.Mended.{join, narrowed}
use Rattle.interval.specs.PortedPromise.{Join, Compared, equal, less, greater, neither}
use Rattle.interval.specs.Ported.{common, meet, partial_cmp, widen}
use Rattle.interval.proofs.Calls.{made}
use Rattle.interval.proofs.Ends.{low-in, high-in}
use Rattle.interval.proofs.Rem.{signs}
use Rattle.interval.proofs.Canonical.{bottom-test, nothing, in-width}
use Rattle.interval.proofs.Fill.{into, out_of, filled-canonical}
use Rattle.interval.proofs.Claims.{join-left, join-right}

-- ---- the join: it holds both, and nothing smaller does

-- joined with bottom, an interval of the width stays as it is
beside-bottom : {w : Width} {b : Interval} → Proper w b → (join (bottom w) b ⊆ b) × (join b (bottom w) ⊆ b)
unfolding join
beside-bottom {w} {b} q = (
  λ x h. record { low = omega (ints, L.least (greatest w) b.min); high = omega (ints, L.greatest (least w) b.max) },
  λ x h. record { low = omega (ints, L.least b.min (greatest w)); high = omega (ints, L.greatest b.max (least w)) },
)

both_ends : {w : Width} {a b : Interval} → Proper w a → Proper w b → (u : Interval) → a ⊆ u → b ⊆ u → join a b ⊆ u
unfolding join
both_ends {a} {b} p q u f g x h =
    let k = f a.min (low-in p.ordered) in
    let l = f a.max (high-in p.ordered) in
    let m = g b.min (low-in q.ordered) in
    let n = g b.max (high-in q.ordered) in
    record { low = omega (ints, L.least a.min b.min); high = omega (ints, L.greatest a.max b.max) }

no_number : (w : Width) → join (bottom w) (bottom w) ⊆ bottom w
unfolding join
no_number w x h = record { low = omega (ints, L.least (greatest w) (greatest w)); high = omega (ints, L.greatest (least w) (least w)) }

pub join-exact : {w : Width} {a b : Interval} → Canonical w a → Canonical w b → Join a b (join a b)
join-exact {w} {a} {b} c d = record { left = λ x h. join-left a b h; right = λ x h. join-right a b h; least-one = least-of c d }
  where
    least-of : {a b : Interval} → Canonical w a → Canonical w b → (u : Interval) → a ⊆ u → b ⊆ u → join a b ⊆ u
    least-of (some p) (some q) u f g x h = both_ends p q u f g x h
    least-of (some p) none u f g x h = f x ((beside-bottom p).1 x h)
    least-of none (some q) u f g x h = g x ((beside-bottom q).0 x h)
    least-of none none u f g x h = absurd (nothing w (no_number w x h))

-- ---- the meet: the common numbers
pub meet-exact : (a b : Interval) (x : ℤ) → (x ∈ meet a b) ↔ ((x ∈ a) × (x ∈ b))
unfolding meet
meet-exact a b x = (λ h. apart (out_of w64 (common a b) x h), λ h. into w64 (common a b) x (together h.0 h.1))
  where
    apart : x ∈ common a b → (x ∈ a) × (x ∈ b)
    apart h =
        let g = L.greatest a.min b.min in
        let l = L.least a.max b.max in
        (record { low = omega ints; high = omega ints }, record { low = omega ints; high = omega ints })

    together : x ∈ a → x ∈ b → x ∈ common a b
    together h k = record { low = omega (ints, L.greatest a.min b.min); high = omega (ints, L.least a.max b.max) }

pub meet-canonical : {a b : Interval} → Canonical w64 a → Canonical w64 b → Canonical w64 (meet a b)
unfolding meet
meet-canonical {a} {b} c d = let l = in-width c in let r = in-width d in filled-canonical w64 (common a b) (omega (ints, L.greatest a.min b.min)) (omega (ints, L.least a.max b.max))

-- ---- the order: inclusion

inside-ends : {w : Width} {a b : Interval} → Canonical w a → Canonical w b → a ⊆ b → (b.min ≤ℤ a.min) × (a.max ≤ℤ b.max)
inside-ends {a} (some p) d s = ((s a.min (low-in p.ordered)).low, (s a.max (high-in p.ordered)).high)
inside-ends none d s = ((in-width d).1, (in-width d).2)

between_ends : {a b : Interval} → (b.min ≤ℤ a.min) × (a.max ≤ℤ b.max) → a ⊆ b
between_ends h x k = record { low = omega ints; high = omega ints }

pub order-exact : {a b : Interval} → Canonical w64 a → Canonical w64 b → Compared a b (partial_cmp a b)
unfolding partial_cmp
order-exact {a} {b} c d =
    branch (both (eq_test a.min b.min) (eq_test a.max b.max)) (Compared a b) (λ h. equal (made a.min a.max b.min b.max h.0 h.1)) λ n.
    branch (both (le_test a.min b.min) (le_test b.max a.max)) (Compared a b) (λ h. greater (between_ends h) (λ s. alike n h (inside-ends c d s))) λ m.
    branch (both (le_test b.min a.min) (le_test a.max b.max)) (Compared a b) (λ h. less (between_ends h) (λ s. alike n (inside-ends d c s) h)) λ k.
    neither (λ s. beyond k (inside-ends c d s)) (λ s. beyond m (inside-ends d c s))
  where
    alike : (a.min ≢ b.min) ⊎ (a.max ≢ b.max) → (a.min ≤ℤ b.min) × (b.max ≤ℤ a.max) → (b.min ≤ℤ a.min) × (a.max ≤ℤ b.max) → ⊥
    alike (inl n) h k = n (omega ints)
    alike (inr n) h k = n (omega ints)

    beyond : {i j k l : ℤ} → (i <ℤ j) ⊎ (k <ℤ l) → (j ≤ℤ i) × (l ≤ℤ k) → ⊥
    beyond (inl n) h = omega ints
    beyond (inr n) h = omega ints

-- ---- widening covers both arguments
pub widen-covers : {new previous : Interval} → Canonical w64 new → Canonical w64 previous → (new ⊆ widen new previous) × (previous ⊆ widen new previous)
unfolding widen
widen-covers {new} {previous} c d =
    branch (bottom-test w64 previous) (λ v. (new ⊆ v) × (previous ⊆ v)) (λ h. (λ x k. k, λ x k. absurd (omega (ints, signs w64)))) λ _.
    let l = low_end in
    let h = high_end in
    (λ x k. record { low = omega ints; high = omega ints }, λ x k. record { low = omega ints; high = omega ints })
  where
    low_end : (pick (new.min <? previous.min) (least w64) previous.min ≤ℤ new.min) × (pick (new.min <? previous.min) (least w64) previous.min ≤ℤ previous.min)
    low_end = let e = in-width c in let f = in-width d in branch (lt_test new.min previous.min) (λ z. (z ≤ℤ new.min) × (z ≤ℤ previous.min)) (λ _. (e.0, f.0)) (λ h. (h, omega ints))

    high_end : (new.max ≤ℤ pick (previous.max <? new.max) (greatest w64) previous.max) × (previous.max ≤ℤ pick (previous.max <? new.max) (greatest w64) previous.max)
    high_end = let e = in-width c in let f = in-width d in branch (lt_test previous.max new.max) (λ z. (new.max ≤ℤ z) × (previous.max ≤ℤ z)) (λ _. (e.3, f.3)) (λ h. (h, omega ints))

-- ---- error 7: the ported narrowing of [5, 9] by previous [MIN, 0] is [5, 0], min > max
pub narrow-wrong : (narrowed w64 (pos 5 ⋯ pos 9) (least w64 ⋯ pos 0) ≡ (pos 5 ⋯ pos 0)) × (empty? (pos 5 ⋯ pos 0) ≡ true)
unfolding narrowed ◌≟◌ ◌<?◌
narrow-wrong = (refl, refl)
