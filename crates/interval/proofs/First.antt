-- What every mended operation asks first: outside the domain it is refused by 1; bottom beside it settles the answer; else both have a number.
use mathlib.Core.Path.{◌≡◌, refl}
use mathlib.Core.Logic.{◌⊎◌, inl, inr, ⊎_swap}
use mathlib.Core.Bool.{Bool, true, false, ◌&&◌, ◌||◌}
use lib.IntN.{ℤ, pos}
use mir.Syntax.{Width}
use Rattle.refusal.specs.Answer.{Answer, is}
use Rattle.interval.specs.Set.{Interval, ◌⋯◌, bottom, empty?, canonical?, Proper, Canonical, some}
use Rattle.interval.specs.Mended.{strict, lenient}
use Rattle.interval.specs.Promise.{Operation, OutsideRefused, BesideBottom, Arithmetic, Comparison, Some, Verdict, always, never, sometimes, Judged, judged}
use Rattle.interval.proofs.Canonical.{full, canonical-is, is-canonical, bottom-is}

not-true : (b : Bool) → (b ≡ true → ⊥) → b ≡ false
not-true true f = absurd (f refl)
not-true false f = refl

pub and-false : (b : Bool) → (b && false) ≡ false
and-false true = refl
and-false false = refl

pub or-true : (b : Bool) → (b || true) ≡ true
or-true true = refl
or-true false = refl

module _ {w : Width} {a b : Interval} (p : Proper w a) (q : Proper w b) where
  pub strict-full : (r : Answer Interval) → strict w a b r ≡ r
  strict-full r = rw (canonical-is (some p), canonical-is (some q), full p, full q)

  pub lenient-full : (v : Interval) → lenient w a b v ≡ is v
  lenient-full v = rw (canonical-is (some p), canonical-is (some q), full p, full q)

module _ (w : Width) where
  not-canonical : {i : Interval} → (Canonical w i → ⊥) → canonical? w i ≡ false
  not-canonical {i} f = not-true (canonical? w i) (λ h. f (is-canonical w i h))

  pub outside : (a b : Interval) → (Canonical w a → ⊥) ⊎ (Canonical w b → ⊥) → (canonical? w a && canonical? w b) ≡ false
  outside a b (inl f) = rw (not-canonical f)
  outside a b (inr f) = rw (not-canonical f) (and-false (canonical? w a))

  beside : (a b : Interval) → (a ≡ bottom w) ⊎ (b ≡ bottom w) → (empty? a || empty? b) ≡ true
  beside a b (inl e) = rw (e, bottom-is w)
  beside a b (inr e) = rw (e, bottom-is w) (or-true (empty? a))

  -- ---- what is made of two intervals, as an operation
  module _ (made : Operation) where
    pub strict-outside : OutsideRefused w (λ a b. strict w a b (made a b))
    strict-outside a b n = rw (outside a b n)

    pub strict-beside : BesideBottom w (bottom w) (λ a b. strict w a b (made a b))
    strict-beside a b c d e = rw (canonical-is c, canonical-is d, beside a b e)

    pub arithmetic : {P : Interval → Interval → Answer Interval → Type 0} → ((a b : Interval) → Proper w a → Proper w b → P a b (made a b)) → Arithmetic w P (λ a b. strict w a b (made a b))
    arithmetic {P} f = record { outside = strict-outside; beside = strict-beside; full = at }
      where
        at : {a b : Interval} → Proper w a → Proper w b → P a b (strict w a b (made a b))
        at {a} {b} p q = rw (strict-full p q (made a b)) (f a b p q)

  module _ (made : Interval → Interval → Interval) where
    lenient-outside : OutsideRefused w (λ a b. lenient w a b (made a b))
    lenient-outside a b n = rw (outside a b n)

    lenient-beside : BesideBottom w (pos 0 ⋯ pos 1) (λ a b. lenient w a b (made a b))
    lenient-beside a b c d e = rw (canonical-is c, canonical-is d, beside a b e)

    pub comparison : {P N : ℤ → ℤ → Type 0} → ((a b : Interval) → Proper w a → Proper w b → Verdict P N a b (made a b)) → Comparison w P N (λ a b. lenient w a b (made a b))
    comparison {P} {N} f = record { outside = lenient-outside; beside = lenient-beside; full = at }
      where
        at : {a b : Interval} → Proper w a → Proper w b → Judged P N a b (lenient w a b (made a b))
        at {a} {b} p q = rw (lenient-full p q (made a b)) (judged (f a b p q))

-- ---- a comparison with its sides exchanged
pair : {Q : ℤ → ℤ → Type 0} {a b : Interval} → Some Q b a → Some (λ x y. Q y x) a b
pair s = record { left = s.right; right = s.left; left_in = s.right-in; right-in = s.left_in; at = s.at }

turned : {P N : ℤ → ℤ → Type 0} {a b : Interval} {r : Answer Interval} → Judged P N b a r → Judged (λ x y. P y x) (λ x y. N y x) a b r
turned (judged (always h)) = judged (always (λ x y s t. h y x t s))
turned (judged (never h)) = judged (never (λ x y s t. h y x t s))
turned (judged (sometimes h k)) = judged (sometimes (pair h) (pair k))

pub exchanged : {w : Width} {P N : ℤ → ℤ → Type 0} (op : Operation) → Comparison w P N op → Comparison w (λ x y. P y x) (λ x y. N y x) (λ a b. op b a)
exchanged op c = record { outside = λ a b n. c.outside b a (⊎_swap n); beside = λ a b d e n. c.beside b a e d (⊎_swap n); full = λ p q. turned (c.full q p) }
