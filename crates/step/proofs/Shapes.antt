-- The shapes that the operators have, each proved fair once: sure, fitting, divided, logical.
use mathlib.Core.Path.{◌≡◌}
use mathlib.Core.Logic.{◌⊎◌, inl, inr, ⊎_map}
use mathlib.Core.Bool.{Bool, true, false, ◌&&◌}
use lib.IntN.{ℤ, pos, negsuc}
use lib.Signed.{◌≤ℤ◌, quot_z}
use mir.Syntax.{Width}
use mir.Val.{SFits}
use Rattle.std.specs.Prelude.{Err, Ok, Result}
use Rattle.refusal.specs.declared.Refusal.{Refusal}
use Rattle.refusal.specs.declared.Refusal.TheVariants.{ResultTooWide, NotLogical}
use Rattle.whole.specs.Test.{◌≤?◌, truth}
use Rattle.whole.specs.Range.{least}
use Rattle.whole.proofs.Linear.{ints}
use Rattle.whole.proofs.Fits.{fits, low, high}
use Rattle.whole.proofs.Decides.{Decides, branch, both, weaken, le_test, equal, unequal}
use Rattle.refusal.specs.Answer.{Answer, is}
use Rattle.interval.specs.declared.Interval.{Interval}
use Rattle.interval.specs.Set.{◌∈◌, ◌∉◌, top, single, Proper, Canonical, some, none}
use Rattle.interval.specs.Mended.{verdict}
use Rattle.interval.proofs.Test.{in-test, is-in, not_in, other}
use Rattle.interval.specs.Results.{Covering, covering, refusing}
use Rattle.interval.specs.Promise.{Exact, fitting, too_wide, Verdict, always, never, sometimes, Judged, judged, Well, shown as well}
use Rattle.interval.proofs.Ends.{low-in, high-in}
use Rattle.interval.proofs.Rem.{proper, signs, one-fits}
use Rattle.interval.proofs.Canonical.{nothing}
use Rattle.interval.proofs.Remainders.{min-by-minus-one, quotient_fits}
use Rattle.step.specs.Run as S
use Rattle.step.specs.Run.{bits, divided, logical}
use Rattle.step.specs.Range.{fitting_all, divided_all, logical_all}
use Rattle.step.specs.Fair.{GivesIn, given, Fair, passes, refuses}

in_top : {w : Width} {n : ℤ} → SFits w n → n ∈ top w
in_top {w} {n} f = record { low = low w n f; high = high w n f }

pub verdict-proper : {w : Width} (s t : Bool) → Proper w (verdict s t)
unfolding verdict
verdict-proper {w} true t = proper (omega ints) (omega (ints, signs w)) (one-fits w)
verdict-proper {w} false true = proper (omega ints) (omega (ints, signs w)) (omega (ints, signs w))
verdict-proper {w} false false = proper (omega ints) (omega (ints, signs w)) (one-fits w)

module _ {w : Width} {i j k : Interval} (p : Proper w i) (q : Proper w j) (r : Proper w k) where
  at : {run : ℤ → ℤ → ℤ → Result ℤ Refusal} {c : Refusal} (x y : ℤ) → x ∈ i → y ∈ j → run x y k.min ≡ Err c → Fair w run i j k (Err c)
  at x y s t e = refuses (record { x = x; y = y; z = k.min; x-in = s; y-in = t; z-in = low-in r.ordered; stop = e })

  -- ---- never stops
  pub sure : {n : ℤ → ℤ → ℤ → ℤ} {v : Interval} → ((x y z : ℤ) → x ∈ i → y ∈ j → z ∈ k → n x y z ∈ v) → Proper w v → Fair w (λ x y z. Ok (n x y z)) i j k (Ok v)
  sure f = passes (λ x y z s t u. given (f x y z s t u))

  -- ---- a comparison: P, or its contrary N
  module _ {P N : ℤ → ℤ → Type 0} {test : ℤ → ℤ → Bool} (d : (x y : ℤ) → Decides (P x y) (N x y) (test x y)) (apart : (x y : ℤ) → P x y → N x y → ⊥) where
    told_in : {v : Interval} → Verdict P N i j v → (x y : ℤ) → x ∈ i → y ∈ j → truth (test x y) ∈ v
    told_in (always h) x y s t = branch (d x y) (λ n. n ∈ single (pos 1)) (λ _. record { low = omega ints; high = omega ints }) (λ c. absurd (apart x y (h x y s t) c))
    told_in (never h) x y s t = branch (d x y) (λ n. n ∈ single (pos 0)) (λ c. absurd (apart x y c (h x y s t))) (λ _. record { low = omega ints; high = omega ints })
    told_in (sometimes h k) x y s t = branch (d x y) (λ n. n ∈ bits) (λ _. record { low = omega ints; high = omega ints }) (λ _. record { low = omega ints; high = omega ints })

    told-proper : {v : Interval} → Verdict P N i j v → Proper w v
    told-proper (always h) = proper (omega ints) (omega (ints, signs w)) (one-fits w)
    told-proper (never h) = proper (omega ints) (omega (ints, signs w)) (omega (ints, signs w))
    told-proper (sometimes h k) = proper (omega ints) (omega (ints, signs w)) (one-fits w)

    pub compared : {a : Answer Interval} → Judged P N i j a → Fair w (λ x y z. Ok (truth (test x y))) i j k (fitting_all a)
    compared (judged h) = sure (λ x y z s t u. told_in h x y s t) (told-proper h)

  -- ---- stops by 13 where the result doesn't fit
  fitting-gives : {v : Interval} {n : ℤ} → Proper w v → n ∈ v → GivesIn v (S.fitting w n)
  fitting-gives {v} {n} pv h = let f : n ∈ top w = record { low = omega ints; high = omega ints } in rw (is-in f) (given h)

  fitting-stops : {n m : ℤ} → m ≡ n → n ∉ top w → S.fitting w m ≡ Err ResultTooWide
  fitting-stops e c = rw (e, not_in c)

  pub arithmetic : {f : ℤ → ℤ → ℤ} {a : Answer Interval} → Exact w f i j a → Fair w (λ x y z. S.fitting w (f x y)) i j k (fitting_all a)
  arithmetic (fitting l pv) = passes (λ x y z s t u. fitting-gives pv (l.covers x y s t)) pv
  arithmetic (too_wide v l (inl c)) = at l.low-is.left l.low-is.right l.low-is.left_in l.low-is.right-in (fitting-stops l.low-is.at c)
  arithmetic (too_wide v l (inr c)) = at l.high_is.left l.high_is.right l.high_is.left_in l.high_is.right-in (fitting-stops l.high_is.at c)

  -- ---- divisions: stop by 12 at divisor 0, then by 13 at MIN and -1
  -- what is shown where the guards are passed
  pub data Shows (n : ℤ → ℤ → ℤ) : Answer Interval → Type 0 where
    shown : {v : Interval} → ((x y : ℤ) → x ∈ i → y ∈ j → n x y ∈ v) → Proper w v → Shows n (is v)

  operand : (x : ℤ) → x ∈ i → SFits w x
  operand x s = fits w x (omega ints) (omega ints)

  -- the quotient fits, but at MIN and -1
  quotient : (least w ∉ i) ⊎ (negsuc 0 ∉ j) → (x y : ℤ) → x ∈ i → y ∈ j → quot_z x y ∈ top w
  quotient (inl c) x y s t = in_top (quotient_fits (operand x s) (inl (other s c)))
  quotient (inr c) x y s t = in_top (quotient_fits (operand x s) (inr (other t c)))

  -- an interval that has a number is not bottom
  has-number : {v : Interval} {x : ℤ} → Canonical w v → x ∈ v → Proper w v
  has-number (some pv) h = pv
  has-number none h = absurd (nothing w h)

  -- what a covering answer shows, where all results count and none is refused
  pub shows-all : {n : ℤ → ℤ → ℤ} {Counts : ℤ → ℤ → Type 0} {R : Type 0} {a : Answer Interval} → Covering n Counts R i j a → Well w a → (R → ⊥) → ((x y : ℤ) → x ∈ i → y ∈ j → Counts x y) → Shows n a
  shows-all (covering _ c) (well k) f g =
      let h = c i.min j.min (low-in p.ordered) (low-in q.ordered) (g i.min j.min (low-in p.ordered) (low-in q.ordered)) in
      shown (λ x y s t. c x y s t (g x y s t)) (has-number k h)
  shows-all (refusing m) k f g = absurd (f m)

  pub division : (n : ℤ → ℤ → ℤ) {a : Answer Interval} → (pos 0 ∉ j → ((x y : ℤ) → x ∈ i → y ∈ j → quot_z x y ∈ top w) → Shows n a) → Fair w (λ x y z. divided w x y (n x y)) i j k (divided_all w i j (fitting_all a))
  division n {a} f =
      branch (in-test (pos 0) j) F (λ h. at i.min (pos 0) (low-in p.ordered) h (rw (equal (pos 0)))) λ nz.
      branch (both (in-test (least w) i) (in-test (negsuc 0) j)) F (λ h. at (least w) (negsuc 0) h.0 h.1 (rw (unequal {x = negsuc 0} {y = pos 0} (λ e. omega ints), not_in (min-by-minus-one w)))) λ c.
      through nz (quotient c) (f nz (quotient c))
    where
      F : Result Interval Refusal → Type 0
      F = Fair w (λ x y z. divided w x y (n x y)) i j k

      through : {a : Answer Interval} → pos 0 ∉ j → ((x y : ℤ) → x ∈ i → y ∈ j → quot_z x y ∈ top w) → Shows n a → F (fitting_all a)
      through nz c (shown {v = v} g pv) = passes {v = v} (λ x y z s t u. rw (unequal (other t nz), is-in (c x y s t)) (given (g x y s t))) pv

  -- ---- logic: stops by 14 where an operand is neither 0 nor 1. The guard on the first operand, and on the second, over any run

  abbrev Inside : Interval → Type 0
  Inside v = (pos 0 ≤ℤ v.min) × (v.max ≤ℤ pos 1)

  bit : {x : ℤ} {v : Interval} → Inside v → x ∈ v → x ∈ bits
  bit b h = record { low = omega ints; high = omega ints }

  inside-test : (v : Interval) → Decides (Inside v) ((v.min ∉ bits) ⊎ (v.max ∉ bits)) ((pos 0 ≤? v.min) && (v.max ≤? pos 1))
  inside-test v = weaken (λ h. h) (⊎_map inl inr) (both (le_test _ _) (le_test _ _))

  module _ {run : ℤ → ℤ → ℤ → Result ℤ Refusal} {a : Result Interval Refusal} where
    pub first : (Inside i → Fair w run i j k a) → Fair w (λ x y z. logical x (run x y z)) i j k (logical_all i a)
    first f = branch (inside-test i) F (λ b. through b (f b)) stop
      where
        F : Result Interval Refusal → Type 0
        F = Fair w (λ x y z. logical x (run x y z)) i j k

        through : {a : Result Interval Refusal} → Inside i → Fair w run i j k a → F a
        through b (passes {v = v} g pv) = passes {v = v} (λ x y z s t u. rw (is-in (bit b s)) (g x y z s t u)) pv
        through b (refuses {r = c} m) = refuses {r = c} (record { x = m.x; y = m.y; z = m.z; x-in = m.x-in; y-in = m.y-in; z-in = m.z-in; stop = rw (is-in (bit b m.x-in)) m.stop })

        stop : (i.min ∉ bits) ⊎ (i.max ∉ bits) → F (Err NotLogical)
        stop (inl c) = at i.min j.min (low-in p.ordered) (low-in q.ordered) (rw (not_in c))
        stop (inr c) = at i.max j.min (high-in p.ordered) (low-in q.ordered) (rw (not_in c))

    pub second : (Inside j → Fair w run i j k a) → Fair w (λ x y z. logical y (run x y z)) i j k (logical_all j a)
    second f = branch (inside-test j) F (λ b. through b (f b)) stop
      where
        F : Result Interval Refusal → Type 0
        F = Fair w (λ x y z. logical y (run x y z)) i j k

        through : {a : Result Interval Refusal} → Inside j → Fair w run i j k a → F a
        through b (passes {v = v} g pv) = passes {v = v} (λ x y z s t u. rw (is-in (bit b t)) (g x y z s t u)) pv
        through b (refuses {r = c} m) = refuses {r = c} (record { x = m.x; y = m.y; z = m.z; x-in = m.x-in; y-in = m.y-in; z-in = m.z-in; stop = rw (is-in (bit b m.y-in)) m.stop })

        stop : (j.min ∉ bits) ⊎ (j.max ∉ bits) → F (Err NotLogical)
        stop (inl c) = at i.min j.min (low-in p.ordered) (low-in q.ordered) (rw (not_in c))
        stop (inr c) = at i.min j.max (low-in p.ordered) (high-in q.ordered) (rw (not_in c))
