-- Where truncated remainders and quotients lie: a remainder on the dividend's side or at 0, a quotient where the product lies or at 0.
-- Assumes nothing.
use mathlib.Core.Path.{◌≡◌, refl, sym, subst, ◌∙◌}
use mathlib.Core.Logic.{◌≢◌, ◌⊎◌, inl, inr}
use mathlib.Core.Bool.{true}
use Prim.Native.Nat.{ℕ, zero, suc, ◌/◌}
use native.Mathlib.Omega.{arith}
use native.Mathlib.Nat.{zero-div}
use lib.IntN.{ℤ, pos, negsuc, neg_ℤ}
use lib.Signed.{◌≤ℤ◌, quot_z, rem_z}
use Rattle.whole.proofs.Divide.{rem-nonneg, rem-nonpos}
use Rattle.whole.proofs.Linear.{ints, neg as neg-parts}
use Rattle.sign.specs.declared.Sign.{Sign}
use Rattle.sign.specs.declared.Sign.TheVariants.{Top, Bottom, Negative, Zero, Positive, NonNeg, NonZero, NonPos}
use Rattle.sign.specs.Set.{Side, negative, nought, positive, side_of, ◌has◌, ◌∈◌}
use Rattle.sign.specs.Sides.{each, with_nought, product}
use Rattle.sign.specs.Ported.{of_side, mul, quotient}
use Rattle.sign.specs.Mended.{top_for_non_zero}
use Rattle.sign.specs.Wrong.{Missed}
use Rattle.sign.proofs.Laws.{was, From, reached-from, side-at, side-only, each_at, some-found, far, far-in, with-nought, own-side, nought-side, reached-by}

-- z lies on the side d, or is 0
abbrev Near : Side → ℤ → Type 0
Near d z = (side_of z ≡ d) ⊎ (side_of z ≡ nought)

near-in : (s : Sign) (d : Side) (z : ℤ) → (s has d) ≡ true → Near d z → z ∈ with_nought s
near-in s d z h (inl e) = record { is = rw e (own-side s d h) }
near-in s d z h (inr e) = record { is = rw e (nought-side s d h) }

near-positive : (z : ℤ) → pos 0 ≤ℤ z → Near positive z
near-positive (negsuc k) h = absurd (omega ints)
near-positive (pos zero) h = inr refl
near-positive (pos (suc k)) h = inl refl

near-negative : (z : ℤ) → z ≤ℤ pos 0 → Near negative z
near-negative (negsuc k) h = inl refl
near-negative (pos zero) h = inr refl
near-negative (pos (suc k)) h = absurd (omega ints)

-- ---- remainders

rem-near : (x y : ℤ) → Near (side_of x) (rem_z x y)
rem-near (negsuc k) y = near-negative (rem_z (negsuc k) y) (rem-nonpos (negsuc k) y (omega ints))
rem-near (pos zero) y = inr (side-at (rem_z (pos zero) y) (omega (ints, rem-nonneg (pos zero) y (omega ints), rem-nonpos (pos zero) y (omega ints))))
rem-near (pos (suc k)) y = near-positive (rem_z (pos (suc k)) y) (rem-nonneg (pos (suc k)) y (omega ints))

pub rem-in : (s : Sign) (x y : ℤ) → x ∈ s → rem_z x y ∈ with_nought s
rem-in s x y h = near-in s (side_of x) (rem_z x y) h.is (rem-near x y)

-- on the side of a divisor that isn't 0: the number next to 0 leaves no remainder, the one after it leaves 1 and -1
record Divisor (b : Sign) : Type 0 where
  one : ℤ
  two : ℤ
  in_one : one ∈ b
  in_two : two ∈ b
  one-not-0 : one ≢ pos 0
  two-not-0 : two ≢ pos 0
  none : (p : Side) → side_of (rem_z (far nought p) one) ≡ nought
  kept : (p : Side) → side_of (rem_z (far nought p) two) ≡ p

-- two rules of sides that answer alike at each side
each-side : (f g : Side → Side) → each (λ p. of_side (g p) has f p) ≡ true → (p : Side) → f p ≡ g p
each-side f g t p = side-only (g p) (f p) (each_at (λ p. of_side (g p) has f p) t p)

divisor-of : (b : Sign) (y : ℤ) → y ∈ b → y ≢ pos 0 → Divisor b
divisor-of b (negsuc k) h f = record {
  one = negsuc 0;
  two = negsuc 1;
  in_one = record { is = h.is };
  in_two = record { is = h.is };
  one-not-0 = omega ints;
  two-not-0 = omega ints;
  none = each-side (λ p. side_of (rem_z (far nought p) (negsuc 0))) (λ p. nought) refl;
  kept = each-side (λ p. side_of (rem_z (far nought p) (negsuc 1))) (λ p. p) refl;
}
divisor-of b (pos zero) h f = absurd (f refl)
divisor-of b (pos (suc k)) h f = record {
  one = pos 1;
  two = pos 2;
  in_one = record { is = h.is };
  in_two = record { is = h.is };
  one-not-0 = omega ints;
  two-not-0 = omega ints;
  none = each-side (λ p. side_of (rem_z (far nought p) (pos 1))) (λ p. nought) refl;
  kept = each-side (λ p. side_of (rem_z (far nought p) (pos 2))) (λ p. p) refl;
}

-- where there is such a divisor, each side is reached
pub rem-reached : (a b t : Sign) (y : ℤ) → y ∈ b → y ≢ pos 0 → ((x y : ℤ) → x ∈ a → y ∈ b → y ≢ pos 0 → rem_z x y ∈ t) → (d : Side) → (with_nought a has d) ≡ true → (t has d) ≡ true
rem-reached a b t y h f g = by
  where
    v : Divisor b
    v = divisor-of b y h f

    stays : (p : Side) → (a has p) ≡ true → (t has p) ≡ true
    stays p k = subst (λ (e : Side). (t has e) ≡ true) (v.kept p) (g (far nought p) v.two (far-in a nought p k) v.in_two v.two-not-0).is

    by : (d : Side) → (with_nought a has d) ≡ true → (t has d) ≡ true
    by negative k = stays negative (sym (with-nought a).0 ∙ k)
    by nought k =
        let w = some-found (λ d. a has d) (sym (with-nought a).1 ∙ k) in
        subst (λ (e : Side). (t has e) ≡ true) (v.none w.side) (g (far nought w.side) v.one (far-in a nought w.side w.passes) v.in_one v.one-not-0).is
    by positive k = stays positive (sym (with-nought a).2 ∙ k)

-- ---- quotients

-- a side of the product, and the quotient near it
record Beside (x y : ℤ) : Type 0 where
  side : Side
  hits : (product (side_of x) (side_of y) has side) ≡ true
  near : Near side (quot_z x y)

quot-beside : (x y : ℤ) → y ≢ pos 0 → Beside x y
quot-beside x (pos zero) f = absurd (f refl)
quot-beside (negsuc a) (negsuc b) f = record { side = positive; hits = refl; near = near-positive (pos (suc a / suc b)) (omega ints) }
quot-beside (negsuc a) (pos (suc b)) f = record { side = negative; hits = refl; near = near-negative (neg_ℤ (pos (suc a / suc b))) (omega (ints, neg-parts (pos (suc a / suc b)))) }
quot-beside (pos zero) (negsuc b) f = record { side = nought; hits = refl; near = inr (side-at (neg_ℤ (pos (zero / suc b))) (rw (zero-div (suc b)) refl)) }
quot-beside (pos zero) (pos (suc b)) f = record { side = nought; hits = refl; near = inr (side-at (pos (zero / suc b)) (rw (zero-div (suc b)) refl)) }
quot-beside (pos (suc a)) (negsuc b) f = record { side = negative; hits = refl; near = near-negative (neg_ℤ (pos (suc a / suc b))) (omega (ints, neg-parts (pos (suc a / suc b)))) }
quot-beside (pos (suc a)) (pos (suc b)) f = record { side = positive; hits = refl; near = near-positive (pos (suc a / suc b)) (omega ints) }

pub quot-in : (a b : Sign) (x y : ℤ) → x ∈ a → y ∈ b → y ≢ pos 0 → quot_z x y ∈ with_nought (mul a b)
unfolding mul
quot-in a b x y h k f =
    let n = quot-beside x y f in
    near-in (mul a b) n.side (quot_z x y) (reached-by product a b (side_of x) (side_of y) n.side h.is k.is n.hits) n.near

-- ---- the two divisions add 0 to the product's sides; the ported one not to NonZero

pub mended-adds-0 : (s : Sign) → top_for_non_zero (quotient s) ≡ with_nought s
mended-adds-0 Top = refl
mended-adds-0 Bottom = refl
mended-adds-0 Negative = refl
mended-adds-0 Zero = refl
mended-adds-0 Positive = refl
mended-adds-0 NonNeg = refl
mended-adds-0 NonZero = refl
mended-adds-0 NonPos = refl

pub ported-adds-0 : (s : Sign) → s ≢ NonZero → quotient s ≡ with_nought s
ported-adds-0 Top f = refl
ported-adds-0 Bottom f = refl
ported-adds-0 Negative f = refl
ported-adds-0 Zero f = refl
ported-adds-0 Positive f = refl
ported-adds-0 NonNeg f = refl
ported-adds-0 NonZero f = absurd (f refl)
ported-adds-0 NonPos f = refl

-- ---- a product that is NonZero has a quotient that is 0: one of the two is 1 or -1, the other 2 or -2

missed_by : (s : Sign) → s ≡ NonZero → (a b : Sign) (x y : ℤ) → x ∈ a → y ∈ b → y ≢ pos 0 → quot_z x y ≡ pos 0 → Missed a b s
missed_by s e a b x y h k f q = record {
  dividend = x;
  divisor = y;
  in_left = h;
  in_right = k;
  not-0 = f;
  misses = λ l. let z : ◌≡◌ {A = ℕ} 0 1 = bad (rw q at (rw e at l)) in absurd (omega arith);
}
  where
    bad : pos 0 ∈ NonZero → ◌≡◌ {A = ℕ} 0 1
    bad h = was h.is refl

pub missed : (a b s : Sign) → mul a b ≡ NonZero → s ≡ NonZero → Missed a b s
unfolding mul
missed a b s m e = from (reached-from product a b negative (rw m refl))
  where
    -- neither side is 0, since the product is negative
    from : From product a b negative → Missed a b s
    from w = by w.p w.q w.has_p w.has-q w.hits
      where
        by : (p q : Side) → (a has p) ≡ true → (b has q) ≡ true → (product p q has negative) ≡ true → Missed a b s
        by negative negative h k l = was l refl
        by negative nought h k l = was l refl
        by negative positive h k l = missed_by s e a b (negsuc 0) (pos 2) (record { is = h }) (record { is = k }) (omega ints) refl
        by nought q h k l = was l refl
        by positive negative h k l = missed_by s e a b (pos 1) (negsuc 1) (record { is = h }) (record { is = k }) (omega ints) refl
        by positive nought h k l = was l refl
        by positive positive h k l = was l refl
