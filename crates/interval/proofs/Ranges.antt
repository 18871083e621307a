-- From exact ends to the range between them, as the mended operations put them together.
use mathlib.Core.Path.{◌≡◌, refl, ap, ◌∙◌}
use mathlib.Core.Logic.{◌⊎◌, inl, inr}
use mathlib.Core.Bool.{Bool, true, false, ◌&&◌}
use lib.IntN.{ℤ, neg_ℤ, ◌+ℤ◌, ◌-ℤ◌, ◌*ℤ◌}
use lib.Signed.{◌≤ℤ◌, quot_z}
use mir.Syntax.{Width, w64}
use mir.Val.{SFits}
use Rattle.refusal.specs.declared.Refusal.{Refusal}
use Rattle.std.specs.Prelude.{None, Option, Result, Some}
use Rattle.whole.specs.Choice.{pick}
use Rattle.whole.specs.Whole.{min_ℤ, max_ℤ, min4, max4}
use Rattle.whole.specs.Range.{fits?}
use Rattle.whole.specs.Exact.{exactly}
use Rattle.whole.specs.Sized.{width_of}
use Rattle.whole.specs.declared.Size.{Size}
use Rattle.whole.proofs.Linear.{ints}
use Rattle.whole.proofs.Linear as L
use Rattle.whole.proofs.Fits.{low, high, fits}
use Rattle.whole.proofs.Decides.{Beyond, both, branch, is_false, fits-test, same_test, not_beyond}
use Rattle.whole.proofs.Sizes.{wider}
use Rattle.whole.proofs.Calls.{called-1, called}
use Rattle.interval.specs.Set.{Interval, ◌⋯◌, ◌∈◌, top, Proper}
use Rattle.refusal.specs.Answer.{is, refused, told}
use Rattle.interval.specs.Ends.{range_of, least_of, greatest_of, held_range}
use Rattle.interval.specs.Mended.{ranged, strict, low_corner, high_corner}
use Rattle.interval.specs.Results.{Least}
use Rattle.interval.specs.Promise as E
use Rattle.interval.proofs.Ends.{low-in, min-is, max-is}
use Rattle.interval.proofs.Test.{in-test}

-- ---- a call of an exact operation
pub neg-called : (s : Size) (a m : ℤ) (r : Option ℤ) → r ≡ exactly (width_of s) (neg_ℤ m) → m ≡ a → r ≡ exactly (width_of s) (neg_ℤ a)
neg-called s = called-1 (λ x. exactly (width_of s) (neg_ℤ x))

pub add-called : (s : Size) (a m b n : ℤ) (r : Option ℤ) → r ≡ exactly (width_of s) (m +ℤ n) → m ≡ a → n ≡ b → r ≡ exactly (width_of s) (a +ℤ b)
add-called s = called (λ x y. exactly (width_of s) (x +ℤ y))

pub sub-called : (s : Size) (a m b n : ℤ) (r : Option ℤ) → r ≡ exactly (width_of s) (m -ℤ n) → m ≡ a → n ≡ b → r ≡ exactly (width_of s) (a -ℤ b)
sub-called s = called (λ x y. exactly (width_of s) (x -ℤ y))

pub mul-called : (s : Size) (a m b n : ℤ) (r : Option ℤ) → r ≡ exactly (width_of s) (m *ℤ n) → m ≡ a → n ≡ b → r ≡ exactly (width_of s) (a *ℤ b)
mul-called s = called (λ x y. exactly (width_of s) (x *ℤ y))

-- ---- the range between two exact ends
pub range-is : (w : Width) (lo hi : ℤ) → range_of (exactly w lo) (exactly w hi) ≡ ranged w lo hi
unfolding range_of exactly fits?
range-is w lo hi = go (fits? w lo) (fits? w hi)
  where
    go : (p q : Bool) → range_of (pick p (Some lo) None) (pick q (Some hi) None) ≡ pick (p && q) (is (lo ⋯ hi)) (refused 2)
    go true true = refl
    go true false = refl
    go false q = refl

pub ranged-made : (z : Size) (a b : Interval) (lo hi : ℤ) (e f : Option ℤ) (s r : Result Interval Refusal) → told r ≡ strict (width_of z) a b (told s) → told s ≡ range_of e f → e ≡ exactly (width_of z) lo → f ≡ exactly (width_of z) hi → told r ≡ strict (width_of z) a b (ranged (width_of z) lo hi)
ranged-made z a b lo hi e f s r h k p q = let m : told s ≡ ranged (width_of z) lo hi = rw (p, q) at k ∙ range-is (width_of z) lo hi in rw m at h

-- ---- the range of four corners
pub least-called : (a m b n r : Option ℤ) → r ≡ least_of m n → m ≡ a → n ≡ b → r ≡ least_of a b
least-called = called least_of

pub greatest-called : (a m b n r : Option ℤ) → r ≡ greatest_of m n → m ≡ a → n ≡ b → r ≡ greatest_of a b
greatest-called = called greatest_of

pub range-called : (a m b n : Option ℤ) (r : Result Interval Refusal) → told r ≡ range_of m n → m ≡ a → n ≡ b → told r ≡ range_of a b
range-called a m b n r h p q = rw (p, q) at h

pub ruleset cornered = (least-called, greatest-called, range-called)

module _ (a b c d : ℤ) where
  -- each of four lies from the least to the greatest
  pub spread : ((min4 a b c d ≤ℤ a) × (min4 a b c d ≤ℤ b) × (min4 a b c d ≤ℤ c) × (min4 a b c d ≤ℤ d)) × ((a ≤ℤ max4 a b c d) × (b ≤ℤ max4 a b c d) × (c ≤ℤ max4 a b c d) × (d ≤ℤ max4 a b c d))
  spread =
      let l = L.least a b in
      let m = L.least c d in
      let n = L.least (min_ℤ a b) (min_ℤ c d) in
      let p = L.greatest a b in
      let q = L.greatest c d in
      let r = L.greatest (max_ℤ a b) (max_ℤ c d) in
      ((omega ints, omega ints, omega ints, omega ints), (omega ints, omega ints, omega ints, omega ints))

  module _ (w : Width) where
    pub four-fit : (SFits w a × SFits w b) × (SFits w c × SFits w d) → SFits w (min4 a b c d) × SFits w (max4 a b c d)
    four-fit h = (min-is (SFits w) _ _ (min-is (SFits w) a b h.0.0 h.0.1) (min-is (SFits w) c d h.1.0 h.1.1), max-is (SFits w) _ _ (max-is (SFits w) a b h.0.0 h.0.1) (max-is (SFits w) c d h.1.0 h.1.1))

    one-beyond : (x : ℤ) → min4 a b c d ≤ℤ x → x ≤ℤ max4 a b c d → Beyond w x → SFits w (min4 a b c d) × SFits w (max4 a b c d) → ⊥
    one-beyond x h k (inl n) f = let l = low w _ f.0 in omega ints
    one-beyond x h k (inr n) f = let l = high w _ f.1 in omega ints

    -- both ends fit exactly if all four do
    ends-fit : ((fits? w a && fits? w b) && (fits? w c && fits? w d)) ≡ (fits? w (min4 a b c d) && fits? w (max4 a b c d))
    ends-fit = same_test (both (both (fits-test w a) (fits-test w b)) (both (fits-test w c) (fits-test w d))) (both (fits-test w (min4 a b c d)) (fits-test w (max4 a b c d))) (λ h k. out (four-fit h) k) some
      where
        out : SFits w (min4 a b c d) × SFits w (max4 a b c d) → Beyond w (min4 a b c d) ⊎ Beyond w (max4 a b c d) → ⊥
        out f (inl n) = not_beyond f.0 n
        out f (inr n) = not_beyond f.1 n

        some : (Beyond w a ⊎ Beyond w b) ⊎ (Beyond w c ⊎ Beyond w d) → SFits w (min4 a b c d) × SFits w (max4 a b c d) → ⊥
        some (inl (inl n)) = one-beyond a spread.0.0 spread.1.0 n
        some (inl (inr n)) = one-beyond b spread.0.1 spread.1.1 n
        some (inr (inl n)) = one-beyond c spread.0.2 spread.1.2 n
        some (inr (inr n)) = one-beyond d spread.0.3 spread.1.3 n

    pub corners-are : range_of (least_of (least_of (exactly w a) (exactly w b)) (least_of (exactly w c) (exactly w d))) (greatest_of (greatest_of (exactly w a) (exactly w b)) (greatest_of (exactly w c) (exactly w d))) ≡ ranged w (min4 a b c d) (max4 a b c d)
    unfolding range_of least_of greatest_of exactly fits?
    corners-are = go (fits? w a) (fits? w b) (fits? w c) (fits? w d) ∙ rw ends-fit
      where
        go : (p q r s : Bool) → range_of (least_of (least_of (pick p (Some a) None) (pick q (Some b) None)) (least_of (pick r (Some c) None) (pick s (Some d) None))) (greatest_of (greatest_of (pick p (Some a) None) (pick q (Some b) None)) (greatest_of (pick r (Some c) None) (pick s (Some d) None))) ≡ pick ((p && q) && (r && s)) (is (min4 a b c d ⋯ max4 a b c d)) (refused 2)
        go true true true true = refl
        go true true true false = refl
        go true true false s = refl
        go true false r s = refl
        go false q r s = refl

-- ---- a range of 64 bits, held to a size
held-range : (z : Size) (lo hi : ℤ) → held_range (width_of z) (ranged w64 lo hi) ≡ ranged (width_of z) lo hi
unfolding held_range
held-range z lo hi = branch (both (in-test lo (top w64)) (in-test hi (top w64))) (λ r. held_range (width_of z) r ≡ ranged (width_of z) lo hi) (λ _. refl) λ n. rw (is_false (both (in-test lo (top (width_of z))) (in-test hi (top (width_of z)))) (λ h. none h n))
  where
    out : (x : ℤ) → x ∈ top (width_of z) → Beyond w64 x → ⊥
    out x h = not_beyond (wider z (fits (width_of z) x h.low h.high))

    none : (lo ∈ top (width_of z)) × (hi ∈ top (width_of z)) → Beyond w64 lo ⊎ Beyond w64 hi → ⊥
    none h (inl n) = out lo h.0 n
    none h (inr n) = out hi h.1 n

pub range-exact : (z : Size) (lo hi m n : ℤ) (e f : Option ℤ) (r : Result Interval Refusal) → told r ≡ range_of e f → e ≡ exactly (width_of z) m → f ≡ exactly (width_of z) n → m ≡ lo → n ≡ hi → told r ≡ ranged (width_of z) lo hi
range-exact z lo hi m n e f r h p q u v = rw (p, q, u, v) at h ∙ range-is (width_of z) lo hi

-- the four corners of f, worked out at 64 bits and held to a size
pub corners-held : (f : ℤ → ℤ → ℤ) (z : Size) (a b : Interval) (e g h i : Option ℤ) (s t : Result Interval Refusal) → told t ≡ held_range (width_of z) (told s) → told s ≡ range_of (least_of (least_of e g) (least_of h i)) (greatest_of (greatest_of e g) (greatest_of h i)) → e ≡ exactly w64 (f a.min b.min) → g ≡ exactly w64 (f a.min b.max) → h ≡ exactly w64 (f a.max b.min) → i ≡ exactly w64 (f a.max b.max) → told t ≡ ranged (width_of z) (low_corner f a b) (high_corner f a b)
corners-held f z a b e g h i s t l k p q u v =
    let n : told s ≡ ranged w64 (low_corner f a b) (high_corner f a b) = rw (p, q, u, v) at k ∙ corners-are (f a.min b.min) (f a.min b.max) (f a.max b.min) (f a.max b.max) w64 in
    l ∙ (ap (held_range (width_of z)) n ∙ held-range z (low_corner f a b) (high_corner f a b))

pub quotients-held : (z : Size) (a b : Interval) (e g h i : Option ℤ) (s t : Result Interval Refusal) → told t ≡ held_range (width_of z) (told s) → told s ≡ range_of (least_of (least_of e g) (least_of h i)) (greatest_of (greatest_of e g) (greatest_of h i)) → e ≡ exactly w64 (quot_z a.min b.min) → g ≡ exactly w64 (quot_z a.min b.max) → h ≡ exactly w64 (quot_z a.max b.min) → i ≡ exactly w64 (quot_z a.max b.max) → told t ≡ ranged (width_of z) (low_corner quot_z a b) (high_corner quot_z a b)
quotients-held = corners-held quot_z

pub products-made : (z : Size) (a b : Interval) (e g h i : Option ℤ) (s t r : Result Interval Refusal) → told r ≡ strict (width_of z) a b (told t) → told t ≡ held_range (width_of z) (told s) → told s ≡ range_of (least_of (least_of e g) (least_of h i)) (greatest_of (greatest_of e g) (greatest_of h i)) → e ≡ exactly w64 (a.min *ℤ b.min) → g ≡ exactly w64 (a.min *ℤ b.max) → h ≡ exactly w64 (a.max *ℤ b.min) → i ≡ exactly w64 (a.max *ℤ b.max) → told r ≡ strict (width_of z) a b (ranged (width_of z) (low_corner ◌*ℤ◌ a b) (high_corner ◌*ℤ◌ a b))
products-made z a b e g h i s t r m l k p q u v = rw (corners-held ◌*ℤ◌ z a b e g h i s t l k p q u v) at m

pub quot-called : (a m b n : ℤ) (r : Option ℤ) → r ≡ exactly w64 (quot_z m n) → m ≡ a → n ≡ b → r ≡ exactly w64 (quot_z a b)
quot-called = called (λ x y. exactly w64 (quot_z x y))

-- ---- the range between the ends of a least range is exact
pub ranged-exact : {w : Width} {a b : Interval} → Proper w a → Proper w b → {f : ℤ → ℤ → ℤ} (lo hi : ℤ) → Least f a b (lo ⋯ hi) → E.Exact w f a b (ranged w lo hi)
ranged-exact {w} {a} {b} p q {f} lo hi l = branch (both (in-test lo (top w)) (in-test hi (top w))) (E.Exact w f a b) (λ h. E.fitting l (record { ordered = ordered; above = h.0.low; below = h.1.high })) (λ h. E.too_wide (lo ⋯ hi) l h)
  where
    -- it has a number: the result at the low ends
    ordered : lo ≤ℤ hi
    ordered = let c = l.covers a.min b.min (low-in p.ordered) (low-in q.ordered) in omega ints
