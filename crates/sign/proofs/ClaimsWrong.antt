-- Where the Rust is wrong by the sets, by document 01's numbers 1 to 3: on which pairs, with numbers that show it, and on no others.
-- Assumes nothing.
use mathlib.Core.Path.{◌≡◌, refl, sym, ap, ◌∙◌}
use mathlib.Core.Logic.{◌≢◌, ◌↔◌, ◌⊎◌, inl, inr}
use mathlib.Core.Bool.{Bool, true, false, ◌&&◌, ◌||◌}
use lib.Dec.{eqb}
use lib.IntN.{ℤ, pos, negsuc}
use lib.Signed.{quot_z}
use Rattle.std.specs.Prelude.{Some}
use Rattle.std.specs.declared.cmp.Ordering.TheVariants.{Greater, Less}
use Rattle.whole.specs.Choice.{pick}
use Rattle.whole.specs.Test.{◌≟◌, truth}
use Rattle.whole.specs.Whole.{◌≺◌}
use Rattle.whole.proofs.Decides.{holds, fails, eq_test, is_true, is_false}
use Rattle.whole.proofs.Linear.{ints}
use Rattle.sign.specs.declared.Sign.{Sign}
use Rattle.sign.specs.declared.Sign.TheVariants.{Zero, Positive, NonNeg, NonZero, NonPos}
use Rattle.sign.specs.Set.{◌∈◌}
use Rattle.sign.specs.Sides.{filled}
use Rattle.sign.specs.Index.{index_of}
use Rattle.sign.specs.Ported as ported
use Rattle.sign.specs.Ported.{meet, add, neg, sub, mul, logical_eq}
use Rattle.sign.specs.Mended as mended
use Rattle.sign.specs.Logical.{Equated}
use Rattle.sign.specs.Logical as logical
use Rattle.sign.specs.Wrong.{listed, exchanged, missing0, overlapping, Shared, Missed}
use Rattle.sign.proofs.ClaimsSet.{stands-for}
use Rattle.sign.proofs.Cells.{exactly, told_same, tests, rules, orders}
use Rattle.sign.proofs.Truths.{Tells, told, is_same}
use Rattle.sign.proofs.Quotients.{quot-in, missed, ported-adds-0}
use Rattle.sign.proofs.Laws.{was, unpicked, and_both, and-of}
use Rattle.sign.proofs.Differences.{shared}
use Rattle.sign.proofs.Claims.{truth-signs, eq_is}

-- ---- 1: the weak comparison has two cells exchanged, those of Zero with NonNeg and with NonPos, and is right elsewhere

-- a and one of two: the test of two listed pairs with one left sign
two-listed : {A B C : Type 0} {p q r : Bool} → Tells A p → Tells B q → Tells C r → Tells (A × (B ⊎ C)) ((p && q) || ((p && r) || false))
two-listed (holds a) (holds b) t = holds (a, inl b)
two-listed (holds a) (fails n) (holds c) = holds (a, inr c)
two-listed (holds a) (fails n) (fails m) = fails (λ h. elim h.1 [ inl b ↦ n b | inr c ↦ m c ])
two-listed (fails n) s t = fails (λ h. n h.0)

pub exchanged-cells : (a b : Sign) → (listed exchanged a b ≡ true) ↔ ((a ≡ Zero) × ((b ≡ NonNeg) ⊎ (b ≡ NonPos)))
exchanged-cells a b = told (two-listed (is_same a Zero) (is_same b NonNeg) (is_same b NonPos))

pub weak-exchanged : (ported.weak_cmp Zero NonNeg ≡ mended.weak_cmp Zero NonPos) × (ported.weak_cmp Zero NonPos ≡ mended.weak_cmp Zero NonNeg)
unfolding ported.weak_cmp mended.weak_cmp sub add neg
weak-exchanged = (refl, refl)

pub weak-right-elsewhere : (a b : Sign) → listed exchanged a b ≡ false → ported.weak_cmp a b ≡ mended.weak_cmp a b
unfolding ported.weak_cmp mended.weak_cmp sub add neg
weak-right-elsewhere a b h =
    unpicked (listed exchanged a b) (Some Less) (ported.weak_cmp a b) (mended.weak_cmp a b) h
    (rules orders (λ a b. pick (listed exchanged a b) (Some Less) (ported.weak_cmp a b)) (λ a b. pick (listed exchanged a b) (Some Less) (mended.weak_cmp a b)) tt a b)

-- it says that 0 is at least 1, and that 0 is at most -1
pub weak-wrong-NonNeg : (ported.weak_cmp Zero NonNeg ≡ (Some Greater)) × (pos 0 ∈ Zero) × (pos 1 ∈ NonNeg) × (pos 0 ≺ pos 1)
unfolding ported.weak_cmp sub add neg
weak-wrong-NonNeg = (refl, record { is = refl }, record { is = refl }, omega ints)

pub weak-wrong-NonPos : (ported.weak_cmp Zero NonPos ≡ (Some Less)) × (pos 0 ∈ Zero) × (negsuc 0 ∈ NonPos) × (negsuc 0 ≺ pos 0)
unfolding ported.weak_cmp sub add neg
weak-wrong-NonPos = (refl, record { is = refl }, record { is = refl }, omega ints)

-- ---- 2: a quotient is NonZero for five pairs, those whose product is; there it misses 0, and is right elsewhere

pub div-wrong-pairs : (a b : Sign) → (ported.div a b ≡ NonZero) ↔ (listed missing0 a b ≡ true)
unfolding ported.div mul
div-wrong-pairs a b = exactly ported.div NonZero (listed missing0) tt a b

pub div-wrong-products : (a b : Sign) → (mul a b ≡ NonZero) ↔ (listed missing0 a b ≡ true)
unfolding mul
div-wrong-products a b = exactly mul NonZero (listed missing0) tt a b

pub div-wrong : (a b : Sign) → listed missing0 a b ≡ true → Missed a b (ported.div a b)
div-wrong a b h = missed a b (ported.div a b) ((div-wrong-products a b).1 h) ((div-wrong-pairs a b).1 h)

pub one-half-is-0 : quot_z (pos 1) (pos 2) ≡ pos 0
one-half-is-0 = refl

pub div-right-elsewhere : (a b : Sign) → listed missing0 a b ≡ false → (x y : ℤ) → x ∈ a → y ∈ b → y ≢ pos 0 → quot_z x y ∈ ported.div a b
unfolding ported.div
div-right-elsewhere a b l x y h k f = rw (ported-adds-0 (mul a b) (λ e. was ((div-wrong-products a b).0 e) l)) (quot-in a b x y h k f)

-- ---- 3: logical_eq answers Zero for two signs that share a number just for six pairs, and shows the truth of every pair elsewhere

eq-test-of : (a b : Sign) (is_bool : Bool) → (eqb (index_of (logical_eq a b is_bool)) 3 && filled (meet a b)) ≡ listed overlapping a b
unfolding logical_eq meet
eq-test-of a b true = tests (λ a b. eqb (index_of (logical_eq a b true)) 3 && filled (meet a b)) (listed overlapping) tt a b
eq-test-of a b false = tests (λ a b. eqb (index_of (logical_eq a b false)) 3 && filled (meet a b)) (listed overlapping) tt a b

pub eq-wrong : (a b : Sign) (is_bool : Bool) → ((logical_eq a b is_bool ≡ Zero) × Shared a b) ↔ (listed overlapping a b ≡ true)
eq-wrong a b is_bool = (
  λ h. sym (eq-test-of a b is_bool) ∙ and-of ((told_same (logical_eq a b is_bool) Zero).0 h.0) ((shared a b).1 h.1),
  λ h. let k = and_both (eqb (index_of (logical_eq a b is_bool)) 3) (filled (meet a b)) (eq-test-of a b is_bool ∙ h) in
      ((told_same (logical_eq a b is_bool) Zero).1 k.0, (shared a b).0 k.1),
)

module _ (a b : Sign) (l : listed overlapping a b ≡ false) where
  shows : (is_bool : Bool) (x y : ℤ) → x ∈ a → y ∈ b → (a ≡ Positive → b ≡ Positive → is_bool ≡ true → x ≡ y) → truth (x ≟ y) ∈ logical_eq a b is_bool
  shows is_bool x y h k one = by (eq_is a b is_bool) refl
    where
      alike : x ≡ y → truth (x ≟ y) ∈ Positive
      alike e = (truth-signs (x ≟ y)).0.1 (is_true (eq_test x y) (λ f. f e))

      by : {s : Sign} → Equated a b is_bool s → logical_eq a b is_bool ≡ s → truth (x ≟ y) ∈ s
      by (logical.Equated.sure (inl e)) q = alike ((stands-for Zero x).0 (rw e.0 at h) ∙ sym ((stands-for Zero y).0 (rw e.1 at k)))
      by (logical.Equated.sure (inr e)) q = alike (one e.0 e.1.0 e.1.1)
      by (logical.Equated.maybe n m) q = (truth-signs (x ≟ y)).2
      by (logical.Equated.apart n m) q =
          (truth-signs (x ≟ y)).1.1 (is_false (eq_test x y) (λ e. was ((eq-wrong a b is_bool).0 (q, record { number = x; in_left = h; in_right = rw (sym e) at k })) l))

  pub eq-right-elsewhere : (x y : ℤ) → x ∈ a → y ∈ b → truth (x ≟ y) ∈ logical_eq a b false
  eq-right-elsewhere x y h k = shows false x y h k (λ e f g. was g refl)

  -- where both operands are 0 or 1
  pub eq-right-elsewhere-bool : (p q : Bool) → truth p ∈ a → truth q ∈ b → truth (truth p ≟ truth q) ∈ logical_eq a b true
  eq-right-elsewhere-bool p q h k = shows true (truth p) (truth q) h k (λ e f g. ap truth ((truth-signs p).0.0 (rw e at h) ∙ sym ((truth-signs q).0.0 (rw f at k))))
