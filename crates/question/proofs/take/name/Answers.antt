use Rattle.std.proofs.Common.{◌≡◌, ap, ◌∙◌, ℕ, ◌+◌, List, [], length, drop, arith}
use lib.ListN.{get_or, get_or-eq_default}
use lib.Seq.{length-take-le}
use borrow.Author.Tests.{eq-eqb, ne_eqb}
use Rattle.text.specs.Word.{letters, word_of}
use Rattle.text.proofs.Words.{letters-le}
use Rattle.question.specs.Taken.{name_after, next_after}
use Rattle.question.proofs.take.name.Goals as goal
use Rattle.question.proofs.take.name.Goals.{then-line-at-via-then-line-at, then-line-at-via-else-line-at+then-line-at-ne32}

-- how long the word at a place is
word-length : (s : List ℕ) (at : ℕ) → length (word_of s at) ≡ letters (drop at s)
unfolding word_of
word-length s at = length-take-le (letters (drop at s)) (drop at s) (letters-le (drop at s))

module _ (s : List ℕ) (at : ℕ) where
  none : (get_or s at 0 ≡ 32 → ⊥) → ([] ≡ name_after s at) × (at ≡ next_after s at)
  unfolding name_after next_after
  none h = let e = ne_eqb (get_or s at 0) 32 h in (rw e, rw e)

  there : (w : List ℕ) → get_or s at 0 ≡ 32 → w ≡ word_of s (at + 1) → (w ≡ name_after s at) × (at + 1 + length w ≡ next_after s at)
  unfolding name_after next_after
  there w h q = let e = eq-eqb (get_or s at 0) 32 h in (rw e q, rw e (ap (λ (n : ℕ). at + 1 + n) (ap length q ∙ word-length s (at + 1))))

pub returns-then-line-at : goal.returns-then-line-at
returns-then-line-at c =
    let a = c.args in
    none a.line.now a.at (elim c.then-line-at.branch [
      | then-line-at-via-then-line-at w ↦ λ e. let d = get_or-eq_default a.line.now 0 w.if-line-at.true in omega (arith, d)
      | then-line-at-via-else-line-at+then-line-at-ne32 w ↦ λ e. w.if-line-at-ne32.true e
    ])

pub returns : goal.returns
returns c =
    let a = c.args in
    there a.line.now a.at c.word_at-word.result.now (omega arith) c.word_at-word.ensures
