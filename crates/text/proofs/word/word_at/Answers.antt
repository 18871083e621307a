use Rattle.std.proofs.Common.{◌≡◌, ◌+◌, ℕ, ◌-◌, List, [], sym, ap, ◌∙◌, refl, arith, drop, take, Some, None, Option}
use mathlib.Core.Logic.{⊎_elim}
use denote.Bor.{Bor}
use Rattle.std.specs.Option.{unwrap_or}
use Rattle.std.specs.Slice.{IsGetRangeResult}
use Rattle.text.specs.Word.{letters, word_of}
use Rattle.text.proofs.Words.{none-past}
use Rattle.text.proofs.word.word_at.Goals as goal

-- the word between its place and its end
between : (s : List ℕ) (at e : ℕ) → e ≡ at + letters (drop at s) → take (e - at) (drop at s) ≡ word_of s at
unfolding word_of
between s at e h =
    let n : e - at ≡ letters (drop at s) = omega arith in
    rw n

part : (s : List ℕ) (at e : ℕ) (r : Option (Bor (List ℕ))) (d : Bor (List ℕ)) → d.now ≡ [] → e ≡ at + letters (drop at s) → IsGetRangeResult s at e r → (unwrap_or r d).now ≡ word_of s at
part s at e None d h l p = h ∙ sym (none-past s at (⊎_elim (λ k. absurd (omega arith)) (λ k. omega arith) p.0))
part s at e (Some x) d h l p = p.0.2 ∙ between s at e l

pub returns : goal.returns
returns c =
    let a = c.args in
    ap (λ (b : Bor (List ℕ)). b.now) c.unwrap_or.ensures ∙ part a.s.now a.at c.word_end.result c.get.result _ refl c.word_end.ensures c.get.ensures.lookup
