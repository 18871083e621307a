use Rattle.std.proofs.Common.{rules, ◌+◌, ◌≤◌, ◌<◌, ℕ, sym, ap, ◌∙◌}
use borrow.Author.Tests.{tests}
use Rattle.std.proofs.lemmas.Iterator.{IsFirst-from_position, YieldsList-from_slice, index_from_first}
use Rattle.text.specs.Word.{letters}
use Rattle.text.proofs.Words.{letters_none, letters_space, letters_more}
use Rattle.text.proofs.word.word_end.Goals as goal

pub returns : goal.returns
returns c =
    let s = c.rest-rest.result.now in
    let p = IsFirst-from_position _ _ c.position.result (λ x. x < 33) (λ x. 33 ≤ x) c.position.ensures.ran (YieldsList-from_slice s cc) (λ x q k. search (rules, tests)) (λ x q k. search (rules, tests)) in
    ap (λ (k : ℕ). c.args.at + k) (c.unwrap_or.ensures ∙ sym (index_from_first letters (λ x. x < 33) (λ x. 33 ≤ x) letters_none letters_space letters_more s c.position.result p) ∙ ap letters c.rest-rest.ensures)
