use Rattle.std.proofs.Common.{rules, refl, ap}
use mathlib.Core.List.{map}
use borrow.Author.Tests.{tests}
use Rattle.std.specs.Str.{bytes_eq}
use Rattle.std.proofs.lemmas.Iterator.{YieldsList-from_slice}
use Rattle.std.proofs.lemmas.Iterator.Search.{find_from_yields_List}
use Rattle.question.proofs.Looking.{Held, read, looked}
use Rattle.question.proofs.names.named.Goals as goal

pub returns : goal.returns
returns c =
    let w = c.args.word.now in
    let xs = c.iter.result.rest.now in
    let p = find_from_yields_List (λ (r : Held). bytes_eq r.0.now w) _ _ c.find.result c.find.ensures.ran (YieldsList-from_slice xs refl) (λ x b q k. search (rules, tests)) in
    looked w xs c.find.result c.map.result _ c.map.ensures.cases (λ x y l. search rules) p (ap (map read) c.iter.ensures.rest)
