use Rattle.std.proofs.Common.{◌≡◌, ◌<◌, ◌-◌, length, get_or, take, ap, ◌∙◌, arith, rules}
use Rattle.std.proofs.lemmas.List.{length-take-le, take-append-le}
use Rattle.ask.specs.Unfinished.{unfinished}
use Rattle.ask.proofs.Ending.{unfinished-none, unfinished-drop, unfinished-fewer, moved-first}
use Rattle.ask.proofs.skip.Goals as goal

pub returns-in_default-clause-left : goal.returns-in_default-clause-left
returns-in_default-clause-left g c =
    let more = take c.read-n.result c.read-n.new.room in
    let size = length-take-le c.read-n.result c.read-n.new.room c.read-n.ensures.fits in
    (more, c.read-n.ensures.came, (omega arith, unfinished-none more (search rules)))

pub returns-clause-left : goal.returns-clause-left
returns-clause-left g c =
    let n = c.read-n.result in
    let room = c.read-n.new.room in
    let more = take n room in
    let end = c.in-Some.end in
    let size = length-take-le n room c.read-n.ensures.fits in
    let inside : end < length more = search rules in
    let here : get_or more end 0 ≡ 10 = search rules in
    let text = moved-first room c.copy_within.new.self end n (n - end - 1) (omega arith) c.read-n.ensures.fits c.copy_within.ensures.after (omega arith) in
    let few = c.answer_lines.ensures.fits in
    (more, c.read-n.ensures.came, (unfinished-fewer more end inside here, rw take-append-le (c.answer_lines.ensures.left ∙ ap unfinished text ∙ unfinished-drop more end inside here)))
