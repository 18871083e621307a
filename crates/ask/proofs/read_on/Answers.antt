use Rattle.std.proofs.Common.{◌-◌, length, take, drop, ap, ◌∙◌, arith}
use Rattle.std.proofs.lemmas.List.{length-append, take-append-le}
use Rattle.ask.specs.Unfinished.{unfinished}
use Rattle.ask.proofs.Ending.{read-after}
use Rattle.ask.proofs.read_on.Goals as goal

pub returns-then-left-buf-clause-left : goal.returns-then-left-buf-clause-left
returns-then-left-buf-clause-left g c =
    let s = c.args.buf.now in
    let room = c.read-more.new.room in
    let n = c.read-more.result in
    let text = read-after s room (drop (length s - c.args.have) (drop c.args.have s)) c.args.have n c.requires c.read-more.ensures.fits in
    let few = c.answer_lines-left.ensures.fits in
    (take n room, c.read-more.ensures.came, (c.if-left-buf.true, rw take-append-le (c.answer_lines-left.ensures.left ∙ ap unfinished text)))

pub returns-clause-left : goal.returns-clause-left
returns-clause-left g c =
    let s = c.args.buf.now in
    let room = c.read-more.new.room in
    let n = c.read-more.result in
    let text = read-after s room (drop (length s - c.args.have) (drop c.args.have s)) c.args.have n c.requires c.read-more.ensures.fits in
    let count = rw text at c.answer_lines-left.ensures.count in
    let all = rw length-append at c.if-left-buf.false in
    (take n room, c.read-more.ensures.came, rw length-append (omega (arith, c.answer_lines-left.ensures.fits)))
