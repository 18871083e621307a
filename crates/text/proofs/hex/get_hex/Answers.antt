use Rattle.std.proofs.Common.{length, ap, ◌∙◌, arith}
use Rattle.std.proofs.Common.{length-drop}
use Rattle.text.proofs.Pairs.{answer-all, answer-none, halves}
use Rattle.text.proofs.hex.get_hex.Goals as goal

pub returns-then-out-n : goal.returns-then-out-n
returns-then-out-n c =
    let a = c.args in
    answer-none a.s.now c.rest-text.result.now a.out.now a.at c.count_bytes-n.result c.rest-text.ensures c.count_bytes-n.ensures (omega arith)

pub overflow_add-result : goal.overflow_add-result
overflow_add-result c =
    omega (arith, halves c.rest-text.result.now, c.count_bytes-n.ensures, ap length c.rest-text.ensures, length-drop c.args.at c.args.s.now)

pub returns : goal.returns
returns c =
    let a = c.args in
    let r = answer-all a.s.now c.rest-text.result.now a.out.now a.at c.count_bytes-n.result c.rest-text.ensures c.count_bytes-n.ensures (omega arith) in
    (r.0, c.fill_bytes.ensures ∙ r.1)
