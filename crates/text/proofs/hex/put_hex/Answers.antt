use Rattle.std.proofs.Common.{sym, ◌∙◌, arith}
use Rattle.text.proofs.Room.{room, no_room}
use Rattle.text.specs.Hex.{hex_text}
use Rattle.text.proofs.Pairs.{text-length}
use Rattle.text.proofs.hex.put_hex.Goals as goal

pub returns-in_err-end : goal.returns-in_err-end
returns-in_err-end c =
    let a = c.args in
    rw c.from_residual.ensures (no_room a.out.now a.at _ (hex_text a.bytes.now) (sym (text-length a.bytes.now)) c.in_err-end.ensures)

pub fill_hex-requires : goal.fill_hex-requires
fill_hex-requires c = omega (arith, text-length c.args.bytes.now, c.in_ok-end.ensures.0)

pub returns : goal.returns
returns c =
    let a = c.args in
    let f = c.in_ok-end.ensures in
    let r = room a.out.now a.at _ (hex_text a.bytes.now) (sym (text-length a.bytes.now)) c.in_ok-end.end f.0 f.1 in
    (r.0, c.fill_hex.ensures ∙ r.1)
