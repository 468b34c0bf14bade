use Rattle.std.proofs.Common.{◌≡◌, ◌+◌, ◌-◌, ◌∙◌, take, drop, ap, arith, length-drop}
use Rattle.std.proofs.lemmas.List.{length-take-le}
use Rattle.number.proofs.copy.Laws.{part_written}
use Rattle.number.proofs.copy.copy_bytes.Goals as goal

pub returns : goal.returns
returns c =
    let z = c.args in
    let d = drop z.from z.body.now in
    let m : z.from + z.n - z.from ≡ z.n = omega arith in
    part_written z.room.now (take z.n d) c.copy_from_slice.new.self z.at z.n
    (length-take-le z.n d (simp length-drop (omega arith)))
    (c.copy_from_slice.ensures.after ∙ ap (λ k. take k d) m)
