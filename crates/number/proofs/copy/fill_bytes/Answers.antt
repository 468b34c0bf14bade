use Rattle.std.proofs.Common.{◌≡◌, ◌+◌, ◌-◌, ◌∙◌, replicate, ap, arith, take, drop, length, length-drop}
use Rattle.std.proofs.lemmas.List.{length-replicate, length-take-le}
use Rattle.number.proofs.copy.Laws.{part_written}
use Rattle.number.proofs.copy.fill_bytes.Goals as goal

pub returns : goal.returns
returns c =
    let z = c.args in
    let d = drop z.at z.room.now in
    let m : z.at + z.n - z.at ≡ z.n = omega arith in
    let k : length (take (z.at + z.n - z.at) d) ≡ z.n = rw m (length-take-le z.n d (simp length-drop (omega arith))) in
    part_written z.room.now (replicate z.n z.v) c.fill.new.self z.at z.n (length-replicate z.n z.v)
    (c.fill.ensures.after (λ y e. e) ∙ ap (λ k. replicate k z.v) k)
