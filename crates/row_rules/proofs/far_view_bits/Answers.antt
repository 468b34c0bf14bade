-- `row_rules::far_view_bits` meets its contract. Assumes nothing.
use Rattle.row_rules.proofs.Gather.{far_gathered, far_fits}
use Rattle.row_rules.proofs.far_view_bits.Goals as goal

pub returns-clause-gathered : goal.returns-clause-gathered
returns-clause-gathered g c =
    let m = g.N.Unsigned.amount in
    far_gathered g.met.N.Unsigned.sized (m c.args.child) (m c.args.o) (m c.args.z) c.requires.2 c.requires.3 c.requires.0 c.requires.1 c.wrapping_sub-left.ensures c.wrapping_sub.ensures c.not.ensures c.both-2.ensures c.not-2.ensures c.both.ensures c.both-3.ensures

pub returns-clause-fits : goal.returns-clause-fits
returns-clause-fits g c =
    let m = g.N.Unsigned.amount in
    far_fits g.met.N.Unsigned.sized (m c.args.child) (m c.args.o) (m c.args.z) c.requires.2 c.requires.3 c.requires.0 c.requires.1 c.wrapping_sub-left.ensures c.wrapping_sub.ensures c.not.ensures c.both-2.ensures c.not-2.ensures c.both.ensures c.both-3.ensures
