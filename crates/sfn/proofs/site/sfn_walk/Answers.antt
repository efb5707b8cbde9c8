-- `sfn::site::sfn_walk` meets its contract: the answer of `addressing::walk_from`, laid out flat.
use mathlib.Core.Path.{sym, subst}
use Rattle.addressing.specs.Data.{house}
use Rattle.sfn.proofs.CountLaws.{WalkFits, walk-fits}
use Rattle.sfn.proofs.site.sfn_walk.Goals as goal

pub walked_flat-requires : goal.walked_flat-requires
walked_flat-requires c =
    let a = c.args in
    let w = subst WalkFits (sym c.in-Ok.ensures) (walk-fits house a.addressed.now a.transmitter a.place) in
    (w.next, w.step)
