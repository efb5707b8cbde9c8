-- `carry::needed` meets its contract: no more loads come than there are bytes.
use Rattle.std.proofs.Common.{length, ap, ◌<◌, arith, rules}
use Rattle.std.proofs.lemmas.Iterator.Consumers.{YieldsList-from_first, count_from_yields_List}
use mathlib.Core.Logic.{inl}
use Rattle.carry.proofs.ByteLaws.{loads-few}
use Rattle.carry.specs.OnBytes.{loads_from, coming, load_in}
use Rattle.carry.proofs.needed.Goals as goal

pub count-requires-clause-fits : goal.count-requires-clause-fits
count-requires-clause-fits c =
    let b = c.args.batch.now in
    let k : length b < 18446744073709551616 = search rules in
    inl (omega (arith, ap length c.of.ensures, loads-few 0 b, k))

pub returns : goal.returns
returns c =
    let b = c.args.batch.now in
    let e = count_from_yields_List _ _ c.count.ensures.ran (YieldsList-from_first load_in coming (loads_from 0 b) c.of.ensures) in
    (e, omega (arith, e, loads-few 0 b))
