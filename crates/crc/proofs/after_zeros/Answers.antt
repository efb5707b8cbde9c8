-- Each turn takes a digit, and after eight none is left.
use Rattle.std.proofs.Common.{◌∙◌, sym, arith}
use Rattle.crc.proofs.TableLaws.{no_digit, digit-turn, all_digits}
use Rattle.crc.proofs.after_zeros.Goals as goal

pub loop-j-init : goal.loop-j-init
loop-j-init c = no_digit c.args.base c.args.register c.ranges.register.fits

pub loop-j-preserved : goal.loop-j-preserved
loop-j-preserved c =
    let a = c.args in
    let l = c.loop-j in
    digit-turn a.base a.register c.ranges.register.fits l.j l.sum c.look-sum.result c.look-sum.ensures ∙ l.invariant

pub returns : goal.returns
returns c =
    let a = c.args in
    let l = c.loop-j in
    sym (all_digits a.base a.register c.ranges.register.fits l.j l.sum (omega arith)) ∙ l.invariant
