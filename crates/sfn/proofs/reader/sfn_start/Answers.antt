-- `sfn::reader::sfn_start` meets its contract: the answer of `Reader::start`, laid out flat.
use native.Mathlib.Omega.{arith}
use mathlib.Core.Path.{ap}
use Rattle.gather.specs.State.{Started}
use Rattle.sfn.proofs.CountLaws.{start-waits}
use Rattle.sfn.proofs.reader.sfn_start.Goals as goal

pub reader_flat-requires : goal.reader_flat-requires
reader_flat-requires c =
    omega (arith, ap (λ (s : Started). s.reader.waiting) c.in-Ok.ensures, start-waits c.args.pid)
