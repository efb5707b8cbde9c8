-- `sfn::site::sfn_mip_read` meets its contract: the answer of `mip::read`, laid out flat.
use native.Mathlib.Omega.{arith}
use mathlib.Core.Path.{ap}
use Rattle.mip.specs.Read.{MipRead}
use Rattle.sfn.proofs.CountLaws.{mip-few}
use Rattle.sfn.proofs.site.sfn_mip_read.Goals as goal

pub count_32-requires : goal.count_32-requires
count_32-requires c =
    omega (arith, ap (λ (r : MipRead). r.addressing) c.in-Ok.ensures, mip-few c.args.packet.now)
