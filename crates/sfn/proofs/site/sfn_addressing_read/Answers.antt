-- `sfn::site::sfn_addressing_read` meets its contract: the answer of `addressing::payload_read`, laid out flat.
use native.Mathlib.Omega.{arith}
use mathlib.Core.Path.{ap}
use Rattle.addressing.specs.Data.{house}
use Rattle.addressing.specs.Payload.{PayloadRead}
use Rattle.sfn.proofs.CountLaws.{payload-few}
use Rattle.sfn.proofs.site.sfn_addressing_read.Goals as goal

pub count_32-requires : goal.count_32-requires
count_32-requires c =
    omega (arith, ap (λ (r : PayloadRead). r.bytes) c.in-Ok.ensures, payload-few house c.args.payload.now (λ i. (c.type_inv.payload i).fits))
