-- `transport::head_of` meets its contract: four bytes, most significant first.
use lib.ListN.{get_or}
use mathlib.Core.List.{List}
use Prim.Native.Nat.{ℕ}
use native.Mathlib.Omega.{arith}
use Rattle.fields.proofs.NumberLaws.{four_bytes}
use Rattle.transport.proofs.head_of.Goals as goal

pub returns : goal.returns
returns c =
    let t : List ℕ = c.args.t.now in
    omega (arith, c.from_be_bytes.ensures, four_bytes (get_or t 0 0) (get_or t 1 0) (get_or t 2 0) (get_or t 3 0))
