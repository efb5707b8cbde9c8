-- DEMAND 2: what a library reads and writes is what 01 says, field by field. Writing accepted fields and reading them gives
-- those fields; reading an accepted packet, MIP or payload and writing it gives the same bytes.
--
-- What must be read or written is asked for wherever no check of 01's list holds, and not where the library says that it
-- refuses nothing: one that refuses everything does not meet this demand.
use Rattle.demands.specs.Library.{Library}
use Rattle.demands.specs.Demand2.Packet.{Crcs, Packets}
use Rattle.demands.specs.Demand2.Stamp.{Stamps}
use Rattle.demands.specs.Demand2.Function.{Functions}
use Rattle.demands.specs.Demand2.Address.{Addressing, Walks}
use Rattle.demands.specs.Demand2.Mip.{Mips, Timing}
use Rattle.demands.specs.Demand2.Carry.{Carriage}
pub mod Writing
pub mod Packet
pub mod Stamp
pub mod Function
pub mod Address
pub mod Mip
pub mod Carry

pub record Demand2 (lib : Library) : Type 0 where
  pub crcs : Crcs lib
  pub packets : Packets lib
  pub stamps : Stamps lib
  pub functions : Functions lib
  pub addressing : Addressing lib
  pub walks : Walks lib
  pub mips : Mips lib
  pub timing : Timing lib
  pub carriage : Carriage lib
