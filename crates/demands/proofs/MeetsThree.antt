-- Our library meets demand 3.
-- Assumes nothing.
use Rattle.gather.proofs.CallLaws.{call-bytes, call-number}
use Rattle.demands.specs.Library.{ours}
use Rattle.demands.specs.Demand3.{AlwaysClean, Demand3}
use Rattle.demands.proofs.MeetsThree.Batches.{carries-all}
use Rattle.demands.proofs.MeetsThree.Journey.{by-events}
use Rattle.demands.proofs.MeetsThree.Routing.{by-routes}
pub mod Events
pub mod Due
pub mod Carriers
pub mod Routing
pub mod Reading
pub mod Ahead
pub mod Holding
pub mod Batches
pub mod Taking
pub mod Journey

pub always-clean : AlwaysClean ours
always-clean s t g o = record { bytes = call-bytes s t g o; number = call-number s t g o }

pub meets-three : Demand3 ours
meets-three = record { clean = always-clean; carried = carries-all; exactly = by-routes ours by-events }
