-- 01's "Orders": for each operation its list of checks, and that a refusal is given exactly when its line holds and no earlier
-- check of the list did. Demand 1 says of a library that it shows the first of these numbers; this says what the first one is.
use Rattle.std.specs.Prelude.{List, [], ◌∷◌, ℕ, ℤ}
use Rattle.refusals.specs.Checks.{◌when◌}
use Rattle.refusals.specs.Exactly.{Exactly}
use Rattle.packet.specs.Read as packet
use Rattle.packet.specs.Write as packet_writing
use Rattle.packet.specs.declared.Header.{Header}
use Rattle.stamp.specs.Read as stamp
use Rattle.stamp.specs.Write as stamp_writing
use Rattle.stamp.specs.declared.Stamp.{Stamp}
use Rattle.functions.specs.Read as function
use Rattle.functions.specs.Write as function_writing
use Rattle.functions.specs.declared.Function.{Function}
use Rattle.addressing.specs.Data.{group_checks, function_checks}
use Rattle.addressing.specs.Payload as addressing
use Rattle.addressing.specs.Walk.{walk_checks}
use Rattle.mip.specs.Read as mip
use Rattle.mip.specs.Write as mip_writing
use Rattle.mip.specs.Timing.{emission_checks, extra_checks}
use Rattle.mip.specs.declared.Mip.{Mip}
use Rattle.mip.specs.declared.Steps.{Steps}
use Rattle.transport.specs.Tests.{pid_outside}
use Rattle.carry.specs.Carry as carrying
use Rattle.gather.specs.State.{gather_checks}
use Rattle.gather.specs.declared.Reader.{Reader}

pub record Given : Type 0 where
  pub starting : (pid : ℕ) → Exactly (4 when pid_outside pid ∷ [])
  pub gathering : (s : Reader) (t : List ℕ) (room space : ℕ) → Exactly (gather_checks s t room space)
  pub carrying : (pid count : ℕ) (batch : List ℕ) (room : ℕ) → Exactly (carrying.carry_checks pid count batch room)
  pub packet_read : (s : List ℕ) → Exactly (packet.read_checks s)
  pub packet_write : (h : Header) (payload : List ℕ) (room : ℕ) → Exactly (packet_writing.write_checks h payload room)
  pub stamp_read : (payload : List ℕ) → Exactly (stamp.read_checks payload)
  pub stamp_write : (s : Stamp) (room : ℕ) → Exactly (stamp_writing.write_checks s room)
  pub function_read : (tag : ℕ) (body : List ℕ) → Exactly (function.read_checks tag body)
  pub function_write : (f : Function) (carried : List ℕ) (room : ℕ) → Exactly (function_writing.write_checks f carried room)
  -- the places of addressing data, whatever function_length counts
  pub group : (l : List ℕ) → Exactly (group_checks l)
  pub functions : (own : ℕ) (l : List ℕ) → Exactly (function_checks own l)
  pub addressing_read : (own : ℕ) (payload : List ℕ) → Exactly (addressing.payload_checks own payload)
  pub addressing_write : (own : ℕ) (d : List ℕ) (room : ℕ) → Exactly (addressing.write_checks own d room)
  pub walk : (own : ℕ) (d : List ℕ) (tx place : ℕ) → Exactly (walk_checks own d tx place)
  pub mip_read : (p : List ℕ) → Exactly (mip.read_checks p)
  pub mip_write : (m : Mip) (d : List ℕ) (room : ℕ) → Exactly (mip_writing.write_checks m d room)
  pub emission : (stamp delay : Steps) (offset : ℤ) → Exactly (emission_checks stamp delay offset)
  pub extra_delay : (stamp delay : Steps) (offset : ℤ) (reception : Steps) → Exactly (extra_checks stamp delay offset reception)
