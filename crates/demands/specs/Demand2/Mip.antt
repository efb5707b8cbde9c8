-- MIPs and site timing (01, "MIP and site timing").
use Rattle.std.specs.Prelude.{ℕ, ◌≤◌, ◌≡◌, List, ℤ, length}
use Rattle.fields.specs.Numbers.{Bytes}
use Rattle.refusals.specs.Checks.{first}
use Rattle.mip.specs.Read.{read_checks, addressing_length, addressing_of, mip_of}
use Rattle.mip.specs.Write.{write_checks, mip_bytes}
use Rattle.mip.specs.Timing.{emission_checks, emitted, extra_checks, held, time}
use Rattle.mip.specs.declared.Mip.{Mip}
use Rattle.mip.specs.declared.Steps.{Steps}
use Rattle.demands.specs.Library.{Library}
use Rattle.demands.specs.Demand2.Writing.{laid, written_by}

pub record Mips (lib : Library) : Type 0 where
  -- where no check of 01's list holds: each field from its place, and the addressing data
  pub reads : (p : List ℕ) → first (read_checks p) ≡ 0
      → lib.mip_read p ≡ record { refusal = 0; addressing = addressing_length p; mip = mip_of p }
  pub addressing : (p : List ℕ) → first (read_checks p) ≡ 0 → lib.mip_addressing p ≡ addressing_of p
  -- where none holds: the packet of these fields and this data
  pub writes : (m : Mip) (d out : List ℕ) → first (write_checks m d (length out)) ≡ 0 → lib.mip_write m d out ≡ laid (mip_bytes m d) out
  -- what was written is read as the same fields and data
  pub back : (m : Mip) (d out : List ℕ) → (lib.mip_write m d out).answer.refusal ≡ 0
      → (lib.mip_read (written_by (lib.mip_write m d out)) ≡ record { refusal = 0; addressing = length d; mip = m })
      × (lib.mip_addressing (written_by (lib.mip_write m d out)) ≡ d)
  -- what is read is written as the same bytes
  pub forth : (p out : List ℕ) → Bytes p → (lib.mip_read p).refusal ≡ 0 → length p ≤ length out
      → lib.mip_write (lib.mip_read p).mip (lib.mip_addressing p) out ≡ laid p out

pub record Timing (lib : Library) : Type 0 where
  -- (stamp + maximum delay + offset) modulo 10,000,000
  pub emission : (stamp delay : Steps) (offset : ℤ) → first (emission_checks stamp delay offset) ≡ 0
      → lib.emission stamp delay offset ≡ time 0 (emitted stamp delay offset)
  -- that less the reception time, modulo 10,000,000
  pub extra : (stamp delay : Steps) (offset : ℤ) (reception : Steps) → first (extra_checks stamp delay offset reception) ≡ 0
      → lib.extra_delay stamp delay offset reception ≡ time 0 (held stamp delay offset reception)
