-- For the lists of checks that stand over C's own values: a refusal is given exactly when its line holds and no earlier check of
-- the list did. The others are the library's lists, of which demands/specs/Given says it.
use Rattle.std.specs.Prelude.{List, ℕ, ℤ}
use Rattle.refusals.specs.Exactly.{Exactly}
use Rattle.sfn.specs.declared.reader.SfnReader.{SfnReader}
use Rattle.door.specs.Demand1.{function_checks, mip_checks, gathering_checks}

pub record Given : Type 0 where
  pub gathering : (r : SfnReader) (t : List ℕ) (room space : ℕ) → Exactly (gathering_checks r t room space)
  pub function_write : (kind tag : ℕ) (value : ℤ) (wait reserved n room : ℕ) → Exactly (function_checks kind tag value wait reserved n room)
  pub mip_write : (count pointer periodic future stamp delay tps : ℕ) (d : List ℕ) (room : ℕ)
      → Exactly (mip_checks count pointer periodic future stamp delay tps d room)
