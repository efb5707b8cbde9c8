-- What an operation writes where it refuses nothing, and the bytes that it wrote.
use Rattle.std.specs.Prelude.{ℕ, List, length, take}
use Rattle.fields.specs.Parts.{overlay}
use Rattle.refusals.specs.Answers.{Wrote}

-- no refusal, the result's bytes counted, the result at the front of the output and all beyond it as it was
abbrev pub laid : List ℕ → List ℕ → Wrote
laid result out = record { answer = record { refusal = 0; bytes = length result }; out = overlay 0 result out }

-- the first bytes of the output, as many as the answer counts
abbrev pub written_by : Wrote → List ℕ
written_by w = take w.answer.bytes w.out
