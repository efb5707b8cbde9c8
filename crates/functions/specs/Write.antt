-- Writing a function's body: fields to body (01: 38, 29, 16 in this order).
use Rattle.std.specs.Prelude.{ℕ, ◌≤◌, ◌≡◌, Bool, false, List, [], ◌∷◌, ltb, length}
use Rattle.fields.specs.Formats.{too_wide}
use Rattle.fields.specs.Signed.{beyond_signed}
use Rattle.refusals.specs.Checks.{Check, ◌when◌}
use Rattle.refusals.specs.Answers.{Wrote, written}
use Rattle.functions.specs.Tags.{bodies, cell, bandwidth, body_long, value_reserved}
use Rattle.functions.specs.Function.{cell_fields, bandwidth_fields, body_of}
use Rattle.functions.specs.declared.Function.{Function}
use Rattle.functions.specs.declared.Function.TheVariants.{TimeOffset, FrequencyOffset, Power, Private, Cell, Enable, Bandwidth, Passed}

-- a value is too wide for its bits, or a passed-through function has a tag of the table (01, refusal 38)
unfoldable pub unfit : Function → Bool
unfit (TimeOffset t) = beyond_signed 16 t
unfit (FrequencyOffset f) = beyond_signed 24 f
unfit (Power p) = too_wide (16 ∷ []) (p ∷ [])
unfit Private = false
unfit (Cell id wait reserved) = too_wide cell (cell_fields id wait reserved)
unfit Enable = false
unfit (Bandwidth value wait) = too_wide bandwidth (bandwidth_fields value wait)
unfit (Passed tag) = ltb tag (length bodies)

-- a bandwidth that is reserved (01, refusal 29)
unfoldable pub reserved : Function → Bool
reserved (TimeOffset t) = false
reserved (FrequencyOffset f) = false
reserved (Power p) = false
reserved Private = false
reserved (Cell id wait rest) = false
reserved Enable = false
reserved (Bandwidth value wait) = value_reserved value
reserved (Passed tag) = false

-- `room` is how many bytes the output has
unfoldable pub write_checks : Function → List ℕ → ℕ → List Check
write_checks f carried room =
    38 when unfit f
    ∷ 38 when body_long (length (body_of f carried))
    ∷ 29 when reserved f
    ∷ 16 when ltb room (length (body_of f carried))
    ∷ []

-- what is known where none of the checks holds
pub record Writable (f : Function) (carried out : List ℕ) : Type 0 where
  pub fit : unfit f ≡ false
  pub short : body_long (length (body_of f carried)) ≡ false
  pub free : reserved f ≡ false
  pub room : length (body_of f carried) ≤ length out

-- the answer, and what the output then holds
unfoldable pub write_of : Function → List ℕ → List ℕ → Wrote
write_of f carried out = written (write_checks f carried (length out)) (body_of f carried) out
