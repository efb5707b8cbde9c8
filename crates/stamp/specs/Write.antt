-- Writing a timestamp payload (01: 24, 38, 25, 16 in this order).
use Rattle.std.specs.Prelude.{ℕ, List, [], ◌∷◌, ltb, length}
use Rattle.fields.specs.Formats.{pack, too_wide}
use Rattle.fields.specs.Numbers.{bytes}
use Rattle.refusals.specs.Checks.{Check, ◌when◌}
use Rattle.refusals.specs.Answers.{Wrote, written}
use Rattle.stamp.specs.Layout.{format, bandwidth_over, second_reached}
use Rattle.stamp.specs.declared.Stamp.{Stamp}

-- the fields in clause 5.2.7's order; the reserved bits are zero
abbrev pub fields_of : Stamp → List ℕ
fields_of s = 0 ∷ s.bw ∷ s.seconds ∷ s.subseconds.0 ∷ s.utco ∷ []

-- the whole payload
unfoldable pub stamp_bytes : Stamp → List ℕ
stamp_bytes s = bytes 11 (pack format (fields_of s))

-- `room` is how many bytes the output has
unfoldable pub write_checks : Stamp → ℕ → List Check
write_checks s room =
    24 when bandwidth_over s
    ∷ 38 when too_wide format (fields_of s)
    ∷ 25 when second_reached s
    ∷ 16 when ltb room 11
    ∷ []

-- the answer, and what the output then holds
unfoldable pub write_of : Stamp → List ℕ → Wrote
write_of s out = written (write_checks s (length out)) (stamp_bytes s) out
