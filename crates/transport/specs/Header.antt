-- Where the fields of a transport packet lie: 4 bytes of header, an adaptation field where there is one, the payload.
use Rattle.std.specs.Prelude.{ℕ, ◌+◌, Bool, cond, List, [], ◌∷◌, eqb, get_or, drop}
use Rattle.fields.specs.Formats.{unpack}
use Rattle.fields.specs.Numbers.{number}

-- sync byte 8, transport_error_indicator 1, payload_unit_start_indicator 1, transport_priority 1, PID 13,
-- transport_scrambling_control 2, adaptation_field_control 2, continuity_counter 4
abbrev pub header : List ℕ
header = 8 ∷ 1 ∷ 1 ∷ 1 ∷ 13 ∷ 2 ∷ 2 ∷ 4 ∷ []

-- the header as one number; a byte that is not there counts as 0
abbrev pub head_of : List ℕ → ℕ
head_of t = number (get_or t 0 0 ∷ get_or t 1 0 ∷ get_or t 2 0 ∷ get_or t 3 0 ∷ [])

-- its fields
unfoldable pub header_field : ℕ → List ℕ → ℕ
header_field i t = get_or (unpack header (head_of t)) i 0

abbrev pub sync_of : List ℕ → ℕ
sync_of t = header_field 0 t

abbrev pub error_of : List ℕ → ℕ
error_of t = header_field 1 t

abbrev pub start_bit_of : List ℕ → ℕ
start_bit_of t = header_field 2 t

abbrev pub priority_of : List ℕ → ℕ
priority_of t = header_field 3 t

abbrev pub pid_of : List ℕ → ℕ
pid_of t = header_field 4 t

abbrev pub scrambling_of : List ℕ → ℕ
scrambling_of t = header_field 5 t

abbrev pub control_of : List ℕ → ℕ
control_of t = header_field 6 t

abbrev pub count_of : List ℕ → ℕ
count_of t = header_field 7 t

-- a T2-MI packet begins here
abbrev pub starts : List ℕ → Bool
starts t = eqb (start_bit_of t) 1

-- where the payload begins: behind the adaptation field and its length byte, where adaptation control is 11
unfoldable pub payload_at : List ℕ → ℕ
payload_at t = cond (eqb (control_of t) 3) (5 + get_or t 4 0) 4

-- with a start, the payload's first byte is the pointer
abbrev pub pointer_of : List ℕ → ℕ
pointer_of t = get_or t (payload_at t) 0

-- where the bytes of T2-MI packets begin
unfoldable pub carried_at : List ℕ → ℕ
carried_at t = cond (starts t) (payload_at t + 1) (payload_at t)

-- the bytes of T2-MI packets that it carries
unfoldable pub carried_by : List ℕ → List ℕ
carried_by t = drop (carried_at t) t
