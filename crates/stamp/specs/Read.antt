-- Reading a timestamp payload (01: 23, 20, 24, 25 in this order).
use Rattle.std.specs.Prelude.{ℕ, Bool, not, List, [], ◌∷◌, eqb, length, get_or, Result}
use Rattle.fields.specs.Formats.{unpack}
use Rattle.fields.specs.Numbers.{number}
use Rattle.refusals.specs.Checks.{Check, ◌when◌}
use Rattle.refusals.specs.Answers.{answer, told}
use Rattle.refusals.specs.declared.Refusal.{Refusal}
use Rattle.stamp.specs.Layout.{format, bandwidth_over, second_reached}
use Rattle.stamp.specs.declared.Stamp.{Stamp}

-- field i of a payload, whose bytes are one number
abbrev pub field : ℕ → List ℕ → ℕ
field i payload = get_or (unpack format (number payload)) i 0

unfoldable pub stamp_of : List ℕ → Stamp
stamp_of payload =
    record { bw = field 1 payload; seconds = field 2 payload; subseconds = record { 0 = field 3 payload }; utco = field 4 payload }

-- ---- the refusals

abbrev pub size_wrong : List ℕ → Bool
size_wrong payload = not (eqb (length payload) 11)

abbrev pub reserved_set : List ℕ → Bool
reserved_set payload = not (eqb (field 0 payload) 0)

unfoldable pub read_checks : List ℕ → List Check
read_checks payload =
    23 when size_wrong payload
    ∷ 20 when reserved_set payload
    ∷ 24 when bandwidth_over (stamp_of payload)
    ∷ 25 when second_reached (stamp_of payload)
    ∷ []

-- ---- the answer

-- a stamp; with a refusal its number, and a stamp of zeros
pub record StampRead : Type 0 where
  pub refusal : ℕ
  pub stamp : Stamp

abbrev pub no_stamp : Stamp
no_stamp = record { bw = 0; seconds = 0; subseconds = record { 0 = 0 }; utco = 0 }

-- the answer that a result of `read` stands for
abbrev pub stamp_told : Result Stamp Refusal → StampRead
stamp_told r = told (λ n. record { refusal = n; stamp = no_stamp }) (λ s. record { refusal = 0; stamp = s }) r

unfoldable pub read_of : List ℕ → StampRead
read_of payload =
    answer (read_checks payload)
    (λ n. record { refusal = n; stamp = no_stamp })
    (record { refusal = 0; stamp = stamp_of payload })
