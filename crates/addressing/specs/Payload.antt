-- The addressing payload of a T2-MI packet (type 0x21): reserved 8, length 8, and that many bytes of data.
use Rattle.std.specs.Prelude.{ℕ, ◌+◌, Bool, not, ◌||◌, List, [], ◌∷◌, eqb, ltb, length, get_or, drop, Result}
use Rattle.refusals.specs.Checks.{Check, ◌when◌}
use Rattle.refusals.specs.Answers.{answer, told, Wrote, written}
use Rattle.refusals.specs.declared.Refusal.{Refusal}
use Rattle.addressing.specs.Data.{fault}

-- under 2 bytes, or not 2 plus its length byte (01, refusal 23)
abbrev pub size_wrong : List ℕ → Bool
size_wrong p = ltb (length p) 2 || not (eqb (length p) (2 + get_or p 1 0))

-- the data is what follows the length byte
abbrev pub data_of : List ℕ → List ℕ
data_of p = drop 2 p

unfoldable pub payload_checks : ℕ → List ℕ → List Check
payload_checks own p =
    23 when size_wrong p
    ∷ 20 when not (eqb (get_or p 0 0) 0)
    ∷ fault own (data_of p)
    ∷ []

-- how many bytes of data there are; with a refusal its number, and 0
pub record PayloadRead : Type 0 where
  pub refusal : ℕ
  pub bytes : ℕ

-- what a result of `payload_read` stands for
abbrev pub payload_told : Result ℕ Refusal → PayloadRead
payload_told r = told (λ n. record { refusal = n; bytes = 0 }) (λ b. record { refusal = 0; bytes = b }) r

unfoldable pub payload_of : ℕ → List ℕ → PayloadRead
payload_of own p =
    answer (payload_checks own p)
    (λ n. record { refusal = n; bytes = 0 })
    (record { refusal = 0; bytes = length (data_of p) })

-- the data of an accepted payload, and nothing of any other
unfoldable pub data_read : ℕ → List ℕ → List ℕ
data_read own p = answer (payload_checks own p) (λ n. []) (data_of p)

unfoldable pub write_checks : ℕ → List ℕ → ℕ → List Check
write_checks own d room =
    38 when ltb 255 (length d)
    ∷ fault own d
    ∷ 16 when ltb room (2 + length d)
    ∷ []

abbrev pub payload_bytes : List ℕ → List ℕ
payload_bytes d = 0 ∷ length d ∷ d

unfoldable pub write_of : ℕ → List ℕ → List ℕ → Wrote
write_of own d out = written (write_checks own d (length out)) (payload_bytes d) out
