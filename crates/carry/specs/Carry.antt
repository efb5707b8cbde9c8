-- The batch writer: what it refuses, what it answers, and what the output then holds.
use Rattle.std.specs.Prelude.{ℕ, zero, suc, ◌+◌, ◌*◌, ◌%◌, List, [], ◌∷◌, ltb, length, take, drop, Result}
use Rattle.fields.specs.Parts.{overlay}
use Rattle.refusals.specs.Checks.{Check, ◌when◌, found}
use Rattle.refusals.specs.Answers.{answer, told}
use Rattle.refusals.specs.declared.Refusal.{Refusal}
use Rattle.packet.specs.Cut.{cut, batch_fault, joined}
use Rattle.transport.specs.Load.{Load, transport_of}
use Rattle.transport.specs.Tests.{pid_outside}
use Rattle.carry.specs.Loads.{loads_of}
use Rattle.carry.specs.declared.Carried.{Carried}
use Rattle.carry.specs.declared.Sent.{Sent}

-- the batch, cut into its packets
abbrev pub packets_of : List ℕ → List (List ℕ)
packets_of batch = (cut batch).packets

-- the transport packets of loads, their counts rising by 1 modulo 16
unfoldable pub numbered : ℕ → ℕ → List Load → List (List ℕ)
numbered pid count [] = []
numbered pid count (l ∷ ls) = transport_of pid count l ∷ numbered pid ((count + 1) % 16) ls

abbrev pub loads : List ℕ → List Load
loads batch = loads_of (packets_of batch)

-- `room` is how many bytes the output has
unfoldable pub carry_checks : ℕ → ℕ → List ℕ → ℕ → List Check
carry_checks pid first_count batch room =
    4 when pid_outside pid
    ∷ 17 when ltb 15 first_count
    ∷ 15 when ltb 65536 (length batch)
    ∷ found (batch_fault batch)
    ∷ 16 when ltb room (188 * length (loads batch))
    ∷ []

-- the answer that a result stands for
abbrev pub carried_told : Result Sent Refusal → Carried
carried_told r =
    told
    (λ n. record { refusal = n; packets = 0; next_count = 0 })
    (λ s. record { refusal = 0; packets = s.packets; next_count = s.next_count })
    r

-- an answer, and what the lent output holds after it
pub record Outcome : Type 0 where
  pub answer : Carried
  pub out : List ℕ

unfoldable pub carry_of : ℕ → ℕ → List ℕ → List ℕ → Outcome
carry_of pid first_count batch out =
    answer (carry_checks pid first_count batch (length out))
    (λ n. record { answer = record { refusal = n; packets = 0; next_count = 0 }; out = out })
    (record {
      answer = record { refusal = 0; packets = length (loads batch); next_count = (first_count + length (loads batch)) % 16 };
      out = overlay 0 (joined (numbered pid first_count (loads batch))) out;
    })

-- the first n transport packets of an output
unfoldable pub transports_in : ℕ → List ℕ → List (List ℕ)
transports_in zero out = []
transports_in (suc n) out = take 188 out ∷ transports_in n (drop 188 out)
