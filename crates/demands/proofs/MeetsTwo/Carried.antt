-- The transport packets in our writer's output are those of the loads, so that carry's theorems hold of the bytes written.
-- Assumes nothing.
use mathlib.Core.Path.{◌≡◌, refl, sym, ap, ap₂, ◌∙◌}
use mathlib.Core.List.{List, [], ◌∷◌, map}
use Prim.Native.Nat.{ℕ, ◌+◌, ◌%◌, ◌<◌}
use native.Mathlib.Omega.{arith}
use lib.ListN.{length, drop}
use Rattle.fields.specs.Parts.{overlay}
use Rattle.refusals.specs.Checks.{first}
use Rattle.refusals.proofs.AnswerLaws.{answer-accepted}
use Rattle.packet.specs.Cut.{joined}
use Rattle.packet.proofs.BatchLaws.{sound}
use Rattle.transport.specs.Load.{Load, plain, start, transport_of}
use Rattle.transport.proofs.LoadLaws.{Sound, pointer_is, Found, found}
use Rattle.carry.specs.Carry.{Outcome, packets_of, loads, numbered, carry_checks, carry_of, transports_in}
use Rattle.carry.specs.Theorems.{Packets}
use Rattle.carry.proofs.BatchLaws.{Carriable, carriable}
use Rattle.carry.proofs.LoadLaws.{flows-of}
use Rattle.carry.proofs.Theorems.{AllSound, flow-sound, pid-small, carried-packets, carried-bytes, starts-right, length-numbered, transports-front}
use Rattle.gather.proofs.GatherLaws.{gather-taken}
use Rattle.gather.proofs.StateLaws.{start-taken}
use Rattle.demands.specs.Library.{ours}
use Rattle.demands.specs.Demand2.Carry.{transports, load_of, Written, Carriage}

-- ---- what a transport packet carries is the load that it was made of

load-back : (pid count : ℕ) (l : Load) → pid < 8192 → count < 16 → Sound l → load_of (transport_of pid count l) ≡ l
load-back pid count (plain d) hp hc s =
    let f : Found pid count (plain d) = found pid count (plain d) hp hc s in
    rw (f.begun, f.carries)
load-back pid count (start n d) hp hc s =
    let f : Found pid count (start n d) = found pid count (start n d) hp hc s in
    rw (f.begun, f.carries, pointer_is pid count n d hp hc)

loads-back : (pid count : ℕ) (ls : List Load) → pid < 8192 → count < 16 → AllSound ls → map load_of (numbered pid count ls) ≡ ls
unfolding numbered
loads-back pid count [] hp hc s = refl
loads-back pid count (l ∷ ls) hp hc s =
    ap₂ ◌∷◌ (load-back pid count l hp hc s.0) (loads-back pid ((count + 1) % 16) ls hp (omega arith) s.1)

-- ---- the writer

abbrev pub wrote : ℕ → ℕ → List ℕ → List ℕ → Outcome
wrote pid first_count batch out =
    record {
      answer = record { refusal = 0; packets = length (loads batch); next_count = (first_count + length (loads batch)) % 16 };
      out = overlay 0 (joined (numbered pid first_count (loads batch))) out;
    }

pub writes : (pid first_count : ℕ) (batch out : List ℕ) → first (carry_checks pid first_count batch (length out)) ≡ 0
    → carry_of pid first_count batch out ≡ wrote pid first_count batch out
unfolding carry_of
writes pid first_count batch out h = answer-accepted (carry_checks pid first_count batch (length out)) _ _ h

module _ (pid first_count : ℕ) (batch out : List ℕ) (c : Carriable pid first_count batch (length out)) where
  abbrev ts : List (List ℕ)
  ts = numbered pid first_count (loads batch)

  all : Packets pid first_count ts
  all = carried-packets pid first_count batch (length out) c

  pub transports-are : transports (wrote pid first_count batch out) ≡ ts
  unfolding overlay
  transports-are =
      ap (λ (n : ℕ). transports_in n (overlay 0 (joined ts) out)) (sym (length-numbered pid first_count (loads batch)))
      ∙ transports-front pid first_count ts (drop (0 + length (joined ts)) out) all

  loads-are : map load_of ts ≡ loads batch
  loads-are =
      loads-back pid first_count (loads batch) (pid-small pid c.pid-good) c.count-good
      (flow-sound (flows-of (packets_of batch) (sound batch c.good).whole))

  words : Written pid first_count batch (wrote pid first_count batch out)
  words =
      record {
        packets = rw transports-are all;
        carried = rw transports-are (carried-bytes pid first_count batch (length out) c);
        starting = rw (transports-are, loads-are) (starts-right pid first_count batch (length out) c);
        next = refl;
      }

pub carriage-two : Carriage ours
carriage-two =
    record {
      writes = writes;
      words = λ pid first_count batch out h.
          rw (writes pid first_count batch out h) (words pid first_count batch out (carriable pid first_count batch (length out) h));
      begins = start-taken;
      gathers = gather-taken;
    }
