-- The bench rows of 01 for T2-MI packets hold: by computing, and for every packet that is written.
-- Assumes nothing.
use Rattle.std.proofs.Common.{◌≡◌, ℕ, ◌+◌, List, length, take, replicate, sym, refl, ap, ◌∙◌}
use Rattle.fields.specs.Formats.{too_wide}
use Rattle.fields.specs.Numbers.{Bytes}
use Rattle.refusals.specs.Checks.{first}
use Rattle.refusals.specs.Answers.{Wrote}
use Rattle.refusals.specs.declared.Written.{Written}
use Rattle.packet.proofs.FieldLaws.{writable}
use Rattle.packet.proofs.RoundTrips.{write-shows, write-accepted, length-packet, read-written}
use Rattle.packet.specs.Layout.{reserved_type, payload_bytes, pad_set, total_of}
use Rattle.packet.specs.Read.{read_of}
use Rattle.packet.specs.Write.{packet_bytes, write_checks, write_of}
use Rattle.packet.specs.declared.Header.{Header}
use Rattle.packet.specs.Rows.{Row, zeros, rows, Holds, AllHold}

-- a packet that is written has the total of its payload bits
module _ (r : Row) (e : total_of r.bits ≡ r.total) (h : Header) (payload out : List ℕ) (i : h.bits ≡ r.bits) (z : first (write_checks h payload (length out)) ≡ 0) where
  long : length (packet_bytes h payload) ≡ r.total
  long = length-packet h payload ∙ ap (λ (k : ℕ). 10 + k) (writable h payload out z).size ∙ ap total_of i ∙ e

  writes : (write_of h payload out).answer ≡ record { refusal = 0; bytes = r.total }
  writes = ap (λ (w : Wrote). w.answer) (write-accepted h payload out z) ∙ ap (λ (k : ℕ). record { refusal = 0; bytes = k }) long

  reads : Bytes payload → read_of (take r.total (write_of h payload out).out) ≡ record { refusal = 0; header = h }
  reads b =
      ap (λ (k : ℕ). read_of (take k (write_of h payload out).out)) (sym (ap (λ (a : Written). a.bytes) writes))
      ∙ (read-written h payload out b (write-shows h payload out ∙ z)).fields

holds : (r : Row) → total_of r.bits ≡ r.total → first (write_checks (zeros r.bits) (replicate (payload_bytes r.bits) 0) r.total) ≡ 0 → Holds r
holds r e o = record { counts = e; one = o; writes = writes r e; reads = λ h payload out b i z. reads r e h payload out i z b }

pub bench : AllHold rows
unfolding write_checks reserved_type too_wide pad_set
bench = (holds _ refl refl, (holds _ refl refl, (holds _ refl refl, (holds _ refl refl, (holds _ refl refl, tt)))))
