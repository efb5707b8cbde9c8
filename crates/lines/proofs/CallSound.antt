-- A reader that was started, and lent buffers of 01's sizes: every call leaves it so. So none is refused as 38, 1, 2 or 3.
-- Assumes nothing.
use mathlib.Core.Path.{◌≡◌, refl, ◌∙◌}
use mathlib.Core.Bool.{false}
use mathlib.Core.List.{List, [], ◌∷◌, ◌++◌}
use Prim.Native.Nat.{ℕ, ◌+◌, ◌-◌, ◌≤◌}
use native.Mathlib.Omega.{arith}
use lib.ListN.{length, take, drop}
use borrow.Author.Tests.{eq-eqb, le-ltb}
use Rattle.fields.specs.Numbers.{Bytes}
use Rattle.fields.specs.Parts.{overlay}
use Rattle.fields.proofs.Cases.{cases}
use Rattle.fields.proofs.NumberLaws.{bytes-append, bytes_take, bytes_drop}
use Rattle.fields.proofs.PartLaws.{length-overlay}
use Rattle.refusals.specs.Checks.{◌when◌, first}
use Rattle.packet.specs.Layout.{size_of}
use Rattle.packet.specs.Cut.{joined}
use Rattle.transport.specs.Header.{count_of}
use Rattle.transport.specs.Tests.{transport_checks}
use Rattle.gather.specs.State.{unfit, repeats, gather_checks}
use Rattle.gather.specs.Rules.{none, Hand, brought_by}
use Rattle.gather.specs.Gather.{entered_of, result_of, joiners, taken_of, gather_of}
use Rattle.gather.specs.declared.Reader.{Reader}
use Rattle.gather.proofs.StateLaws.{no_bytes, before-bytes, result-bytes, gather-shows, gather-fit}
use Rattle.gather.proofs.HandedLaws.{packets-few}
use Rattle.gather.proofs.ReadingLaws.{taken-room}
use Rattle.gather.proofs.CallLaws.{call-cases}

-- a reader that may go on, and its two buffers
pub record Sound (s : Reader) (g o : List ℕ) : Type 0 where
  pub fit : unfit s ≡ false
  pub bytes : Bytes g
  pub room : 8202 ≤ length g
  pub space : 8385 ≤ length o

bytes-overlay : (at : ℕ) (p l : List ℕ) → Bytes p → Bytes l → Bytes (overlay at p l)
unfolding overlay
bytes-overlay at p l bp bl =
    bytes-append (take at l) (p ++ drop (at + length p) l) (bytes_take at l bl) (bytes-append p (drop (at + length p) l) bp (bytes_drop (at + length p) l bl))

joiners-bytes : (d : List ℕ) (h : Hand) → Bytes d → Bytes (joiners d h)
unfolding joiners
joiners-bytes d h b =
    cases h.step
    (λ e. rw e (cases (none h.waiting) (λ z. rw z no_bytes) (λ z. rw z (bytes_take (size_of (h.waiting ++ d) - length h.waiting) d b))))
    (λ e. rw e no_bytes)

module _ (s : Reader) (t g o : List ℕ) (k : Sound s g o) (whole : length t ≡ 188) (bt : Bytes t) where
  taken-gathers : Bytes (taken_of s t g o).gathering
  unfolding taken_of
  taken-gathers =
      let w : List ℕ = (entered_of s t g).waiting in
      let j : List ℕ = joiners (brought_by t).before (entered_of s t g) in
      bytes-overlay 0 (result_of s t g).waiting (overlay (length w) j g) (result-bytes s t g bt k.bytes)
      (bytes-overlay (length w) j g (joiners-bytes (brought_by t).before (entered_of s t g) (before-bytes t bt)) k.bytes)

  taken-as-long : length (taken_of s t g o).output ≡ length o
  unfolding taken_of
  taken-as-long =
      length-overlay 0 (joined (result_of s t g).packets) o (omega (arith, packets-few s t g bt k.bytes whole, k.space))

  pub output-as-long : length (gather_of s t g o).output ≡ length o
  output-as-long = call-cases s t g o (λ x. length x.output ≡ length o) taken-as-long (λ n. refl)

  pub sound-on : Sound (gather_of s t g o).answer.reader (gather_of s t g o).gathering (gather_of s t g o).output
  sound-on =
      record {
        fit = gather-fit s t g o bt k.bytes k.fit;
        bytes = call-cases s t g o (λ x. Bytes x.gathering) taken-gathers (λ n. k.bytes);
        room = call-cases s t g o (λ x. 8202 ≤ length x.gathering) (omega (arith, taken-room s t g o, k.room)) (λ n. k.room);
        space = rw output-as-long k.space;
      }

  -- only the transport packet itself can be refused: 5 to 12
  pub only-carriage : (gather_of s t g o).answer.refusal ≡ first (transport_checks s.pid t ++ (12 when repeats s.last (count_of t) ∷ []))
  unfolding gather_checks
  only-carriage =
      gather-shows s t g o
      ∙ rw (k.fit, eq-eqb (length t) 188 whole, le-ltb (length g) 8202 k.room, le-ltb (length o) 8385 k.space)
