-- The bench rows of 01 for functions hold, by computing.
-- Assumes nothing.
use mathlib.Core.Path.{◌≡◌, refl, ap, ap₂, ◌∙◌}
use mathlib.Core.Bool.{false}
use mathlib.Core.List.{List, []}
use Prim.Native.Nat.{ℕ}
use lib.Dec.{ltb}
use lib.ListN.{length}
use borrow.Author.Tests.{le-ltb}
use Rattle.fields.specs.Formats.{pack, unpack}
use Rattle.fields.specs.Numbers.{number, bytes}
use Rattle.fields.specs.Parts.{overlay}
use Rattle.fields.specs.Signed.{signed, unsigned}
use Rattle.fields.proofs.NumberLaws.{length-bytes}
use Rattle.refusals.specs.Answers.{answer}
use Rattle.refusals.proofs.CheckLaws.{first-zero}
use Rattle.functions.proofs.Accepted.{write-accepted}
use Rattle.functions.specs.Tags.{body_long, body_wrong, bandwidth_reserved}
use Rattle.functions.specs.Function.{function_of, body_of}
use Rattle.functions.specs.Read.{read_checks, function_read}
use Rattle.functions.specs.Write.{unfit, reserved, write_checks}
use Rattle.functions.specs.declared.Function.TheVariants.{TimeOffset}
use Rattle.functions.specs.Rows.{Row, rows, Holds, AllHold}

holds : (r : Row) → function_read 0 r.body ≡ record { refusal = 0; function = TimeOffset r.offset }
    → unfit (TimeOffset r.offset) ≡ false → body_of (TimeOffset r.offset) [] ≡ r.body → Holds r
unfolding body_long body_of reserved write_checks
holds r e u b =
    let n : length (bytes 2 (unsigned 16 r.offset)) ≡ 2 = length-bytes 2 (unsigned 16 r.offset) in
    record {
      reads = e;
      writes = λ carried out h.
          write-accepted (TimeOffset r.offset) carried out
          (first-zero (write_checks (TimeOffset r.offset) carried (length out)) (u, (ap body_long n, (refl, (ap (ltb (length out)) n ∙ le-ltb (length out) 2 h, tt)))))
          ∙ ap₂ (λ (k : ℕ) (l : List ℕ). record { answer = record { refusal = 0; bytes = k }; out = overlay 0 l out }) n b;
    }

pub bench : AllHold rows
unfolding function_read answer read_checks body_long body_wrong bandwidth_reserved function_of body_of unfit number bytes pack unpack signed unsigned
bench = (holds _ refl refl refl, (holds _ refl refl refl, tt))
