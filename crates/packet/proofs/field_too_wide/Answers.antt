-- `packet::field_too_wide` meets its contract: of the fields, three have fewer bits than the types that hold them.
use Rattle.std.proofs.Common.{◌≡◌, ◌<◌, true, false, cond, ltb, sym, ◌∙◌, arith, rules, le-ltb, lt-ltb}
use Rattle.fields.proofs.FormatLaws.{wide-last}
use Rattle.fields.specs.Formats.{too_wide}
use Rattle.packet.specs.Layout.{header}
use Rattle.packet.specs.Write.{fields_of}
use Rattle.packet.specs.declared.Header.{Header}
use Rattle.packet.proofs.field_too_wide.Goals as goal
use Rattle.packet.proofs.field_too_wide.Goals.{then-h-gt15, else-h-gt15}

-- the two fields of a whole byte are never too wide
wide : (h : Header) → h.kind < 256 → h.count < 256
    → too_wide header (fields_of h) ≡ cond (ltb h.frame 16) (cond (ltb h.stream 8) (cond (ltb h.bits 65536) false true) true) true
unfolding too_wide
wide h k c = rw (lt-ltb h.kind 256 k, lt-ltb h.count 256 c)

pub returns-then-h-gt7 : goal.returns-then-h-gt7
returns-then-h-gt7 c =
    let h = c.args.h in
    let e : too_wide header (fields_of h) ≡ _ = wide h (search rules) (search rules) in
    elim c.if-h-gt15.branch [
      | then-h-gt15 w ↦ w.t-3-is ∙ lt-ltb 15 h.frame w.if-h-gt15.true ∙ sym (e ∙ rw (le-ltb h.frame 16 w.if-h-gt15.true))
      | else-h-gt15 w ↦
          let k : 7 < h.stream = omega (arith, w.if-h-gt15.false, c.if-h-gt7.either) in
          w.t-3-is ∙ lt-ltb 7 h.stream k ∙ sym (e ∙ rw (lt-ltb h.frame 16 (omega (arith, w.if-h-gt15.false)), le-ltb h.stream 8 k))
    ]

pub returns-else-h-gt7 : goal.returns-else-h-gt7
unfolding too_wide
returns-else-h-gt7 c =
    let h = c.args.h in
    wide-last 16 h.bits ∙ sym (wide h (search rules) (search rules) ∙ rw (lt-ltb h.frame 16 (omega arith), lt-ltb h.stream 8 (omega arith)))
