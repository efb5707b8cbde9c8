-- `mip::writing::lay_lead` meets its contract: the four numbers, laid back to back, are the header and the parameters.
use lib.ListN.{length, length-append}
use mathlib.Core.Path.{◌≡◌, refl, sym, ap, ap₂, ◌∙◌}
use mathlib.Core.Bool.{Bool, true, false}
use mathlib.Core.List.{List, ◌++◌, append_assoc}
use mir.Val.{bool_byte}
use Prim.Native.Nat.{ℕ, ◌+◌, ◌*◌, ◌≤◌}
use native.Mathlib.Omega.{arith}
use Rattle.fields.specs.Formats.{Fit}
use Rattle.fields.specs.Numbers.{bytes}
use Rattle.fields.specs.Parts.{overlay, stored_at}
use Rattle.fields.proofs.LaidLaws.{stored_next}
use Rattle.fields.proofs.NumberLaws.{length-bytes}
use Rattle.fields.proofs.PartLaws.{stored-at}
use Rattle.mip.proofs.FieldLaws.{header_number, head_number, times_number, tail_number, lead-numbers, wide-fit}
use Rattle.mip.specs.Layout.{parameters}
use Rattle.mip.specs.Write.{flag, parameter_fields, lead_bytes}
use Rattle.mip.specs.declared.Mip.{Mip}
use Rattle.mip.proofs.writing.lay_lead.Goals as goal
use Rattle.mip.proofs.writing.lay_lead.Goals.{Start}

-- a bool as a number
byte-is : (b : Bool) → bool_byte b ≡ flag b
byte-is true = refl
byte-is false = refl

-- the four calls, one after the other
laid : (m : Mip) (n : ℕ) (out o1 o2 o3 o4 : List ℕ) → Fit parameters (parameter_fields m n) → 21 ≤ length out
    → o1 ≡ stored_at 0 4 (header_number m) out → o2 ≡ stored_at 4 6 (head_number m n) o1 → o3 ≡ stored_at 10 6 (times_number m) o2 → o4 ≡ stored_at 16 5 (tail_number m n) o3
    → o4 ≡ overlay 0 (lead_bytes m n) out
laid m n out o1 o2 o3 o4 fit room e1 e2 e3 e4 =
    let a : List ℕ = bytes 4 (header_number m) in
    let b : List ℕ = bytes 6 (head_number m n) in
    let c : List ℕ = bytes 6 (times_number m) in
    let d : List ℕ = bytes 5 (tail_number m n) in
    let la : length a ≡ 4 = length-bytes 4 (header_number m) in
    let lb : length (a ++ b) ≡ 10 = length-append a b ∙ omega (arith, length-bytes 6 (head_number m n)) in
    let lc : length ((a ++ b) ++ c) ≡ 16 = length-append (a ++ b) c ∙ omega (arith, length-bytes 6 (times_number m)) in
    let f1 : o1 ≡ overlay 0 a out = e1 ∙ stored-at 0 4 (header_number m) out (omega arith) (omega arith) in
    let f2 : o2 ≡ overlay 0 (a ++ b) out = e2 ∙ ap (stored_at 4 6 (head_number m n)) f1 ∙ stored_next a out 4 la 6 (head_number m n) (omega arith) (omega arith) in
    let f3 : o3 ≡ overlay 0 ((a ++ b) ++ c) out = e3 ∙ ap (stored_at 10 6 (times_number m)) f2 ∙ stored_next (a ++ b) out 10 lb 6 (times_number m) (omega arith) (omega arith) in
    e4
    ∙ ap (stored_at 16 5 (tail_number m n)) f3
    ∙ stored_next ((a ++ b) ++ c) out 16 lc 5 (tail_number m n) (omega arith) (omega arith)
    ∙ ap (λ (l : List ℕ). overlay 0 l out) (append_assoc (a ++ b) c d ∙ append_assoc a b (c ++ d) ∙ sym (lead-numbers m n fit))

pub returns : goal.returns
returns c =
    let start = (goal.at.returns c).Start in
    let m = start.args.m in
    let n = start.args.addressing in
    let two : (19 + n) * 0x1_0000_0000 + (c.from.result * 0x1_0000 + (c.from-periodic.result * 0x8000 + c.from-2.result)) ≡ head_number m n =
    ap₂ (λ (x y : ℕ). (19 + n) * 0x1_0000_0000 + (x * 0x1_0000 + y)) c.from.ensures
    (ap₂ (λ (x y : ℕ). x * 0x8000 + y) (c.from-periodic.ensures ∙ byte-is m.periodic) c.from-2.ensures) in
    laid m n start.args.out.now _ _ _ _ (wide-fit m n start.requires.0).1 start.requires.2
    (c.store_at.ensures ∙ ap (λ (x : ℕ). stored_at 0 4 (0x4760_1510 + x) start.args.out.now) c.from-header.ensures)
    (c.store_at-2.ensures ∙ ap (λ (x : ℕ). stored_at 4 6 x c.store_at.new.dst) two)
    (c.store_at-3.ensures ∙ ap (λ (x : ℕ). stored_at 10 6 x c.store_at-2.new.dst) (ap₂ (λ (x y : ℕ). x * 0x100_0000 + y) c.from-3.ensures c.from-4.ensures))
    (c.store_at-4.ensures ∙ ap (λ (x : ℕ). stored_at 16 5 (x * 0x100 + n) c.store_at-3.new.dst) c.from-5.ensures)
