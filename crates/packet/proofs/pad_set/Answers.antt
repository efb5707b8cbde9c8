-- `packet::pad_set` meets its contract: a shift by under eight places makes two to the pad in a byte.
use Rattle.std.proofs.Common.{◌≡◌, ℕ, ◌-◌, ◌*◌, ◌%◌, ◌^◌, false, not, eqb, List, get_or, sym, ap, ◌∙◌, ap₂, arith}
use native.Mathlib.Nat.{mod-one}
use Rattle.packet.proofs.LayoutLaws.{pad-under-8, pad-power}
use Rattle.packet.specs.Layout.{payload_bytes, pad_bits, pad_set}
use Rattle.packet.proofs.pad_set.Goals as goal

-- no payload, no pad
none : (bits : ℕ) (payload : List ℕ) → payload_bytes bits ≡ 0 → pad_set bits payload ≡ false
unfolding pad_set
none bits payload h =
    let z : pad_bits bits ≡ 0 = omega (arith, h) in
    ap (λ (k : ℕ). not (eqb (get_or payload (payload_bytes bits - 1) 0 % 2 ^ k) 0)) z
    ∙ ap (λ (k : ℕ). not (eqb k 0)) (mod-one (get_or payload (payload_bytes bits - 1) 0))

-- the divisor that the code makes
power : (bits n : ℕ) → n ≡ payload_bytes bits → 1 * 2 ^ (8 * n - bits) % 256 ≡ 2 ^ (8 * n - bits)
power bits n e = pad-power (8 * n - bits) (rw e (pad-under-8 bits))

pub returns-then-n-eq0 : goal.returns-then-n-eq0
returns-then-n-eq0 c =
    let a = c.args in
    sym (none a.bits a.payload.now (sym c.payload_bytes-n.ensures ∙ c.if-n-eq0.true))

pub returns : goal.returns
unfolding pad_set
returns c =
    let a = c.args in
    let n = c.payload_bytes-n.ensures in
    ap₂ (λ (x y : ℕ). not (eqb (x % y) 0))
    (c.byte_at-last.ensures ∙ ap (λ (k : ℕ). get_or a.payload.now (k - 1) 0) n)
    (power a.bits _ n ∙ ap (λ (k : ℕ). 2 ^ (8 * k - a.bits)) n)
