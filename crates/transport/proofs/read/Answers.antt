-- `transport::read` meets its contract: the code divides by the weights that the format gives its fields.
use lib.Dec.{eqb}
use lib.ListN.{get_or}
use mathlib.Core.Path.{◌≡◌, sym, ap, ap₂, ◌∙◌}
use mathlib.Core.Bool.{Bool, cond}
use Rattle.std.specs.Bool.{then_some}
use Prim.Native.Nat.{ℕ, ◌+◌, ◌/◌, ◌%◌}
use native.Mathlib.Nat.{div-one}
use Rattle.fields.specs.Formats.{unpack}
use Rattle.transport.specs.Header.{head_of, header_field, count_of, starts, payload_at, pointer_of}
use Rattle.transport.proofs.LookLaws.{stands}
use Rattle.transport.proofs.read.Goals as goal

pub returns : goal.returns
unfolding header_field unpack payload_at
returns c =
    let t = c.args.t.now in
    let e : c.args.head ≡ head_of t = c.requires in
    let n : c.args.head % 16 ≡ count_of t = ap (λ (h : ℕ). h % 16) (e ∙ sym (div-one (head_of t))) in
    let b : eqb (c.args.head / 4194304 % 2) 1 ≡ starts t = ap (λ (h : ℕ). eqb (h / 4194304 % 2) 1) e in
    let p : c.payload_at-payload.result ≡ payload_at t = c.payload_at-payload.ensures ∙ ap (λ (h : ℕ). cond (eqb (h / 16 % 4) 3) (5 + get_or t 4 0) 4) e in
    let q : c.then_some.result ≡ then_some (starts t) (pointer_of t) = c.then_some.ensures ∙ ap₂ (λ (x : Bool) (k : ℕ). then_some x k) b (c.byte_at.ensures ∙ ap (λ (k : ℕ). get_or t k 0) p) in
    stands t _ n p q
