-- `sfn::sfn_packet_length` meets its contract: what `packet::front_length` gives at the front, where the bytes reach so far. Two
-- bytes of payload_len make it at most 8,202.
use borrow.Author.Tests.{lt-ltb, le-ltb}
use mathlib.Core.Path.{◌≡◌, ◌∙◌}
use mathlib.Core.List.{List}
use Prim.Native.Nat.{ℕ, ◌≤◌, ◌<◌}
use native.Mathlib.Omega.{arith}
use lib.ListN.{length}
use Rattle.packet.specs.Layout.{size_of}
use Rattle.packet.proofs.LayoutLaws.{size-most}
use Rattle.sfn.specs.Answers.{length_held}
use Rattle.sfn.proofs.sfn_packet_length.Goals as goal

-- too few bytes
cut : (l : List ℕ) (n : ℕ) → n ≡ size_of l → length l < n → 0 ≡ length_held l
unfolding length_held
cut l n e h = rw (lt-ltb (length l) (size_of l) (omega (arith, e, h)))

-- enough of them
held : (l : List ℕ) (n : ℕ) → n ≡ size_of l → n ≤ length l → n ≡ length_held l
unfolding length_held
held l n e h = rw (le-ltb (length l) (size_of l) (omega (arith, e, h))) e

pub returns-then-bytes-size : goal.returns-then-bytes-size
returns-then-bytes-size c = cut c.args.bytes.now _ c.front_length-size.ensures c.if-bytes-size.true

pub count_32-requires : goal.count_32-requires
count_32-requires c =
    omega (arith, c.front_length-size.ensures, size-most c.args.bytes.now (λ i. (c.shared_slice_known-1.given i).fits))

pub returns : goal.returns
returns c =
    c.count_32.ensures
    ∙ held c.args.bytes.now _ c.front_length-size.ensures c.if-bytes-size.false
