-- Each turn lays one byte more of the part, and the last one the last of it.
use Rattle.std.proofs.Common.{ℕ, List, ◌≡◌, ◌∙◌, ◌≤◌, ◌+◌, ◌-◌, length, get_or, take, drop, sym, ap, arith}
use lib.ListN.{set}
use lib.Seq.{take_all}
use borrow.Author.Tests.{leb-true}
use Rattle.fields.proofs.PartLaws.{length_part, overlay-none, overlay-more, copied-to}
use Rattle.fields.specs.Parts.{part, overlay}
use Rattle.fields.proofs.copy.Goals as goal

-- the bytes as the loop has them
is_part : (from n : ℕ) (l : List ℕ) → take (from + n - from) (drop from l) ≡ part from n l
unfolding part
is_part from n l = ap (λ (k : ℕ). take k (drop from l)) (omega arith)

pub loop-i-init : goal.loop-i-init
loop-i-init c = sym (overlay-none c.args.at c.args.dst.now)

pub loop-i-preserved : goal.loop-i-preserved
loop-i-preserved c =
    let a = c.args in
    let l = c.loop-i in
    let p : List ℕ = take (a.from + a.n - a.from) (drop a.from a.src.now) in
    let there : a.from + a.n ≤ length a.src.now = leb-true _ _ (sym c.within.ensures ∙ c.if-not-within.false) in
    let room : a.at + a.n ≤ length a.dst.now = leb-true _ _ (sym c.within-else-not-within.ensures ∙ c.if-not-within-2.false) in
    let long : length p ≡ a.n = ap length (is_part a.from a.n a.src.now) ∙ length_part a.from a.n a.src.now there in
    ap (λ (d : List ℕ). set d (a.at + l.i) (get_or p l.i 0)) l.invariant
    ∙ overlay-more a.at l.i p a.dst.now c.loop-i-test.true (omega (arith, c.loop-i-test.true))

pub returns : goal.returns
returns c =
    let a = c.args in
    let l = c.loop-i in
    let p : List ℕ = take (a.from + a.n - a.from) (drop a.from a.src.now) in
    let there : a.from + a.n ≤ length a.src.now = leb-true _ _ (sym c.within.ensures ∙ c.if-not-within.false) in
    let room : a.at + a.n ≤ length a.dst.now = leb-true _ _ (sym c.within-else-not-within.ensures ∙ c.if-not-within-2.false) in
    l.invariant
    ∙ ap (λ (q : List ℕ). overlay a.at q a.dst.now) (take_all l.i p c.loop-i-test.false ∙ is_part a.from a.n a.src.now)
    ∙ sym (copied-to a.at a.n a.src.now a.from a.dst.now there room)
