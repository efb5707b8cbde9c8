-- `carry::left_after` meets its contract.
use Rattle.std.proofs.Common.{◌≡◌, ℕ, ◌+◌, ◌-◌, ◌<◌, ◌≤◌, List, length, drop, sym, ap, ◌∙◌, arith, rules, drop-drop}
use borrow.Author.Tests.{leb-true, leb-false}
use lib.Dec.{leb}
use Rattle.std.proofs.lemmas.Slice.{between_to_end}
use Rattle.fields.proofs.Cases.{cases}
use Rattle.fields.proofs.NumberLaws.{bytes_drop}
use Rattle.packet.specs.Layout.{size_of}
use Rattle.packet.proofs.LayoutLaws.{size-least, size-most}
use Rattle.carry.proofs.ByteLaws.{left-none, left-past, left_in}
use Rattle.carry.specs.OnBytes.{left_of}
use Rattle.carry.proofs.left_after.Goals as goal
use Rattle.carry.proofs.left_after.Goals.{After-front_length-end}

-- one packet on, from a place before n
module _ (b : List ℕ) (n end size : ℕ) (e : size ≡ size_of (drop end b)) (h : end < n) (i : left_of (n - end) (drop end b) ≡ left_of n b) where
  -- it ends at n or behind it
  over : n ≤ end + size → end + size - n ≡ left_of n b
  over k =
      let m : end + size - n ≡ size_of (drop end b) - (n - end) = omega arith in
      m ∙ sym (left_in (n - end) (drop end b) (omega arith) (omega arith)) ∙ i

  -- it ends before n
  past : end + size < n → left_of (n - (end + size)) (drop (end + size) b) ≡ left_of n b
  past k =
      let m : n - (end + size) ≡ n - end - size = omega arith in
      ap (λ (j : ℕ). left_of j (drop (end + size) b)) m
      ∙ ap (left_of (n - end - size)) (sym (drop-drop size end b))
      ∙ ap (λ (j : ℕ). left_of (n - end - j) (drop j (drop end b))) e
      ∙ sym (left-past (n - end) (drop end b) (omega arith))
      ∙ i

  -- or just there
  upto : end + size ≤ n → left_of (n - (end + size)) (drop (end + size) b) ≡ left_of n b
  upto k =
      cases (leb n (end + size))
      (λ t.
      let m : n - (end + size) ≡ 0 = omega (arith, k, leb-true _ _ t) in
      ap (λ (j : ℕ). left_of j (drop (end + size) b)) m ∙ left-none (drop (end + size) b) ∙ (let z : 0 ≡ end + size - n = omega arith in z) ∙ over (leb-true _ _ t))
      (λ t. past (leb-false _ _ t))

-- the length of the packet at the place
own : (c : After-front_length-end) → c.front_length-end.result ≡ size_of (drop c.loop-end.end c.args.batch.now)
own c =
    let b = c.args.batch.now in
    c.front_length-end.ensures ∙ ap size_of (between_to_end b c.loop-end.end (length b) (omega arith))

pub overflow_add-end : goal.overflow_add-end
overflow_add-end c =
    let b = c.args.batch.now in
    omega (arith, own (goal.at.overflow_add-end c).After-front_length-end, size-most (drop c.loop-end.end b) (bytes_drop c.loop-end.end b (search rules)), c.requires)

pub loop-end-init : goal.loop-end-init
loop-end-init c =
    let b = c.args.batch.now in
    let n = c.args.bytes in
    (λ h. let z : n - 0 ≡ n = omega arith in ap (λ (k : ℕ). left_of k b) z, λ h. let z : n ≡ 0 = omega arith in let y : 0 - n ≡ 0 = omega arith in y ∙ sym (left-none b) ∙ ap (λ (k : ℕ). left_of k b) (sym z))

pub loop-end-smaller : goal.loop-end-smaller
loop-end-smaller c = omega (arith, own (goal.at.loop-end-smaller c).After-front_length-end, size-least (drop c.loop-end.end c.args.batch.now))

pub loop-end-preserved : goal.loop-end-preserved
loop-end-preserved c =
    let l = c.loop-end in
    let b = c.args.batch.now in
    let h : l.end < c.args.bytes = c.loop-end-test.true in
    let e = own (goal.at.loop-end-preserved c).After-front_length-end in
    let i = l.invariant.0 (omega arith) in
    (upto b c.args.bytes l.end _ e h i, over b c.args.bytes l.end _ e h i)

pub returns : goal.returns
returns c = c.loop-end.invariant.1 (omega arith)
