-- `carry::Pieces::next` meets its contract: the first load of what is left, and the loads behind it.
use Rattle.std.proofs.Common.{◌≡◌, ℕ, ◌-◌, ◌≤◌, ◌<◌, min, true, false, ◌&&◌, ltb, leb, List, [], ◌∷◌, length, drop, take, sym, ap, ap₂, ◌∙◌, arith, length-drop}
use borrow.Author.Tests.{ltb-true, leb-true}
use lib.Seq.{take_all}
use Rattle.fields.proofs.Cases.{and_left, and_right}
use Rattle.transport.specs.Load.{Load}
use Rattle.carry.proofs.ByteLaws.{from-nil, from_more, plan-start}
use Rattle.carry.specs.OnBytes.{left_of, Plan, plan_of, load_for, loads_from, coming, load_with, load_in}
use Rattle.carry.specs.declared.Piece.{Piece}
use Rattle.carry.specs.declared.Pieces.{Pieces}
use Rattle.carry.proofs.PiecesIterator.next.Goals as goal
use Rattle.carry.proofs.PiecesIterator.next.Goals.{Then-has_start}

-- nothing is left
none : (r : ℕ) (l : List ℕ) → length l ≡ 0 → loads_from r l ≡ []
none r [] h = from-nil r
none r (x ∷ l) h = absurd (omega arith)

some : (l : List ℕ) → (length l ≡ 0 → ⊥) → 0 < length l
some l h = omega arith

-- the first load and the others
more : (r : ℕ) (l : List ℕ) → 0 < length l → (p : Plan) → p ≡ plan_of r l → (x : Piece) (t : Pieces) → load_in x ≡ load_for p r l
    → t.rest.now ≡ drop p.bytes l → t.under_way ≡ p.left → loads_from r l ≡ load_in x ∷ coming t
more r l h p e x t g a b =
    from_more r l h
    ∙ ap (λ (q : Plan). load_for q r l ∷ loads_from q.left (drop q.bytes l)) (sym e)
    ∙ ap (λ (y : Load). y ∷ loads_from p.left (drop p.bytes l)) (sym g)
    ∙ ap₂ (λ (k : ℕ) (m : List ℕ). load_in x ∷ loads_from k m) (sym b) (sym a)

-- ---- the plan by its test

module _ (rest : List ℕ) (r bytes left : ℕ) where
  start_is : r < length rest → r ≤ 182 → bytes ≡ min 183 (length rest) → left ≡ left_of (bytes - r) (take (length rest - r) (drop r rest))
      → record { starts = true; bytes = bytes; left = left } ≡ plan_of r rest
  start_is h g eb el =
      ap₂ (λ (x y : ℕ). record { starts = true; bytes = x; left = y }) eb
      (el
      ∙ ap (left_of (bytes - r)) (take_all (length rest - r) (drop r rest) (rw (length-drop r rest) (omega arith)))
      ∙ ap (λ (k : ℕ). left_of (k - r) (drop r rest)) eb)
      ∙ sym (plan-start r rest h g)

  plain-is : (ltb r (length rest) && leb r 182) ≡ false → bytes ≡ min (min 184 r) (length rest) → left ≡ r - 184
      → record { starts = false; bytes = bytes; left = left } ≡ plan_of r rest
  unfolding plan_of
  plain-is h eb el = rw h (ap₂ (λ (x y : ℕ). record { starts = false; bytes = x; left = y }) eb el)

-- a start: what the test says
begun : (c : Then-has_start) → (c.args.self.now.under_way < length c.args.self.now.rest.now) × (c.args.self.now.under_way ≤ 182)
begun c =
    let s = c.args.self.now in
    both s.under_way (length s.rest.now) (sym c.has_start.ensures ∙ c.if-has_start.true)
  where
    both : (r n : ℕ) → (ltb r n && leb r 182) ≡ true → (r < n) × (r ≤ 182)
    both r n e = (ltb-true r n (and_left (ltb r n) (leb r 182) e), leb-true r 182 (and_right (ltb r n) (leb r 182) e))

pub returns-then-rest-eq0-clause-steps : goal.returns-then-rest-eq0-clause-steps
returns-then-rest-eq0-clause-steps c =
    let e = none c.args.self.now.under_way c.args.self.now.rest.now c.if-rest-eq0.true in
    (e, e)

pub returns-then-has_start-clause-steps : goal.returns-then-has_start-clause-steps
returns-then-has_start-clause-steps c =
    let s = c.args.self.now in
    let b = begun (goal.at.returns-then-has_start-clause-steps c).Then-has_start in
    let h = c.hand_out.ensures in
    more s.under_way s.rest.now (some s.rest.now c.if-rest-eq0.false) _
    (start_is s.rest.now s.under_way _ _ b.0 b.1 (omega (arith, c.min-n.ensures)) c.left_after-left.ensures)
    c.hand_out.result c.hand_out.new.self (ap₂ load_with h.piece.0 h.piece.1) h.rest.0 h.rest.1

pub returns-then-has_start-clause-goes : goal.returns-then-has_start-clause-goes
returns-then-has_start-clause-goes c =
    record {
      on = λ f. (tt, tt, omega (arith, ap length (returns-then-has_start-clause-steps c)));
      keeps = tt;
      rests = λ f. tt;
    }

pub returns-clause-steps : goal.returns-clause-steps
returns-clause-steps c =
    let s = c.args.self.now in
    let h = c.hand_out-2.ensures in
    more s.under_way s.rest.now (some s.rest.now c.if-rest-eq0.false) _
    (plain-is s.rest.now s.under_way _ _ (sym c.has_start.ensures ∙ c.if-has_start.false) (omega (arith, c.min.ensures, c.min-n-2.ensures)) c.saturating_sub.ensures)
    c.hand_out-2.result c.hand_out-2.new.self (ap₂ load_with h.piece.0 h.piece.1) h.rest.0 h.rest.1

pub returns-clause-goes : goal.returns-clause-goes
returns-clause-goes c =
    record {
      on = λ f. (tt, tt, omega (arith, ap length (returns-clause-steps c)));
      keeps = tt;
      rests = λ f. tt;
    }
