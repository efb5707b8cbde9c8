-- `packet::Packets::next` meets its contract: the first part of what is left, and the parts behind it.
use Rattle.std.proofs.Common.{◌≡◌, ℕ, ◌<◌, true, eqb, List, [], ◌∷◌, length, sym, ap, ap₂, ◌∙◌, arith}
use Rattle.std.specs.Prelude.{Result, Ok, Err}
use borrow.Author.Tests.{eqb-true, eqb-false}
use Rattle.packet.proofs.BatchLaws.{parts-nil, parts_by, parts-judged, Lies, judged-as}
use Rattle.packet.specs.Cut.{judge_of, parts_of}
use Rattle.packet.specs.declared.Flaw.{Flaw}
use Rattle.packet.proofs.PacketsIterator.next.Goals as goal
use Rattle.packet.proofs.PacketsIterator.next.Goals.{Else-is_empty}

-- nothing is left
none : (l : List ℕ) → eqb (length l) 0 ≡ true → parts_of l ≡ []
none [] h = parts-nil
none (x ∷ l) h = absurd (omega (arith, eqb-true _ _ h))

some : (c : Else-is_empty) → 0 < length c.args.self.now.rest.now
some c = least _ (eqb-false _ _ (sym c.is_empty.ensures ∙ c.if-is_empty.false))
  where
    least : (n : ℕ) → (n ≡ 0 → ⊥) → 0 < n
    least n h = omega arith

module _ (l : List ℕ) (h : 0 < length l) (j : Result ℕ Flaw) (e : j ≡ judge_of l) where
  -- the parts by the judgement
  parts : parts_of l ≡ parts_by j l
  parts = parts-judged l h ∙ ap (λ (k : Result ℕ Flaw). parts_by k l) (sym e)

  lies : Lies j l
  lies = rw e (judged-as l h).lies

pub returns-then-is_empty-clause-steps : goal.returns-then-is_empty-clause-steps
returns-then-is_empty-clause-steps c =
    let e = none c.args.self.now.rest.now (sym c.is_empty.ensures ∙ c.if-is_empty.true) in
    (e, e)

pub split_at-requires : goal.split_at-requires
split_at-requires c =
    (lies c.args.self.now.rest.now (some (goal.at.split_at-requires c).Else-is_empty) _ c.in-Ok.ensures).1

pub returns-in-Ok-clause-steps : goal.returns-in-Ok-clause-steps
returns-in-Ok-clause-steps c =
    let l = c.args.self.now.rest.now in
    parts l (some (goal.at.returns-in-Ok-clause-steps c).Else-is_empty) _ c.in-Ok.ensures
    ∙ ap₂ (λ (p q : List ℕ). Ok p ∷ parts_of q) (sym c.split_at.ensures.front) (sym c.split_at.ensures.back)

pub returns-in-Ok-clause-goes : goal.returns-in-Ok-clause-goes
returns-in-Ok-clause-goes c =
    record {
      on = λ f. (tt, tt, omega (arith, ap length (returns-in-Ok-clause-steps c)));
      keeps = tt;
      rests = λ f. tt;
    }

pub returns-in-Err-clause-steps : goal.returns-in-Err-clause-steps
returns-in-Err-clause-steps c =
    let l = c.args.self.now.rest.now in
    parts l (some (goal.at.returns-in-Err-clause-steps c).Else-is_empty) _ c.in-Err.ensures
    ∙ ap (λ (q : List (Result (List ℕ) Flaw)). Err c.in-Err.flaw ∷ q) (sym parts-nil)

pub returns-in-Err-clause-goes : goal.returns-in-Err-clause-goes
returns-in-Err-clause-goes c =
    record {
      on = λ f. (tt, tt, omega (arith, ap length (returns-in-Err-clause-steps c)));
      keeps = tt;
      rests = λ f. tt;
    }
