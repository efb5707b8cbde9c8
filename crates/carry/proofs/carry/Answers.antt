-- `carry::carry` meets its contract: a refusal, or all transport packets laid.
use lib.ListN.{length}
use mathlib.Core.Path.{◌≡◌, sym, ap, ◌∙◌}
use mathlib.Core.List.{List}
use Prim.Native.Nat.{ℕ, ◌+◌, ◌%◌}
use Rattle.fields.specs.Parts.{overlay}
use Rattle.refusals.proofs.AnswerLaws.{answer-told, answer-accepted}
use Rattle.std.specs.Prelude.{Result, IsErrAnd}
use Rattle.std.proofs.lemmas.Result.{err_from_is_err_and}
use Rattle.refusals.specs.Answers.{answer}
use Rattle.refusals.specs.Refusals.{number_of}
use Rattle.refusals.specs.declared.Refusal.{Refusal}
use Rattle.refusals.specs.Checks.{Check, first}
use Rattle.packet.specs.Cut.{joined}
use Rattle.transport.specs.Load.{Load}
use Rattle.carry.proofs.BatchLaws.{loads-same, Carriable, carriable}
use Rattle.carry.specs.Carry.{Outcome, carried_told, numbered, carry_checks, carry_of}
use Rattle.carry.specs.Building.{Laid}
use Rattle.carry.specs.OnBytes.{loads_from}
use Rattle.carry.specs.declared.Sent.{Sent}
use Rattle.carry.proofs.carry.Goals as goal
use Rattle.carry.proofs.carry.Goals.{In_ok-check_carry}

abbrev outcome : ℕ → ℕ → List ℕ → List Load → Outcome
outcome pid first_count out ls =
    record {
      answer = record { refusal = 0; packets = length ls; next_count = (first_count + length ls) % 16 };
      out = overlay 0 (joined (numbered pid first_count ls)) out;
    }

-- what was laid over the loads of its bytes is what the definition says of its packets
carried-is : (pid first_count : ℕ) (batch out : List ℕ) → first (carry_checks pid first_count batch (length out)) ≡ 0 → Carriable pid first_count batch (length out)
    → (d : Sent) (after : List ℕ) → Laid pid first_count (loads_from 0 batch) out d after
    → record { answer = record { refusal = 0; packets = d.packets; next_count = d.next_count }; out = after } ≡ carry_of pid first_count batch out
unfolding carry_of
carried-is pid first_count batch out h w d after l =
    (λ i. record { answer = record { refusal = 0; packets = l.packets i; next_count = l.next i }; out = l.bytes i })
    ∙ ap (outcome pid first_count out) (loads-same batch w.good)
    ∙ sym (answer-accepted (carry_checks pid first_count batch (length out)) _ _ h)

-- the exit of the `?`
refused : (checks : List Check) (out : List ℕ) (accepted : Outcome) (r : Result Sent Refusal) (e : Refusal) → IsErrAnd r (λ y. y ≡ e) → number_of e ≡ first checks
    → record { answer = carried_told r; out = out } ≡ answer checks (λ n. record { answer = record { refusal = n; packets = 0; next_count = 0 }; out = out }) accepted
refused checks out accepted r e p h = let q = err_from_is_err_and r p in rw (q.1, q.2) (answer-told checks _ accepted e h)

pub returns-in_err-check_carry : goal.returns-in_err-check_carry
unfolding carry_of
returns-in_err-check_carry c = refused _ _ _ _ _ c.from_residual.ensures.1 c.in_err-check_carry.ensures

-- past the checks the batch is carried
well : (c : In_ok-check_carry) → Carriable c.args.pid c.args.first_count c.args.batch.now (length c.args.out.now)
well c = carriable _ _ _ _ (sym c.in_ok-check_carry.ensures)

pub put_pieces-requires : goal.put_pieces-requires
put_pieces-requires c =
    let w = well (goal.at.put_pieces-requires c).In_ok-check_carry in
    record {
      small = (w.count-good, w.short);
      room = rw (loads-same _ w.good) w.roomy;
    }

pub returns : goal.returns
returns c =
    let a = c.args in
    carried-is a.pid a.first_count a.batch.now a.out.now (sym c.in_ok-check_carry.ensures) (well (goal.at.returns c).In_ok-check_carry) _ _ c.put_pieces.ensures
