-- `functions::function_write` meets its contract: a refusal with the output as it was, or the body over its front.
use mathlib.Core.Path.{sym, ap₂, ◌∙◌}
use mathlib.Core.List.{List}
use Prim.Native.Nat.{ℕ}
use native.Mathlib.Omega.{arith}
use Rattle.refusals.proofs.AnswerLaws.{written-exit}
use Rattle.functions.proofs.Accepted.{writable, at_most, write-accepted}
use Rattle.functions.specs.Write.{Writable, write_of}
use Rattle.functions.proofs.function_write.Goals as goal
use Rattle.functions.proofs.function_write.Goals.{In_ok-check_write}

-- past the test the function is written
well : (c : In_ok-check_write) → Writable c.args.f c.args.bytes.now c.args.out.now
well c = writable _ _ _ (sym c.in_ok-check_write.ensures)

pub returns-in_err-check_write : goal.returns-in_err-check_write
unfolding write_of
returns-in_err-check_write c = written-exit _ _ _ _ _ c.from_residual.ensures.1 c.in_err-check_write.ensures

pub put_body-requires : goal.put_body-requires
put_body-requires c = well (goal.at.put_body-requires c).In_ok-check_write

pub overflow_cast-result : goal.overflow_cast-result
overflow_cast-result c =
    omega (arith, c.body_size.ensures, at_most _ (well (goal.at.overflow_cast-result c).In_ok-check_write).short)

pub returns : goal.returns
returns c =
    let a = c.args in
    sym (write-accepted a.f a.bytes.now a.out.now (sym c.in_ok-check_write.ensures)
    ∙ ap₂ (λ (n : ℕ) (l : List ℕ). record { answer = record { refusal = 0; bytes = n }; out = l })
    (sym c.body_size.ensures)
    (sym c.put_body.ensures))
