-- `text::Text::word` meets its contract: the digits are appended, and the byte behind them.
use borrow.Author.Tests.{leb-true}
use lib.ListN.{length}
use mathlib.Core.Path.{◌≡◌, refl, sym, ap, subst, ◌∙◌}
use mathlib.Core.List.{[], ◌∷◌}
use Prim.Native.Nat.{ℕ, ◌+◌, ◌≤◌}
use native.Mathlib.Omega.{arith}
use lib.Dec.{leb}
use Rattle.text.specs.Digits.{digits}
use Rattle.text.specs.Laid.{word, Appends}
use Rattle.text.proofs.DigitLaws.{decimal_is_digits}
use Rattle.text.proofs.LayLaws.{appended-not, appends_next, word-length}
use Rattle.text.proofs.Text.word.Goals as goal
use Rattle.text.proofs.Text.word.Goals.{After-as_bytes-digits}

the_digits : (d : After-as_bytes-digits) → d.as_bytes-digits.result.now ≡ digits d.args.n
the_digits d = d.as_bytes-digits.ensures.value ∙ d.format.ensures.text ∙ decimal_is_digits d.args.n d.ranges.n.fits

pub returns-then-within : goal.returns-then-within
unfolding word
returns-then-within c =
    let t = c.args.self.now in
    let e = the_digits (goal.at.returns-then-within c).After-as_bytes-digits in
    let fits : t.at + (length c.as_bytes-digits.result.now + 1) ≤ length t.lines.now = leb-true _ _ (sym c.within.ensures ∙ c.if-within.true) in
    appends_next (digits c.args.n) (c.args.end ∷ []) t c.append.new.self c.append-then-within.new.self (omega (arith, fits, ap length e)) (subst (λ p. Appends p t c.append.new.self) e c.append.ensures) c.append-then-within.ensures

pub returns-else-within : goal.returns-else-within
returns-else-within c =
    let t = c.args.self.now in
    let e = the_digits (goal.at.returns-else-within c).After-as_bytes-digits in
    let n : length c.as_bytes-digits.result.now + 1 ≡ length (word c.args.n c.args.end) = omega (arith, word-length c.args.n c.args.end, ap length e) in
    (refl, sym (appended-not (word c.args.n c.args.end) t.at t.lines.now (ap (λ (k : ℕ). leb (t.at + k) (length t.lines.now)) (sym n) ∙ sym c.within.ensures ∙ c.if-within.false)))
