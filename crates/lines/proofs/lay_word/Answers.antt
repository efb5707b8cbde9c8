-- `lines::lay_word` meets its contract: the number's digits are pushed, and the byte behind them.
use mathlib.Core.Path.{ap, ◌∙◌}
use mathlib.Core.List.{List, [], ◌∷◌, ◌++◌, append_assoc}
use Prim.Native.Nat.{ℕ}
use Rattle.text.specs.Laid.{word}
use Rattle.text.specs.Digits.{digits}
use Rattle.text.proofs.DigitLaws.{decimal_is_digits}
use Rattle.lines.proofs.lay_word.Goals as goal

pub returns-clause-bytes : goal.returns-clause-bytes
unfolding word
returns-clause-bytes c =
    let a = c.args in
    let l : List ℕ = a.line.now.bytes in
    c.push.ensures.ascii c.requires.1
    ∙ ap (λ (m : List ℕ). m ++ (a.end ∷ [])) (c.push_str.ensures.bytes ∙ ap (λ (m : List ℕ). l ++ m) (c.format.ensures.text ∙ decimal_is_digits a.n c.ranges.n.fits))
    ∙ append_assoc l (digits a.n) (a.end ∷ [])
