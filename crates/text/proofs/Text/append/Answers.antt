-- `text::Text::append` meets its contract: `within` decides, and `copy` lays the whole text.
use borrow.Author.Tests.{leb-true}
use lib.ListN.{length}
use mathlib.Core.Path.{refl, sym, ap, ◌∙◌}
use mathlib.Core.List.{List}
use Prim.Native.Nat.{◌+◌, ◌≤◌}
use native.Mathlib.Omega.{arith}
use Rattle.fields.specs.Parts.{overlay}
use Rattle.fields.proofs.PartLaws.{part-whole, copied-to}
use Rattle.text.proofs.LayLaws.{appended-fits, appended-not}
use Rattle.text.proofs.Text.append.Goals as goal

pub returns-then-within : goal.returns-then-within
returns-then-within c =
    let p : List _ = c.args.text.now in
    let t = c.args.self.now in
    let fits : t.at + length p ≤ length t.lines.now = leb-true _ _ (sym c.within.ensures ∙ c.if-within.true) in
    (refl, rw (appended-fits p t.at t.lines.now fits) (λ i. record { at = t.at + length p; lines = (c.copy.ensures ∙ copied-to t.at (length p) p 0 t.lines.now (omega arith) fits ∙ ap (λ (l : List _). overlay t.at l t.lines.now) (part-whole p)) i }))

pub returns-else-within : goal.returns-else-within
returns-else-within c =
    let t = c.args.self.now in
    (refl, sym (appended-not c.args.text.now t.at t.lines.now (sym c.within.ensures ∙ c.if-within.false)))
