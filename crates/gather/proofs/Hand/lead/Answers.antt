-- `gather::Hand::lead` meets its contract: each return is one case of the stage up to the start.
use mathlib.Core.Path.{refl, sym, ◌∙◌}
use Rattle.gather.specs.Phases.{in_hand_of}
use Rattle.gather.proofs.JoinLaws.{led-passed, led-nothing, led-strays}
use Rattle.gather.proofs.Hand.lead.Goals as goal

pub returns-then-not-self : goal.returns-then-not-self
returns-then-not-self c =
    (refl, refl, led-passed (in_hand_of c.args.self.now) c.args.d.now c.requires.0 c.if-not-self.true)

pub returns-else-not-is_empty : goal.returns-else-not-is_empty
returns-else-not-is_empty c =
    (refl, refl, led-nothing (in_hand_of c.args.self.now) c.args.d.now c.requires.0 c.if-not-self.false c.if-self-ne0.false (sym c.is_empty.ensures ∙ c.if-not-is_empty.false))

pub returns-then-not-is_empty : goal.returns-then-not-is_empty
returns-then-not-is_empty c =
    let e = c.misfits.ensures in
    (e.0, e.1, e.2 ∙ led-strays (in_hand_of c.args.self.now) c.args.d.now c.requires.0 c.if-not-self.false c.if-self-ne0.false (sym c.is_empty.ensures ∙ c.if-not-is_empty.true))
