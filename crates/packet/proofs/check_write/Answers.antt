-- `packet::check_write` meets its contract: a chain of early returns in the order of the definition's list.
use Rattle.std.proofs.Common.{not, List, sym, ap, ◌∙◌, le-ltb, lt-ltb, eq-eqb, ne_eqb}
use Rattle.refusals.specs.Checks.{Check}
use Rattle.refusals.proofs.CheckLaws.{Clear, first-at, first-none}
use Rattle.packet.specs.Write.{write_checks}
use Rattle.packet.proofs.check_write.Goals as goal
use Rattle.packet.proofs.check_write.Goals.{Else-field_too_wide, Else-pad_set, Else-payload-n, Else-reserved_type, Else-room-size, Start}

abbrev checks : Start → List Check
checks c = write_checks c.args.h c.args.payload.now c.args.room

past1 : (c : Else-reserved_type) → Clear 1 (checks (goal.at.Else-reserved_type c).Start)
unfolding write_checks
past1 c = (tt, sym c.reserved_type.ensures ∙ c.if-reserved_type.false)

past2 : (c : Else-field_too_wide) → Clear 2 (checks (goal.at.Else-field_too_wide c).Start)
unfolding write_checks
past2 c = (past1 (goal.at.Else-field_too_wide c).Else-reserved_type, sym c.field_too_wide.ensures ∙ c.if-field_too_wide.false)

past3 : (c : Else-payload-n) → Clear 3 (checks (goal.at.Else-payload-n c).Start)
unfolding write_checks
past3 c = (past2 (goal.at.Else-payload-n c).Else-field_too_wide, ap not (eq-eqb _ _ (c.if-payload-n.false ∙ c.payload_bytes-n.ensures)))

past4 : (c : Else-pad_set) → Clear 4 (checks (goal.at.Else-pad_set c).Start)
unfolding write_checks
past4 c = (past3 (goal.at.Else-pad_set c).Else-payload-n, sym c.pad_set.ensures ∙ c.if-pad_set.false)

past5 : (c : Else-room-size) → Clear 5 (checks (goal.at.Else-room-size c).Start)
unfolding write_checks
past5 c = (past4 (goal.at.Else-room-size c).Else-pad_set, le-ltb _ _ (rw c.total-size.ensures at c.if-room-size.false))

pub returns-then-reserved_type : goal.returns-then-reserved_type
unfolding write_checks
returns-then-reserved_type c =
    first-at 0 (checks (goal.at.returns-then-reserved_type c).Start) tt (sym c.reserved_type.ensures ∙ c.if-reserved_type.true)

pub returns-then-field_too_wide : goal.returns-then-field_too_wide
unfolding write_checks
returns-then-field_too_wide c =
    first-at 1 (checks (goal.at.returns-then-field_too_wide c).Start) (past1 (goal.at.returns-then-field_too_wide c).Else-reserved_type) (sym c.field_too_wide.ensures ∙ c.if-field_too_wide.true)

pub returns-then-payload-n : goal.returns-then-payload-n
unfolding write_checks
returns-then-payload-n c =
    first-at 2 (checks (goal.at.returns-then-payload-n c).Start) (past2 (goal.at.returns-then-payload-n c).Else-field_too_wide) (ap not (ne_eqb _ _ (λ e. c.if-payload-n.true (e ∙ sym c.payload_bytes-n.ensures))))

pub returns-then-pad_set : goal.returns-then-pad_set
unfolding write_checks
returns-then-pad_set c =
    first-at 3 (checks (goal.at.returns-then-pad_set c).Start) (past3 (goal.at.returns-then-pad_set c).Else-payload-n) (sym c.pad_set.ensures ∙ c.if-pad_set.true)

pub returns-then-room-size : goal.returns-then-room-size
unfolding write_checks
returns-then-room-size c =
    first-at 4 (checks (goal.at.returns-then-room-size c).Start) (past4 (goal.at.returns-then-room-size c).Else-pad_set) (lt-ltb _ _ (rw c.total-size.ensures at c.if-room-size.true))

pub returns : goal.returns
unfolding write_checks
returns c =
    first-none (checks (goal.at.returns c).Start) (past5 c)
