-- `packet::read` meets its contract: a chain of early returns in the order of the definition's list, and then the header's
-- fields.
use Rattle.std.proofs.Common.{◌≡◌, ℕ, ◌-◌, not, List, length, take, drop, sym, ap, ◌∙◌, ap₂, le-ltb, lt-ltb, eq-eqb, ne_eqb, rules}
use Rattle.refusals.specs.Checks.{Check}
use Rattle.refusals.specs.declared.Refusal.TheVariants.{SliceUnder10, LengthUnlikePayloadLen, CrcWrong, ReservedBitSet, ReservedType, PadBitsSet}
use Rattle.refusals.proofs.CheckLaws.{Clear, first-at, first-none}
use Rattle.packet.proofs.FieldLaws.{payload-part}
use Rattle.packet.specs.Layout.{reserved_type, pad_set}
use Rattle.packet.proofs.RoundTrips.{read-told, read-accepted}
use Rattle.packet.specs.Read.{field, header_of, payload_of, read_checks}
use Rattle.packet.specs.declared.Header.{Header}
use Rattle.packet.proofs.read.Goals as goal
use Rattle.packet.proofs.read.Goals.{After-pad_set, After-reserved_type, Else-not-holds, Else-pad_set, Else-reserved_set, Else-reserved_type, Else-s-lt10, Else-s-size, Start}

abbrev checks : Start → List Check
checks c = read_checks c.args.s.now

kind-judged : (c : After-reserved_type) → c.reserved_type.result ≡ reserved_type (field 0 c.args.s.now)
unfolding header_of
kind-judged c = c.reserved_type.ensures ∙ ap (λ (h : Header). reserved_type h.kind) c.header_of-h.ensures

lent : (c : Else-reserved_type) → take (length c.args.s.now - 4 - 6) (drop 6 c.args.s.now) ≡ payload_of c.args.s.now
lent c =
    payload-part c.args.s.now (search rules) c.if-s-lt10.false
    (c.if-s-size.false ∙ c.front_length-size.ensures)

pad-judged : (c : After-pad_set) → c.pad_set.result ≡ pad_set (field 5 c.args.s.now) (payload_of c.args.s.now)
unfolding header_of
pad-judged c =
    c.pad_set.ensures ∙ ap₂ (λ (h : Header) (l : List ℕ). pad_set h.bits l) c.header_of-h.ensures (lent (goal.at.After-pad_set c).Else-reserved_type)

past1 : (c : Else-s-lt10) → Clear 1 (checks (goal.at.Else-s-lt10 c).Start)
unfolding read_checks
past1 c = (tt, le-ltb _ _ c.if-s-lt10.false)

past2 : (c : Else-s-size) → Clear 2 (checks (goal.at.Else-s-size c).Start)
unfolding read_checks
past2 c = (past1 (goal.at.Else-s-size c).Else-s-lt10, ap not (eq-eqb _ _ (c.if-s-size.false ∙ c.front_length-size.ensures)))

past3 : (c : Else-not-holds) → Clear 3 (checks (goal.at.Else-not-holds c).Start)
unfolding read_checks
past3 c = (past2 (goal.at.Else-not-holds c).Else-s-size, ap not (sym c.holds.ensures ∙ c.if-not-holds.false))

past4 : (c : Else-reserved_set) → Clear 4 (checks (goal.at.Else-reserved_set c).Start)
unfolding read_checks
past4 c = (past3 (goal.at.Else-reserved_set c).Else-not-holds, sym c.reserved_set.ensures ∙ c.if-reserved_set.false)

past5 : (c : Else-reserved_type) → Clear 5 (checks (goal.at.Else-reserved_type c).Start)
unfolding read_checks
past5 c = (past4 (goal.at.Else-reserved_type c).Else-reserved_set, sym (kind-judged (goal.at.Else-reserved_type c).After-reserved_type) ∙ c.if-reserved_type.false)

past6 : (c : Else-pad_set) → Clear 6 (checks (goal.at.Else-pad_set c).Start)
unfolding read_checks
past6 c = (past5 (goal.at.Else-pad_set c).Else-reserved_type, sym (pad-judged (goal.at.Else-pad_set c).After-pad_set) ∙ c.if-pad_set.false)

pub returns-then-s-lt10 : goal.returns-then-s-lt10
unfolding read_checks
returns-then-s-lt10 c =
    read-told _ SliceUnder10 (first-at 0 (checks (goal.at.returns-then-s-lt10 c).Start) tt (lt-ltb _ _ c.if-s-lt10.true))

pub returns-then-s-size : goal.returns-then-s-size
unfolding read_checks
returns-then-s-size c =
    read-told _ LengthUnlikePayloadLen (first-at 1 (checks (goal.at.returns-then-s-size c).Start) (past1 (goal.at.returns-then-s-size c).Else-s-lt10) (ap not (ne_eqb _ _ (λ e. c.if-s-size.true (e ∙ sym c.front_length-size.ensures)))))

pub returns-then-not-holds : goal.returns-then-not-holds
unfolding read_checks
returns-then-not-holds c =
    read-told _ CrcWrong (first-at 2 (checks (goal.at.returns-then-not-holds c).Start) (past2 (goal.at.returns-then-not-holds c).Else-s-size) (ap not (sym c.holds.ensures ∙ c.if-not-holds.true)))

pub returns-then-reserved_set : goal.returns-then-reserved_set
unfolding read_checks
returns-then-reserved_set c =
    read-told _ ReservedBitSet (first-at 3 (checks (goal.at.returns-then-reserved_set c).Start) (past3 (goal.at.returns-then-reserved_set c).Else-not-holds) (sym c.reserved_set.ensures ∙ c.if-reserved_set.true))

pub returns-then-reserved_type : goal.returns-then-reserved_type
unfolding read_checks
returns-then-reserved_type c =
    read-told _ ReservedType (first-at 4 (checks (goal.at.returns-then-reserved_type c).Start) (past4 (goal.at.returns-then-reserved_type c).Else-reserved_set) (sym (kind-judged (goal.at.returns-then-reserved_type c).After-reserved_type) ∙ c.if-reserved_type.true))

pub returns-then-pad_set : goal.returns-then-pad_set
unfolding read_checks
returns-then-pad_set c =
    read-told _ PadBitsSet (first-at 5 (checks (goal.at.returns-then-pad_set c).Start) (past5 (goal.at.returns-then-pad_set c).Else-reserved_type) (sym (pad-judged (goal.at.returns-then-pad_set c).After-pad_set) ∙ c.if-pad_set.true))

pub returns : goal.returns
unfolding read_checks
returns c =
    rw c.header_of-h.ensures (sym (read-accepted c.args.s.now (sym (first-none (checks (goal.at.returns c).Start) (past6 c)))))
