-- `mip::reading::checked` meets its contract: a chain of early returns in the order of the definition's list.
use borrow.Author.Tests.{eq-eqb, ne_eqb}
use mathlib.Core.Path.{◌≡◌, sym, ap, ◌∙◌}
use mathlib.Core.Bool.{false, not}
use mathlib.Core.List.{List, [], ◌∷◌}
use Prim.Native.Nat.{ℕ, ◌+◌, ◌-◌}
use lib.ListN.{length, take, drop}
use Rattle.addressing.specs.Data.{Fault, house, fault_of, fault}
use Rattle.refusals.proofs.AnswerLaws.{code-exit}
use Rattle.crc.specs.Crc.{crc_holds}
use Rattle.refusals.specs.Checks.{◌when◌, first}
use Rattle.refusals.proofs.CheckLaws.{Clear, first-at, first-none, first-front, none-holds}
use Rattle.refusals.proofs.NumberLaws.{number-not-0}
use Rattle.mip.proofs.FieldLaws.{header_judged, crc_part, stuffing_part, addressing_part}
use Rattle.mip.specs.Read.{section_wrong, crc_wrong, stuffing_wrong, not_all_ones, addressing_length, addressing_of, read_checks, mip_of, lead_of}
use Rattle.mip.specs.Timing.{time_checks}
use Rattle.mip.specs.declared.reading.Lead.{Lead}
use Rattle.mip.proofs.reading.checked.Goals as goal
use Rattle.mip.proofs.reading.checked.Goals.{After-check, After-from-end, After-holds, After-lead_of-lead, After-stuffing_wrong, Else-stuffing_wrong, In_ok-check_times}

-- what is passed, of the packet whose fields were read
module _ (p : List ℕ) (l : Lead) (read : l ≡ lead_of p) (size : length p ≡ 188) where
  past1 : Clear 1 (read_checks p)
  unfolding read_checks
  past1 = (tt, ap not (eq-eqb _ _ size))

  module _ (sync : l.sync ≡ 0x47) where
    past2 : Clear 2 (read_checks p)
    unfolding read_checks
    past2 = (past1, ap not (eq-eqb _ _ (sym (ap (λ (x : Lead). x.sync) read) ∙ sync)))

    module _ (fixed : l.fixed ≡ 0x6_0151) where
      past3 : Clear 3 (read_checks p)
      unfolding read_checks
      past3 = (past2, header_judged p ∙ ap not (eq-eqb _ _ (sym (ap (λ (x : Lead). x.fixed) read) ∙ fixed)))

      module _ (id : l.id ≡ 0) where
        past4 : Clear 4 (read_checks p)
        unfolding read_checks
        past4 = (past3, ap not (eq-eqb _ _ (sym (ap (λ (x : Lead). x.id) read) ∙ id)))

        module _ (section : section_wrong l.section l.addressing ≡ false) where
          past5 : Clear 5 (read_checks p)
          unfolding read_checks
          past5 = (past4, sym (ap (λ (x : Lead). section_wrong x.section x.addressing) read) ∙ section)

          module _ (crc : crc_wrong p ≡ false) where
            past6 : Clear 6 (read_checks p)
            unfolding read_checks
            past6 = (past5, crc)

            -- what the test of the times says is the next two lines
            abbrev times : ℕ
            times = first (time_checks l.mip.stamp l.mip.delay)

            times-refused : (n : ℕ) → n ≡ times → (n ≡ 0 → ⊥) → n ≡ first (read_checks p)
            unfolding read_checks mip_of
            times-refused n e h =
                let q = past6 in
                let f = e ∙ ap (λ (x : Lead). first (time_checks x.mip.stamp x.mip.delay)) read in
                f
                ∙ sym (rw (q.0.0.0.0.0.1, q.0.0.0.0.1, q.0.0.0.1, q.0.0.1, q.0.1, q.1)
                (first-front (time_checks (lead_of p).mip.stamp (lead_of p).mip.delay) (35 when stuffing_wrong p ∷ fault house (addressing_of p) ∷ []) (λ z. h (f ∙ z))))

            past8 : 0 ≡ times → Clear 8 (read_checks p)
            unfolding read_checks mip_of
            past8 e =
                let n = none-holds (time_checks (lead_of p).mip.stamp (lead_of p).mip.delay) tt (sym (ap (λ (x : Lead). first (time_checks x.mip.stamp x.mip.delay)) read) ∙ sym e) in
                ((past6, n.0), n.1.0)

-- the fields, the length and the CRC, by what the calls said
lead-read : (c : After-lead_of-lead) → c.lead_of-lead.result ≡ lead_of c.args.packet.now
lead-read c = c.lead_of-lead.ensures ∙ ap lead_of c.in-Some.ensures.cases.same

length-read : (c : After-from-end) → c.from-end.result ≡ addressing_length c.args.packet.now
length-read c =
    c.from-end.ensures ∙ ap (λ (l : Lead). l.addressing) (lead-read (goal.at.After-from-end c).After-lead_of-lead)

crc-judged : (c : After-holds) → crc_wrong c.args.packet.now ≡ not c.holds.result
crc-judged c =
    ap not (ap crc_holds (sym (crc_part c.args.packet.now _ (length-read (goal.at.After-holds c).After-from-end))) ∙ sym c.holds.ensures)

stuffing-judged : (c : After-stuffing_wrong) → stuffing_wrong c.args.packet.now ≡ c.stuffing_wrong.result
stuffing-judged c =
    ap not_all_ones (sym (stuffing_part c.args.packet.now _ (length-read (goal.at.After-stuffing_wrong c).After-from-end))) ∙ sym c.stuffing_wrong.ensures

pub returns-in_default-clause-refusal : goal.returns-in_default-clause-refusal
unfolding read_checks
returns-in_default-clause-refusal c =
    first-at 0 (read_checks c.args.packet.now) tt (ap not (ne_eqb _ _ c.in_default.ensures.cases))

pub returns-then-lead-ne71-clause-refusal : goal.returns-then-lead-ne71-clause-refusal
unfolding read_checks
returns-then-lead-ne71-clause-refusal c =
    let read = lead-read (goal.at.returns-then-lead-ne71-clause-refusal c).After-lead_of-lead in
    first-at 1 (read_checks c.args.packet.now) (past1 _ _ read c.in-Some.ensures.cases.long)
    (ap not (ne_eqb _ _ (λ e. c.if-lead-ne71.true (ap (λ (l : Lead). l.sync) read ∙ e))))

pub returns-then-lead-ne-FIXED-clause-refusal : goal.returns-then-lead-ne-FIXED-clause-refusal
unfolding read_checks
returns-then-lead-ne-FIXED-clause-refusal c =
    let read = lead-read (goal.at.returns-then-lead-ne-FIXED-clause-refusal c).After-lead_of-lead in
    first-at 2 (read_checks c.args.packet.now) (past2 _ _ read c.in-Some.ensures.cases.long c.if-lead-ne71.false)
    (header_judged c.args.packet.now ∙ ap not (ne_eqb _ _ (λ e. c.if-lead-ne-FIXED.true (ap (λ (l : Lead). l.fixed) read ∙ e))))

pub returns-then-lead-ne0-clause-refusal : goal.returns-then-lead-ne0-clause-refusal
unfolding read_checks
returns-then-lead-ne0-clause-refusal c =
    let read = lead-read (goal.at.returns-then-lead-ne0-clause-refusal c).After-lead_of-lead in
    first-at 3 (read_checks c.args.packet.now) (past3 _ _ read c.in-Some.ensures.cases.long c.if-lead-ne71.false c.if-lead-ne-FIXED.false)
    (ap not (ne_eqb _ _ (λ e. c.if-lead-ne0.true (ap (λ (l : Lead). l.id) read ∙ e))))

pub returns-then-section_wrong-clause-refusal : goal.returns-then-section_wrong-clause-refusal
unfolding read_checks
returns-then-section_wrong-clause-refusal c =
    let read = lead-read (goal.at.returns-then-section_wrong-clause-refusal c).After-lead_of-lead in
    first-at 4 (read_checks c.args.packet.now) (past4 _ _ read c.in-Some.ensures.cases.long c.if-lead-ne71.false c.if-lead-ne-FIXED.false c.if-lead-ne0.false)
    (sym (ap (λ (l : Lead). section_wrong l.section l.addressing) read) ∙ sym c.section_wrong.ensures ∙ c.if-section_wrong.true)

pub returns-then-not-holds-clause-refusal : goal.returns-then-not-holds-clause-refusal
unfolding read_checks
returns-then-not-holds-clause-refusal c =
    let at = (goal.at.returns-then-not-holds-clause-refusal c).After-holds in
    let read = lead-read (goal.at.After-holds at).After-lead_of-lead in
    let section = sym c.section_wrong.ensures ∙ c.if-section_wrong.false in
    first-at 5 (read_checks c.args.packet.now) (past5 _ _ read c.in-Some.ensures.cases.long c.if-lead-ne71.false c.if-lead-ne-FIXED.false c.if-lead-ne0.false section)
    (crc-judged at ∙ ap not c.if-not-holds.true)

pub returns-in_err-check_times-clause-refusal : goal.returns-in_err-check_times-clause-refusal
returns-in_err-check_times-clause-refusal c =
    let at = (goal.at.returns-in_err-check_times-clause-refusal c).After-holds in
    let read = lead-read (goal.at.After-holds at).After-lead_of-lead in
    let section = sym c.section_wrong.ensures ∙ c.if-section_wrong.false in
    let crc = crc-judged at ∙ ap not c.if-not-holds.false in
    code-exit _ _ c.from_residual.ensures.1
    ∙ (times-refused _ _ read c.in-Some.ensures.cases.long c.if-lead-ne71.false c.if-lead-ne-FIXED.false c.if-lead-ne0.false section crc _ c.in_err-check_times.ensures (number-not-0 _))

late : (c : In_ok-check_times) → Clear 8 (read_checks c.args.packet.now)
late c =
    let at = (goal.at.In_ok-check_times c).After-holds in
    let read = lead-read (goal.at.After-holds at).After-lead_of-lead in
    let section = sym c.section_wrong.ensures ∙ c.if-section_wrong.false in
    let crc = crc-judged at ∙ ap not c.if-not-holds.false in
    past8 _ _ read c.in-Some.ensures.cases.long c.if-lead-ne71.false c.if-lead-ne-FIXED.false c.if-lead-ne0.false section crc c.in_ok-check_times.ensures

pub returns-then-stuffing_wrong-clause-refusal : goal.returns-then-stuffing_wrong-clause-refusal
unfolding read_checks
returns-then-stuffing_wrong-clause-refusal c =
    let at = (goal.at.returns-then-stuffing_wrong-clause-refusal c).After-stuffing_wrong in
    first-at 8 (read_checks c.args.packet.now) (late (goal.at.After-stuffing_wrong at).In_ok-check_times) (stuffing-judged at ∙ c.if-stuffing_wrong.true)

-- past the stuffing the data is judged
last : (c : Else-stuffing_wrong) → Clear 9 (read_checks c.args.packet.now)
unfolding read_checks
last c =
    let at = (goal.at.Else-stuffing_wrong c).After-stuffing_wrong in
    (late (goal.at.After-stuffing_wrong at).In_ok-check_times, stuffing-judged at ∙ c.if-stuffing_wrong.false)

data-judged : (c : After-check) (f : Fault) → f ≡ fault_of house (take (21 + c.from-end.result - 21) (drop 21 c.args.packet.now)) → f.refusal ≡ (fault_of house (addressing_of c.args.packet.now)).refusal
data-judged c f e =
    ap (λ (x : Fault). x.refusal) (e ∙ ap (fault_of house) (addressing_part c.args.packet.now _ (length-read (goal.at.After-check c).After-from-end)))

pub returns-in_err-check-clause-refusal : goal.returns-in_err-check-clause-refusal
unfolding read_checks
returns-in_err-check-clause-refusal c =
    let at = (goal.at.returns-in_err-check-clause-refusal c).After-check in
    let e = data-judged at _ c.in_err-check.ensures in
    code-exit _ _ c.from_residual-in_err-check.ensures.1
    ∙ (e ∙ first-at 9 (read_checks c.args.packet.now) (last (goal.at.After-check at).Else-stuffing_wrong) (ap not (ne_eqb _ _ (λ z. number-not-0 _ (e ∙ z)))))

pub returns-clause-refusal : goal.returns-clause-refusal
unfolding read_checks
returns-clause-refusal c =
    let at = (goal.at.returns-clause-refusal c).After-check in
    first-none (read_checks c.args.packet.now) (last (goal.at.After-check at).Else-stuffing_wrong, ap not (eq-eqb _ _ (sym (data-judged at _ c.in_ok-check.ensures))))
