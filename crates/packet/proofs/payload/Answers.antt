-- `packet::payload` meets its contract: what lies between the header and the CRC of an accepted packet.
use Rattle.std.proofs.Common.{◌≡◌, sym, ap, ◌∙◌, arith, rules}
use Rattle.refusals.specs.Checks.{first}
use Rattle.refusals.proofs.NumberLaws.{number-not-0}
use Rattle.packet.proofs.FieldLaws.{payload-part, Readable, readable}
use Rattle.packet.proofs.RoundTrips.{read-shows, read-refused, payload-accepted}
use Rattle.packet.specs.Read.{read_checks, Packet}
use Rattle.packet.proofs.payload.Goals as goal
use Rattle.packet.proofs.payload.Goals.{In-Ok}

-- in this arm the packet is read: its refusal is 0
accepts : (c : In-Ok) → first (read_checks c.args.s.now) ≡ 0
accepts c = sym (ap (λ (p : Packet). p.refusal) c.in-Ok.ensures ∙ read-shows c.args.s.now)

read-well : (c : In-Ok) → Readable c.args.s.now
read-well c = readable c.args.s.now (accepts c)

pub overflow_sub-result : goal.overflow_sub-result
overflow_sub-result c = omega (arith, (read-well c).long)

pub slice_bounds-result-count : goal.slice_bounds-result-count
slice_bounds-result-count c = omega (arith, (read-well c).long)

pub slice_bounds-result-start : goal.slice_bounds-result-start
slice_bounds-result-start c = omega (arith, (read-well c).long)

pub returns-in-Ok : goal.returns-in-Ok
returns-in-Ok c =
    let s = c.args.s.now in
    let r = read-well (goal.at.returns-in-Ok c).In-Ok in
    payload-part s (search rules) r.long r.size ∙ sym (payload-accepted s (accepts (goal.at.returns-in-Ok c).In-Ok))

pub returns-in-Err : goal.returns-in-Err
returns-in-Err c = sym (read-refused c.args.s.now (λ z. number-not-0 _ (ap (λ (p : Packet). p.refusal) c.in-Err.ensures ∙ read-shows c.args.s.now ∙ z))).1
