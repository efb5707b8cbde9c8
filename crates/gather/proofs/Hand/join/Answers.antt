-- `gather::Hand::join` meets its contract: each return is one case of the stage; the finished packet stands in the gathering
-- buffer as the waiting bytes and the stored ones.
use lib.ListN.{take}
use mathlib.Core.List.{List, ◌++◌}
use mathlib.Core.Path.{◌≡◌, sym, ap, ◌∙◌}
use Prim.Native.Nat.{ℕ, ◌-◌, ◌<◌}
use native.Mathlib.Omega.{arith}
use Rattle.crc.specs.Crc.{crc_holds}
use Rattle.fields.specs.Parts.{overlay, copied_to}
use Rattle.fields.proofs.PartLaws.{copied-front, copied-whole}
use Rattle.gather.specs.Phases.{InHand, in_hand_of, misfits_in, hands_out_in}
use Rattle.gather.proofs.JoinLaws.{Joins, beyond, stands, led-waits, led-fails, led-over, led-even}
use Rattle.gather.proofs.Hand.join.Goals as goal
use Rattle.gather.proofs.Hand.join.Goals.{After-joined_length-size, Else-all-size, After-copy-2}

-- what waits, with d behind it, and its length
joins : (m : After-joined_length-size) → Joins (in_hand_of m.args.self.now) m.args.d.now m.joined_length-size.result
joins m =
    record {
      ready = m.requires.0;
      in-step = m.requires.1;
      some = m.requires.2;
      own = rw m.front.ensures at m.joined_length-size.ensures.0;
      small = m.joined_length-size.ensures.1;
    }

pub returns-then-all-size : goal.returns-then-all-size
returns-then-all-size c =
    let b = in_hand_of c.args.self.now in
    let j = joins (goal.at.returns-then-all-size c).After-joined_length-size in
    let e = c.waits.ensures in (
      e.0,
      e.1,
      e.2 ∙ led-waits b c.args.d.now _ j c.if-all-size.true _
          (c.copy.ensures ∙ copied-whole b.held.waiting c.args.d.now b.gathering (omega (arith, j.small, j.ready.roomy))),
    )

less : (u : Else-all-size) → u.args.self.now.waiting < u.joined_length-size.result
less u = beyond (in_hand_of u.args.self.now) u.args.d.now _ (joins (goal.at.Else-all-size u).After-joined_length-size)

pub overflow_sub-used : goal.overflow_sub-used
overflow_sub-used c = omega (arith, less c)

-- what the gathering buffer holds with the joining bytes stored
stored : (m : After-copy-2) → m.copy-2.new.dst ≡ overlay m.args.self.now.waiting (take (m.joined_length-size.result - m.args.self.now.waiting) m.args.d.now) m.args.self.now.gathering.now
stored m =
    let s = m.args.self.now in
    let j = joins (goal.at.After-copy-2 m).After-joined_length-size in
    m.copy-2.ensures
    ∙ copied-front s.waiting (m.joined_length-size.result - s.waiting) m.args.d.now s.gathering.now (omega arith) (omega (arith, j.small, j.ready.roomy, less (goal.at.After-copy-2 m).Else-all-size))

-- and what the output holds with the packet, which stands in the gathering buffer
written : (m : After-copy-2)
    → copied_to 0 m.joined_length-size.result m.copy-2.new.dst 0 m.args.self.now.output.now ≡ overlay 0 (take m.joined_length-size.result (take m.args.self.now.waiting m.args.self.now.gathering.now ++ m.args.d.now)) m.args.self.now.output.now
written m =
    let s = m.args.self.now in
    let j = joins (goal.at.After-copy-2 m).After-joined_length-size in
    copied-front 0 m.joined_length-size.result m.copy-2.new.dst s.output.now (omega (arith, m.copy-2.auto, j.small, j.ready.roomy)) (omega (arith, j.small, j.ready.spacious))
    ∙ ap (λ (p : List ℕ). overlay 0 p s.output.now) (stands (in_hand_of s) m.args.d.now _ j m.if-all-size.false _ (stored m))

pub returns-then-not-holds : goal.returns-then-not-holds
returns-then-not-holds c =
    let b = in_hand_of c.args.self.now in
    let m = (goal.at.returns-then-not-holds c).After-copy-2 in
    let j = joins (goal.at.After-copy-2 m).After-joined_length-size in
    let there = stands b c.args.d.now _ j c.if-all-size.false _ (stored m) in
    let e = c.crc_fails.ensures in (
      e.0,
      e.1,
      e.2 ∙ led-fails b c.args.d.now _ j c.if-all-size.false _ (stored m)
          (ap crc_holds (sym (c.front-packet.ensures ∙ there)) ∙ sym c.holds.ensures ∙ c.if-not-holds.true),
    )

pub returns-then-size-all : goal.returns-then-size-all
returns-then-size-all c =
    let b = in_hand_of c.args.self.now in
    let m = (goal.at.returns-then-size-all c).After-copy-2 in
    let j = joins (goal.at.After-copy-2 m).After-joined_length-size in
    let there = stands b c.args.d.now _ j c.if-all-size.false _ (stored m) in
    let l = c.lays_out.ensures in
    let h = c.hands_out.ensures in
    let e = c.misfits.ensures in (
      e.0 ∙ h.0 ∙ l.0,
      e.1 ∙ h.1 ∙ l.1,
      e.2
          ∙ ap (λ (x : InHand). record { held = misfits_in x.held; gathering = x.gathering; output = x.output }) h.2
          ∙ ap (λ (x : InHand). record { held = misfits_in (hands_out_in c.joined_length-size.result x.held); gathering = x.gathering; output = x.output }) l.2
          ∙ led-over b c.args.d.now _ j c.if-all-size.false _ (stored m)
          (ap crc_holds (sym (c.front-packet.ensures ∙ there)) ∙ sym c.holds.ensures ∙ c.if-not-holds.false) _ (written m) c.if-size-all.true,
    )

pub returns-else-size-all : goal.returns-else-size-all
returns-else-size-all c =
    let b = in_hand_of c.args.self.now in
    let m = (goal.at.returns-else-size-all c).After-copy-2 in
    let j = joins (goal.at.After-copy-2 m).After-joined_length-size in
    let there = stands b c.args.d.now _ j c.if-all-size.false _ (stored m) in
    let l = c.lays_out.ensures in
    let h = c.hands_out.ensures in (
      h.0 ∙ l.0,
      h.1 ∙ l.1,
      h.2
          ∙ ap (λ (x : InHand). record { held = hands_out_in c.joined_length-size.result x.held; gathering = x.gathering; output = x.output }) l.2
          ∙ led-even b c.args.d.now _ j c.if-all-size.false _ (stored m)
          (ap crc_holds (sym (c.front-packet.ensures ∙ there)) ∙ sym c.holds.ensures ∙ c.if-not-holds.false) _ (written m) c.if-size-all.false,
    )
