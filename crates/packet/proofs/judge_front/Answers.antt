-- `packet::judge_front` meets its contract where the packet is good: written out, so that the edits are refused by what differs.
use Rattle.std.proofs.Common.{◌≡◌, ℕ, ◌≤◌, true, List, length, take, sym, ap, ◌∙◌, subst, arith}
use Rattle.std.specs.Prelude.{Ok}
use Rattle.crc.specs.Crc.{crc_holds}
use Rattle.packet.proofs.CutLaws.{judged-good}
use Rattle.packet.specs.Layout.{size_of}
use Rattle.packet.specs.Cut.{judge_of}
use Rattle.packet.proofs.judge_front.Goals as goal

good : (s : List ℕ) (size : ℕ) → size ≡ size_of s → size ≤ length s → crc_holds (take size s) ≡ true → judge_of s ≡ Ok size
good s size e h g =
    judged-good s (subst (λ (n : ℕ). n ≤ length s) e h) (subst (λ (n : ℕ). crc_holds (take n s) ≡ true) e g)
    ∙ ap Ok (sym e)

pub returns-then-holds : goal.returns-then-holds
returns-then-holds c =
    sym (good c.args.s.now _ c.front_length-size.ensures (omega arith) (sym c.holds.ensures ∙ c.if-holds.true))
