-- `lines::lay_lines` meets its contract.
use Rattle.std.proofs.Common.{◌≡◌, ◌+◌, ◌*◌, ◌≤◌, List, ◌∷◌, length, refl, sym, ap, ◌∙◌, arith, length-append, ℕ, subst}
use Rattle.packet.specs.Read.{Packet}
use Rattle.packet.specs.Cut.{AllWhole, cut, joined, shown, coming}
use Rattle.packet.proofs.CutLaws.{cut-cuts}
use Rattle.packet.proofs.BatchLaws.{parts-same, parts-next, parts-end, parts-flaw}
use Rattle.text.specs.Laid.{laid, appended}
use Rattle.lines.specs.Lines.{line_by, line_of, lines_of}
use Rattle.lines.proofs.LineLaws.{no-lines, nothing_left, left-room, left-good}
use Rattle.lines.proofs.lay_lines.Goals as goal
use Rattle.lines.proofs.lay_lines.Goals.{In-Ok}

-- the packets of a cut are no longer than its bytes
room : (s : List ℕ) → length (joined (cut s).packets) ≤ length s
room s =
    let c = cut-cuts s in
    omega (arith, sym (length-append (joined (cut s).packets) (cut s).rest) ∙ ap length c.bytes)

-- a packet's line is laid in front of those behind it, and leaves room for them
turn : (l : List ℕ) {p : List ℕ} {ps : List (List ℕ)} → (cut l).packets ≡ p ∷ ps → (w : ℕ) (m : List ℕ) → w + 2 * length (joined (cut l).packets) ≤ length m
    → (v : ℕ) (n : List ℕ) → record { at = v; lines = n } ≡ appended (line_of p) w m
    → (v + 2 * length (joined ps) ≤ length n) × (laid (lines_of ps) v n ≡ laid (lines_of (cut l).packets) w m)
turn l {p} {ps} e w m h v n f =
    let whole : AllWhole (p ∷ ps) = subst AllWhole e (cut-cuts l).whole in
    let k : w + 2 * length (joined (p ∷ ps)) ≤ length m = subst (λ (qs : List (List ℕ)). w + 2 * length (joined qs) ≤ length m) e h in
    (left-room p ps whole.0 w m k v n f, left-good p ps whole.0 w m k v n f ∙ ap (λ (qs : List (List ℕ)). laid (lines_of qs) w m) (sym e))

-- what is left is a good packet and what is left behind it
next : (c : In-Ok) → (cut c.loop-packet.packet-iterator.rest.now).packets ≡ c.in-Ok.packet.now ∷ (cut c.next.new.self.rest.now).packets
next c =
    parts-next _ _ _ (c.in-Some.ensures.steps ∙ ap (λ x. shown x ∷ coming c.next.new.self) c.in-Ok.is)

pub loop-packet-init : goal.loop-packet-init
loop-packet-init c =
    let s = c.args.s.now in
    let e = parts-same c.into_iter-packet-iterator.result.rest.now s (ap coming c.into_iter-packet-iterator.ensures.into_iter_gives ∙ c.of-packet-items.ensures) in
    (omega (arith, ap (λ (ps : List (List ℕ)). length (joined ps)) e, room s, c.requires), refl, ap (λ (ps : List (List ℕ)). laid (lines_of ps) c.args.text.now.at c.args.text.now.lines.now) e)

pub returns-in_default : goal.returns-in_default
returns-in_default c =
    let l = c.loop-packet in
    (l.invariant.1, nothing_left l.packet-iterator.rest.now l.text.at l.text.lines.now (no-lines _ (parts-flaw _ _ _ (c.in-Some.ensures.steps ∙ ap (λ x. shown x ∷ coming c.next.new.self) c.in_default.is))) ∙ l.invariant.2)

pub loop-packet-preserved : goal.loop-packet-preserved
loop-packet-preserved c =
    let l = c.loop-packet in
    let t = turn l.packet-iterator.rest.now (next (goal.at.loop-packet-preserved c).In-Ok) l.text.at l.text.lines.now l.invariant.0 _ _ (c.lay_line.ensures.1 ∙ ap (λ (p : Packet). appended (line_by p) l.text.at l.text.lines.now) c.read-read.ensures) in
    (t.0, c.lay_line.ensures.0 ∙ l.invariant.1, t.1 ∙ l.invariant.2)

pub returns : goal.returns
returns c =
    let l = c.loop-packet in
    (l.invariant.1, nothing_left l.packet-iterator.rest.now l.text.at l.text.lines.now (no-lines _ (parts-end _ c.in-None.ensures.steps.0)) ∙ l.invariant.2)
