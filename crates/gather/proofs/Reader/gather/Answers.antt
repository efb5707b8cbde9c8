-- `gather::Reader::gather` meets its contract: past the refusals each stage's contract speaks of what the one before it left,
-- and the lengths that were judged give each its room.
use borrow.Author.Rules.{rules}
use lib.ListN.{length, take, drop, length-drop}
use mathlib.Core.Path.{◌≡◌, sym, ap, ◌∙◌}
use mathlib.Core.Bool.{true}
use mathlib.Core.List.{List}
use Prim.Native.Nat.{ℕ, ◌+◌, ◌-◌, ◌≤◌, ◌<◌}
use native.Mathlib.Omega.{arith}
use Rattle.std.specs.Prelude.{Some, Ok, is_some}
use Rattle.fields.specs.Numbers.{Bytes}
use Rattle.transport.specs.Header.{count_of, starts, payload_at, pointer_of}
use Rattle.transport.specs.Look.{Looked}
use Rattle.gather.specs.Rules.{Hand, rule_one}
use Rattle.gather.specs.Gather.{in_hand, gathered_told, taken_of, gather_of}
use Rattle.gather.specs.Phases.{numbers, Ready, in_hand_of}
use Rattle.gather.proofs.RefusalLaws.{Passed, passed, fit_parts, payload-from, payload-in, start-in}
use Rattle.gather.proofs.EnterLaws.{Stands, rule-stands}
use Rattle.gather.proofs.StartLaws.{from_on}
use Rattle.gather.proofs.GatherLaws.{gather-exit, gather-taken, taken_start, taken-plain}
use Rattle.gather.proofs.Reader.gather.Goals as goal
use Rattle.gather.proofs.Reader.gather.Goals.{After-enter-hand, In_ok-seen, In-Some, in-Some, in-None}

-- nothing was refused
free : (k : In_ok-seen) → Passed k.args.self.now k.args.transport.now (length k.args.gathering.now) (length k.args.output.now)
free k = passed _ _ _ _ (sym k.in_ok-seen.ensures.0)

few : (k : In_ok-seen) → k.args.self.now.waiting ≤ 8201
few k = (fit_parts k.args.self.now (free k).fit).few

-- what was found is what stands in it
count-is : (k : In_ok-seen) → k.in_ok-seen.seen.count ≡ count_of k.args.transport.now
count-is k = ap (λ (x : Looked). x.count) k.in_ok-seen.ensures.1

payload-is : (k : In_ok-seen) → k.in_ok-seen.seen.payload ≡ payload_at k.args.transport.now
payload-is k = ap (λ (x : Looked). x.payload) k.in_ok-seen.ensures.1

begins-is : (k : In_ok-seen) → is_some k.in_ok-seen.seen.pointer ≡ starts k.args.transport.now
begins-is k = ap (λ (x : Looked). x.begins) k.in_ok-seen.ensures.1

pointer_is : (k : In_ok-seen) (p : ℕ) → k.in_ok-seen.seen.pointer ≡ Some p → p ≡ pointer_of k.args.transport.now
pointer_is k p h =
    let b : true ≡ starts k.args.transport.now = rw h at (begins-is k) in
    rw (h, ← b) at (ap (λ (x : Looked). x.pointer) k.in_ok-seen.ensures.1)

-- where the payload begins
place : (k : In_ok-seen) → (4 ≤ k.in_ok-seen.seen.payload) × (k.in_ok-seen.seen.payload < 188)
place k =
    let t = k.args.transport.now in
    omega (arith, payload-is k, payload-from t, payload-in t (free k).field)

-- with a start, the byte pointed at lies in the packet
begun : (k : In_ok-seen) (p : ℕ) → k.in_ok-seen.seen.pointer ≡ Some p → starts k.args.transport.now ≡ true
begun k p h = sym (rw h at (begins-is k))

pointed : (q : In-Some) → q.in_ok-seen.seen.payload + 1 + q.in-Some.pointer < length q.args.transport.now
pointed q =
    let k = (goal.at.In-Some q).In_ok-seen in
    omega (arith, payload-is k, pointer_is k q.in-Some.pointer q.in-Some.is, (free k).whole, start-in q.args.transport.now (begun k q.in-Some.pointer q.in-Some.is) (free k).aims)

-- what lies from a place on
onward : (n : ℕ) (t : List ℕ) → length (take (length t - n) (drop n t)) ≡ length t - n
onward n t = ap length (from_on n t) ∙ length-drop n t

-- what rule 1 left, and the room
abbrev left : After-enter-hand → Hand
left m = rule_one m.args.self.now.last (count_of m.args.transport.now) (in_hand m.args.self.now m.args.gathering.now)

stands : (m : After-enter-hand) → Stands (numbers (left m)) m.args.gathering.now (left m)
stands m =
    let k = (goal.at.After-enter-hand m).In_ok-seen in
    rule-stands m.args.self.now (count_of m.args.transport.now) m.args.gathering.now (few k) (free k).roomy

entered : (m : After-enter-hand) → in_hand_of m.enter-hand.result ≡ record { held = numbers (left m); gathering = m.args.gathering.now; output = m.args.output.now }
entered m =
    let k = (goal.at.After-enter-hand m).In_ok-seen in
    let a = m.args in
    m.enter-hand.ensures.holds
    ∙ ap (λ (n : ℕ). record { held = numbers (rule_one a.self.now.last n (in_hand a.self.now a.gathering.now)); gathering = a.gathering.now; output = a.output.now }) (count-is k)

ready : (m : After-enter-hand) → Bytes m.args.gathering.now → Ready (in_hand_of m.enter-hand.result)
ready m b =
    let k = (goal.at.After-enter-hand m).In_ok-seen in
    rw (entered m) (record { entered = (stands m).entered; roomy = (free k).roomy; spacious = (free k).spacious; bytes = b })

pub returns-in_err-seen : goal.returns-in_err-seen
returns-in_err-seen c =
    let a = c.args in
    gather-exit a.self.now a.transport.now a.gathering.now a.output.now c.from_residual.result _ c.from_residual.ensures.1 c.in_err-seen.ensures.0

pub enter-hand-requires : goal.enter-hand-requires
enter-hand-requires c =
    let k = (goal.at.enter-hand-requires c).In_ok-seen in
    omega (arith, few k, (free k).roomy)

pub overflow_add-seen : goal.overflow_add-seen
overflow_add-seen c = omega (arith, place (goal.at.overflow_add-seen c).In_ok-seen)

pub slice_bounds-split_at-count : goal.slice_bounds-split_at-count
slice_bounds-split_at-count c = omega (arith, pointed (goal.at.slice_bounds-split_at-count c).In-Some)

pub slice_bounds-split_at-start : goal.slice_bounds-split_at-start
slice_bounds-split_at-start c = omega (arith, pointed (goal.at.slice_bounds-split_at-start c).In-Some)

pub split_at-requires : goal.split_at-requires
split_at-requires c =
    let q = (goal.at.split_at-requires c).In-Some in
    omega (arith, onward (c.in_ok-seen.seen.payload + 1) c.args.transport.now, pointed q)

pub with_start-requires : goal.with_start-requires
with_start-requires c =
    let q = (goal.at.with_start-requires c).In-Some in
    let k = (goal.at.In-Some q).In_ok-seen in
    let n = onward (c.in_ok-seen.seen.payload + 1) c.args.transport.now in
    let f = c.split_at.ensures.front_len in
    let b = c.split_at.ensures.back_len in
    (ready (goal.at.with_start-requires c).After-enter-hand (search rules), omega (arith, f, pointed q, (free k).whole), omega (arith, b, n, pointed q, place k, (free k).whole))

pub slice_bounds-lead-count : goal.slice_bounds-lead-count
slice_bounds-lead-count c =
    let k = (goal.at.slice_bounds-lead-count c).In_ok-seen in
    omega (arith, place k, (free k).whole)

pub slice_bounds-lead-start : goal.slice_bounds-lead-start
slice_bounds-lead-start c =
    let k = (goal.at.slice_bounds-lead-start c).In_ok-seen in
    omega (arith, place k, (free k).whole)

pub lead-requires : goal.lead-requires
lead-requires c =
    let k = (goal.at.lead-requires c).In_ok-seen in
    (ready (goal.at.lead-requires c).After-enter-hand (search rules), omega (arith, onward c.in_ok-seen.seen.payload c.args.transport.now, (free k).whole))

pub returns : goal.returns
returns c =
    let k = (goal.at.returns c).In_ok-seen in
    let m = (goal.at.returns c).After-enter-hand in
    let a = c.args in
    let n = c.in_ok-seen.seen.payload in
    let h = c.match-seen.hand in
    let same_gathering : h.gathering.ghost_name ≡ _ =
    elim c.match-seen.branch [
      | in-Some w ↦ ap (λ x. x.gathering.ghost_name) w.hand-is ∙ w.with_start.ensures.0 ∙ m.enter-hand.ensures.same_gathering
      | in-None w ↦ ap (λ x. x.gathering.ghost_name) w.hand-is ∙ w.lead.ensures.0 ∙ m.enter-hand.ensures.same_gathering
    ] in
    let same_output : h.output.ghost_name ≡ _ =
    elim c.match-seen.branch [
      | in-Some w ↦ ap (λ x. x.output.ghost_name) w.hand-is ∙ w.with_start.ensures.1 ∙ m.enter-hand.ensures.same_output
      | in-None w ↦ ap (λ x. x.output.ghost_name) w.hand-is ∙ w.lead.ensures.1 ∙ m.enter-hand.ensures.same_output
    ] in
    let told : record { answer = gathered_told c.settle.new.self (Ok c.settle.result); gathering = h.gathering.now; output = h.output.now } ≡ taken_of a.self.now a.transport.now a.gathering.now a.output.now =
    elim c.match-seen.branch [
      | in-Some w ↦
          (let p = w.in-Some.pointer in
          let there = from_on (n + 1) a.transport.now in
          taken_start a.self.now a.transport.now a.gathering.now a.output.now (stands m) _ (entered m) (in_hand_of h) _ n c.in_ok-seen.seen.count (payload-is k) (count-is k) c.settle.ensures
          (begun k p w.in-Some.is) p (pointer_is k p w.in-Some.is) _ _ (w.split_at.ensures.front ∙ ap (take p) there) (w.split_at.ensures.back ∙ ap (drop p) there)
          (ap in_hand_of w.hand-is ∙ w.with_start.ensures.2))
      | in-None w ↦
          taken-plain a.self.now a.transport.now a.gathering.now a.output.now (stands m) _ (entered m) (in_hand_of h) _ n c.in_ok-seen.seen.count (payload-is k) (count-is k) c.settle.ensures
          (sym (rw w.in-None.is at (begins-is k))) (rw (stands m).long (omega (arith, (stands m).entered.few, (free k).roomy))) _ (from_on n a.transport.now)
          (ap in_hand_of w.hand-is ∙ w.lead.ensures.2)
    ] in
    let e : record { answer = gathered_told c.settle.new.self (Ok c.settle.result); gathering = h.gathering.now; output = h.output.now } ≡ gather_of a.self.now a.transport.now a.gathering.now a.output.now =
    told ∙ sym (gather-taken a.self.now a.transport.now a.gathering.now a.output.now (sym c.in_ok-seen.ensures.0)) in
    search rules
