-- Wrong libraries that demand 1 refuses: each is ours but for one operation, and is refuted by one small input.
-- Assumes nothing.
use mathlib.Core.Path.{◌≡◌, ap}
use mathlib.Core.Bool.{true, cond}
use mathlib.Core.List.{List, [], ◌∷◌}
use Prim.Native.Nat.{ℕ}
use native.Mathlib.Omega.{arith}
use lib.Dec.{eqb}
use lib.ListN.{length, get_or, drop, set}
use Rattle.fields.specs.Formats.{pack, unpack, too_wide}
use Rattle.fields.specs.Numbers.{number, bytes}
use Rattle.fields.specs.Parts.{part, overlay, number_at}
use Rattle.refusals.specs.Answers.{answer, Wrote, written}
use Rattle.packet.specs.Read as packet
use Rattle.packet.specs.Read.{Packet}
use Rattle.functions.specs.Tags.{body_long, body_wrong, value_reserved, bandwidth_reserved}
use Rattle.functions.specs.Function.{body_of}
use Rattle.functions.specs.Write as function_writing
use Rattle.functions.specs.declared.Function.{Function}
use Rattle.functions.specs.declared.Function.TheVariants.{Power}
use Rattle.addressing.specs.Data.{house, entries_by, entries_in, group_checks, function_checks, function_at, fault_in, fault_of}
use Rattle.addressing.specs.Payload as addressing
use Rattle.addressing.specs.Walk.{reached, given, walk_checks, refused, walk_of, Walked}
use Rattle.addressing.specs.Payload.{PayloadRead}
use Rattle.transport.specs.Tests.{pid_outside}
use Rattle.gather.specs.State.{fresh, unfit, gather_checks}
use Rattle.gather.specs.Gather as gathering
use Rattle.std.specs.Prelude.{None}
use Rattle.gather.specs.declared.Reader.{Reader}
use Rattle.demands.specs.Demand1.{Demand1}
use Rattle.demands.proofs.Wrong.Changed.{reading, bodied, addressed, walked, gathered_by}

-- ---- Quarry: a function list that runs past its end

-- tag 3 with a function_length of 3, in a loop of 2 bytes: past its loop, though not past the data
abbrev quarry : List ℕ
quarry = 0 ∷ 1 ∷ 2 ∷ 3 ∷ 3 ∷ 0 ∷ 1 ∷ 0 ∷ []

-- a walk that gives the function in place of refusal 27
abbrev pub past_loop : List ℕ → ℕ → ℕ → Walked
past_loop d tx place = cond (eqb (walk_of house d tx place).refusal 27) (given (function_at house 3 (drop 3 d))) (walk_of house d tx place)

pub walk-past-loop : Demand1 (walked past_loop) → ⊥
unfolding walk_of walk_checks answer fault_of fault_in entries_in entries_by group_checks function_checks body_wrong value_reserved bandwidth_reserved unpack
walk-past-loop d = let e : ◌≡◌ {A = ℕ} 0 27 = (d.walk quarry 1 0).numbered in omega arith

-- a reading of the payload that takes such data
abbrev pub takes_past_loop : List ℕ → PayloadRead
takes_past_loop p = cond (eqb (addressing.payload_of house p).refusal 27) (record { refusal = 0; bytes = length (drop 2 p) }) (addressing.payload_of house p)

pub reading-past-loop : Demand1 (addressed takes_past_loop) → ⊥
unfolding addressing.payload_of addressing.payload_checks answer fault_of fault_in entries_in entries_by group_checks function_checks body_wrong value_reserved bandwidth_reserved unpack
reading-past-loop d = let e : ◌≡◌ {A = ℕ} 0 27 = (d.addressing_read (0 ∷ 8 ∷ quarry)).numbered in omega arith

-- ---- a walk that refuses everything

-- no groups at all are good
pub walk-refuses-all : Demand1 (walked (λ d tx place. refused 27)) → ⊥
unfolding walk_checks fault_of fault_in entries_in entries_by reached
walk-refuses-all d = let e : ◌≡◌ {A = ℕ} 27 0 = (d.walk [] 1 0).numbered in omega arith

-- ---- a reader that refuses rightly, but not with what it was lent

-- a good state, in step with one byte waiting; an empty slice is refused as 1
abbrev waits : Reader
waits = record { pid = 32; last = None; in_step = true; waiting = 1 }

-- another answer in place of each refusal
abbrev refusing : (Reader → List ℕ → List ℕ → ℕ → gathering.Outcome) → Reader → List ℕ → List ℕ → List ℕ → gathering.Outcome
refusing refused s t g o =
    let right = gathering.gather_of s t g o in
    cond (eqb right.answer.refusal 0) right (refused s g o right.answer.refusal)

-- the fresh state in place of the old one
abbrev pub starts_again : Reader → List ℕ → List ℕ → List ℕ → gathering.Outcome
starts_again = refusing (λ s g o n. gathering.refused_of (fresh s.pid) g o n)

pub state-not-handed-back : Demand1 (gathered_by starts_again) → ⊥
unfolding gathering.gather_of gather_checks unfit pid_outside answer
state-not-handed-back d =
    let e : ◌≡◌ {A = ℕ} 0 1 = ap (λ (x : gathering.Outcome). x.answer.reader.waiting) ((d.gather waits [] [] []).answers.refusal (λ (z : ◌≡◌ {A = ℕ} 1 0). omega arith)) in
    omega arith

-- the first byte of the output cleared
abbrev pub clears : Reader → List ℕ → List ℕ → List ℕ → gathering.Outcome
clears = refusing (λ s g o n. gathering.refused_of s g (set o 0 0) n)

pub refusal-writes : Demand1 (gathered_by clears) → ⊥
unfolding gathering.gather_of gather_checks unfit pid_outside answer
refusal-writes d =
    let e : ◌≡◌ {A = ℕ} 0 7 = ap (λ (x : gathering.Outcome). get_or x.output 0 0) ((d.gather waits [] [] (7 ∷ [])).answers.refusal (λ (z : ◌≡◌ {A = ℕ} 1 0). omega arith)) in
    omega arith

-- ---- a writer that writes a byte beyond its result

abbrev pub one_too_many : Function → List ℕ → List ℕ → Wrote
one_too_many f carried out =
    let right = function_writing.write_of f carried out in
    cond (eqb right.answer.refusal 0) (record { answer = right.answer; out = set right.out right.answer.bytes 0 }) right

-- a power has two bytes
pub byte-beyond : Demand1 (bodied one_too_many) → ⊥
unfolding function_writing.write_of function_writing.write_checks function_writing.unfit function_writing.reserved written answer body_of body_long too_wide overlay bytes unpack
byte-beyond d =
    let e : ◌≡◌ {A = ℕ} 0 7 = ap (λ (l : List ℕ). get_or l 0 0) (d.function_write (Power 5) [] (7 ∷ 7 ∷ 7 ∷ [])).kept.beyond in
    omega arith

-- ---- a packet reader that gives the header's fields with a refusal

abbrev pub tells_all : List ℕ → Packet
tells_all s = record { refusal = (packet.read_of s).refusal; header = packet.header_of s }

-- six bytes are refused as 18; their second is the packet count
pub fields-with-refusal : Demand1 (reading tells_all) → ⊥
unfolding packet.read_of packet.read_checks packet.header_of answer number_at part number pack unpack
fields-with-refusal d =
    let e : ◌≡◌ {A = ℕ} 5 0 = ap (λ (p : Packet). p.header.count) ((d.packet_read (0 ∷ 5 ∷ 0 ∷ 0 ∷ 0 ∷ 0 ∷ [])).refusal (λ (z : ◌≡◌ {A = ℕ} 18 0). omega arith)) in
    omega arith
