-- What a reader's calls give, call by call: the state and the gathering buffer go on from each call to the next. A row of calls
-- is defined over any function that gathers; `calls_of` is ours.
use Rattle.std.specs.Prelude.{ℕ, suc, ◌≤◌, List, [], ◌∷◌, ◌++◌, length, take}
use Rattle.packet.specs.Cut.{cut}
use Rattle.gather.specs.Gather.{Outcome, gather_of}
use Rattle.gather.specs.declared.Marks.{Marks}
use Rattle.gather.specs.declared.Reader.{Reader}

-- ---- calls

-- a transport packet, and the output as it is lent: it may hold anything
pub record Call : Type 0 where
  pub transport : List ℕ
  pub output : List ℕ

-- of the state, the transport packet, the gathering buffer and the output
abbrev pub Gathering : Type 0
Gathering = Reader → List ℕ → List ℕ → List ℕ → Outcome

-- the answers, each with what the two buffers then hold
abbrev pub calls_by : Gathering → Reader → List ℕ → List Call → List Outcome
calls_by f s gathering [] = []
calls_by f s gathering (c ∷ cs) =
    let o = f s c.transport gathering c.output in
    o ∷ calls_by f o.answer.reader o.gathering cs

abbrev pub calls_of : Reader → List ℕ → List Call → List Outcome
calls_of = calls_by gather_of

-- what goes from a call to the next
pub record Between : Type 0 where
  pub reader : Reader
  pub gathering : List ℕ

-- after all of them
abbrev pub after_by : Gathering → Reader → List ℕ → List Call → Between
after_by f s gathering [] = record { reader = s; gathering = gathering }
after_by f s gathering (c ∷ cs) =
    let o = f s c.transport gathering c.output in
    after_by f o.answer.reader o.gathering cs

-- the transport packets of calls, and calls of transport packets with these outputs
abbrev pub transports_of : List Call → List (List ℕ)
transports_of [] = []
transports_of (c ∷ cs) = c.transport ∷ transports_of cs

abbrev pub lent : (ℕ → List ℕ) → List (List ℕ) → List Call
lent outputs [] = []
lent outputs (t ∷ ts) = record { transport = t; output = outputs 0 } ∷ lent (λ n. outputs (suc n)) ts

-- outputs as long as 01 asks
abbrev pub Spacious : List Call → Type 0
Spacious [] = Unit
Spacious (c ∷ cs) = (8385 ≤ length c.output) × Spacious cs

-- ---- what they hand out, and their marks

-- the bytes that a call wrote, and these bytes cut into packets by their own lengths
abbrev pub wrote_by : Outcome → List ℕ
wrote_by o = take o.answer.bytes o.output

abbrev pub handed_by : Outcome → List (List ℕ)
handed_by o = (cut (wrote_by o)).packets

-- of all calls, in their order
abbrev pub handed_all : List Outcome → List (List ℕ)
handed_all [] = []
handed_all (o ∷ os) = handed_by o ++ handed_all os

abbrev pub marks_all : List Outcome → List Marks
marks_all [] = []
marks_all (o ∷ os) = o.answer.marks ∷ marks_all os
