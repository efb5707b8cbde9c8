-- Gathering one transport packet: what the rules give, as the numbers of the answer and the bytes of the two buffers.
use Rattle.std.specs.Prelude.{ℕ, ◌-◌, cond, List, [], ◌++◌, length, take, Some, Result}
use Rattle.fields.specs.Parts.{overlay}
use Rattle.refusals.specs.Answers.{answer, told}
use Rattle.refusals.specs.declared.Refusal.{Refusal}
use Rattle.packet.specs.Layout.{size_of}
use Rattle.packet.specs.Cut.{joined}
use Rattle.gather.specs.State.{gather_checks}
use Rattle.gather.specs.Marks.{no_marks}
use Rattle.gather.specs.Rules.{none, Brought, brought_by, Hand, rule_one, rules_on}
use Rattle.gather.specs.declared.Reader.{Reader}
use Rattle.gather.specs.declared.Marks.{Marks}
use Rattle.gather.specs.declared.Gathered as given

-- what a call answers: the next state, the bytes and packets written, and the marks; with a refusal the old state and zeros
pub record Gathered : Type 0 where
  pub refusal : ℕ
  pub reader : Reader
  pub bytes : ℕ
  pub packets : ℕ
  pub marks : Marks

-- the answer that a result of `gather` stands for, where s is the reader after it
abbrev pub gathered_told : Reader → Result given.Gathered Refusal → Gathered
gathered_told s r =
    told (λ n. record { refusal = n; reader = s; bytes = 0; packets = 0; marks = no_marks })
    (λ g. record { refusal = 0; reader = s; bytes = g.bytes; packets = g.packets; marks = g.marks })
    r

-- the answer, and what the two lent buffers hold after it
pub record Outcome : Type 0 where
  pub answer : Gathered
  pub gathering : List ℕ
  pub output : List ℕ

-- what a call finds: the waiting bytes are the first of the gathering buffer
abbrev pub in_hand : Reader → List ℕ → Hand
in_hand s gathering =
    record { step = s.in_step; waiting = take s.waiting gathering; packets = []; marks = no_marks }

-- the bytes of d that join waiting ones, up to the packet's own length
unfoldable pub joiners : List ℕ → Hand → List ℕ
joiners d h =
    cond h.step
    (cond (none h.waiting) [] (take (size_of (h.waiting ++ d) - length h.waiting) d))
    []

abbrev pub next_of : ℕ → ℕ → Hand → Reader
next_of pid count h = record { pid = pid; last = Some count; in_step = h.step; waiting = length h.waiting }

abbrev pub answer_of : ℕ → ℕ → Hand → Gathered
answer_of pid count h =
    record {
      refusal = 0;
      reader = next_of pid count h;
      bytes = length (joined h.packets);
      packets = length h.packets;
      marks = h.marks;
    }

-- a refusal: its number, zeros, the old state, both buffers as they were
abbrev pub refused_of : Reader → List ℕ → List ℕ → ℕ → Outcome
refused_of s gathering output n =
    record {
      answer = record { refusal = n; reader = s; bytes = 0; packets = 0; marks = no_marks };
      gathering = gathering;
      output = output;
    }

-- e is in hand after rule 1, and h after all. Joining bytes are stored behind the waiting ones and stay, finished or
-- dropped, under the new waiting bytes; the packets handed out lie back to back at the output's front
abbrev pub laid_of : ℕ → Brought → Hand → Hand → List ℕ → List ℕ → Outcome
laid_of pid b e h gathering output =
    record {
      answer = answer_of pid b.count h;
      gathering = overlay 0 h.waiting (overlay (length e.waiting) (joiners b.before e) gathering);
      output = overlay 0 (joined h.packets) output;
    }

-- what is in hand after rule 1, and after all four
abbrev pub entered_of : Reader → List ℕ → List ℕ → Hand
entered_of s t gathering = rule_one s.last (brought_by t).count (in_hand s gathering)

abbrev pub result_of : Reader → List ℕ → List ℕ → Hand
result_of s t gathering = rules_on (brought_by t) (entered_of s t gathering)

unfoldable pub taken_of : Reader → List ℕ → List ℕ → List ℕ → Outcome
taken_of s t gathering output =
    laid_of s.pid (brought_by t) (entered_of s t gathering) (result_of s t gathering) gathering output

unfoldable pub gather_of : Reader → List ℕ → List ℕ → List ℕ → Outcome
gather_of s t gathering output =
    answer (gather_checks s t (length gathering) (length output))
    (refused_of s gathering output)
    (taken_of s t gathering output)
