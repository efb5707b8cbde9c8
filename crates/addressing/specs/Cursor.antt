-- ONLY THE CODE needs what stands here: one cursor goes over the data for the check and for the walk, from header to header. That this
-- gives the check's fault and the walk's answer is a law (proofs/CursorLaws).
use Rattle.std.specs.Prelude.{ℕ, ◌-◌, Bool, cond, not, ◌||◌, List, [], ◌∷◌, eqb, leb, ltb, length, drop, Option, Some, None, Result, Ok, Err}
use Rattle.std.specs.Option.{option_or}
use Rattle.std.specs.Bool.{then_some}
use Rattle.fields.specs.Parts.{part}
use Rattle.refusals.specs.Checks.{Check, ◌when◌}
use Rattle.refusals.specs.Answers.{answer, told}
use Rattle.refusals.specs.Refusals.{number_of}
use Rattle.refusals.specs.declared.Refusal.{Refusal}
use Rattle.addressing.specs.Data.{Fault, no_fault, fault_from, owner_of, loop_length, group_checks, tag_of, body_length, function_checks, fault_of, fault}
use Rattle.addressing.specs.Walk.{Walked, functions_for, reached, ended, step_in, refused, answered}
use Rattle.addressing.specs.declared.Cursor.{Cursor}
use Rattle.addressing.specs.declared.Fault.{Fault as CodeFault}
use Rattle.addressing.specs.declared.Header.{Header as CodeHeader}
use Rattle.addressing.specs.declared.Header.TheVariants as code
use Rattle.addressing.specs.declared.Seen.{Seen}
use Rattle.addressing.specs.declared.Walked.{Walked as CodeWalked}

-- ---- the header at a cursor: a function's where it is in a loop, a group's where it is at a loop's end, one with a fault, or none at
-- the data's end

pub data Header : Type 0 where
  Group : (owner bytes : ℕ) → Header
  Function : (tag body : ℕ) → Header
  Bad : ℕ → Header
  Nothing : Header

abbrev pub header_found : Option CodeHeader → Header
header_found None = Nothing
header_found (Some (code.Group owner bytes)) = Group owner bytes
header_found (Some (code.Function tag body)) = Function tag body

abbrev pub header_told : Result (Option CodeHeader) Refusal → Header
header_told r = told Bad header_found r

unfoldable pub group_header : List ℕ → Header
group_header l = answer (group_checks l) Bad (Group (owner_of l) (loop_length l))

unfoldable pub function_header : ℕ → List ℕ → Header
function_header own l = answer (function_checks own l) Bad (Function (tag_of l) (body_length own l))

unfoldable pub header_at : ℕ → List ℕ → Cursor → Header
header_at own d c =
    let in_loop = function_header own (part c.at (c.end - c.at) d) in
    let beyond = group_header (drop c.at d) in
    cond (ltb c.at c.end) in_loop (cond (ltb c.at (length d)) beyond Nothing)

-- ---- what a walk from a place has seen of the functions for its transmitter: whether one of them ends at the place, and the first that
-- begins there or later

abbrev pub unseen : ℕ → Seen
unseen place = record { place = place; reached = eqb place 0; first = None }

-- after a function at place `at`, for which w is the answer, if it is for the transmitter
abbrev pub seen_after : Bool → ℕ → CodeWalked → Seen → Seen
seen_after heard at w s =
    let on : Seen = record {
      place = s.place;
      reached = s.reached || eqb s.place w.next;
      first = option_or s.first (then_some (leb s.place at) w);
    } in
    cond heard on s

-- the answer for the first that was seen, or else another
abbrev pub first_or : Option CodeWalked → Walked → Walked
first_or None w = w
first_or (Some f) w = answered f

-- the answer where no function is left
abbrev pub answer_of : ℕ → Seen → Walked
answer_of end s = cond (s.reached || eqb s.place end) (first_or s.first (ended end)) (refused 38)

-- ---- all of the data: its fault, and the walk's answer but for the first check, of the data's length

pub record Passed : Type 0 where
  pub fault : Fault
  pub walked : Walked

unfoldable pub pass_checks : ℕ → List ℕ → ℕ → ℕ → List Check
pass_checks own d tx place = fault own d ∷ 38 when not (reached own tx d place) ∷ []

unfoldable pub pass_of : ℕ → List ℕ → ℕ → ℕ → Passed
pass_of own d tx place =
    record {
      fault = fault_of own d;
      walked = answer (pass_checks own d tx place) refused (step_in (functions_for own tx d) place (length d));
    }

-- what the result of a pass over data of `end` bytes stands for
abbrev pub passed_told : ℕ → Result Seen CodeFault → Passed
passed_told end (Ok s) = record { fault = no_fault; walked = answer_of end s }
passed_told end (Err f) = record { fault = fault_from f; walked = refused (number_of f.refusal) }
