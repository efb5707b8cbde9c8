-- The walk for one transmitter: the functions of its own groups and of the broadcast groups, in order, one at each call.
use Rattle.std.specs.Prelude.{ℕ, zero, suc, ◌+◌, Bool, false, cond, not, ◌||◌, List, [], ◌∷◌, eqb, leb, ltb, length, Option, Some, None, Result}
use Rattle.refusals.specs.Checks.{Check, ◌when◌}
use Rattle.refusals.specs.Answers.{answer, told}
use Rattle.refusals.specs.declared.Refusal.{Refusal}
use Rattle.addressing.specs.Data.{Group, Placed, end_of, groups_of, functions_of, fault}
use Rattle.addressing.specs.declared.Given.{Given as CodeGiven}
use Rattle.addressing.specs.declared.Walked.{Walked as CodeWalked}

-- a group's identifier is heard by this transmitter: it is its own, or broadcast 0x0000
abbrev pub hears : ℕ → ℕ → Bool
hears tx owner = eqb owner tx || eqb owner 0

unfoldable pub heard_of : ℕ → List Group → List Group
heard_of tx [] = []
heard_of tx (g ∷ gs) = let on = heard_of tx gs in cond (hears tx g.owner) (g ∷ on) on

-- the functions that a walk for this transmitter gives
unfoldable pub functions_for : ℕ → ℕ → List ℕ → List Placed
functions_for own tx d = functions_of own (heard_of tx (groups_of d))

-- ---- the places that a walk reaches: 0, the data's end, or the end of a function given

unfoldable pub ends_at : ℕ → List Placed → Bool
ends_at place [] = false
ends_at place (f ∷ fs) = eqb place (end_of f) || ends_at place fs

unfoldable pub reached : ℕ → ℕ → List ℕ → ℕ → Bool
reached own tx d place = eqb place 0 || eqb place (length d) || ends_at place (functions_for own tx d)

-- ---- what it gives there: the first of these functions that begins at the place or after it

-- a function, whose body is `body` bytes from `start` on, or the data's end
pub data Step : Type 0 where
  Given : (tag start body : ℕ) → Step
  End : Step

-- a walk's answer: what it found, and the place to walk on from; with a refusal its number, 0 and no function
pub record Walked : Type 0 where
  pub refusal : ℕ
  pub next : ℕ
  pub step : Step

abbrev pub given : Placed → Walked
given f = record { refusal = 0; next = end_of f; step = Given f.tag f.start f.body }

-- where there is none, the place to walk on from is the data's end
abbrev pub ended : ℕ → Walked
ended end = record { refusal = 0; next = end; step = End }

-- a function begins two bytes before its body
unfoldable pub step_in : List Placed → ℕ → ℕ → Walked
step_in [] place end = ended end
step_in (f ∷ fs) place end = let on = step_in fs place end in cond (leb (place + 2) f.start) (given f) on

abbrev pub refused : ℕ → Walked
refused n = record { refusal = n; next = 0; step = End }

-- what the result of a walk stands for
abbrev pub step_found : Option CodeGiven → Step
step_found None = End
step_found (Some g) = Given g.tag g.start g.body

abbrev pub answered : CodeWalked → Walked
answered w = record { refusal = 0; next = w.next; step = step_found w.step }

abbrev pub walked_told : Result CodeWalked Refusal → Walked
walked_told r = told refused answered r

-- each call judges all the data, then its place
unfoldable pub walk_checks : ℕ → List ℕ → ℕ → ℕ → List Check
walk_checks own d tx place =
    38 when ltb 255 (length d)
    ∷ fault own d
    ∷ 38 when not (reached own tx d place)
    ∷ []

unfoldable pub walk_of : ℕ → List ℕ → ℕ → ℕ → Walked
walk_of own d tx place = answer (walk_checks own d tx place) refused (step_in (functions_for own tx d) place (length d))

-- ---- a whole walk: the answers from a place on, each call at the place that the last one named, up to the first that
-- gives no function; k bounds how many

abbrev pub unless_end : Step → List Walked → List Walked
unless_end (Given tag start body) answers = answers
unless_end End answers = []

unfoldable pub answers_by : ℕ → ℕ → List ℕ → ℕ → ℕ → List Walked
answers_by zero own d tx place = []
answers_by (suc k) own d tx place =
    let w = walk_of own d tx place in
    let on = answers_by k own d tx w.next in
    w ∷ unless_end w.step on
