-- A walk that keeps the caller's addressing bytes and its place, and what a step of it gives: what `walk_of` says at that
-- place by the house rule, and the walk at the next one.
use Rattle.std.specs.Prelude.{ℕ, zero, suc, cond, List, [], ◌∷◌, eqb, Option, Result}
use Rattle.std.specs.Borrow.{Bor}
use Rattle.addressing.specs.Data.{house}
use Rattle.refusals.specs.Answers.{told}
use Rattle.refusals.specs.declared.Refusal.{Refusal}
use Rattle.addressing.specs.Walk.{Walked, refused, walk_of, unless_end, step_found}
use Rattle.addressing.specs.declared.Given.{Given}
use Rattle.addressing.specs.declared.walks.Walk.{Walk}

-- where a walk goes on from: the place that the answer names, or with a refusal the same place (01, "hands back the old state")
unfoldable pub place_after : Walked → ℕ → ℕ
place_after w at = cond (eqb w.refusal 0) w.next at

-- a walk for a transmitter starts at 0
abbrev pub fresh_walk : Bor (List ℕ) → ℕ → Walk
fresh_walk d tx = record { «data» = d; transmitter = tx; at = 0 }

-- the same slice, the same transmitter, another place
abbrev pub moved_to : Walk → ℕ → Walk
moved_to w place = record { «data» = w.«data»; transmitter = w.transmitter; at = place }

abbrev pub found_by : Walk → Walked
found_by w = walk_of house w.«data».now w.transmitter w.at

-- what a step gives: what the walk found, and the walk at the next place; with a refusal, the walk where it was
pub record Stepped : Type 0 where
  pub answer : Walked
  pub walk : Walk

-- what a result of `step` stands for, where the walk is then at place `next`
abbrev pub step_told : ℕ → Result (Option Given) Refusal → Walked
step_told next r = told refused (λ s. record { refusal = 0; next = next; step = step_found s }) r

abbrev pub stepped_of : Walk → Stepped
stepped_of w = record { answer = found_by w; walk = moved_to w (place_after (found_by w) w.at) }

-- ---- a whole walk by steps: the answers up to the first that gives no function; k bounds how many

unfoldable pub steps_by : ℕ → Walk → List Walked
steps_by zero w = []
steps_by (suc k) w =
    let on = steps_by k (stepped_of w).walk in
    (stepped_of w).answer ∷ unless_end (stepped_of w).answer.step on
