-- The walk of our library, from place 0 to the end: it is the walk of addressing's theorem, so that it gives the functions
-- of a transmitter, and these are the same for data that agree on the groups it hears.
-- Assumes nothing.
use mathlib.Core.Path.{◌≡◌, refl, sym, ap, ◌∙◌}
use mathlib.Core.List.{List, [], ◌∷◌, ◌++◌, map}
use Prim.Native.Nat.{ℕ, zero, suc, ◌+◌, ◌≤◌}
use native.Mathlib.Omega.{arith}
use lib.ListN.{length}
use borrow.Author.Tests.{ltb-false}
use Rattle.fields.specs.Parts.{part}
use Rattle.refusals.specs.Checks.{first}
use Rattle.refusals.proofs.AnswerLaws.{answer-accepted}
use Rattle.refusals.proofs.CheckLaws.{none-holds, not_found}
use Rattle.addressing.specs.Data.{house, Placed, end_of, fault_of}
use Rattle.addressing.specs.Groups.{tags_and_bodies}
use Rattle.addressing.specs.Walk as addressing
use Rattle.addressing.specs.Walk.{functions_for, given, ended, step_in, walk_checks, refused, walk_of, unless_end, Walked}
use Rattle.addressing.proofs.DataLaws.{Rising, for-rising}
use Rattle.addressing.proofs.WalkLaws.{walk-all}
use Rattle.addressing.proofs.GroupLaws.{same-groups}
use Rattle.demands.specs.Library.{ours}
use Rattle.demands.specs.Demand2.Address.{answers_by, whole_walk, told_by, Walks}

-- where no check holds of place 0, none holds of the data
record Good (d : List ℕ) : Type 0 where
  pub short : length d ≤ 255
  pub right : (fault_of house d).refusal ≡ 0

good : (d : List ℕ) (tx : ℕ) → first (walk_checks house d tx 0) ≡ 0 → Good d
unfolding walk_checks
good d tx h =
    let n = none-holds (walk_checks house d tx 0) tt h in
    record { short = ltb-false _ _ n.0; right = not_found _ n.1.0 }

-- each function takes two bytes at least
few : (from to : ℕ) (fs : List Placed) → Rising from to fs → from + length fs ≤ to
few from to [] r = omega (arith, r)
few from to (f ∷ fs) r = omega (arith, r.0, few (end_of f) to fs r.1)

answers-same : (k : ℕ) (d : List ℕ) (tx place : ℕ) → answers_by ours k d tx place ≡ addressing.answers_by k house d tx place
unfolding answers_by addressing.answers_by
answers-same zero d tx place = refl
answers-same (suc k) d tx place =
    let w = walk_of house d tx place in
    ap (λ (ws : List Walked). w ∷ unless_end w.step ws) (answers-same k d tx w.next)

whole : (d : List ℕ) (tx : ℕ) → first (walk_checks house d tx 0) ≡ 0 → whole_walk ours d tx ≡ map given (functions_for house tx d) ++ (ended (length d) ∷ [])
whole d tx h =
    let g = good d tx h in
    answers-same (length d + 1) d tx 0
    ∙ walk-all house d tx g.short g.right (length d + 1) (omega (arith, few 0 (length d) (functions_for house tx d) (for-rising house tx d)))

told : (d : List ℕ) (fs : List Placed) (end : ℕ) → told_by d (map given fs ++ (ended end ∷ [])) ≡ tags_and_bodies d fs
unfolding told_by tags_and_bodies
told d [] end = refl
told d (f ∷ fs) end = ap (λ (l : List (ℕ × List ℕ)). (f.tag, part f.start f.body d) ∷ l) (told d fs end)

told-whole : (d : List ℕ) (tx : ℕ) → first (walk_checks house d tx 0) ≡ 0 → told_by d (whole_walk ours d tx) ≡ tags_and_bodies d (functions_for house tx d)
told-whole d tx h = ap (told_by d) (whole d tx h) ∙ told d (functions_for house tx d) (length d)

step : (d : List ℕ) (tx place : ℕ) → first (walk_checks house d tx place) ≡ 0 → walk_of house d tx place ≡ step_in (functions_for house tx d) place (length d)
unfolding walk_of
step d tx place h = answer-accepted (walk_checks house d tx place) refused _ h

pub walks-two : Walks ours
walks-two =
    record {
      step = step;
      whole = whole;
      same = λ tx d e h i s.
          told-whole d tx h ∙ same-groups house tx d e s ∙ sym (told-whole e tx i);
    }
