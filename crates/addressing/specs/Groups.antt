-- What is said of the groups of addressing data: functions lie within their loops and take all their bytes, a fault's place lies
-- in the data, and a transmitter gets the same of all data that agree on the groups it hears.
use Rattle.std.specs.Prelude.{ℕ, ◌+◌, ◌≤◌, ◌<◌, ◌≡◌, List, [], ◌∷◌, map, length}
use Rattle.fields.specs.Parts.{part}
use Rattle.addressing.specs.Data.{Group, Placed, end_of, groups_of, loop_in, Fault}
use Rattle.addressing.specs.Walk.{heard_of}

-- ---- a fault's place is 0 where there is none, and else that of a byte before `end`

pub record Points (end : ℕ) (f : Fault) : Type 0 where
  pub nowhere : f.refusal ≡ 0 → f.place ≡ 0
  pub before : (f.refusal ≡ 0 → ⊥) → f.place < end

-- ---- bodies lie within their functions, functions within their loop, and the loop within the data

abbrev pub AllBetween : ℕ → ℕ → List Placed → Type 0
AllBetween from to [] = Unit
AllBetween from to (f ∷ fs) = ((from + 2 ≤ f.start) × (end_of f ≤ to)) × AllBetween from to fs

abbrev pub loop_end : Group → ℕ
loop_end g = g.start + length g.loop

pub record Within (own : ℕ) (d : List ℕ) (g : Group) : Type 0 where
  pub bytes : part g.start (length g.loop) d ≡ g.loop
  pub loop : loop_end g ≤ length d
  pub functions : AllBetween g.start (loop_end g) (loop_in own g).entries

abbrev pub AllWithin : ℕ → List ℕ → List Group → Type 0
AllWithin own d [] = Unit
AllWithin own d (g ∷ gs) = Within own d g × AllWithin own d gs

-- ---- functions one after the other from a place to another with no byte between, and groups so

abbrev pub Follow : ℕ → ℕ → List Placed → Type 0
Follow from to [] = from ≡ to
Follow from to (f ∷ fs) = (f.start ≡ from + 2) × Follow (end_of f) to fs

abbrev pub GroupsFollow : ℕ → ℕ → ℕ → List Group → Type 0
GroupsFollow own from to [] = from ≡ to
GroupsFollow own from to (g ∷ gs) =
    (g.start ≡ from + 3) × Follow g.start (loop_end g) (loop_in own g).entries × GroupsFollow own (loop_end g) to gs

-- ---- what a transmitter hears: identifiers and loops, and what it is given: tags and bodies

abbrev pub heard_groups : ℕ → List ℕ → List (ℕ × List ℕ)
heard_groups tx d = map (λ (g : Group). (g.owner, g.loop)) (heard_of tx (groups_of d))

unfoldable pub tags_and_bodies : List ℕ → List Placed → List (ℕ × List ℕ)
tags_and_bodies d [] = []
tags_and_bodies d (f ∷ fs) = (f.tag, part f.start f.body d) ∷ tags_and_bodies d fs
