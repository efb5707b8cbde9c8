-- Small data and the fault of each with its place, one row for each way in which data is good or bad; and walks of one small data. All
-- by the house rule.
use Rattle.std.specs.Prelude.{ℕ, ◌≡◌, List, [], ◌∷◌}
use Rattle.addressing.specs.Data.{house, fault_of, Fault}
use Rattle.addressing.specs.Walk.{ended, refused, walk_of, Given, Walked}

pub record Row : Type 0 where
  pub bytes : List ℕ
  pub fault : Fault

abbrev row : List ℕ → ℕ → ℕ → Row
row l n at = record { bytes = l; fault = record { refusal = n; place = at } }

abbrev pub rows : List Row
rows =
    -- no groups at all
    row [] 0 0
    -- an empty loop
    ∷ row (0x12 ∷ 0x34 ∷ 0 ∷ []) 0 0
    -- a time offset, and a bandwidth of 5 MHz with its wait flag, for two transmitters
    ∷ row (0 ∷ 1 ∷ 4 ∷ 0 ∷ 4 ∷ 0x80 ∷ 0 ∷ 0 ∷ 2 ∷ 3 ∷ 6 ∷ 3 ∷ 1 ∷ []) 0 0
    -- a header of two bytes
    ∷ row (0 ∷ 1 ∷ []) 26 0
    -- a loop that passes the end by one byte
    ∷ row (0 ∷ 1 ∷ 3 ∷ 3 ∷ 2 ∷ []) 26 0
    -- one byte left in a loop
    ∷ row (0 ∷ 1 ∷ 1 ∷ 3 ∷ []) 27 3
    -- a function_length of 1
    ∷ row (0 ∷ 1 ∷ 2 ∷ 3 ∷ 1 ∷ []) 27 3
    -- a function that passes its loop, though not the data
    ∷ row (0 ∷ 1 ∷ 2 ∷ 3 ∷ 3 ∷ 0 ∷ 1 ∷ 0 ∷ []) 27 3
    -- a time offset of one byte
    ∷ row (0 ∷ 1 ∷ 3 ∷ 0 ∷ 3 ∷ 0 ∷ []) 28 3
    -- a bandwidth of 1
    ∷ row (0 ∷ 1 ∷ 3 ∷ 6 ∷ 3 ∷ 2 ∷ []) 29 3
    -- the first bad place decides, whatever its number: 29 before 28, and 28 before 26
    ∷ row (0 ∷ 1 ∷ 6 ∷ 6 ∷ 3 ∷ 2 ∷ 0 ∷ 3 ∷ 0 ∷ []) 29 3
    ∷ row (0 ∷ 1 ∷ 3 ∷ 0 ∷ 3 ∷ 0 ∷ 0 ∷ []) 28 3
    -- the second group is cut, and the second function of the second group is of the wrong length
    ∷ row (0 ∷ 1 ∷ 2 ∷ 3 ∷ 2 ∷ 0 ∷ 2 ∷ []) 26 5
    ∷ row (0 ∷ 1 ∷ 0 ∷ 0 ∷ 2 ∷ 5 ∷ 3 ∷ 2 ∷ 1 ∷ 3 ∷ 0 ∷ []) 28 8
    ∷ []

abbrev pub AllHold : List Row → Type 0
AllHold [] = Unit
AllHold (r ∷ rs) = (fault_of house r.bytes ≡ r.fault) × AllHold rs

-- ---- walks of three groups: for 1 (a private function of one byte), for 2 (one of none) and for all (tag 7, one byte)

abbrev pub walked : List ℕ
walked = 0 ∷ 1 ∷ 3 ∷ 3 ∷ 3 ∷ 9 ∷ 0 ∷ 2 ∷ 2 ∷ 3 ∷ 2 ∷ 0 ∷ 0 ∷ 3 ∷ 7 ∷ 3 ∷ 8 ∷ []

pub record WalkRow : Type 0 where
  pub transmitter : ℕ
  pub place : ℕ
  pub answer : Walked

abbrev at : ℕ → ℕ → Walked → WalkRow
at tx place w = record { transmitter = tx; place = place; answer = w }

abbrev gives : ℕ → ℕ → ℕ → ℕ → Walked
gives next tag start body = record { refusal = 0; next = next; step = Given tag start body }

abbrev pub walks : List WalkRow
walks =
    -- transmitter 1: its own, then the broadcast, then the end
    at 1 0 (gives 6 3 5 1)
    ∷ at 1 6 (gives 17 7 16 1)
    ∷ at 1 17 (ended 17)
    -- the end of another's function, and a place in its own, are never reached
    ∷ at 1 11 (refused 38)
    ∷ at 1 5 (refused 38)
    -- transmitter 2
    ∷ at 2 0 (gives 11 3 11 0)
    ∷ at 2 11 (gives 17 7 16 1)
    ∷ at 2 6 (refused 38)
    -- identifier 0 and one without a group: the broadcast, once
    ∷ at 0 0 (gives 17 7 16 1)
    ∷ at 5 0 (gives 17 7 16 1)
    ∷ at 0 17 (ended 17)
    -- beyond the data
    ∷ at 1 18 (refused 38)
    ∷ []

abbrev pub AllWalk : List WalkRow → Type 0
AllWalk [] = Unit
AllWalk (r ∷ rs) = (walk_of house walked r.transmitter r.place ≡ r.answer) × AllWalk rs
