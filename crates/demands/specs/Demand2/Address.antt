-- Addressing payloads, and the walk for one transmitter (01, "Timestamp and addressing payloads").
use Rattle.std.specs.Prelude.{ℕ, zero, suc, ◌+◌, ◌≤◌, ◌≡◌, List, [], ◌∷◌, ◌++◌, map, length}
use Rattle.fields.specs.Numbers.{Bytes}
use Rattle.fields.specs.Parts.{part}
use Rattle.refusals.specs.Checks.{first}
use Rattle.addressing.specs.Data.{house}
use Rattle.addressing.specs.Payload.{payload_checks, data_of, write_checks, payload_bytes}
use Rattle.addressing.specs.Groups.{heard_groups}
use Rattle.addressing.specs.Walk.{functions_for, given, ended, step_in, walk_checks, unless_end, Step, Given, End, Walked}
use Rattle.demands.specs.Library.{Library}
use Rattle.demands.specs.Demand2.Writing.{laid, written_by}

-- ---- payloads

pub record Addressing (lib : Library) : Type 0 where
  -- where no check of 01's list holds: the data behind the length byte, and the payload of data
  pub reads : (p : List ℕ) → first (payload_checks house p) ≡ 0 → lib.addressing_read p ≡ record { refusal = 0; bytes = length (data_of p) }
  pub data-of : (p : List ℕ) → first (payload_checks house p) ≡ 0 → lib.addressing_data p ≡ data_of p
  pub writes : (d out : List ℕ) → first (write_checks house d (length out)) ≡ 0 → lib.addressing_write d out ≡ laid (payload_bytes d) out
  -- what was written is read as the same data
  pub back : (d out : List ℕ) → (lib.addressing_write d out).answer.refusal ≡ 0
      → (lib.addressing_read (written_by (lib.addressing_write d out)) ≡ record { refusal = 0; bytes = length d })
      × (lib.addressing_data (written_by (lib.addressing_write d out)) ≡ d)
  -- what is read is written as the same bytes
  pub forth : (p out : List ℕ) → Bytes p → (lib.addressing_read p).refusal ≡ 0 → length p ≤ length out
      → lib.addressing_write (lib.addressing_data p) out ≡ laid p out

-- ---- the walk

-- the answers from a place on, each call at the place that the last one named, up to the first that gives no function; k
-- bounds how many
unfoldable pub answers_by : Library → ℕ → List ℕ → ℕ → ℕ → List Walked
answers_by lib zero d tx place = []
answers_by lib (suc k) d tx place =
    let w = lib.walk d tx place in
    let on = answers_by lib k d tx w.next in
    w ∷ unless_end w.step on

-- a whole walk, from place 0: no data holds more functions than it has bytes
abbrev pub whole_walk : Library → List ℕ → ℕ → List Walked
whole_walk lib d tx = answers_by lib (length d + 1) d tx 0

-- the tags and bodies that answers give
abbrev pub tag_and_body : List ℕ → Step → List (ℕ × List ℕ)
tag_and_body d (Given tag start body) = (tag, part start body d) ∷ []
tag_and_body d End = []

unfoldable pub told_by : List ℕ → List Walked → List (ℕ × List ℕ)
told_by d [] = []
told_by d (w ∷ ws) = tag_and_body d w.step ++ told_by d ws

pub record Walks (lib : Library) : Type 0 where
  -- where no check of 01's list holds: the first function for the transmitter from the place on, or the end
  pub step : (d : List ℕ) (tx place : ℕ) → first (walk_checks house d tx place) ≡ 0 → lib.walk d tx place ≡ step_in (functions_for house tx d) place (length d)
  -- a whole walk gives the functions of that transmitter and of broadcast, in order and once each, and then the end
  pub whole : (d : List ℕ) (tx : ℕ) → first (walk_checks house d tx 0) ≡ 0 → whole_walk lib d tx ≡ map given (functions_for house tx d) ++ (ended (length d) ∷ [])
  -- two well-formed data that agree on those groups give the transmitter the same tags and bodies
  pub same : (tx : ℕ) (d e : List ℕ) → first (walk_checks house d tx 0) ≡ 0 → first (walk_checks house e tx 0) ≡ 0 → heard_groups tx d ≡ heard_groups tx e
      → told_by d (whole_walk lib d tx) ≡ told_by e (whole_walk lib e tx)
