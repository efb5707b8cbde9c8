-- Demand 3 told event by event, over the writer's transport packets in order: the form that is proved by induction. A packet
-- is due where each of its bytes came.
use mathlib.Core.Path.{◌≡◌}
use Prim.Native.Nat.{ℕ, suc, ◌≤◌, ◌<◌}
use mathlib.Core.Bool.{Bool, true, false, ◌&&◌}
use mathlib.Core.List.{List, [], ◌∷◌, ◌++◌}
use lib.Dec.{ltb}
use lib.ListN.{length, take, drop, replicate}
use Rattle.transport.specs.Header.{carried_by}
use Rattle.transport.specs.Tests.{pid_outside}
use Rattle.gather.specs.Calls.{calls_by, lent}
use Rattle.demands.specs.Library.{Library}
use Rattle.demands.specs.Route.{Foreign, longest_run, keep}
use Rattle.demands.specs.Demand3.{Batch, AllCarriable, packets_of, carry_all, Exactly}

-- the writer's next transport packet is lost, or it came; the last one that came does so again; another one came
pub data Event : Type 0 where
  lost : Event
  came : Event
  again : Event
  other : List ℕ → Event

-- whether each of the writer's transport packets came
abbrev pub arrivals : List Event → List Bool
arrivals [] = []
arrivals (lost ∷ es) = false ∷ arrivals es
arrivals (came ∷ es) = true ∷ arrivals es
arrivals (again ∷ es) = arrivals es
arrivals (other t ∷ es) = arrivals es

-- none came yet, or so many are lost since the last
pub data Since : Type 0 where
  never : Since
  since : ℕ → Since

abbrev pub missed : Since → Since
missed never = never
missed (since g) = since (suc g)

-- between two that come at most 14 are lost; none comes again before one came
abbrev pub Allowed : ℕ → Since → List Event → Type 0
Allowed pid s [] = Unit
Allowed pid s (lost ∷ es) = Allowed pid (missed s) es
Allowed pid never (came ∷ es) = Allowed pid (since 0) es
Allowed pid (since g) (came ∷ es) = (g ≤ longest_run) × Allowed pid (since 0) es
Allowed pid never (again ∷ es) = ⊥
Allowed pid (since g) (again ∷ es) = Allowed pid (since g) es
Allowed pid s (other t ∷ es) = Foreign pid t × Allowed pid s es

-- what the reader is handed of the transport packets ts, where `last` came last
abbrev pub handed_in : List ℕ → List Event → List (List ℕ) → List (List ℕ)
handed_in last [] ts = []
handed_in last (lost ∷ es) ts = handed_in last es (drop 1 ts)
handed_in last (came ∷ es) [] = handed_in last es []
handed_in last (came ∷ es) (t ∷ ts) = t ∷ handed_in t es ts
handed_in last (again ∷ es) ts = last ∷ handed_in last es ts
handed_in last (other t ∷ es) ts = t ∷ handed_in last es ts

-- whether each carried byte came
abbrev pub byte_came : List Bool → List (List ℕ) → List Bool
byte_came bs [] = []
byte_came [] (t ∷ ts) = replicate (length (carried_by t)) false ++ byte_came [] ts
byte_came (b ∷ bs) (t ∷ ts) = replicate (length (carried_by t)) b ++ byte_came bs ts

abbrev pub every : List Bool → Bool
every [] = true
every (b ∷ l) = b && every l

-- the packets whose every byte came
abbrev pub complete : List (List ℕ) → List Bool → List (List ℕ)
complete [] m = []
complete (p ∷ ps) m = keep (every (take (length p) m)) p (complete ps (drop (length p) m))

-- a loss is marked where some are lost since the last
abbrev pub loss_at : Since → Bool
loss_at never = false
loss_at (since g) = ltb 0 g

abbrev pub marks : Since → List Event → List Bool
marks s [] = []
marks s (lost ∷ es) = marks (missed s) es
marks s (came ∷ es) = loss_at s ∷ marks (since 0) es
marks s (again ∷ es) = false ∷ marks s es
marks s (other t ∷ es) = false ∷ marks s es

abbrev pub ByEvents : Library → Type 0
ByEvents lib =
    (pid count : ℕ) → pid_outside pid ≡ false → count < 16 → (batches : List Batch) → AllCarriable batches
    → (es : List Event) → Allowed pid never es → length (arrivals es) ≡ length (carry_all lib pid count batches)
    → (gathering : List ℕ) → 8202 ≤ length gathering
    → (outs : ℕ → List ℕ) → ((n : ℕ) → 8385 ≤ length (outs n))
    → Exactly (complete (packets_of batches) (byte_came (arrivals es) (carry_all lib pid count batches))) (marks never es)
    (calls_by lib.gather (lib.start pid).reader gathering (lent outs (handed_in [] es (carry_all lib pid count batches))))
