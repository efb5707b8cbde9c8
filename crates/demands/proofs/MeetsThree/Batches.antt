-- Several batches are one flow, and the writer's calls write its transport packets one after another.
-- Assumes nothing.
use mathlib.Core.Path.{◌≡◌, refl, sym, ap, ◌∙◌}
use Prim.Native.Nat.{ℕ, ◌+◌, ◌*◌, ◌%◌, ◌<◌}
use mathlib.Core.Bool.{false}
use mathlib.Core.List.{List, [], ◌∷◌, ◌++◌}
use native.Mathlib.Omega.{arith}
use lib.ListN.{length}
use lib.Seq.{take_at, drop_at}
use borrow.Author.Tests.{le-ltb}
use Rattle.fields.specs.Numbers.{Bytes}
use Rattle.fields.proofs.NumberLaws.{bytes_take, bytes_drop}
use Rattle.refusals.specs.Checks.{first}
use Rattle.refusals.proofs.CheckLaws.{first-zero}
use Rattle.packet.specs.Cut.{AllWhole, Cut, batch_fault, joined}
use Rattle.packet.proofs.LayoutLaws.{size-most}
use Rattle.packet.proofs.BatchLaws.{fault-none}
use Rattle.packet.proofs.CutLaws.{cut_all}
use Rattle.transport.specs.Load.{Load}
use Rattle.transport.specs.Tests.{pid_outside}
use Rattle.carry.specs.Loads.{loads_of}
use Rattle.carry.specs.Carry.{Outcome, numbered, loads, carry_checks, carry_of}
use Rattle.carry.proofs.BatchLaws.{carriable}
use Rattle.carry.proofs.Flow.{Flow, done, flow-append}
use Rattle.carry.proofs.LoadLaws.{flows-of}
use Rattle.carry.proofs.Theorems.{pid-small, flow-stream, counts-run-on}
use Rattle.demands.specs.Library.{ours}
use Rattle.demands.specs.Demand3.{Batch, Carriable, AllCarriable, packets_of, carry_all, CarriesAll}
use Rattle.demands.specs.Demand2.Carry.{transports}
use Rattle.demands.proofs.MeetsTwo.Carried.{wrote, writes, transports-are}
use Rattle.demands.proofs.MeetsThree.Ahead.{AllSmall}

-- ---- whole packets

pub all_small : (ps : List (List ℕ)) → AllWhole ps → Bytes (joined ps) → AllSmall ps
unfolding joined
all_small [] w b = tt
all_small (p ∷ ps) w b = (
  omega (arith, w.0.size, size-most p (rw (take_at p (joined ps) (length p) refl) at (bytes_take (length p) (p ++ joined ps) b))),
  all_small ps w.1 (rw (drop_at p (joined ps) (length p) refl) at (bytes_drop (length p) (p ++ joined ps) b)),
)

small-append : (ps qs : List (List ℕ)) → AllSmall ps → AllSmall qs → AllSmall (ps ++ qs)
small-append [] qs a b = b
small-append (p ∷ ps) qs a b = (a.0, small-append ps qs a.1 b)

pub batches-small : (bs : List Batch) → AllCarriable bs → AllSmall (packets_of bs)
batches-small [] f = tt
batches-small (b ∷ bs) f = small-append b.packets (packets_of bs) (all_small b.packets f.0.whole f.0.bytes) (batches-small bs f.1)

-- ---- all loads

abbrev pub all_loads : List Batch → List Load
all_loads [] = []
all_loads (b ∷ bs) = loads_of b.packets ++ all_loads bs

pub flow-all : (bs : List Batch) → AllCarriable bs → Flow [] [] (packets_of bs) (all_loads bs)
flow-all [] f = done
flow-all (b ∷ bs) f = flow-append (flows-of b.packets f.0.whole) (flow-all bs f.1)

-- ---- one call

module _ (pid c : ℕ) (b : Batch) (good : pid_outside pid ≡ false) (k : c < 16) (f : Carriable b) where
  abbrev batch : List ℕ
  batch = joined b.packets

  loads-are : loads batch ≡ loads_of b.packets
  loads-are = ap (λ (x : Cut). loads_of x.packets) (cut_all b.packets f.whole)

  no-fault : batch_fault batch ≡ 0
  no-fault = fault-none b.packets f.whole

  not-refused : first (carry_checks pid c batch (length b.out)) ≡ 0
  unfolding carry_checks
  not-refused =
      first-zero (carry_checks pid c batch (length b.out)) (
        good,
        (
          le-ltb 15 c (omega arith),
          (
            le-ltb 65536 (length batch) (omega (arith, f.short)),
            (
              rw no-fault refl,
              (rw loads-are (le-ltb (length b.out) (188 * length (loads_of b.packets)) f.room), tt),
            ),
          ),
        ),
      )

  carries : carry_of pid c batch b.out ≡ wrote pid c batch b.out
  carries = writes pid c batch b.out not-refused

  pub next-is : (carry_of pid c batch b.out).answer.next_count ≡ (c + length (loads_of b.packets)) % 16
  next-is = ap (λ (x : Outcome). x.answer.next_count) carries ∙ ap (λ (ls : List Load). (c + length ls) % 16) loads-are

  pub written-are : transports (carry_of pid c batch b.out) ≡ numbered pid c (loads_of b.packets)
  written-are =
      ap transports carries
      ∙ transports-are pid c batch b.out (carriable pid c batch (length b.out) not-refused)
      ∙ ap (numbered pid c) loads-are

-- ---- all calls

pub carry-all : (pid c : ℕ) (bs : List Batch) → pid_outside pid ≡ false → c < 16 → AllCarriable bs → carry_all ours pid c bs ≡ numbered pid c (all_loads bs)
carry-all pid c [] good k f = unfold numbered in refl
carry-all pid c (b ∷ bs) good k f =
    rw (written-are pid c b good k f.0, next-is pid c b good k f.0, carry-all pid ((c + length (loads_of b.packets)) % 16) bs good (omega arith) f.1)
    (sym (counts-run-on pid c (loads_of b.packets) (all_loads bs) k))

pub carries-all : CarriesAll ours
carries-all pid count good k batches f =
    rw (carry-all pid count batches good k f) (flow-stream pid count (pid-small pid good) k (flow-all batches f))
