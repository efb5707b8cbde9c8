-- The reader's state between two calls, tied to its place in the flow.
-- Assumes nothing.
use mathlib.Core.Path.{◌≡◌, refl, sym, ap}
use Prim.Native.Nat.{ℕ, zero, suc, ◌+◌, ◌%◌, ◌≤◌, ◌<◌}
use mathlib.Core.Bool.{Bool, true, false}
use mathlib.Core.List.{List, []}
use native.Mathlib.Omega.{arith}
use lib.ListN.{length, take}
use borrow.Author.Tests.{lt-ltb, le-ltb, ne_eqb}
use Rattle.packet.specs.Layout.{size_of}
use Rattle.transport.specs.Tests.{pid_outside}
use Rattle.gather.specs.State.{waits_out_of_step, unfit, repeats}
use Rattle.gather.specs.Marks.{loss_alone}
use Rattle.gather.specs.Rules.{Hand, out_of_turn, rule_one}
use Rattle.gather.specs.Gather.{Outcome, in_hand}
use Rattle.std.specs.Prelude.{Option, None, Some}
use Rattle.gather.specs.declared.Reader.{Reader}
use Rattle.gather.proofs.RefusalLaws.{fit-whole}
use Rattle.gather.proofs.EnterLaws.{rule-lost}
use Rattle.gather.proofs.ReadingLaws.{rule-first, rule-next}
use Rattle.demands.specs.Route.{longest_run}
use Rattle.demands.proofs.MeetsThree.Events.{Since, never, since, missed, loss_at}
use Rattle.demands.proofs.MeetsThree.Reading.{kept, Has}

-- the last count, where c is that of the writer's next transport packet
abbrev pub LastIs : ℕ → Since → Option ℕ → Type 0
LastIs c never l = l ≡ None
LastIs c (since g) l = (n : ℕ) × (l ≡ Some n) × (n < 16) × ((n + 1 + g) % 16 ≡ c)

-- what is in hand: nothing before the first; where none is lost since the last, what came of the packet under way if all of it
-- did; after a loss it does not matter, since rule 1 drops it
abbrev pub HasAs : Since → Bool → List ℕ → Hand → Type 0
HasAs never ok u h = (ok ≡ false) × Has false u h
HasAs (since zero) ok u h = Has ok u h
HasAs (since (suc g)) ok u h = ok ≡ false

pub record Tied (pid c : ℕ) (q : Since) (ok : Bool) (u : List ℕ) (s : Reader) (gathering : List ℕ) : Type 0 where
  pub own : s.pid ≡ pid
  pub fit : unfit s ≡ false
  pub room : 8202 ≤ length gathering
  pub last : LastIs c q s.last
  pub has : HasAs q ok u (in_hand s gathering)

-- ---- rule 1

-- not too many are lost
abbrev pub Near : Since → Type 0
Near never = Unit
Near (since g) = g ≤ longest_run

-- the next one is no repeat, and what is in hand after rule 1
pub record Enters (q : Since) (ok : Bool) (u : List ℕ) (c : ℕ) (s : Reader) (h : Hand) : Type 0 where
  pub new : repeats s.last c ≡ false
  pub has : Has ok u h
  pub packets : h.packets ≡ []
  pub marks : h.marks ≡ loss_alone (loss_at q)

same : (q : Since) (ok : Bool) (u : List ℕ) (c : ℕ) (s : Reader) (g : List ℕ) → repeats s.last c ≡ false → loss_at q ≡ false → Has ok u (in_hand s g)
    → rule_one s.last c (in_hand s g) ≡ in_hand s g → Enters q ok u c s (rule_one s.last c (in_hand s g))
same q ok u c s g n l x e = rw e (record { new = n; has = x; packets = refl; marks = ap loss_alone (sym l) })

pub enters : (q : Since) {ok : Bool} {u : List ℕ} {pid c : ℕ} {s : Reader} {g : List ℕ} → Tied pid c q ok u s g → Near q → c < 16 → length (kept ok u) < size_of (kept ok u)
    → Enters q ok u c s (rule_one s.last c (in_hand s g))
enters never {ok} {u} {pid} {c} {s} {g} h n k short =
    let x : Has ok u (in_hand s g) = rw h.has.0 h.has.1 in
    same never ok u c s g (rw h.last) refl x (rw h.last (rule-first (in_hand s g) (rw x.waiting short) c))
enters (since zero) {ok} {u} {pid} {c} {s} {g} h n k short =
    let m : ℕ = h.last.0 in
    same (since 0) ok u c s g
    (rw h.last.1 (ne_eqb c m (λ e. omega (arith, h.last.2, h.last.3)))) refl h.has
    (rw h.last.1 (rule-next (in_hand s g) (rw h.has.waiting short) m c (omega (arith, h.last.3))))
enters (since (suc j)) {ok} {u} {pid} {c} {s} {g} h n k short =
    let m : ℕ = h.last.0 in
    let out : out_of_turn s.last c ≡ true = rw (h.last.1, ne_eqb c ((m + 1) % 16) (λ e. omega (arith, h.last.2, h.last.3))) in
    rw (rule-lost s.last c (in_hand s g) out, h.has)
    (record {
      new = rw h.last.1 (ne_eqb c m (λ e. omega (arith, h.last.2, h.last.3)));
      has = record { step = refl; waiting = refl };
      packets = refl;
      marks = ap loss_alone (sym (lt-ltb 0 (suc j) (omega arith)));
    })

-- ---- one is lost

pub tied-lost : (q : Since) {ok : Bool} {u : List ℕ} {pid c : ℕ} {s : Reader} {g : List ℕ} (v : List ℕ) → Tied pid c q ok u s g → Tied pid ((c + 1) % 16) (missed q) false v s g
tied-lost never v h =
    record { own = h.own; fit = h.fit; room = h.room; last = h.last; has = (refl, record { step = h.has.1.step; waiting = h.has.1.waiting }) }
tied-lost (since j) v h =
    record { own = h.own; fit = h.fit; room = h.room; last = (h.last.0, h.last.1, h.last.2, omega (arith, h.last.3)); has = refl }

-- ---- one came

-- the state and the buffer that a call gives
pub record Leaves (pid c : ℕ) (ok : Bool) (u : List ℕ) (o : Outcome) : Type 0 where
  pub next : o.answer.reader ≡ record { pid = pid; last = Some c; in_step = ok; waiting = length (kept ok u) }
  pub room : 8202 ≤ length o.gathering
  pub holds : take (length (kept ok u)) o.gathering ≡ kept ok u

idle : (ok : Bool) (u : List ℕ) → waits_out_of_step ok (length (kept ok u)) ≡ false
idle true u = refl
idle false u = refl

pub tied-came : {pid c : ℕ} {ok : Bool} {u : List ℕ} {o : Outcome} → Leaves pid c ok u o → pid_outside pid ≡ false → c < 16 → length (kept ok u) ≤ 8201
    → Tied pid ((c + 1) % 16) (since 0) ok u o.answer.reader o.gathering
tied-came {pid} {c} {ok} {u} x good k n =
    rw x.next
    (record {
      own = refl;
      fit = fit-whole (record { pid = pid; last = Some c; in_step = ok; waiting = length (kept ok u) })
          (record { inside = good; counted = le-ltb 15 c (omega arith); few = n; idle = idle ok u });
      room = x.room;
      last = (c, refl, k, omega arith);
      has = record { step = refl; waiting = x.holds };
    })
