-- What the reader does with one of the writer's transport packets, on lists: in step it joins and hands out, and out of step it
-- waits for the next start. No mark is set.
-- Assumes nothing.
use mathlib.Core.Path.{◌≡◌, refl, sym, ap, ◌∙◌}
use mathlib.Core.Bool.{Bool, true, false, cond}
use mathlib.Core.List.{List, [], ◌∷◌, ◌++◌, append_assoc, append-nil}
use Prim.Native.Nat.{ℕ, suc, ◌<◌}
use native.Mathlib.Omega.{arith}
use lib.ListN.{length, take, drop}
use lib.Seq.{take-append_seam, drop-append_seam}
use borrow.Author.Tests.{ne_eqb}
use Rattle.packet.specs.Layout.{size_of}
use Rattle.packet.specs.Cut.{Whole, AllWhole, joined}
use Rattle.transport.specs.Load.{Load, plain, start, transport_of}
use Rattle.transport.proofs.LoadLaws.{Sound}
use Rattle.carry.proofs.Flow.{Way, none, under}
use Rattle.gather.specs.Rules as rules
use Rattle.gather.specs.Rules.{Brought, brought_by, Hand, up_to_start, unfinished, rules_on}
use Rattle.gather.proofs.JoinLaws.{passes, strays-in}
use Rattle.gather.proofs.ReadingLaws.{plainly, starting, brought-plain, brought-start, from-start-joined, plain_out, plain-on, plain_end, stage-end}
use Rattle.demands.proofs.MeetsThree.Due.{last_of, last_under}

-- ---- what it has in hand

-- the bytes that wait, where u went of the packet under way and all of it came or not
abbrev pub kept : Bool → List ℕ → List ℕ
kept ok u = cond ok u []

pub record Has (ok : Bool) (u : List ℕ) (h : Hand) : Type 0 where
  pub step : h.step ≡ ok
  pub waiting : h.waiting ≡ kept ok u

-- from h to k the packets ps are handed out and no mark is set
pub record Reads (ps : List (List ℕ)) (ok : Bool) (u : List ℕ) (h k : Hand) : Type 0 where
  pub packets : k.packets ≡ h.packets ++ ps
  pub has : Has ok u k
  pub marks : k.marks ≡ h.marks

some : (u : List ℕ) → 0 < length u → rules.none u ≡ false
some [] h = absurd (omega arith)
some (x ∷ u) h = ne_eqb (suc (length u)) 0 (omega arith)

-- ---- what a load brings

abbrev pub brings : ℕ → Load → Brought
brings count (plain d) = plainly count d
brings count (start n d) = starting count (take n d) (drop n d)

pub brought : (pid count : ℕ) (l : Load) → pid < 8192 → count < 16 → Sound l → brought_by (transport_of pid count l) ≡ brings count l
brought pid count (plain d) hp hc s = brought-plain pid count d hp hc s
brought pid count (start n d) hp hc s = brought-start pid count n d hp hc s

-- ---- with no start

module _ (count : ℕ) (h : Hand) where
  -- out of step; nothing waits, whatever went
  pub reads-out : (u v d : List ℕ) → Has false u h → Reads [] false v h (rules_on (brings count (plain d)) h)
  reads-out u v d x =
      rw (plain_out count h d x.step)
      (record { packets = sym (append-nil h.packets); has = record { step = x.step; waiting = x.waiting }; marks = refl })

  module _ (u : List ℕ) (x : Has true u h) (a : 0 < length u) where
    waiting-some : rules.none h.waiting ≡ false
    waiting-some = ap rules.none x.waiting ∙ some u a

    pub reads_on : (d r : List ℕ) → Whole (u ++ (d ++ r)) → 0 < length r → Reads [] true (u ++ d) h (rules_on (brings count (plain d)) h)
    reads_on d r w i =
        rw (plain-on count h x.step waiting-some d r (rw x.waiting w) i)
        (record {
          packets = sym (append-nil h.packets);
          has = record { step = refl; waiting = ap (λ (l : List ℕ). l ++ d) x.waiting };
          marks = refl;
        })

    pub reads_end : (d : List ℕ) → Whole (u ++ d) → Reads ((u ++ d) ∷ []) true [] h (rules_on (brings count (plain d)) h)
    reads_end d w =
        rw (plain_end count h x.step waiting-some d (rw x.waiting w))
        (record {
          packets = ap (λ (l : List ℕ). h.packets ++ ((l ++ d) ∷ [])) x.waiting;
          has = record { step = x.step; waiting = refl };
          marks = refl;
        })

-- ---- with a start

-- at the start, r before it is the rest of the packet under way, which is handed out where all of it came
record Opens (ok : Bool) (u r : List ℕ) (h k : Hand) : Type 0 where
  packets : k.packets ≡ h.packets ++ last_of ok u r
  marks : k.marks ≡ h.marks

unchanged : (ok : Bool) (u r : List ℕ) (h : Hand) → last_of ok u r ≡ [] → Opens ok u r h h
unchanged ok u r h e = record { packets = rw e (sym (append-nil h.packets)); marks = refl }

empty-finished : (h : Hand) → h.waiting ≡ [] → unfinished h ≡ h
empty-finished h z = rw z

opens : (ok : Bool) {u r : List ℕ} (h : Hand) → Way u r → Has ok u h → Opens ok u r h (unfinished (up_to_start r h))
opens true h none x = rw (strays-in [] h x.step x.waiting, empty-finished h x.waiting) (unchanged true [] [] h refl)
opens false h none x = rw (passes [] h x.step, empty-finished h x.waiting) (unchanged false [] [] h refl)
opens true h (under {u} {r} a b w) x =
    rw (stage-end 0 h x.step (waiting-some 0 h u x a) r (rw x.waiting w))
    (record { packets = rw (last_under true u r b, x.waiting); marks = refl })
opens false h (under {u} {r} a b w) x = rw (passes r h x.step, empty-finished h x.waiting) (unchanged false u r h (last_under false u r b))

pub reads-start : (count : ℕ) (h : Hand) (ok : Bool) (u r : List ℕ) (qs : List (List ℕ)) (v : List ℕ) → Way u r → Has ok u h → AllWhole qs → length v < size_of v
    → Reads (last_of ok u r ++ qs) true v h (rules_on (brings count (start (length r) (r ++ (joined qs ++ v)))) h)
unfolding rules_on
reads-start count h ok u r qs v w x f short =
    let o : Opens ok u r h (unfinished (up_to_start r h)) = opens ok h w x in
    rw (take-append_seam r (joined qs ++ v), drop-append_seam r (joined qs ++ v), from-start-joined qs v (unfinished (up_to_start r h)) f short)
    (record {
      packets = ap (λ (l : List (List ℕ)). l ++ qs) o.packets ∙ append_assoc h.packets (last_of ok u r) qs;
      has = record { step = refl; waiting = refl };
      marks = o.marks;
    })
