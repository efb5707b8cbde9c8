-- One transport packet of the flow: what the reader makes of it if it comes, and what is due after it if it comes or is lost.
-- Assumes nothing.
use mathlib.Core.Path.{◌≡◌, sym, ◌∙◌}
use Prim.Native.Nat.{ℕ, ◌+◌, ◌≤◌}
use mathlib.Core.Bool.{Bool, true, false, and-true, and-false}
use mathlib.Core.List.{List, [], ◌∷◌, ◌++◌, append_assoc, append-nil}
use native.Mathlib.Omega.{arith}
use lib.ListN.{length, replicate, length-append}
use Rattle.packet.specs.Cut.{joined}
use Rattle.packet.proofs.LayoutLaws.{size-least}
use Rattle.transport.specs.Load.{Load, load_bytes}
use Rattle.carry.proofs.Flow.{Flow, on, end, even, split}
use Rattle.gather.specs.Rules.{Hand, rules_on}
use Rattle.gather.proofs.ReadingLaws.{whole-short}
use Rattle.demands.proofs.MeetsThree.Events.{complete}
use Rattle.demands.proofs.MeetsThree.Due.{due_of, last_of, last_none, due-on, due-end, due-even, due-split}
use Rattle.demands.proofs.MeetsThree.Reading.{Has, Reads, brings, reads-out, reads_on, reads_end, reads-start}

-- ---- no packet is over 8,202 bytes

abbrev pub AllSmall : List (List ℕ) → Type 0
AllSmall [] = Unit
AllSmall (p ∷ ps) = (length p ≤ 8202) × AllSmall ps

pub record Small (u r : List ℕ) (ps : List (List ℕ)) : Type 0 where
  pub under-way : length u + length r ≤ 8202
  pub follow : AllSmall ps

small-behind : (qs ps : List (List ℕ)) → AllSmall (qs ++ ps) → AllSmall ps
small-behind [] ps s = s
small-behind (q ∷ qs) ps s = small-behind qs ps s.1

-- ---- one ahead

pub record Ahead (ok : Bool) (u r : List ℕ) (ps : List (List ℕ)) (l : Load) (ls : List Load) : Type 0 where
  -- whether the reader is in step after it, and where the flow is then
  pub after : Bool
  pub gone : List ℕ
  pub left : List ℕ
  pub follow : List (List ℕ)
  pub flow : Flow gone left follow ls
  pub small : Small gone left follow
  pub few : length gone ≤ 8201
  -- what is handed out if it comes
  pub hands : List (List ℕ)
  pub reads : (count : ℕ) (h : Hand) → Has ok u h → Reads hands after gone h (rules_on (brings count l) h)
  -- what is due
  pub due-came : (m : List Bool) → due_of ok u r ps (replicate (length (load_bytes l)) true ++ m) ≡ hands ++ due_of after gone left follow m
  pub due-lost : (m : List Bool) → due_of ok u r ps (replicate (length (load_bytes l)) false ++ m) ≡ due_of false gone left follow m

nothing-under : (ps : List (List ℕ)) → AllSmall ps → Small [] [] ps
nothing-under ps s = record { under-way = omega arith; follow = s }

pub ahead : (ok : Bool) {u r : List ℕ} {ps : List (List ℕ)} {l : Load} {ls : List Load} → Flow u r ps (l ∷ ls) → Small u r ps → Ahead ok u r ps l ls
ahead true (on u d r ps ls a b l c f w) s =
    let n : length (u ++ d) ≡ length u + length d = length-append u d in
    let m : length (d ++ r) ≡ length d + length r = length-append d r in
    record {
      after = true;
      gone = u ++ d;
      left = r;
      follow = ps;
      flow = w;
      small = record { under-way = omega (arith, s.under-way); follow = s.follow };
      few = omega (arith, s.under-way);
      hands = [];
      reads = λ count h x. reads_on count h u x a d r f c;
      due-came = λ m. due-on true true u d r ps m b c;
      due-lost = λ m. due-on true false u d r ps m b c;
    }
ahead false (on u d r ps ls a b l c f w) s =
    let n : length (u ++ d) ≡ length u + length d = length-append u d in
    let m : length (d ++ r) ≡ length d + length r = length-append d r in
    record {
      after = false;
      gone = u ++ d;
      left = r;
      follow = ps;
      flow = w;
      small = record { under-way = omega (arith, s.under-way); follow = s.follow };
      few = omega (arith, s.under-way);
      hands = [];
      reads = λ count h x. reads-out count h u (u ++ d) d x;
      due-came = λ m. due-on false true u d r ps m b c;
      due-lost = λ m. due-on false false u d r ps m b c;
    }
ahead true (end u d ps ls a b l f w) s =
    record {
      after = true;
      gone = [];
      left = [];
      follow = ps;
      flow = w;
      small = nothing-under ps s.follow;
      few = omega arith;
      hands = (u ++ d) ∷ [];
      reads = λ count h x. reads_end count h u x a d f;
      due-came = λ m. due-end true true u d ps m b;
      due-lost = λ m. due-end true false u d ps m b;
    }
ahead false (end u d ps ls a b l f w) s =
    record {
      after = false;
      gone = [];
      left = [];
      follow = ps;
      flow = w;
      small = nothing-under ps s.follow;
      few = omega arith;
      hands = [];
      reads = λ count h x. reads-out count h u [] d x;
      due-came = λ m. due-end false true u d ps m b;
      due-lost = λ m. due-end false false u d ps m b;
    }
ahead ok (even u r qs ps ls w a l f x) s =
    let e : joined qs ++ [] ≡ joined qs = append-nil (joined qs) in
    record {
      after = true;
      gone = [];
      left = [];
      follow = ps;
      flow = x;
      small = nothing-under ps (small-behind qs ps s.follow);
      few = omega arith;
      hands = last_of ok u r ++ qs;
      reads = λ count h y. rw e at (reads-start count h ok u r qs [] w y f (omega (arith, size-least [])));
      due-came = λ m. due-even ok true u r qs ps m f ∙ rw (and-true ok) (sym (append_assoc (last_of ok u r) qs (complete ps m)));
      due-lost = λ m. due-even ok false u r qs ps m f ∙ rw (and-false ok, last_none u r);
    }
ahead ok (split u r qs v s ps ls w a b l f g x) y =
    let t : AllSmall ((v ++ s) ∷ ps) = small-behind qs ((v ++ s) ∷ ps) y.follow in
    let n : length v + length s ≤ 8202 = omega (arith, t.0, length-append v s) in
    record {
      after = true;
      gone = v;
      left = s;
      follow = ps;
      flow = x;
      small = record { under-way = n; follow = t.1 };
      few = omega arith;
      hands = last_of ok u r ++ qs;
      reads = λ count h z. reads-start count h ok u r qs v w z f (whole-short v s g b);
      due-came = λ m. due-split ok true u r qs v s ps m f a b ∙ rw (and-true ok) (sym (append_assoc (last_of ok u r) qs (due_of true v s ps m)));
      due-lost = λ m. due-split ok false u r qs v s ps m f a b ∙ rw (and-false ok, last_none u r);
    }
