-- A call of our reader with one of the writer's transport packets, and a call that is refused.
-- Assumes nothing.
use mathlib.Core.Path.{◌≡◌, refl, sym, ap, ◌∙◌}
use mathlib.Core.Logic.{inl, inr}
use Prim.Native.Nat.{ℕ, ◌≤◌, ◌<◌}
use mathlib.Core.Bool.{Bool, true, false}
use mathlib.Core.List.{List, ◌++◌}
use native.Mathlib.Omega.{arith}
use lib.ListN.{length, take}
use Rattle.fields.proofs.Cases.{true≢false}
use Rattle.refusals.specs.Checks.{first}
use Rattle.refusals.proofs.CheckLaws.{none-holds}
use Rattle.transport.specs.Header.{count_of}
use Rattle.transport.specs.Tests.{pid_outside, transport_checks}
use Rattle.transport.specs.Load.{Load, plain, start, transport_of}
use Rattle.transport.proofs.LoadLaws.{Sound, transport-length, Found, found}
use Rattle.carry.proofs.Theorems.{pid-small}
use Rattle.gather.specs.State.{repeats, gather_checks}
use Rattle.gather.specs.Marks.{loss_alone}
use Rattle.gather.specs.Rules.{Brought, brought_by, Hand, rule_one, rules_on}
use Rattle.gather.specs.Gather.{Outcome, in_hand, answer_of, refused_of, result_of, taken_of, gather_of}
use Rattle.gather.specs.Calls.{handed_by}
use Rattle.std.specs.Prelude.{Some}
use Rattle.gather.specs.declared.Reader.{Reader}
use Rattle.gather.specs.Gather.{Gathered}
use Rattle.gather.proofs.RefusalLaws.{passed}
use Rattle.gather.proofs.GatherLaws.{gather-refused, gather-taken}
use Rattle.gather.proofs.HandedLaws.{taken-cut, taken-holds}
use Rattle.gather.proofs.ReadingLaws.{writers-passes, accepted, taken-room, taken-answer}
use Rattle.demands.specs.Route.{Foreign}
use Rattle.demands.proofs.MeetsThree.Events.{Since, loss_at}
use Rattle.demands.proofs.MeetsThree.Reading.{kept, Has, Reads, brings, brought}
use Rattle.demands.proofs.MeetsThree.Holding.{Tied, Enters, Leaves}

-- ---- what a call gives

pub record Gives (pid c : ℕ) (ps : List (List ℕ)) (loss ok : Bool) (u : List ℕ) (o : Outcome) : Type 0 where
  pub leaves : Leaves pid c ok u o
  pub handed : handed_by o ≡ ps
  pub marks : o.answer.marks ≡ loss_alone loss

module _ (s : Reader) (t g o : List ℕ) (pid c : ℕ) (own : s.pid ≡ pid) (count : (brought_by t).count ≡ c) (room : 8202 ≤ length g) where
  abbrev h : Hand
  h = result_of s t g

  abbrev a : Gathered
  a = (taken_of s t g o).answer

  -- a mark, or another part of the answer
  told : {A : Type 0} (f : Gathered → A) → f a ≡ f (answer_of s.pid (brought_by t).count h)
  told f = ap f (taken-answer s t g o)

  next-state : (ok : Bool) (u : List ℕ) → Has ok u h → a.reader ≡ record { pid = pid; last = Some c; in_step = ok; waiting = length (kept ok u) }
  next-state ok u x =
      told (λ (y : Gathered). y.reader)
      ∙ ap (λ (n : ℕ). record { pid = n; last = Some (brought_by t).count; in_step = h.step; waiting = length h.waiting }) own
      ∙ ap (λ (n : ℕ). record { pid = pid; last = Some n; in_step = h.step; waiting = length h.waiting }) count
      ∙ ap (λ (b : Bool). record { pid = pid; last = Some c; in_step = b; waiting = length h.waiting }) x.step
      ∙ ap (λ (l : List ℕ). record { pid = pid; last = Some c; in_step = ok; waiting = length l }) x.waiting

  leaves-so : (ok : Bool) (u : List ℕ) → Has ok u h → Leaves pid c ok u (taken_of s t g o)
  leaves-so ok u x =
      record {
        next = next-state ok u x;
        room = omega (arith, taken-room s t g o);
        holds = ap (λ (y : Reader). take y.waiting (taken_of s t g o).gathering) (sym (next-state ok u x)) ∙ taken-holds s t g o ∙ x.waiting;
      }

  gives : (ps : List (List ℕ)) (loss ok : Bool) (u : List ℕ) → Has ok u h → h.packets ≡ ps → h.marks ≡ loss_alone loss
      → Gives pid c ps loss ok u (taken_of s t g o)
  gives ps loss ok u x p m =
      record {
        leaves = leaves-so ok u x;
        handed = taken-cut s t g o ∙ p;
        marks = told (λ (y : Gathered). y.marks) ∙ m;
      }

-- ---- a transport packet of the writer's

brings-count : (c : ℕ) (l : Load) → (brings c l).count ≡ c
brings-count c (plain d) = refl
brings-count c (start n d) = refl

module _ (pid c : ℕ) (l : Load) (good : pid_outside pid ≡ false) (k : c < 16) (sound : Sound l) where
  abbrev t : List ℕ
  t = transport_of pid c l

  has-count : (brought_by t).count ≡ c
  has-count = ap (λ (b : Brought). b.count) (brought pid c l (pid-small pid good) k sound) ∙ brings-count c l

  pub takes : (q : Since) (ok : Bool) (u : List ℕ) (s : Reader) (g o : List ℕ) → Tied pid c q ok u s g → 8385 ≤ length o
      → Enters q ok u c s (rule_one s.last c (in_hand s g))
      → (ps : List (List ℕ)) (after : Bool) (gone : List ℕ) → ((h : Hand) → Has ok u h → Reads ps after gone h (rules_on (brings c l) h))
      → Gives pid c ps (loss_at q) after gone (gather_of s t g o)
  takes q ok u s g o x space e ps after gone reads =
      let f : Found pid c l = found pid c l (pid-small pid good) k sound in
      let h : Hand = rule_one s.last c (in_hand s g) in
      let passes : first (transport_checks s.pid t) ≡ 0 = ap (λ (n : ℕ). first (transport_checks n t)) x.own ∙ writers-passes pid c l (pid-small pid good) k sound in
      let new : repeats s.last (count_of t) ≡ false = ap (repeats s.last) f.counted ∙ e.new in
      let n : first (gather_checks s t (length g) (length o)) ≡ 0 =
      accepted s t (length g) (length o) x.fit (transport-length pid c l sound) x.room space passes new in
      let is : result_of s t g ≡ rules_on (brings c l) h =
      ap (λ (b : Brought). rules_on b (rule_one s.last (brought_by t).count (in_hand s g))) (brought pid c l (pid-small pid good) k sound)
      ∙ ap (λ (j : ℕ). rules_on (brings c l) (rule_one s.last j (in_hand s g))) has-count in
      let r : Reads ps after gone h (result_of s t g) = rw is (reads h e.has) in
      rw (gather-taken s t g o n)
      (gives s t g o pid c x.own has-count x.room ps (loss_at q) after gone r.has
      (r.packets ∙ ap (λ (y : List (List ℕ)). y ++ ps) e.packets) (r.marks ∙ e.marks))

-- ---- refused

module _ (s : Reader) (t g o : List ℕ) where
  pub refuses : (first (gather_checks s t (length g) (length o)) ≡ 0 → ⊥) → gather_of s t g o ≡ refused_of s g o (first (gather_checks s t (length g) (length o)))
  refuses h = sym (gather-refused s t g o (first (gather_checks s t (length g) (length o))) refl h)

  pub foreign-refused : Foreign s.pid t → first (gather_checks s t (length g) (length o)) ≡ 0 → ⊥
  unfolding gather_checks transport_checks
  foreign-refused (inl h) e = true≢false (sym h ∙ (none-holds (gather_checks s t (length g) (length o)) tt e).1.1.1.1.1.0)
  foreign-refused (inr h) e = true≢false (sym h ∙ (none-holds (gather_checks s t (length g) (length o)) tt e).1.1.1.1.1.1.0)

  pub again-refused : repeats s.last (count_of t) ≡ true → first (gather_checks s t (length g) (length o)) ≡ 0 → ⊥
  again-refused h e = true≢false (sym h ∙ (passed s t (length g) (length o) e).new)
