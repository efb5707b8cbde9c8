-- The induction over the events: at each place of the flow the reader's state is tied to it, and what the calls from here on
-- tell is exactly what is due from here on.
-- Assumes nothing.
use mathlib.Core.Path.{◌≡◌, refl, sym, ap, ◌∙◌}
use Prim.Native.Nat.{ℕ, suc, ◌+◌, ◌%◌, ◌≤◌, ◌<◌}
use mathlib.Core.Bool.{Bool, true, false}
use mathlib.Core.List.{List, [], ◌∷◌, ◌++◌}
use native.Mathlib.Omega.{arith}
use lib.ListN.{length}
use borrow.Author.Tests.{eq-eqb}
use Rattle.packet.specs.Layout.{size_of}
use Rattle.packet.specs.Cut.{Cut}
use Rattle.packet.proofs.LayoutLaws.{size-least}
use Rattle.packet.proofs.CutLaws.{cut-nil}
use Rattle.transport.specs.Header.{count_of}
use Rattle.transport.specs.Tests.{pid_outside}
use Rattle.transport.specs.Load.{Load, transport_of}
use Rattle.transport.proofs.LoadLaws.{Found, found}
use Rattle.carry.specs.Carry.{numbered}
use Rattle.carry.proofs.Flow.{Way, none, under, Flow, done, flow-way}
use Rattle.carry.proofs.Theorems.{flow-sound, pid-small, length-numbered}
use Rattle.gather.specs.Marks.{no_marks}
use Rattle.gather.specs.State.{fresh, repeats}
use Rattle.gather.specs.Gather.{Outcome, in_hand, refused_of, gather_of}
use Rattle.gather.specs.Calls.{calls_of, lent, handed_all}
use Rattle.gather.specs.Rules.{rule_one}
use Rattle.gather.specs.declared.Marks.{Marks}
use Rattle.gather.specs.declared.Reader.{Reader}
use Rattle.gather.specs.State.{Started}
use Rattle.gather.proofs.ReadingLaws.{whole-short}
use Rattle.gather.proofs.StateLaws.{start-taken, fresh-fit}
use Rattle.demands.specs.Library.{ours}
use Rattle.demands.specs.Demand3.{packets_of, carry_all, Exactly}
use Rattle.demands.proofs.MeetsThree.Events.{Event, lost, came, again, other, arrivals, Since, never, since, missed, Allowed, handed_in, byte_came, loss_at, marks, ByEvents}
use Rattle.demands.proofs.MeetsThree.Due.{due_of}
use Rattle.demands.proofs.MeetsThree.Reading.{kept}
use Rattle.demands.proofs.MeetsThree.Ahead.{Small, Ahead, ahead}
use Rattle.demands.proofs.MeetsThree.Holding.{Tied, Near, Enters, enters, tied-lost, tied-came}
use Rattle.demands.proofs.MeetsThree.Taking.{Gives, takes, refuses, foreign-refused, again-refused}
use Rattle.demands.proofs.MeetsThree.Batches.{all_loads, flow-all, batches-small, carry-all}

-- ---- the parts of what is allowed

near : (pid : ℕ) (q : Since) (es : List Event) → Allowed pid q (came ∷ es) → Near q
near pid never es a = tt
near pid (since g) es a = a.0

allowed-on : (pid : ℕ) (q : Since) (es : List Event) → Allowed pid q (came ∷ es) → Allowed pid (since 0) es
allowed-on pid never es a = a
allowed-on pid (since g) es a = a.1

-- ---- what waits

way-short : (ok : Bool) {u r : List ℕ} → Way u r → length (kept ok u) < size_of (kept ok u)
way-short false w = omega (arith, size-least [])
way-short true none = omega (arith, size-least [])
way-short true (under {u} {r} a b f) = whole-short u r f b

kept-few : (ok : Bool) (u : List ℕ) → length u ≤ 8201 → length (kept ok u) ≤ 8201
kept-few true u h = h
kept-few false u h = omega arith

due-nil : (ok : Bool) {u r : List ℕ} {ps : List (List ℕ)} → Flow u r ps [] → due_of ok u r ps [] ≡ []
due-nil ok done = refl

-- what came last has the reader's last count
abbrev Again : Since → Reader → List ℕ → Type 0
Again never s prev = Unit
Again (since g) s prev = repeats s.last (count_of prev) ≡ true

again-missed : (q : Since) (s : Reader) (prev : List ℕ) → Again q s prev → Again (missed q) s prev
again-missed never s prev a = tt
again-missed (since g) s prev a = a

-- ---- one call, and those behind it

module _ (s : Reader) (t g : List ℕ) (outs : ℕ → List ℕ) (ts ps : List (List ℕ)) (m : List Bool) where
  abbrev o : Outcome
  o = gather_of s t g (outs 0)

  abbrev on : ℕ → List ℕ
  on n = outs (suc n)

  after-refusal : (n : ℕ) → gather_of s t g (outs 0) ≡ refused_of s g (outs 0) n → Exactly ps m (calls_of s g (lent on ts)) → Exactly ps (false ∷ m) (calls_of s g (lent outs (t ∷ ts)))
  after-refusal n e x =
      rw e
      (record {
        handed = ap (λ (c : Cut). c.packets ++ handed_all (calls_of s g (lent on ts))) cut-nil ∙ x.handed;
        marked = ap (λ (l : List Marks). no_marks ∷ l) x.marked;
      })

  after_call : {pid c : ℕ} {loss ok : Bool} {u : List ℕ} (qs : List (List ℕ)) → Gives pid c qs loss ok u o
      → Exactly ps m (calls_of o.answer.reader o.gathering (lent on ts)) → Exactly (qs ++ ps) (loss ∷ m) (calls_of s g (lent outs (t ∷ ts)))
  after_call qs y x =
      record {
        handed = rw (y.handed, x.handed);
        marked = rw (y.marks, x.marked);
      }

-- ---- all calls

journey : (es : List Event) (pid c : ℕ) (q : Since) (ok : Bool) (u r : List ℕ) (ps : List (List ℕ)) (ls : List Load)
    → pid_outside pid ≡ false → c < 16 → Flow u r ps ls → Small u r ps → Allowed pid q es → length (arrivals es) ≡ length ls
    → (s : Reader) (g : List ℕ) → Tied pid c q ok u s g → (prev : List ℕ) → Again q s prev → (outs : ℕ → List ℕ) → ((n : ℕ) → 8385 ≤ length (outs n))
    → Exactly (due_of ok u r ps (byte_came (arrivals es) (numbered pid c ls))) (marks q es) (calls_of s g (lent outs (handed_in prev es (numbered pid c ls))))
unfolding numbered
journey [] pid c q ok u r ps [] good k w z a n s g h prev v outs o = record { handed = sym (due-nil ok w); marked = refl }
journey [] pid c q ok u r ps (l ∷ ls) good k w z a n s g h prev v outs o = absurd (omega arith)
journey (lost ∷ es) pid c q ok u r ps [] good k w z a n s g h prev v outs o = absurd (omega arith)
journey (lost ∷ es) pid c q ok u r ps (l ∷ ls) good k w z a n s g h prev v outs o =
    let x : Ahead ok u r ps l ls = ahead ok w z in
    let f : Found pid c l = found pid c l (pid-small pid good) k (flow-sound w).0 in
    rw (f.carries, x.due-lost (byte_came (arrivals es) (numbered pid ((c + 1) % 16) ls)))
    (journey es pid ((c + 1) % 16) (missed q) false x.gone x.left x.follow ls good (omega arith) x.flow x.small a (omega arith) s g
    (tied-lost q x.gone h) prev (again-missed q s prev v) outs o)
journey (came ∷ es) pid c q ok u r ps [] good k w z a n s g h prev v outs o = absurd (omega arith)
journey (came ∷ es) pid c q ok u r ps (l ∷ ls) good k w z a n s g h prev v outs o =
    let x : Ahead ok u r ps l ls = ahead ok w z in
    let t : List ℕ = transport_of pid c l in
    let f : Found pid c l = found pid c l (pid-small pid good) k (flow-sound w).0 in
    let e : Enters q ok u c s (rule_one s.last c (in_hand s g)) = enters q h (near pid q es a) k (way-short ok (flow-way w)) in
    let y : Gives pid c x.hands (loss_at q) x.after x.gone (gather_of s (transport_of pid c l) g (outs 0)) =
    takes pid c l good k (flow-sound w).0 q ok u s g (outs 0) h (o 0) e x.hands x.after x.gone (x.reads c) in
    let last : repeats (gather_of s (transport_of pid c l) g (outs 0)).answer.reader.last (count_of (transport_of pid c l)) ≡ true =
    rw (y.leaves.next, f.counted) (eq-eqb c c refl) in
    rw (f.carries, x.due-came (byte_came (arrivals es) (numbered pid ((c + 1) % 16) ls)))
    (after_call s (transport_of pid c l) g outs (handed_in (transport_of pid c l) es (numbered pid ((c + 1) % 16) ls)) _ _ x.hands y
    (journey es pid ((c + 1) % 16) (since 0) x.after x.gone x.left x.follow ls good (omega arith) x.flow x.small (allowed-on pid q es a) (omega arith)
    (gather_of s (transport_of pid c l) g (outs 0)).answer.reader (gather_of s (transport_of pid c l) g (outs 0)).gathering
    (tied-came y.leaves good k (kept-few x.after x.gone x.few)) (transport_of pid c l) last (λ (i : ℕ). outs (suc i)) (λ i. o (suc i))))
journey (again ∷ es) pid c never ok u r ps ls good k w z a n s g h prev v outs o = absurd a
journey (again ∷ es) pid c (since j) ok u r ps ls good k w z a n s g h prev v outs o =
    after-refusal s prev g outs (handed_in prev es (numbered pid c ls)) _ _ _ (refuses s prev g (outs 0) (again-refused s prev g (outs 0) v))
    (journey es pid c (since j) ok u r ps ls good k w z a n s g h prev v (λ (i : ℕ). outs (suc i)) (λ i. o (suc i)))
journey (other t ∷ es) pid c q ok u r ps ls good k w z a n s g h prev v outs o =
    after-refusal s t g outs (handed_in prev es (numbered pid c ls)) _ _ _ (refuses s t g (outs 0) (foreign-refused s t g (outs 0) (rw h.own a.0)))
    (journey es pid c q ok u r ps ls good k w z a.1 n s g h prev v (λ (i : ℕ). outs (suc i)) (λ i. o (suc i)))

tied-fresh : (pid c : ℕ) (g : List ℕ) → pid_outside pid ≡ false → 8202 ≤ length g → Tied pid c never false [] (fresh pid) g
tied-fresh pid c g good h =
    record { own = refl; fit = fresh-fit pid good; room = h; last = refl; has = (refl, record { step = refl; waiting = refl }) }

pub by-events : ByEvents ours
by-events pid count good k batches f es a n g b outs o =
    let e : carry_all ours pid count batches ≡ numbered pid count (all_loads batches) = carry-all pid count batches good k f in
    let st : (ours.start pid).reader ≡ fresh pid = ap (λ (x : Started). x.reader) (start-taken pid good) in
    rw (e, st)
    (journey es pid count never false [] [] (packets_of batches) (all_loads batches) good k (flow-all batches f)
    (record { under-way = omega arith; follow = batches-small batches f }) a (n ∙ ap length e ∙ length-numbered pid count (all_loads batches)) (fresh pid) g
    (tied-fresh pid count g good b) [] tt outs o)
