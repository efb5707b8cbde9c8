-- The theorems of the batch writer, each by the flow of its loads.
-- Assumes nothing.
use mathlib.Core.Path.{◌≡◌, refl, sym, ap, ap₂, ◌∙◌}
use mathlib.Core.Bool.{false}
use mathlib.Core.Logic.{◌⊎◌, inl, inr, ⊎_elim}
use mathlib.Core.List.{List, [], ◌∷◌, ◌++◌, append_assoc}
use Prim.Native.Nat.{ℕ, suc, ◌+◌, ◌%◌, ◌≤◌, ◌<◌}
use native.Mathlib.Nat.{add_assoc, add-zero}
use native.Mathlib.Omega.{arith}
use lib.Dec.{ltb}
use lib.ListN.{length, length-append}
use lib.Seq.{take_at, drop_at}
use borrow.Author.Tests.{ltb-false, not-false, eqb-true}
use Rattle.fields.proofs.Cases.{cases, true≢false}
use Rattle.packet.specs.Cut.{AllWhole, Cut, joined}
use Rattle.packet.proofs.BatchLaws.{sound}
use Rattle.packet.proofs.CutLaws.{cut-nil, joined-append}
use Rattle.transport.specs.Tests.{pid_outside}
use Rattle.transport.specs.Load.{Load, plain, start, load_bytes, transport_of}
use Rattle.transport.proofs.LoadLaws.{Sound, sound-plain, sound-start, transport-length, found}
use Rattle.carry.specs.Loads.{loads_by, loads_of}
use Rattle.carry.specs.Carry.{packets_of, numbered, loads, transports_in}
use Rattle.carry.specs.Theorems.{Packets, stream_of, beginnings, Among, AllRight}
use Rattle.carry.proofs.Flow.{Flow, done, on, end, even, split}
use Rattle.carry.proofs.LoadLaws.{flows-of, joined-more, whole_long}
use Rattle.carry.proofs.BatchLaws.{Carriable}

-- ---- every load is sound

abbrev pub AllSound : List Load → Type 0
AllSound [] = Unit
AllSound (l ∷ ls) = Sound l × AllSound ls

pub flow-sound : {u r : List ℕ} {ps : List (List ℕ)} {ls : List Load} → Flow u r ps ls → AllSound ls
flow-sound done = tt
flow-sound (on u d r ps ls a b l c f w) = (sound-plain b l, flow-sound w)
flow-sound (end u d ps ls a b l f w) = (sound-plain b l, flow-sound w)
flow-sound (even u r qs ps ls w a l fs x) =
    (sound-start {n = length r} {d = r ++ joined qs} (simp length-append (omega arith)) l, flow-sound x)
flow-sound (split u r qs v s ps ls w a b l fs f x) =
    (sound-start {n = length r} {d = r ++ (joined qs ++ v)} (simp length-append (omega arith)) l, flow-sound x)

-- ---- the transport packets

pub pid-small : (pid : ℕ) → pid_outside pid ≡ false → pid < 8192
unfolding pid_outside
pid-small pid h =
    cases (ltb pid 0x0020)
    (λ t. absurd (true≢false (rw t at h)))
    (λ t. omega (arith, ltb-false 0x1FFE pid (rw t at h)))

packets : (pid c : ℕ) (ls : List Load) → pid < 8192 → c < 16 → AllSound ls → Packets pid c (numbered pid c ls)
unfolding numbered
packets pid c [] hp hc s = tt
packets pid c (l ∷ ls) hp hc s =
    let f = found pid c l hp hc s.0 in (
      record {
        long = transport-length pid c l s.0;
        sync = eqb-true _ _ (not-false _ f.sync);
        pid-is = eqb-true _ _ (not-false _ f.same-pid);
        count-is = f.counted;
        aims = f.aims;
      },
      packets pid ((c + 1) % 16) ls hp (omega arith) s.1,
    )

-- what they carry

abbrev loaded : List Load → List (List ℕ)
loaded [] = []
loaded (l ∷ ls) = load_bytes l ∷ loaded ls

stream : (pid c : ℕ) (ls : List Load) → pid < 8192 → c < 16 → AllSound ls → stream_of (numbered pid c ls) ≡ loaded ls
unfolding numbered
stream pid c [] hp hc s = refl
stream pid c (l ∷ ls) hp hc s =
    ap₂ ◌∷◌ (found pid c l hp hc s.0).carries (stream pid ((c + 1) % 16) ls hp (omega arith) s.1)

flow-bytes : {u r : List ℕ} {ps : List (List ℕ)} {ls : List Load} → Flow u r ps ls → joined (loaded ls) ≡ r ++ joined ps
unfolding joined
flow-bytes done = refl
flow-bytes (on u d r ps ls a b l c f w) = ap (λ (x : List ℕ). d ++ x) (flow-bytes w) ∙ sym (append_assoc d r (joined ps))
flow-bytes (end u d ps ls a b l f w) = ap (λ (x : List ℕ). d ++ x) (flow-bytes w)
flow-bytes (even u r qs ps ls w a l fs x) =
    ap (λ (y : List ℕ). (r ++ joined qs) ++ y) (flow-bytes x) ∙ append_assoc r (joined qs) (joined ps) ∙ ap (λ (y : List ℕ). r ++ y) (sym (joined-append qs ps))
flow-bytes (split u r qs v s ps ls w a b l fs f x) =
    let e : (r ++ (joined qs ++ v)) ++ (s ++ joined ps) ≡ r ++ (joined qs ++ ((v ++ s) ++ joined ps)) = simp append_assoc in
    ap (λ (y : List ℕ). (r ++ (joined qs ++ v)) ++ y) (flow-bytes x) ∙ e ∙ ap (λ (y : List ℕ). r ++ y) (sym (joined-append qs ((v ++ s) ∷ ps)))

-- all that is left of the packet under way, and the packets that follow
pub flow-stream : {u r : List ℕ} {ps : List (List ℕ)} {ls : List Load} (pid c : ℕ) → pid < 8192 → c < 16 → Flow u r ps ls
    → joined (stream_of (numbered pid c ls)) ≡ r ++ joined ps
flow-stream {ls = ls} pid c hp hc w = ap joined (stream pid c ls hp hc (flow-sound w)) ∙ flow-bytes w

-- ---- where packets begin

beginnings-append : (at : ℕ) (qs ps : List (List ℕ)) → beginnings at (qs ++ ps) ≡ beginnings at qs ++ beginnings (at + length (joined qs)) ps
unfolding joined
beginnings-append at [] ps = ap (λ (k : ℕ). beginnings k ps) (sym (add-zero at))
beginnings-append at (q ∷ qs) ps =
    ap (λ (l : List ℕ). at ∷ l)
    (beginnings-append (at + length q) qs ps
    ∙ ap (λ (k : ℕ). beginnings (at + length q) qs ++ beginnings k ps) (add_assoc at (length q) (length (joined qs)) ∙ ap (λ (k : ℕ). at + k) (sym (length-append q (joined qs)))))

among-left : (b : ℕ) (xs ys : List ℕ) → Among b xs → Among b (xs ++ ys)
among-left b [] ys h = absurd h
among-left b (x ∷ xs) ys h = ⊎_elim (λ e. inl e) (λ r. inr (among-left b xs ys r)) h

among-right : (b : ℕ) (xs ys : List ℕ) → Among b ys → Among b (xs ++ ys)
among-right b [] ys h = h
among-right b (x ∷ xs) ys h = inr (among-right b xs ys h)

among-split : (b : ℕ) (xs ys : List ℕ) → Among b (xs ++ ys) → Among b xs ⊎ Among b ys
among-split b [] ys h = inr h
among-split b (x ∷ xs) ys h =
    ⊎_elim (λ e. inl (inl e)) (λ r. ⊎_elim (λ s. inl (inr s)) (λ s. inr s) (among-split b xs ys r)) h

-- a packet begins before the place where those behind it do
before : (at b : ℕ) (qs : List (List ℕ)) → AllWhole qs → Among b (beginnings at qs) → b < at + length (joined qs)
before at b [] w h = absurd h
before at b (q ∷ qs) w h =
    ⊎_elim
    (λ e. omega (arith, joined-more q qs, whole_long q w.0))
    (λ r. omega (arith, joined-more q qs, before (at + length q) b qs w.1 r))
    h

from : (at b : ℕ) (ps : List (List ℕ)) → Among b (beginnings at ps) → at ≤ b
from at b [] h = absurd h
from at b (p ∷ ps) h = ⊎_elim (λ e. omega arith) (λ r. omega (arith, from (at + length p) b ps r)) h

-- what is known of more beginnings, where those that are added lie before
weaken : (a : ℕ) (bs cs : List ℕ) (ls : List Load) → ((b : ℕ) → Among b cs → Among b bs) → ((b : ℕ) → Among b bs → a ≤ b → Among b cs) → AllRight a cs ls → AllRight a bs ls
weaken a bs cs [] up down h = tt
weaken a bs cs (plain d ∷ ls) up down h = (
  λ b m g k. h.0 b (down b m g) g k,
  weaken (a + length d) bs cs ls up (λ b m g. down b m (omega arith)) h.1,
)
weaken a bs cs (start n d ∷ ls) up down h = (
  (h.0.0, up (a + n) h.0.1, λ b m g. h.0.2 b (down b m g) g),
  weaken (a + length d) bs cs ls up (λ b m g. down b m (omega arith)) h.1,
)

-- the first packet of any begins where they do
head-begins : (at : ℕ) (ps : List (List ℕ)) → 0 < length (joined ps) → Among at (beginnings at ps)
head-begins at [] h = unfold joined in absurd (omega arith)
head-begins at (p ∷ []) h = inl refl
head-begins at (p ∷ q ∷ ps) h = inl refl

-- a load with a start, and the loads behind it, whose beginnings are among all
opened : (a : ℕ) (r d : List ℕ) (all : List (List ℕ)) (cs : List ℕ) (ls : List Load) → 0 < length (joined all) → length r < length d
    → ((b : ℕ) → Among b cs → Among b (beginnings (a + length r) all))
    → ((b : ℕ) → Among b (beginnings (a + length r) all) → a + length d ≤ b → Among b cs)
    → AllRight (a + length d) cs ls → AllRight a (beginnings (a + length r) all) (start (length r) d ∷ ls)
opened a r d all cs ls h k up down rest = (
  (k, head-begins (a + length r) all h, λ b m g. from (a + length r) b all m),
  weaken (a + length d) (beginnings (a + length r) all) cs ls up down rest,
)

flow-right : {u r : List ℕ} {ps : List (List ℕ)} {ls : List Load} (a : ℕ) → Flow u r ps ls → AllRight a (beginnings (a + length r) ps) ls
flow-right a done = tt
flow-right a (on u d r ps ls x y l c f w) =
    let e : a + length (d ++ r) ≡ a + length d + length r = ap (λ (k : ℕ). a + k) (length-append d r) ∙ omega arith in
    rw e (
      λ b m g k. let h = from (a + length d + length r) b ps m in omega arith,
      flow-right (a + length d) w,
    )
flow-right a (end u d ps ls x y l f w) = (
  λ b m g k. let h = from (a + length d) b ps m in omega arith,
  rw (add-zero) at (flow-right (a + length d) w),
)
flow-right a (even u r qs ps ls w x l fs y) =
    let n : length (r ++ joined qs) ≡ length r + length (joined qs) = length-append r (joined qs) in
    let e : a + length r + length (joined qs) ≡ a + length (r ++ joined qs) + 0 = omega arith in
    let split_at : beginnings (a + length r) (qs ++ ps) ≡ beginnings (a + length r) qs ++ beginnings (a + length (r ++ joined qs) + 0) ps =
    beginnings-append (a + length r) qs ps ∙ ap (λ (k : ℕ). beginnings (a + length r) qs ++ beginnings k ps) e in
    opened a r (r ++ joined qs) (qs ++ ps) (beginnings (a + length (r ++ joined qs) + 0) ps) ls
    (rw (joined-append qs ps, length-append (joined qs) (joined ps)) (omega arith)) (omega arith)
    (λ b m. rw split_at (among-right b (beginnings (a + length r) qs) _ m))
    (λ b m g. ⊎_elim (λ t. let q = before (a + length r) b qs fs t in absurd (omega arith)) (λ t. t) (among-split b (beginnings (a + length r) qs) _ (rw split_at at m)))
    (flow-right (a + length (r ++ joined qs)) y)
flow-right a (split u r qs v s ps ls w x y l fs f z) =
    let d : List ℕ = r ++ (joined qs ++ v) in
    let at : ℕ = a + length r + length (joined qs) in
    let n : length (r ++ (joined qs ++ v)) ≡ length r + (length (joined qs) + length v) = length-append r (joined qs ++ v) ∙ ap (λ (k : ℕ). length r + k) (length-append (joined qs) v) in
    let e : a + length r + length (joined qs) + length (v ++ s) ≡ a + length (r ++ (joined qs ++ v)) + length s = ap (λ (k : ℕ). a + length r + length (joined qs) + k) (length-append v s) ∙ omega arith in
    let split_at : beginnings (a + length r) (qs ++ ((v ++ s) ∷ ps)) ≡ beginnings (a + length r) qs ++ (at ∷ beginnings (a + length (r ++ (joined qs ++ v)) + length s) ps) =
    beginnings-append (a + length r) qs ((v ++ s) ∷ ps) ∙ ap (λ (k : ℕ). beginnings (a + length r) qs ++ (at ∷ beginnings k ps)) e in
    opened a r d (qs ++ ((v ++ s) ∷ ps)) (beginnings (a + length (r ++ (joined qs ++ v)) + length s) ps) ls
    (rw (joined-append qs ((v ++ s) ∷ ps), length-append (joined qs) (joined ((v ++ s) ∷ ps))) (omega (arith, joined-more (v ++ s) ps, length-append v s))) (omega arith)
    (λ b m. rw split_at (among-right b (beginnings (a + length r) qs) _ (inr m)))
    (λ b m g. ⊎_elim
    (λ t. let q = before (a + length r) b qs fs t in absurd (omega arith))
    (λ t. ⊎_elim (λ i. absurd (omega arith)) (λ i. i) t)
    (among-split b (beginnings (a + length r) qs) _ (rw split_at at m)))
    (flow-right (a + length (r ++ (joined qs ++ v))) z)

-- ---- THE THEOREMS, for every batch that is carried

module _ (pid first_count : ℕ) (batch : List ℕ) (room : ℕ) (c : Carriable pid first_count batch room) where
  abbrev transports : List (List ℕ)
  transports = numbered pid first_count (loads batch)

  flow : Flow [] [] (packets_of batch) (loads batch)
  flow = flows-of (packets_of batch) (sound batch c.good).whole

  -- each is 188 bytes from 0x47 with the PID, counts rise by 1 modulo 16 from the first, and no pointer aims past the end
  pub carried-packets : Packets pid first_count transports
  carried-packets = packets pid first_count (loads batch) (pid-small pid c.pid-good) c.count-good (flow-sound flow)

  -- what they carry, one after another, is the batch
  pub carried-bytes : joined (stream_of transports) ≡ batch
  carried-bytes =
      flow-stream pid first_count (pid-small pid c.pid-good) c.count-good flow ∙ (sound batch c.good).bytes

  -- a start stands exactly where a T2-MI packet begins, and its pointer aims at the first that does
  pub starts-right : AllRight 0 (beginnings 0 (packets_of batch)) (loads batch)
  starts-right = flow-right 0 flow

-- the next count runs on: two batches one after the other are numbered as one
pub counts-run-on : (pid c : ℕ) (ls ms : List Load) → c < 16 → numbered pid c (ls ++ ms) ≡ numbered pid c ls ++ numbered pid ((c + length ls) % 16) ms
unfolding numbered
counts-run-on pid c [] ms h = let e : c ≡ (c + 0) % 16 = omega arith in ap (λ (k : ℕ). numbered pid k ms) e
counts-run-on pid c (l ∷ ls) ms h =
    let e : ((c + 1) % 16 + length ls) % 16 ≡ (c + suc (length ls)) % 16 = omega arith in
    ap (λ (ts : List (List ℕ)). transport_of pid c l ∷ ts)
    (counts-run-on pid ((c + 1) % 16) ls ms (omega arith) ∙ ap (λ (k : ℕ). numbered pid ((c + 1) % 16) ls ++ numbered pid k ms) e)

pub length-numbered : (pid c : ℕ) (ls : List Load) → length (numbered pid c ls) ≡ length ls
unfolding numbered
length-numbered pid c [] = refl
length-numbered pid c (l ∷ ls) = ap suc (length-numbered pid ((c + 1) % 16) ls)

-- the transport packets at the front of an output
pub transports-front : (pid c : ℕ) (ts : List (List ℕ)) (rest : List ℕ) → Packets pid c ts → transports_in (length ts) (joined ts ++ rest) ≡ ts
unfolding transports_in joined
transports-front pid c [] rest p = refl
transports-front pid c (t ∷ ts) rest p =
    rw (append_assoc t (joined ts) rest, take_at t (joined ts ++ rest) 188 p.0.long, drop_at t (joined ts ++ rest) 188 p.0.long)
    (ap (λ (l : List (List ℕ)). t ∷ l) (transports-front pid ((c + 1) % 16) ts rest p.1))

-- A theorem: an empty batch gives no packets
pub none-carried : loads [] ≡ []
unfolding loads_of loads_by joined
none-carried = ap (λ (c : Cut). loads_of c.packets) cut-nil
