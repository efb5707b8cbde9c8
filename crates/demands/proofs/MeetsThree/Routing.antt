-- A route is a list of events: what is proved by events holds of routes, for any library.
-- Assumes nothing.
use mathlib.Core.Path.{◌≡◌, refl, sym, ap, ◌∙◌}
use Prim.Native.Nat.{ℕ, zero, suc, ◌+◌, ◌-◌, ◌≤◌, ◌<◌}
use mathlib.Core.Bool.{Bool, true, false, ◌||◌}
use mathlib.Core.List.{List, [], ◌∷◌, ◌++◌}
use native.Mathlib.Nat.{add-zero, zero-add}
use native.Mathlib.Omega.{arith}
use lib.Dec.{ltb, eqb}
use lib.ListN.{length, get_or, drop, replicate, length-append, length-replicate, get_or-replicate, get_or-append}
use lib.Seq.{drop-drop, drop-cons, get_or-append-add}
use borrow.Author.Tests.{ltb-true, ltb-false, lt-ltb, le-ltb, eq-eqb, ne_eqb, eqb-true, eqb-false}
use Rattle.fields.proofs.Cases.{cases}
use Rattle.gather.specs.Calls.{calls_by, lent}
use Rattle.demands.specs.Library.{Library}
use Rattle.demands.specs.Route.{Item, writers, Latest, nothing, number, Route, inputs, arrives, due, gap_before, loss_marks}
use Rattle.demands.specs.Route as route
use Rattle.demands.specs.Demand3.{packets_of, carry_all, Exactly, GathersExactly}
use Rattle.demands.proofs.MeetsThree.Events.{Event, lost, came, again, other, arrivals, Since, never, since, missed, Allowed, handed_in, byte_came, complete, loss_at, marks, ByEvents}
use Rattle.demands.proofs.MeetsThree.Carriers.{complete-due}

-- ---- the events of a route

-- k are lost first
abbrev skip : ℕ → List Event → List Event
skip zero es = es
skip (suc k) es = lost ∷ skip k es

-- n in all, and the next has the number `at`
abbrev events_of : ℕ → ℕ → List Item → List Event
events_of n at [] = skip (n - at) []
events_of n at (writers k ∷ is) = skip (k - at) (came ∷ events_of n (suc k) is)
events_of n at (route.again k ∷ is) = again ∷ events_of n at is
events_of n at (route.other t ∷ is) = other t ∷ events_of n at is

abbrev next_at : Latest → ℕ
next_at nothing = 0
next_at (number j) = suc j

abbrev since_at : Latest → Since
since_at nothing = never
since_at (number j) = since 0

abbrev missed_by : ℕ → Since → Since
missed_by k never = never
missed_by k (since g) = since (g + k)

missed_by_lem : (k : ℕ) (q : Since) → missed_by k (missed q) ≡ missed_by (suc k) q
missed_by_lem k never = refl
missed_by_lem k (since g) = let e : suc g + k ≡ g + suc k = omega arith in ap since e

missed-none : (q : Since) → missed_by 0 q ≡ q
missed-none never = refl
missed-none (since g) = ap since (add-zero g)

-- ---- those that are lost in a row

skip-handed : (k : ℕ) (prev : List ℕ) (es : List Event) (ts : List (List ℕ)) → handed_in prev (skip k es) ts ≡ handed_in prev es (drop k ts)
skip-handed zero prev es ts = refl
skip-handed (suc k) prev es ts = skip-handed k prev es (drop 1 ts) ∙ ap (handed_in prev es) (drop-drop k 1 ts ∙ ap (λ (j : ℕ). drop j ts) (one k))
  where
    one : (k : ℕ) → 1 + k ≡ suc k
    one k = omega arith

skip-marks : (k : ℕ) (q : Since) (es : List Event) → marks q (skip k es) ≡ marks (missed_by k q) es
skip-marks zero q es = ap (λ (x : Since). marks x es) (sym (missed-none q))
skip-marks (suc k) q es = skip-marks k (missed q) es ∙ ap (λ (x : Since). marks x es) (missed_by_lem k q)

skip-allowed : (k pid : ℕ) (q : Since) (es : List Event) → Allowed pid (missed_by k q) es → Allowed pid q (skip k es)
skip-allowed zero pid q es a = rw (missed-none q) at a
skip-allowed (suc k) pid q es a = skip-allowed k pid (missed q) es (rw (missed_by_lem k q) a)

skip-arrivals : (k : ℕ) (es : List Event) → arrivals (skip k es) ≡ replicate k false ++ arrivals es
skip-arrivals zero es = refl
skip-arrivals (suc k) es = ap (λ (l : List Bool). false ∷ l) (skip-arrivals k es)

-- ---- what a route says of its next item

record Writers (pid n k : ℕ) (l : Latest) (is : List Item) : Type 0 where
  least : next_at l ≤ k
  most : k < n
  on : Route pid n (number k) is

writers-of : (pid n k : ℕ) (l : Latest) (is : List Item) → Route pid n l (writers k ∷ is) → Writers pid n k l is
writers-of pid n k nothing is r = record { least = omega arith; most = r.0; on = r.1 }
writers-of pid n k (number j) is r = record { least = r.0; most = r.2; on = r.3 }

again-of : (pid n k : ℕ) (l : Latest) (is : List Item) → Route pid n l (route.again k ∷ is) → Route pid n l is
again-of pid n k nothing is r = absurd r
again-of pid n k (number j) is r = r.1

-- ---- its events are allowed, as many as the transport packets, and hand in and mark the same

route-allowed : (pid n : ℕ) (l : Latest) (is : List Item) → Route pid n l is → Allowed pid (since_at l) (events_of n (next_at l) is)
route-allowed pid n l [] r = skip-allowed (n - next_at l) pid (since_at l) [] tt
route-allowed pid n nothing (writers k ∷ is) r = skip-allowed (k - 0) pid never (came ∷ events_of n (suc k) is) (route-allowed pid n (number k) is r.1)
route-allowed pid n (number j) (writers k ∷ is) r =
    skip-allowed (k - suc j) pid (since 0) (came ∷ events_of n (suc k) is) (omega (arith, r.1), route-allowed pid n (number k) is r.3)
route-allowed pid n nothing (route.again k ∷ is) r = absurd r
route-allowed pid n (number j) (route.again k ∷ is) r = route-allowed pid n (number j) is r.1
route-allowed pid n l (route.other t ∷ is) r = (r.0, route-allowed pid n l is r.1)

route-length : (pid n : ℕ) (l : Latest) (is : List Item) → Route pid n l is → next_at l ≤ n → length (arrivals (events_of n (next_at l) is)) ≡ n - next_at l
route-length pid n l [] r h =
    rw (skip-arrivals (n - next_at l) [])
    (length-append (replicate (n - next_at l) false) [] ∙ ap (λ (j : ℕ). j + 0) (length-replicate (n - next_at l) false) ∙ add-zero (n - next_at l))
route-length pid n l (writers k ∷ is) r h =
    let o : Writers pid n k l is = writers-of pid n k l is r in
    let i : length (arrivals (events_of n (suc k) is)) ≡ n - suc k = route-length pid n (number k) is o.on o.most in
    rw (skip-arrivals (k - next_at l) (came ∷ events_of n (suc k) is))
    (length-append (replicate (k - next_at l) false) (true ∷ arrivals (events_of n (suc k) is)) ∙ omega (arith, length-replicate (k - next_at l) false, o.least, o.most))
route-length pid n l (route.again k ∷ is) r h = route-length pid n l is (again-of pid n k l is r) h
route-length pid n l (route.other t ∷ is) r h = route-length pid n l is r.1 h

abbrev Before : Latest → List ℕ → List (List ℕ) → Type 0
Before nothing prev ts = Unit
Before (number j) prev ts = prev ≡ get_or ts j []

route-handed : (pid n : ℕ) (l : Latest) (is : List Item) (ts : List (List ℕ)) (prev : List ℕ) → n ≡ length ts → Route pid n l is → Before l prev ts
    → handed_in prev (events_of n (next_at l) is) (drop (next_at l) ts) ≡ inputs ts is
route-handed pid n l [] ts prev e r b = skip-handed (n - next_at l) prev [] (drop (next_at l) ts)
route-handed pid n l (writers k ∷ is) ts prev e r b =
    let o : Writers pid n k l is = writers-of pid n k l is r in
    let j : next_at l + (k - next_at l) ≡ k = omega (arith, o.least) in
    skip-handed (k - next_at l) prev (came ∷ events_of n (suc k) is) (drop (next_at l) ts)
    ∙ ap (handed_in prev (came ∷ events_of n (suc k) is)) (drop-drop (k - next_at l) (next_at l) ts ∙ ap (λ (i : ℕ). drop i ts) j ∙ drop-cons ts k [] (omega (arith, o.most)))
    ∙ ap (λ (x : List (List ℕ)). get_or ts k [] ∷ x) (route-handed pid n (number k) is ts (get_or ts k []) e o.on refl)
route-handed pid n nothing (route.again k ∷ is) ts prev e r b = absurd r
route-handed pid n (number j) (route.again k ∷ is) ts prev e r b =
    let same : k ≡ j = omega (arith, r.0) in
    rw (b, same) (ap (λ (x : List (List ℕ)). get_or ts j [] ∷ x) (route-handed pid n (number j) is ts (get_or ts j []) e r.1 refl))
route-handed pid n l (route.other t ∷ is) ts prev e r b = ap (λ (x : List (List ℕ)). t ∷ x) (route-handed pid n l is ts prev e r.1 b)

mark-is : (l : Latest) (k : ℕ) → next_at l ≤ k → loss_at (missed_by (k - next_at l) (since_at l)) ≡ gap_before l k
mark-is nothing k h = refl
mark-is (number j) k h =
    cases (eqb k (suc j))
    (λ t. let e : k ≡ suc j = eqb-true _ _ t in rw t (le-ltb 0 (0 + (k - suc j)) (omega arith)))
    (λ t. let e : k ≡ suc j → ⊥ = eqb-false _ _ t in rw t (lt-ltb 0 (0 + (k - suc j)) (omega arith)))

route-marks : (pid n : ℕ) (l : Latest) (is : List Item) → Route pid n l is → marks (since_at l) (events_of n (next_at l) is) ≡ loss_marks l is
route-marks pid n l [] r = skip-marks (n - next_at l) (since_at l) []
route-marks pid n l (writers k ∷ is) r =
    let o : Writers pid n k l is = writers-of pid n k l is r in
    skip-marks (k - next_at l) (since_at l) (came ∷ events_of n (suc k) is)
    ∙ rw (mark-is l k o.least, route-marks pid n (number k) is o.on)
route-marks pid n l (route.again k ∷ is) r = ap (λ (x : List Bool). false ∷ x) (route-marks pid n l is (again-of pid n k l is r))
route-marks pid n l (route.other t ∷ is) r = ap (λ (x : List Bool). false ∷ x) (route-marks pid n l is r.1)

-- ---- what arrives

-- none of those that are past
past : (pid n : ℕ) (l : Latest) (is : List Item) (x : ℕ) → Route pid n l is → x < next_at l → arrives is x ≡ false
past pid n l [] x r h = refl
past pid n l (writers k ∷ is) x r h =
    let o : Writers pid n k l is = writers-of pid n k l is r in
    rw (ne_eqb k x (omega (arith, o.least)), past pid n (number k) is x o.on (omega (arith, o.least)))
past pid n l (route.again k ∷ is) x r h = past pid n l is x (again-of pid n k l is r) h
past pid n l (route.other t ∷ is) x r h = past pid n l is x r.1 h

get-false : (k i : ℕ) → get_or (replicate k false ++ []) i false ≡ false
get-false zero i = refl
get-false (suc k) zero = refl
get-false (suc k) (suc i) = get-false k i

at-or-behind : (k x j : ℕ) (bs : List Bool) (f : ℕ → Bool) → x ≡ k + j → ((i : ℕ) → get_or bs i false ≡ f (suc k + i)) → get_or (true ∷ bs) j false ≡ eqb k x || f x
at-or-behind k x zero bs f e h = rw (eq-eqb k x (omega arith))
at-or-behind k x (suc j) bs f e h = let y : suc k + j ≡ x = omega arith in rw (ne_eqb k x (omega arith)) (h j ∙ ap f y)

route-arrives : (pid n : ℕ) (l : Latest) (is : List Item) (i : ℕ) → Route pid n l is → get_or (arrivals (events_of n (next_at l) is)) i false ≡ arrives is (next_at l + i)
route-arrives pid n l [] i r = rw (skip-arrivals (n - next_at l) []) (get-false (n - next_at l) i)
route-arrives pid n l (writers k ∷ is) i r =
    let o : Writers pid n k l is = writers-of pid n k l is r in
    rw (skip-arrivals (k - next_at l) (came ∷ events_of n (suc k) is))
    (cases (ltb i (k - next_at l))
    (λ t.
    let h : i < k - next_at l = ltb-true _ _ t in
    get_or-append (replicate (k - next_at l) false) (true ∷ arrivals (events_of n (suc k) is)) false i (rw (length-replicate (k - next_at l) false) h)
    ∙ get_or-replicate (k - next_at l) i false false h
    ∙ sym (rw (ne_eqb k (next_at l + i) (omega arith), past pid n (number k) is (next_at l + i) o.on (omega arith))))
    (λ t.
    let h : k - next_at l ≤ i = ltb-false _ _ t in
    let e : i ≡ length (replicate (k - next_at l) false) + (i - (k - next_at l)) = rw (length-replicate (k - next_at l) false) (omega arith) in
    ap (λ (j : ℕ). get_or (replicate (k - next_at l) false ++ (true ∷ arrivals (events_of n (suc k) is))) j false) e
    ∙ get_or-append-add (replicate (k - next_at l) false) (true ∷ arrivals (events_of n (suc k) is)) (i - (k - next_at l)) false
    ∙ at-or-behind k (next_at l + i) (i - (k - next_at l)) (arrivals (events_of n (suc k) is)) (arrives is) (omega (arith, o.least)) (λ j. route-arrives pid n (number k) is j o.on)))
route-arrives pid n l (route.again k ∷ is) i r = route-arrives pid n l is i (again-of pid n k l is r)
route-arrives pid n l (route.other t ∷ is) i r = route-arrives pid n l is i r.1

-- ---- from events to routes

pub by-routes : (lib : Library) → ByEvents lib → GathersExactly lib
by-routes lib d pid count good k batches f is r g b outs o =
    let ts : List (List ℕ) = carry_all lib pid count batches in
    let n : ℕ = length (carry_all lib pid count batches) in
    let es : List Event = events_of (length (carry_all lib pid count batches)) 0 is in
    let m : Exactly (complete (packets_of batches) (byte_came (arrivals es) ts)) (marks never es) (calls_by lib.gather (lib.start pid).reader g (lent outs (handed_in [] es ts))) =
    d pid count good k batches f es (route-allowed pid n nothing is r) (route-length pid n nothing is r (omega arith) ∙ omega arith) g b outs o in
    let x : complete (packets_of batches) (byte_came (arrivals es) ts) ≡ due (arrives is) ts 0 (packets_of batches) =
    complete-due ts (arrivals es) (arrives is) (λ i l. route-arrives pid n nothing is i r ∙ ap (arrives is) (zero-add i)) 0 (packets_of batches) in
    rw (x, route-marks pid n nothing is r, route-handed pid n nothing is ts [] refl r tt) at m
