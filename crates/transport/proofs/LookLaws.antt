-- The laws of a look: what it answers by its length and by the first of 5 to 11.
-- Assumes nothing.
use mathlib.Core.Path.{◌≡◌, refl, sym, ap, ◌∙◌}
use mathlib.Core.Bool.{Bool, true, false, cond}
use mathlib.Core.List.{List}
use Prim.Native.Nat.{ℕ, ◌+◌}
use native.Mathlib.Omega.{arith}
use lib.Dec.{leb}
use lib.ListN.{length}
use Rattle.std.specs.Prelude.{Result, IsErrAnd, Option, MatchOption, Some, None, is_some}
use Rattle.std.specs.Bool.{then_some}
use Rattle.fields.proofs.Cases.{cases}
use borrow.Author.Tests.{eq-eqb, ne_eqb}
use Rattle.refusals.specs.Checks.{first}
use Rattle.refusals.specs.Refusals.{number_of}
use Rattle.refusals.specs.declared.Refusal.{Refusal}
use Rattle.refusals.proofs.AnswerLaws.{answer-accepted, answer-number, answer-exit, answer-shows}
use Rattle.transport.specs.Header.{count_of, starts, payload_at, pointer_of}
use Rattle.transport.specs.Tests.{pointer_beyond, transport_checks, look_checks}
use Rattle.transport.specs.Look.{Looked, stands_in, nothing_in, look_of, seen_told, look_told}
use Rattle.transport.specs.declared.Looked as given
use Rattle.transport.proofs.HeaderLaws.{aims-nowhere, aims-by}

module _ (pid : ℕ) (t : List ℕ) where
  -- not 188 bytes
  pub look-short : (length t ≡ 188 → ⊥) → nothing_in 1 ≡ look_of pid t
  unfolding look_of look_checks
  look-short h = answer-number (look_checks pid t) nothing_in (stands_in t) 1 (rw (ne_eqb (length t) 188 h)) (λ z. omega arith)

  module _ (whole : length t ≡ 188) where
    first-five : first (look_checks pid t) ≡ first (transport_checks pid t)
    unfolding look_checks
    first-five = rw (eq-eqb (length t) 188 whole)

    -- a refusal's number alone
    pub look-refused : (n : ℕ) → n ≡ first (transport_checks pid t) → (n ≡ 0 → ⊥) → nothing_in n ≡ look_of pid t
    unfolding look_of
    look-refused n e h = answer-number (look_checks pid t) nothing_in (stands_in t) n (e ∙ sym first-five) h

    pub look-exit : (r : Result given.Looked Refusal) (e : Refusal) → IsErrAnd r (λ y. y ≡ e) → number_of e ≡ first (transport_checks pid t) → look_told r ≡ look_of pid t
    unfolding look_of
    look-exit r e p h = answer-exit (look_checks pid t) nothing_in (stands_in t) seen_told r e p (h ∙ sym first-five)

    pub look-taken : first (transport_checks pid t) ≡ 0 → look_of pid t ≡ stands_in t
    unfolding look_of
    look-taken e = answer-accepted (look_checks pid t) nothing_in (stands_in t) (first-five ∙ e)

    -- the refusal that it shows
    pub look-shows : (look_of pid t).refusal ≡ first (transport_checks pid t)
    unfolding look_of
    look-shows = answer-shows (look_checks pid t) nothing_in (stands_in t) (λ (x : Looked). x.refusal) (λ n. refl) refl ∙ first-five

    -- what a caller learns from the result
    pub look-err : (n : ℕ) → nothing_in n ≡ look_of pid t → n ≡ first (transport_checks pid t)
    look-err n e = ap (λ (x : Looked). x.refusal) e ∙ look-shows

    pub look-ok : (s : given.Looked) → seen_told s ≡ look_of pid t → (0 ≡ first (transport_checks pid t)) × (seen_told s ≡ stands_in t)
    look-ok s e =
        let z : 0 ≡ first (transport_checks pid t) = ap (λ (x : Looked). x.refusal) e ∙ look-shows in
        (z, e ∙ look-taken (sym z))

-- ---- what is read of a packet

option_cases : {P : Type 0} (o : Option ℕ) → (o ≡ None → P) → ((p : ℕ) → o ≡ Some p → P) → P
option_cases None none some = none refl
option_cases (Some p) none some = some p refl

-- field by field
pub stands : (t : List ℕ) (s : given.Looked) → s.count ≡ count_of t → s.payload ≡ payload_at t → s.pointer ≡ then_some (starts t) (pointer_of t)
    → seen_told s ≡ stands_in t
stands t s n p q = rw (n, p, q) (cases (starts t) (λ b. rw b) (λ b. rw b))

-- it says whether the pointer lies beyond the packet
module _ (t : List ℕ) (s : given.Looked) (e : seen_told s ≡ stands_in t) where
  payload-is : s.payload ≡ payload_at t
  payload-is = ap (λ (x : Looked). x.payload) e

  begins-is : is_some s.pointer ≡ starts t
  begins-is = ap (λ (x : Looked). x.begins) e

  pointer-none : s.pointer ≡ None → pointer_beyond t ≡ false
  pointer-none n = aims-nowhere t (sym begins-is ∙ rw n)

  pointer-some : (p : ℕ) → s.pointer ≡ Some p → pointer_beyond t ≡ leb 188 (s.payload + 1 + p)
  pointer-some p n =
      let b : true ≡ starts t = rw n at begins-is in
      let q : p ≡ cond (starts t) (pointer_of t) 0 = rw n at (ap (λ (x : Looked). x.pointer) e) in
      aims-by t (sym b) s.payload p payload-is q

  -- a judgement of the pointer, where there is one
  pub pointer-judged : (b : Bool) → MatchOption s.pointer (b ≡ false) (λ p. b ≡ leb 188 (s.payload + 1 + p)) → b ≡ pointer_beyond t
  pointer-judged b m =
      option_cases s.pointer
      (λ n. let z : b ≡ false = rw n at m in z ∙ sym (pointer-none n))
      (λ p n. let z : b ≡ leb 188 (s.payload + 1 + p) = rw n at m in z ∙ sym (pointer-some p n))
