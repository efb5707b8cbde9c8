-- `transport::check` meets its contract: a chain of early returns in the order of the definition's list, by the numbers of
-- any transport packet that they were read of.
use borrow.Author.Tests.{eq-eqb, ne_eqb}
use mathlib.Core.Path.{◌≡◌, sym, ap, ◌∙◌}
use mathlib.Core.Bool.{false, not}
use borrow.Author.Rules.{rules}
use lib.Dec.{leb}
use Rattle.std.specs.Prelude.{MatchOption}
use mathlib.Core.List.{List}
use Prim.Native.Nat.{ℕ, ◌+◌, ◌/◌, ◌%◌}
use native.Mathlib.Omega.{arith}
use Rattle.fields.specs.Formats.{unpack}
use Rattle.refusals.specs.Checks.{Check}
use Rattle.refusals.proofs.CheckLaws.{Clear, first-at, first-none}
use Rattle.transport.specs.Header.{head_of, header_field, payload_at}
use Rattle.transport.specs.Tests.{pointer_beyond, transport_checks}
use Rattle.transport.specs.Look.{Looked, stands_in, seen_told}
use Rattle.transport.proofs.HeaderLaws.{even-control, odd-control, payload-out, payload-within}
use Rattle.transport.proofs.LookLaws.{pointer-judged}
use Rattle.transport.proofs.check.Goals as goal
use Rattle.transport.proofs.check.Goals.{After-is_some_and, Else-head-eq0, Else-head-eq1, Else-head-ne0, Else-head-ne71, Else-head-from, Else-seen-gt187, Start}

-- of which the numbers were read
module _ (t : List ℕ) where
  abbrev checks : Start → List Check
  checks c = transport_checks c.args.pid t

  abbrev Of : Start → Type 0
  Of c = (c.args.head ≡ head_of t) × (seen_told c.args.seen ≡ stands_in t)

  past1 : (c : Else-head-ne71) → Of (goal.at.Else-head-ne71 c).Start → Clear 1 (checks (goal.at.Else-head-ne71 c).Start)
  unfolding transport_checks header_field unpack
  past1 c o = (tt, ap not (eq-eqb _ _ (ap (λ (h : ℕ). h / 16777216 % 256) (sym o.0) ∙ c.if-head-ne71.false)))

  past2 : (c : Else-head-eq1) → Of (goal.at.Else-head-eq1 c).Start → Clear 2 (checks (goal.at.Else-head-eq1 c).Start)
  unfolding transport_checks header_field unpack
  past2 c o = (past1 (goal.at.Else-head-eq1 c).Else-head-ne71 o, ne_eqb _ _ (λ e. c.if-head-eq1.false (ap (λ (h : ℕ). h / 8388608 % 2) o.0 ∙ e)))

  past3 : (c : Else-head-from) → Of (goal.at.Else-head-from c).Start → Clear 3 (checks (goal.at.Else-head-from c).Start)
  unfolding transport_checks header_field unpack
  past3 c o = (past2 (goal.at.Else-head-from c).Else-head-eq1 o, ap not (eq-eqb _ _ (ap (λ (h : ℕ). h / 256 % 8192) (sym o.0) ∙ c.if-head-from.false ∙ c.from.ensures)))

  past4 : (c : Else-head-ne0) → Of (goal.at.Else-head-ne0 c).Start → Clear 4 (checks (goal.at.Else-head-ne0 c).Start)
  unfolding transport_checks header_field unpack
  past4 c o = (past3 (goal.at.Else-head-ne0 c).Else-head-from o, ap not (eq-eqb _ _ (ap (λ (h : ℕ). h / 64 % 4) (sym o.0) ∙ c.if-head-ne0.false)))

  past5 : (c : Else-head-eq0) → Of (goal.at.Else-head-eq0 c).Start → Clear 5 (checks (goal.at.Else-head-eq0 c).Start)
  unfolding transport_checks
  past5 c o = (past4 (goal.at.Else-head-eq0 c).Else-head-ne0 o, odd-control t (λ e. c.if-head-eq0.false (ap (λ (h : ℕ). h / 16 % 2) o.0 ∙ e)))

  past6 : (c : Else-seen-gt187) → Of (goal.at.Else-seen-gt187 c).Start → Clear 6 (checks (goal.at.Else-seen-gt187 c).Start)
  unfolding transport_checks
  past6 c o =
      let p : c.args.seen.payload ≡ payload_at t = ap (λ (x : Looked). x.payload) o.1 in
      (past5 (goal.at.Else-seen-gt187 c).Else-head-eq0 o, payload-within t (omega (arith, c.if-seen-gt187.false, p)))

pub returns-then-head-ne71 : goal.returns-then-head-ne71
unfolding transport_checks header_field unpack
returns-then-head-ne71 c t h s =
    first-at 0 (checks t (goal.at.returns-then-head-ne71 c).Start) tt (ap not (ne_eqb _ _ (λ e. c.if-head-ne71.true (ap (λ (x : ℕ). x / 16777216 % 256) h ∙ e))))

pub returns-then-head-eq1 : goal.returns-then-head-eq1
unfolding transport_checks header_field unpack
returns-then-head-eq1 c t h s =
    first-at 1 (checks t (goal.at.returns-then-head-eq1 c).Start) (past1 t (goal.at.returns-then-head-eq1 c).Else-head-ne71 (h, s)) (eq-eqb _ _ (ap (λ (x : ℕ). x / 8388608 % 2) (sym h) ∙ c.if-head-eq1.true))

pub returns-then-head-from : goal.returns-then-head-from
unfolding transport_checks header_field unpack
returns-then-head-from c t h s =
    first-at 2 (checks t (goal.at.returns-then-head-from c).Start) (past2 t (goal.at.returns-then-head-from c).Else-head-eq1 (h, s)) (ap not (ne_eqb _ _ (λ e. c.if-head-from.true (ap (λ (x : ℕ). x / 256 % 8192) h ∙ e ∙ sym c.from.ensures))))

pub returns-then-head-ne0 : goal.returns-then-head-ne0
unfolding transport_checks header_field unpack
returns-then-head-ne0 c t h s =
    first-at 3 (checks t (goal.at.returns-then-head-ne0 c).Start) (past3 t (goal.at.returns-then-head-ne0 c).Else-head-from (h, s)) (ap not (ne_eqb _ _ (λ e. c.if-head-ne0.true (ap (λ (x : ℕ). x / 64 % 4) h ∙ e))))

pub returns-then-head-eq0 : goal.returns-then-head-eq0
unfolding transport_checks
returns-then-head-eq0 c t h s =
    first-at 4 (checks t (goal.at.returns-then-head-eq0 c).Start) (past4 t (goal.at.returns-then-head-eq0 c).Else-head-ne0 (h, s)) (even-control t (ap (λ (x : ℕ). x / 16 % 2) (sym h) ∙ c.if-head-eq0.true))

pub returns-then-seen-gt187 : goal.returns-then-seen-gt187
unfolding transport_checks
returns-then-seen-gt187 c t h s =
    let p : c.args.seen.payload ≡ payload_at t = ap (λ (x : Looked). x.payload) s in
    first-at 5 (checks t (goal.at.returns-then-seen-gt187 c).Start) (past5 t (goal.at.returns-then-seen-gt187 c).Else-head-eq0 (h, s)) (payload-out t (omega (arith, c.if-seen-gt187.true, p)))

-- the closure's answer, where there is a pointer and where there is none
aimed : (c : After-is_some_and) → (t : List ℕ) → seen_told c.args.seen ≡ stands_in t → c.is_some_and.result ≡ pointer_beyond t
aimed c t s =
    let judged : MatchOption c.args.seen.pointer (c.is_some_and.result ≡ false) (λ p. c.is_some_and.result ≡ leb 188 (c.args.seen.payload + 1 + p)) = search rules in
    pointer-judged t _ s _ judged

pub returns-then-is_some_and : goal.returns-then-is_some_and
unfolding transport_checks
returns-then-is_some_and c t h s =
    first-at 6 (checks t (goal.at.returns-then-is_some_and c).Start) (past6 t (goal.at.returns-then-is_some_and c).Else-seen-gt187 (h, s))
    (sym (aimed (goal.at.returns-then-is_some_and c).After-is_some_and t s) ∙ c.if-is_some_and.true)

pub returns : goal.returns
unfolding transport_checks
returns c t h s =
    first-none (checks t (goal.at.returns c).Start) (past6 t (goal.at.returns c).Else-seen-gt187 (h, s), sym (aimed (goal.at.returns c).After-is_some_and t s) ∙ c.if-is_some_and.false)
