-- The laws of a step: it is full or goes, and a refused transport packet changes nothing.
-- Assumes nothing.
use mathlib.Core.Path.{◌≡◌, refl, sym, ap, ◌∙◌}
use mathlib.Core.Bool.{true, false}
use mathlib.Core.List.{List}
use Prim.Native.Nat.{ℕ, ◌+◌, ◌-◌, ◌^◌, ◌<◌}
use native.Mathlib.Nat.{min-eq_left, add-zero}
use native.Mathlib.Omega.{arith}
use lib.ListN.{length, take}
use Rattle.std.specs.Prelude.{Result, Ok, Err}
use Rattle.std.specs.Result.{ResultUnwrapsOrElse}
use Rattle.refusals.specs.declared.Refusal.{Refusal}
use Rattle.fields.specs.Parts.{overlay}
use Rattle.fields.proofs.PartLaws.{overlay-none}
use Rattle.packet.specs.Cut.{cut}
use Rattle.gather.specs.Marks.{no_marks}
use Rattle.gather.specs.Gather.{Gathered, gathered_told, Outcome, gather_of}
use Rattle.gather.specs.declared.Reader.{Reader}
use Rattle.gather.specs.declared.Gathered as given
use Rattle.gather.proofs.StateLaws.{refusal-changes-nothing}
use Rattle.gather.proofs.CallLaws.{none-handed}
use Rattle.text.specs.Laid.{laid}
use Rattle.lines.specs.Lines.{lines_of}
use Rattle.lines.specs.Listing.{capped, after_of, roomy, listed_of, step_of}
use Rattle.lines.specs.declared.Listing.{Listing}
use Rattle.text.proofs.LayLaws.{laid-at, laid-lines}

-- ---- a call that is refused gives nothing

-- what the caller has in hand says of a call what the call answered
pub record Gives (call : Gathered) (n : Reader) (c : given.Gathered) : Type 0 where
  pub reader : call.reader ≡ n
  pub bytes : call.bytes ≡ c.bytes
  pub packets : call.packets ≡ c.packets
  pub marks : call.marks ≡ c.marks

pub gives : (r : Result given.Gathered Refusal) (P : given.Gathered → Type 0) (c : given.Gathered) (n : Reader) → ResultUnwrapsOrElse r P c → (P c → (c.bytes ≡ 0) × (c.packets ≡ 0) × (c.marks ≡ no_marks))
    → Gives (gathered_told n r) n c
gives (Ok x) P c n h f =
    record {
      reader = refl;
      bytes = ap (λ (y : given.Gathered). y.bytes) (sym h);
      packets = ap (λ (y : given.Gathered). y.packets) (sym h);
      marks = ap (λ (y : given.Gathered). y.marks) (sym h);
    }
gives (Err e) P c n h f = let z = f h in record { reader = refl; bytes = sym z.0; packets = sym z.1; marks = sym z.2 }

-- ---- full, or not

module _ (l : Listing) (t g o lines : List ℕ) (filled : ℕ) where
  pub step-full : roomy filled (length o) (length lines) ≡ false
      → step_of l t g o lines filled ≡ record { answer = record { full = true; listing = l; filled = filled }; gathering = g; output = o; lines = lines }
  unfolding step_of
  step-full h = rw h

  pub step-goes : roomy filled (length o) (length lines) ≡ true → step_of l t g o lines filled ≡ listed_of l (gather_of l.reader t g o) lines filled
  unfolding step_of
  step-goes h = rw h

  -- the answer as the code comes to it
  module _ (call : Gathered) (g' o' : List ℕ) (made : record { answer = call; gathering = g'; output = o' } ≡ gather_of l.reader t g o) where
    pub step-made : (v : ℕ) (m : List ℕ) (next : Listing) → roomy filled (length o) (length lines) ≡ true
        → record { at = v; lines = m } ≡ laid (lines_of (cut (take call.bytes o')).packets) filled lines → next ≡ after_of l call
        → record { answer = record { full = false; listing = next; filled = v }; gathering = g'; output = o'; lines = m } ≡ step_of l t g o lines filled
    step-made v m next h e a =
        let x : List ℕ = lines_of (cut (take call.bytes o')).packets in
        let p : v ≡ filled + length x = laid-at x filled lines v m e in
        let q : m ≡ overlay filled x lines = laid-lines x filled lines v m e in
        let now_on : record { answer = record { full = false; listing = next; filled = v }; gathering = g'; output = o'; lines = m } ≡ listed_of l (record { answer = call; gathering = g'; output = o' }) lines filled =
        λ i. record { answer = record { full = false; listing = a i; filled = p i }; gathering = g'; output = o'; lines = q i } in
        now_on ∙ ap (λ (y : Outcome). listed_of l y lines filled) made ∙ sym (step-goes h)

    pub step-given : (n : Reader) (c : given.Gathered) → Gives call n c → (v : ℕ) (m : List ℕ) (next : Listing) → roomy filled (length o) (length lines) ≡ true
        → record { at = v; lines = m } ≡ laid (lines_of (cut (take c.bytes o')).packets) filled lines
        → next ≡ after_of l (record { refusal = 0; reader = n; bytes = c.bytes; packets = c.packets; marks = c.marks })
        → record { answer = record { full = false; listing = next; filled = v }; gathering = g'; output = o'; lines = m } ≡ step_of l t g o lines filled
    step-given n c k v m next h e a = step-made v m next h (rw k.bytes e) (rw (k.reader, k.packets, k.marks) a)

-- ---- a refused transport packet changes nothing

pub capped_same : (n : ℕ) → n < 2 ^ 64 → capped n ≡ n
unfolding capped
capped_same n h = min-eq_left {n = n} {m = 2 ^ 64 - 1} (omega arith)

module _ (l : Listing) (t g o lines : List ℕ) (filled : ℕ) where
  pub refused-nothing : ((gather_of l.reader t g o).answer.refusal ≡ 0 → ⊥) → l.packets < 2 ^ 64 → l.gaps < 2 ^ 64 → roomy filled (length o) (length lines) ≡ true
      → step_of l t g o lines filled ≡ record { answer = record { full = false; listing = l; filled = filled }; gathering = g; output = o; lines = lines }
  unfolding lines_of
  refused-nothing r p q h =
      let n : ℕ = (gather_of l.reader t g o).answer.refusal in
      let a : capped (l.packets + 0) ≡ l.packets = ap capped (add-zero l.packets) ∙ capped_same l.packets p in
      let b : capped (l.gaps + 0) ≡ l.gaps = ap capped (add-zero l.gaps) ∙ capped_same l.gaps q in
      step-goes l t g o lines filled h
      ∙ ap (λ (y : Outcome). listed_of l y lines filled) (refusal-changes-nothing l.reader t g o r)
      ∙ rw (none-handed l.reader g o n)
      (λ i. record { answer = record { full = false; listing = record { reader = l.reader; packets = a i; gaps = b i }; filled = add-zero filled i }; gathering = g; output = o; lines = overlay-none filled lines i })
