-- `functions::function_of` meets its contract: in each arm the tag says how long the body is, so that its number fits; the
-- code divides by the weights that the formats give their fields.
use borrow.Author.Rules.{rules}
use lib.ListN.{length}
use mathlib.Core.Path.{◌≡◌, sym, ap, ◌∙◌}
use mathlib.Core.List.{List}
use Prim.Native.Nat.{ℕ, ◌*◌, ◌/◌, ◌%◌, ◌^◌, ◌≤◌, ◌<◌}
use native.Mathlib.Nat.{div-one}
use native.Mathlib.Omega.{arith}
use mir.Syntax.{w16, w32}
use mir.ValLaws.{to_z-of_z}
use Rattle.fields.specs.Formats.{unpack}
use Rattle.fields.specs.Numbers.{number}
use Rattle.fields.specs.Signed.{signed}
use Rattle.functions.proofs.BodyLaws.{number_small, number-whole, as_signed}
use Rattle.functions.proofs.KindLaws.{sized}
use Rattle.functions.specs.Tags.{exactly, size_of, cell, bandwidth}
use Rattle.functions.specs.Function.{field, is_set, function_of}
use Rattle.functions.specs.declared.Function.TheVariants.{TimeOffset, FrequencyOffset, Power, Cell, Bandwidth}
use Rattle.functions.proofs.function_of.Goals as goal
use Rattle.functions.proofs.function_of.Goals.{After-number_at-v}

-- the tag says how long the body is
long : (c : After-number_at-v) (k : ℕ) → size_of c.args.tag ≡ exactly k → length c.args.body.now ≡ k
long c k e = sized c.args.tag k _ e c.requires

-- the number that the code works with is the body's, and below two to its bits
value : (c : After-number_at-v) (k : ℕ) → size_of c.args.tag ≡ exactly k → k ≤ 8 → c.number_at-v.result ≡ number c.args.body.now
value c k e h = c.number_at-v.ensures ∙ number-whole c.args.body.now (rw (long c k e) h)

below : (c : After-number_at-v) (k : ℕ) → size_of c.args.tag ≡ exactly k → k ≤ 8 → c.number_at-v.result < 2 ^ (8 * k)
below c k e h =
    rw (value c k e h) (number_small k c.args.body.now (long c k e) (search rules))

cell-read : (s : List ℕ) → Cell (number s / 256 % 65536) (is_set (number s / 128 % 2)) (number s % 128) ≡ Cell (field cell 0 s) (is_set (field cell 1 s)) (field cell 2 s)
unfolding unpack
cell-read s = ap (λ (n : ℕ). Cell (number s / 256 % 65536) (is_set (number s / 128 % 2)) (n % 128)) (sym (div-one (number s)))

bandwidth-read : (s : List ℕ) → Bandwidth (number s / 2 % 128) (is_set (number s % 2)) ≡ Bandwidth (field bandwidth 0 s) (is_set (field bandwidth 1 s))
unfolding unpack
bandwidth-read s = ap (λ (n : ℕ). Bandwidth (number s / 2 % 128) (is_set (n % 2))) (sym (div-one (number s)))

pub overflow_cast-v : goal.overflow_cast-v
overflow_cast-v c = record { fits = below (goal.at.overflow_cast-v c).After-number_at-v 2 (ap size_of c.in-0.is) (omega arith) }

pub overflow_cast-v-in-1 : goal.overflow_cast-v-in-1
overflow_cast-v-in-1 c = omega (arith, below (goal.at.overflow_cast-v-in-1 c).After-number_at-v 3 (ap size_of c.in-1.is) (omega arith))

pub signed_24-requires : goal.signed_24-requires
signed_24-requires c = below (goal.at.signed_24-requires c).After-number_at-v 3 (ap size_of c.in-1.is) (omega arith)

pub overflow_cast-result : goal.overflow_cast-result
overflow_cast-result c = record { fits = below (goal.at.overflow_cast-result c).After-number_at-v 2 (ap size_of c.in-2.is) (omega arith) }

pub returns-in-0 : goal.returns-in-0
unfolding function_of
returns-in-0 c =
    ap TimeOffset
    (to_z-of_z w16 c.cast_signed.result (record { sfits = c.cast_signed.type_inv })
    ∙ c.cast_signed.ensures
    ∙ as_signed c.number_at-v.result
    ∙ ap (signed 16) (value (goal.at.returns-in-0 c).After-number_at-v 2 (ap size_of c.in-0.is) (omega arith)))
    ∙ sym (ap (λ (t : ℕ). function_of t c.args.body.now) c.in-0.is)

pub returns-in-1 : goal.returns-in-1
unfolding function_of
returns-in-1 c =
    ap FrequencyOffset
    (to_z-of_z w32 c.signed_24.result (record { sfits = c.signed_24.type_inv })
    ∙ c.signed_24.ensures
    ∙ ap (signed 24) (value (goal.at.returns-in-1 c).After-number_at-v 3 (ap size_of c.in-1.is) (omega arith)))
    ∙ sym (ap (λ (t : ℕ). function_of t c.args.body.now) c.in-1.is)

pub returns-in-2 : goal.returns-in-2
unfolding function_of
returns-in-2 c =
    ap Power (value (goal.at.returns-in-2 c).After-number_at-v 2 (ap size_of c.in-2.is) (omega arith))
    ∙ sym (ap (λ (t : ℕ). function_of t c.args.body.now) c.in-2.is)

pub returns-in-4 : goal.returns-in-4
unfolding function_of
returns-in-4 c =
    rw (value (goal.at.returns-in-4 c).After-number_at-v 3 (ap size_of c.in-4.is) (omega arith))
    (cell-read c.args.body.now ∙ sym (ap (λ (t : ℕ). function_of t c.args.body.now) c.in-4.is))

pub returns-in-6 : goal.returns-in-6
unfolding function_of
returns-in-6 c =
    rw (value (goal.at.returns-in-6 c).After-number_at-v 1 (ap size_of c.in-6.is) (omega arith))
    (bandwidth-read c.args.body.now ∙ sym (ap (λ (t : ℕ). function_of t c.args.body.now) c.in-6.is))
