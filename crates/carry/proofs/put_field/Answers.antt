-- `carry::put_field` meets its contract: a byte, two, or none.
use Rattle.std.proofs.Common.{rules, ◌≡◌, ℕ, ◌-◌, ◌≤◌, length, set, sym, ap, ◌∙◌, arith}
use Rattle.fields.specs.Parts.{overlay}
use Rattle.carry.proofs.BuildLaws.{field-none, field-one, field-more}
use Rattle.carry.specs.Building.{field_head}
use Rattle.carry.proofs.put_field.Goals as goal

two : (n : ℕ) → (n ≡ 0 → ⊥) → (n ≡ 1 → ⊥) → 2 ≤ n
two n a b = omega arith

pub returns-then-room-eq0 : goal.returns-then-room-eq0
returns-then-room-eq0 c =
    let a = c.args in
    sym (ap (λ (k : ℕ). overlay 4 (field_head k) a.t.now) c.if-room-eq0.true ∙ field-none a.t.now)

pub returns-then-room-eq1 : goal.returns-then-room-eq1
returns-then-room-eq1 c =
    let a = c.args in
    let long : length a.t.now ≡ 188 = search rules in
    ap (λ (k : ℕ). set a.t.now 4 (k - 1)) c.if-room-eq1.true
    ∙ field-one a.t.now long
    ∙ ap (λ (k : ℕ). overlay 4 (field_head k) a.t.now) (sym c.if-room-eq1.true)

pub returns : goal.returns
returns c =
    let a = c.args in
    let long : length a.t.now ≡ 188 = search rules in
    field-more a.room a.t.now long (two a.room c.if-room-eq0.false c.if-room-eq1.false)
