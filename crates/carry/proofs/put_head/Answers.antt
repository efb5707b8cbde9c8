-- `carry::put_head` meets its contract: what the calls lay is the head over bytes of 0xFF.
use borrow.Author.Rules.{rules}
use mathlib.Core.Path.{◌≡◌, ap, ◌∙◌}
use mathlib.Core.List.{[], ◌∷◌}
use Prim.Native.Nat.{ℕ}
use lib.ListN.{length, replicate}
use Rattle.fields.specs.Formats.{pack}
use Rattle.fields.specs.Parts.{overlay, stored_at}
use Rattle.transport.specs.Header.{header}
use Rattle.carry.proofs.BuildLaws.{head-laid}
use Rattle.carry.specs.Building.{blank, field_head}
use Rattle.carry.proofs.put_head.Goals as goal

pub returns : goal.returns
returns c =
    let a = c.args in
    let long : length a.t.now ≡ 188 = search rules in
    c.put_field.ensures
    ∙ ap (overlay 4 (field_head a.room))
    (c.store_at.ensures
    ∙ ap (stored_at 0 4 c.header_number.result) (c.fill.ensures.after (λ y e. e) ∙ ap (λ (n : ℕ). replicate n 255) long)
    ∙ ap (λ n. stored_at 0 4 n blank) (c.header_number.ensures ∙ ap (λ (k : ℕ). pack header (0x47 ∷ 0 ∷ a.begins ∷ 0 ∷ a.pid ∷ 0 ∷ k ∷ a.count ∷ [])) c.control_for.ensures))
    ∙ head-laid a.pid a.begins a.count a.room c.requires
