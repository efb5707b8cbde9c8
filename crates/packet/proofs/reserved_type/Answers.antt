-- `packet::reserved_type` meets its contract: the types lie in four stretches, and over each stretch, and each gap, the
-- definition is computed.
use Rattle.std.proofs.Common.{true, false, not, ap, sym, ◌∙◌, rules}
use Rattle.fields.proofs.Stretches.{all_are, over-stretch}
use Rattle.packet.specs.Layout.{reserved_type}
use Rattle.packet.proofs.reserved_type.Goals as goal
use Rattle.packet.proofs.reserved_type.Goals.{in_default, in_default-2, in_default-3, in_default-4, in-0-to-2, in-0-to-2-2, in-0-to-2-3, in-0-to-2-4}

pub returns : goal.returns
unfolding all_are reserved_type
returns c =
    elim c.if-matches.branch [
      | in_default w ↦ ap not w.matches-is ∙ sym (over-stretch reserved_type true 3 13 tt c.args.kind (search rules) (search rules))
      | in_default-2 w ↦ ap not w.matches-is ∙ sym (over-stretch reserved_type true 19 13 tt c.args.kind (search rules) (search rules))
      | in_default-3 w ↦ ap not w.matches-is ∙ sym (over-stretch reserved_type true 34 14 tt c.args.kind (search rules) (search rules))
      | in_default-4 w ↦ ap not w.matches-is ∙ sym (over-stretch reserved_type true 52 204 tt c.args.kind (search rules) (search rules))
      | in-0-to-2 w ↦ ap not w.matches-is ∙ sym (over-stretch reserved_type false 0 3 tt c.args.kind (search rules) (search rules))
      | in-0-to-2-2 w ↦ ap not w.matches-is ∙ sym (over-stretch reserved_type false 16 3 tt c.args.kind (search rules) (search rules))
      | in-0-to-2-3 w ↦ ap not w.matches-is ∙ sym (over-stretch reserved_type false 32 2 tt c.args.kind (search rules) (search rules))
      | in-0-to-2-4 w ↦ ap not w.matches-is ∙ sym (over-stretch reserved_type false 48 4 tt c.args.kind (search rules) (search rules))
    ]
