-- The example of 01 is what the listing's definition computes to: the reader takes the transport packet, hands both packets
-- out, and each gets its line.
-- Assumes nothing.
use mathlib.Core.Path.{◌≡◌, refl}
use mathlib.Core.List.{[], ◌∷◌}
use Rattle.crc.specs.Crc.{shift, bit_at, feed, run, crc_of, crc_holds}
use Rattle.fields.specs.Formats.{pack, unpack}
use Rattle.fields.specs.Numbers.{number}
use Rattle.fields.specs.Parts.{part, overlay, number_at}
use Rattle.refusals.specs.Answers.{answer}
use Rattle.packet.specs.Layout.{reserved_type, pad_set, size_of}
use Rattle.packet.specs.Read.{header_of, payload_of, read_checks, read_of}
use Rattle.packet.specs.Cut.{cut_by, cut, joined}
use Rattle.transport.specs.Header.{header_field, payload_at, carried_at, carried_by}
use Rattle.transport.specs.Tests.{pid_outside, field_long, pointer_beyond, transport_checks}
use Rattle.gather.specs.State.{unfit, gather_checks}
use Rattle.gather.specs.Rules.{brought_by, rule_one, up_to_start, from_start, rules_on}
use Rattle.gather.specs.Gather.{taken_of, gather_of}
use Rattle.text.specs.Digits.{spell_by, spell, digits}
use Rattle.text.specs.Laid.{word}
use Rattle.lines.specs.Lines.{head_line, fields_line, line_by, lines_of, last_line}
use Rattle.lines.specs.Listing.{capped}
use Rattle.lines.specs.Theorems.{losses, text_of, listing_of}
use Rattle.lines.specs.Rows.{example_transport, example_text}

pub example-listed : listing_of (example_transport ∷ []) ≡ example_text
unfolding listing_of text_of losses example_transport example_text capped lines_of line_by fields_line word head_line last_line digits spell spell_by gather_of taken_of gather_checks unfit brought_by rule_one up_to_start from_start rules_on pid_outside field_long pointer_beyond transport_checks header_field payload_at carried_at carried_by cut_by cut joined header_of payload_of read_checks read_of reserved_type pad_set size_of answer part overlay number_at number pack unpack shift bit_at feed run crc_of crc_holds
example-listed = refl
