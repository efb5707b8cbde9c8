-- The marks of a call (01, "Carriage: the reader"): loss, misfit, CRC. What sets one leaves the others as they were.
use Rattle.std.specs.Prelude.{Bool, true, false}
use Rattle.gather.specs.declared.Marks.{Marks}

-- as a call begins, and with a refusal
abbrev pub no_marks : Marks
no_marks = record { loss = false; misfit = false; crc = false }

-- a loss or none, and no other mark
abbrev pub loss_alone : Bool → Marks
loss_alone loss = record { loss = loss; misfit = false; crc = false }

-- ---- one is set

abbrev pub mark_loss : Marks → Marks
mark_loss m = record { loss = true; misfit = m.misfit; crc = m.crc }

abbrev pub mark_misfit : Marks → Marks
mark_misfit m = record { loss = m.loss; misfit = true; crc = m.crc }

abbrev pub mark_crc : Marks → Marks
mark_crc m = record { loss = m.loss; misfit = m.misfit; crc = true }
