-- Reading a MIP (01: 1, 5, 30, 31, 32, 14, 33, 34, 35, then the check of the addressing data).
use Rattle.std.specs.Prelude.{ℕ, Bool, true, false, cond, not, List, [], ◌∷◌, eqb, leb, ltb, length, get_or, take, drop, Result}
use Rattle.crc.specs.Crc.{crc_holds}
use Rattle.fields.specs.Parts.{part}
use Rattle.refusals.specs.Checks.{Check, ◌when◌}
use Rattle.refusals.specs.Answers.{answer, told}
use Rattle.refusals.specs.declared.Refusal.{Refusal}
use Rattle.fields.specs.Formats.{pack}
use Rattle.addressing.specs.Data.{house, fault}
use Rattle.transport.specs.Header.{sync_of, error_of, start_bit_of, priority_of, pid_of, scrambling_of, control_of, count_of}
use Rattle.mip.specs.Layout.{fixed_widths, fixed_fields, parameters_of, section_of, crc_end, second}
use Rattle.mip.specs.declared.Mip.{Mip}
use Rattle.mip.specs.declared.MipRead.{MipRead as CodeMipRead}
use Rattle.mip.specs.declared.reading.Lead.{Lead}

-- ---- the fields

-- the header's, between the sync byte and the count
abbrev pub fixed_of : List ℕ → List ℕ
fixed_of p = error_of p ∷ start_bit_of p ∷ priority_of p ∷ pid_of p ∷ scrambling_of p ∷ control_of p ∷ []

abbrev pub parameter : ℕ → List ℕ → ℕ
parameter i p = get_or (parameters_of p) i 0

abbrev pub addressing_length : List ℕ → ℕ
addressing_length p = parameter 8 p

unfoldable pub addressing_of : List ℕ → List ℕ
addressing_of p = part 21 (addressing_length p) p

-- ---- the refusals

-- one list is not the other
abbrev pub differ : List ℕ → List ℕ → Bool
differ [] [] = false
differ [] (y ∷ ys) = true
differ (x ∷ xs) [] = true
differ (x ∷ xs) (y ∷ ys) = cond (eqb x y) (differ xs ys) true

-- a fixed bit is another (01, refusal 30); any count is taken
abbrev pub header_wrong : List ℕ → Bool
header_wrong p = differ (fixed_of p) fixed_fields

-- a section_length over 182, or not 19 plus the addressing length (01, refusal 32)
abbrev pub section_wrong : ℕ → ℕ → Bool
section_wrong section addressing = cond (ltb 182 section) true (not (eqb section (section_of addressing)))

abbrev pub crc_wrong : List ℕ → Bool
crc_wrong p = not (crc_holds (take (crc_end (addressing_length p)) p))

-- some byte is not 0xFF
abbrev pub not_all_ones : List ℕ → Bool
not_all_ones [] = false
not_all_ones (b ∷ bs) = cond (eqb b 0xFF) (not_all_ones bs) true

abbrev pub stuffing_wrong : List ℕ → Bool
stuffing_wrong p = not_all_ones (drop (crc_end (addressing_length p)) p)

unfoldable pub read_checks : List ℕ → List Check
read_checks p =
    1 when not (eqb (length p) 188)
    ∷ 5 when not (eqb (sync_of p) 0x47)
    ∷ 30 when header_wrong p
    ∷ 31 when not (eqb (parameter 0 p) 0)
    ∷ 32 when section_wrong (parameter 1 p) (addressing_length p)
    ∷ 14 when crc_wrong p
    ∷ 33 when leb second (parameter 5 p)
    ∷ 34 when leb second (parameter 6 p)
    ∷ 35 when stuffing_wrong p
    ∷ fault house (addressing_of p)
    ∷ []

-- ---- the answers

abbrev bit : ℕ → Bool
bit n = eqb n 1

unfoldable pub mip_of : List ℕ → Mip
mip_of p =
    record {
      count = count_of p;
      pointer = parameter 2 p;
      periodic = bit (parameter 3 p);
      future = parameter 4 p;
      stamp = record { 0 = parameter 5 p };
      delay = record { 0 = parameter 6 p };
      tps = parameter 7 p;
    }

-- what stands before the addressing data: only private functions cite this
abbrev pub lead_of : List ℕ → Lead
lead_of p =
    record {
      sync = sync_of p;
      fixed = pack fixed_widths (fixed_of p);
      id = parameter 0 p;
      section = parameter 1 p;
      addressing = addressing_length p;
      mip = mip_of p;
    }

abbrev pub no_mip : Mip
no_mip =
    record {
      count = 0;
      pointer = 0;
      periodic = false;
      future = 0;
      stamp = record { 0 = 0 };
      delay = record { 0 = 0 };
      tps = 0;
    }

-- the fields, and how many bytes of addressing data there are; with a refusal its number, and zeros
pub record MipRead : Type 0 where
  pub refusal : ℕ
  pub addressing : ℕ
  pub mip : Mip

-- what a result of `read` stands for
abbrev pub mip_told : Result CodeMipRead Refusal → MipRead
mip_told r =
    told (λ n. record { refusal = n; addressing = 0; mip = no_mip }) (λ m. record { refusal = 0; addressing = m.addressing; mip = m.mip }) r

unfoldable pub read_of : List ℕ → MipRead
read_of p =
    answer (read_checks p)
    (λ n. record { refusal = n; addressing = 0; mip = no_mip })
    (record { refusal = 0; addressing = addressing_length p; mip = mip_of p })

-- the addressing data of an accepted packet, and nothing of any other
unfoldable pub addressing_read : List ℕ → List ℕ
addressing_read p = answer (read_checks p) (λ n. []) (addressing_of p)
