-- An answer of a crate below, laid out flat, and arguments that stand apart, put together.
use Rattle.std.specs.Prelude.{◌≡◌, Result, ℕ, Bool, true, false, cond, List, eqb, ltb, length, ℤ, pos}
use Rattle.refusals.specs.declared.Refusal.{Refusal}
use Rattle.functions.specs.declared.Function.{Function}
use Rattle.functions.specs.declared.Function.TheVariants.{TimeOffset, FrequencyOffset, Power, Private, Cell, Enable, Bandwidth, Passed}
use Rattle.functions.specs.Read.{function_told}
use Rattle.sfn.specs.declared.SfnFunction.{SfnFunction}
use Rattle.packet.specs.Read.{Packet}
use Rattle.packet.specs.Layout.{size_of}
use Rattle.stamp.specs.Layout.{kind_of, kind_number}
use Rattle.stamp.specs.declared.Stamp.{Stamp}
use Rattle.stamp.specs.Read.{StampRead, stamp_told}
use Rattle.sfn.specs.declared.SfnStamp.{SfnStamp}
use Rattle.sfn.specs.declared.SfnPacket.{SfnPacket}

abbrev pub packet_of : Packet → SfnPacket
packet_of p =
    record {
      refusal = p.refusal;
      bits = p.header.bits;
      kind = p.header.kind;
      count = p.header.count;
      frame = p.header.frame;
      stream = p.header.stream;
    }

-- the length that the packet at the front of the bytes says, or 0 where they do not hold it all
unfoldable pub length_held : List ℕ → ℕ
length_held l = cond (ltb (length l) (size_of l)) 0 (size_of l)

-- the kind of a stamp that was read; with a refusal all fields are 0, and so is this
unfoldable pub kind_read : ℕ → Stamp → ℕ
kind_read refusal s = cond (eqb refusal 0) (kind_number (kind_of s)) 0

abbrev pub stamp_of : StampRead → SfnStamp
stamp_of p =
    record {
      seconds = p.stamp.seconds;
      refusal = p.refusal;
      subseconds = p.stamp.subseconds.0;
      utco = p.stamp.utco;
      bw = p.stamp.bw;
      kind = kind_read p.refusal p.stamp;
    }

-- what a result of `read` is laid out as
abbrev pub ShowsStamp : Result Stamp Refusal → SfnStamp → Type 0
ShowsStamp r s = s ≡ stamp_of (stamp_told r)

abbrev pub stamp_from : ℕ → ℕ → ℕ → ℕ → Stamp
stamp_from bw seconds subseconds utco = record { bw = bw; seconds = seconds; subseconds = record { 0 = subseconds }; utco = utco }

-- a flag as a number
abbrev pub bit_of : Bool → ℕ
bit_of true = 1
bit_of false = 0

-- a function that has a tag of the table: its kind is its tag
abbrev pub of_kind : ℕ → ℕ → ℤ → ℕ → ℕ → SfnFunction
of_kind n kind value wait rest = record { refusal = n; value = value; kind = kind; tag = kind; wait = wait; reserved = rest }

-- a function by its kind: 0 to 6 as the tag, 7 for one that is passed through. With a refusal it is a time offset of 0, so
-- that all but the number is 0
abbrev pub function_of : ℕ → Function → SfnFunction
function_of n (TimeOffset t) = of_kind n 0 t 0 0
function_of n (FrequencyOffset f) = of_kind n 1 f 0 0
function_of n (Power p) = of_kind n 2 (pos p) 0 0
function_of n Private = of_kind n 3 (pos 0) 0 0
function_of n (Cell id wait rest) = of_kind n 4 (pos id) (bit_of wait) rest
function_of n Enable = of_kind n 5 (pos 0) 0 0
function_of n (Bandwidth v wait) = of_kind n 6 (pos v) (bit_of wait) 0
function_of n (Passed tag) = record { refusal = n; value = pos 0; kind = 7; tag = tag; wait = 0; reserved = 0 }

-- what a result of `function_read` is laid out as
abbrev pub ShowsFunction : Result Function Refusal → SfnFunction → Type 0
ShowsFunction r s = s ≡ function_of (function_told r).refusal (function_told r).function
