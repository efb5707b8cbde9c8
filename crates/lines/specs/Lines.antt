-- The lines of a listing, in ASCII (01, "Listing program"): a header, one line for each packet, and the totals. Numbers are
-- decimal, single spaces stand between them, and each line ends with a newline.
use Rattle.std.specs.Prelude.{ℕ, cond, List, [], ◌∷◌, ◌++◌, eqb, Result, Ok, Err}
use Rattle.packet.specs.Read.{read_of}
use Rattle.packet.specs.declared.Header.{Header}
use Rattle.packet.specs.Read.{Packet}
use Rattle.text.specs.Laid.{space, newline, word}

-- "type count frame stream bits"
unfoldable pub head_line : List ℕ
head_line =
    116 ∷ 121 ∷ 112 ∷ 101 ∷ space
    ∷ 99 ∷ 111 ∷ 117 ∷ 110 ∷ 116 ∷ space
    ∷ 102 ∷ 114 ∷ 97 ∷ 109 ∷ 101 ∷ space
    ∷ 115 ∷ 116 ∷ 114 ∷ 101 ∷ 97 ∷ 109 ∷ space
    ∷ 98 ∷ 105 ∷ 116 ∷ 115 ∷ newline
    ∷ []

-- packet_type, packet_count, superframe_idx, t2mi_stream_id and the payload's bits
unfoldable pub fields_line : Header → List ℕ
fields_line h =
    word h.kind space
    ++ (word h.count space ++ (word h.frame space ++ (word h.stream space ++ word h.bits newline)))

-- "refused "
abbrev pub refused_word : List ℕ
refused_word = 114 ∷ 101 ∷ 102 ∷ 117 ∷ 115 ∷ 101 ∷ 100 ∷ space ∷ []

unfoldable pub refused_line : ℕ → List ℕ
refused_line n = refused_word ++ word n newline

-- the line of a header, or of the number of a refusal
abbrev pub line_for : Result Header ℕ → List ℕ
line_for (Ok h) = fields_line h
line_for (Err n) = refused_line n

-- the line of what reading a packet gave
unfoldable pub line_by : Packet → List ℕ
line_by p = cond (eqb p.refusal 0) (fields_line p.header) (refused_line p.refusal)

-- the line of the packet that these bytes are
abbrev pub line_of : List ℕ → List ℕ
line_of s = line_by (read_of s)

-- the lines of packets, one after another
unfoldable pub lines_of : List (List ℕ) → List ℕ
lines_of [] = []
lines_of (p ∷ ps) = line_of p ++ lines_of ps

-- "packets "
abbrev pub packets_word : List ℕ
packets_word = 112 ∷ 97 ∷ 99 ∷ 107 ∷ 101 ∷ 116 ∷ 115 ∷ space ∷ []

-- "gaps "
abbrev pub gaps_word : List ℕ
gaps_word = 103 ∷ 97 ∷ 112 ∷ 115 ∷ space ∷ []

-- the totals: packets handed out, and loss marks
unfoldable pub last_line : ℕ → ℕ → List ℕ
last_line packets gaps = packets_word ++ (word packets space ++ (gaps_word ++ word gaps newline))
