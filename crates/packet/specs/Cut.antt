-- Packets back to back: how bytes are cut into T2-MI packets by their own lengths. The batch writer and the gathering
-- reader stand on this definition. Only length and CRC are judged.
use Rattle.std.specs.Prelude.{◌≡◌, ℕ, zero, suc, Bool, true, false, cond, List, [], ◌∷◌, ◌++◌, length, take, drop, ◌==◌, nat_le, map, Result, Ok, Err}
use Rattle.std.specs.Borrow.{Bor}
use Rattle.crc.specs.Crc.{crc_holds}
use Rattle.packet.specs.Layout.{size_of}
use Rattle.refusals.specs.Refusals.{number_of}
use Rattle.refusals.specs.declared.Refusal.{Refusal}
use Rattle.packet.specs.declared.Flaw.{Flaw}
use Rattle.packet.specs.declared.Packets.{Packets}
use Rattle.packet.specs.declared.Flaw.TheVariants.{Short, Bad}

-- a whole packet whose CRC holds
pub record Whole (p : List ℕ) : Type 0 where
  pub size : length p ≡ size_of p
  pub crc : crc_holds p ≡ true

-- every packet is one
abbrev pub AllWhole : List (List ℕ) → Type 0
AllWhole [] = Unit
AllWhole (p ∷ ps) = Whole p × AllWhole ps

-- the packet that the bytes begin with: fewer bytes than it needs, a wrong CRC, or good and so long
unfoldable pub judge_of : List ℕ → Result ℕ Flaw
judge_of l = cond (nat_le (size_of l) (length l)) (cond (crc_holds (take (size_of l) l)) (Ok (size_of l)) (Err Bad)) (Err Short)

-- what bytes are cut into: the good packets up to the first that is not, the rest, and whether the rest begins with a
-- whole packet whose CRC is wrong
pub record Cut : Type 0 where
  pub packets : List (List ℕ)
  pub rest : List ℕ
  pub bad : Bool

abbrev pub stop : List ℕ → Bool → Cut
stop l bad = record { packets = []; rest = l; bad = bad }

abbrev pub more : List ℕ → Cut → Cut
more p c = record { packets = p ∷ c.packets; rest = c.rest; bad = c.bad }

-- at most k packets
unfoldable pub cut_by : ℕ → List ℕ → Cut
cut_by zero l = stop l false
cut_by (suc k) l =
    let n = size_of l in
    let on = more (take n l) (cut_by k (drop n l)) in
    cond (nat_le n (length l)) (cond (crc_holds (take n l)) on (stop l true)) (stop l false)

-- no bytes hold more packets than there are bytes
unfoldable pub cut : List ℕ → Cut
cut l = cut_by (length l) l

-- the number that each judgement has in a batch: fewer bytes left than a whole packet needs, or a wrong CRC
abbrev pub judged_number : Result ℕ Flaw → ℕ
judged_number (Err Short) = 13
judged_number (Err Bad) = 14
judged_number (Ok n) = 0

-- the refusal that a flaw becomes
abbrev pub Means : Flaw → Refusal → Type 0
Means f r = number_of r ≡ judged_number (Err f)

-- what is wrong with bytes that should be whole packets, packet by packet: what is left behind the good ones is judged; 0 where
-- nothing is left
unfoldable pub batch_fault : List ℕ → ℕ
batch_fault l = let rest = (cut l).rest in cond (length rest == 0) 0 (judged_number (judge_of rest))

-- what comes of bytes, part by part: the good packets, and then, where something is left behind them, what is wrong with it
abbrev pub flaw_in : Result ℕ Flaw → List (Result (List ℕ) Flaw)
flaw_in (Err f) = Err f ∷ []
flaw_in (Ok n) = []

unfoldable pub parts_of : List ℕ → List (Result (List ℕ) Flaw)
parts_of l = let c = cut l in map Ok c.packets ++ cond (length c.rest == 0) [] (flaw_in (judge_of c.rest))

-- the bytes of a part
abbrev pub shown : Result (Bor (List ℕ)) Flaw → Result (List ℕ) Flaw
shown (Ok p) = Ok p.now
shown (Err f) = Err f

-- what still comes of `Packets`
abbrev pub coming : Packets → List (Result (List ℕ) Flaw)
coming s = parts_of s.rest.now

-- packets one after another
unfoldable pub joined : List (List ℕ) → List ℕ
joined [] = []
joined (p ∷ ps) = p ++ joined ps
