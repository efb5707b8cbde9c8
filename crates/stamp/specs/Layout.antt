-- The fields of a DVB-T2 timestamp payload (002, clause 5.2.7), the units of its subseconds, and the three kinds of stamp.
use Rattle.std.specs.Prelude.{ℕ, ◌-◌, ◌*◌, ◌^◌, ◌≡◌, Bool, true, false, cond, not, ◌&&◌, List, [], ◌∷◌, eqb, ltb, leb, get_or, replicate}
use Rattle.stamp.specs.declared.Stamp.{Stamp}
use Rattle.stamp.specs.declared.Kind.{Kind}
use Rattle.stamp.specs.declared.Kind.TheVariants.{Null, Relative, Absolute}

-- reserved 4, bw 4, seconds_since_2000 40, subseconds 27, utco 13
abbrev pub format : List ℕ
format = 4 ∷ 4 ∷ 40 ∷ 27 ∷ 13 ∷ []

-- the subsecond units in a microsecond, for bw 0 to 5
abbrev pub unit_table : List ℕ
unit_table = 131 ∷ 40 ∷ 48 ∷ 56 ∷ 64 ∷ 80 ∷ []

-- the others are reserved, and have none
abbrev pub units_of : ℕ → ℕ
units_of bw = get_or unit_table bw 0

-- the subsecond units in a second
abbrev pub second_of : ℕ → ℕ
second_of bw = units_of bw * 1000000

-- w bits that are all ones
abbrev pub ones : ℕ → ℕ
ones w = 2 ^ w - 1

-- all ones in the three fields is the null stamp, at any bw
unfoldable pub is_null : Stamp → Bool
is_null s = eqb s.seconds (ones 40) && eqb s.subseconds.0 (ones 27) && eqb s.utco (ones 13)

-- seconds 0 marks a relative stamp
unfoldable pub kind_of : Stamp → Kind
kind_of s = cond (is_null s) Null (cond (eqb s.seconds 0) Relative Absolute)

-- what each kind says of a stamp
abbrev pub Means : Kind → Stamp → Type 0
Means Null s = is_null s ≡ true
Means Relative s = s.seconds ≡ 0
Means Absolute s = (is_null s ≡ false) × (s.seconds ≡ 0 → ⊥)

-- a kind as a number
abbrev pub kind_number : Kind → ℕ
kind_number Absolute = 0
kind_number Relative = 1
kind_number Null = 2

-- the null stamp of a bandwidth code, and its bytes: the code, and then ten bytes of ones
abbrev pub null_stamp : ℕ → Stamp
null_stamp bw = record { bw = bw; seconds = ones 40; subseconds = record { 0 = ones 27 }; utco = ones 13 }

abbrev pub null_bytes : ℕ → List ℕ
null_bytes bw = bw ∷ replicate 10 255

-- a bandwidth code over 5 (01, refusal 24)
abbrev pub bandwidth_over : Stamp → Bool
bandwidth_over s = ltb 5 s.bw

-- subseconds reach a whole second and the stamp is not null (01, refusal 25)
unfoldable pub second_reached : Stamp → Bool
second_reached s = leb (second_of s.bw) s.subseconds.0 && not (is_null s)
