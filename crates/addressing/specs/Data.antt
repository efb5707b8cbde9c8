-- Addressing data (01, "Timestamp and addressing payloads"): groups of tx_identifier 16, function_loop_length 8, functions. Each
-- function is tag 8, function_length 8, body. The first bad place in byte order decides.
--
-- Whatever looks at a function_length takes `own`: how many of the function's own two bytes before its body, tag and length, it
-- counts. By the house rule both (functions, `house`).
use Rattle.std.specs.Prelude.{ℕ, zero, suc, ◌+◌, ◌-◌, ◌*◌, Bool, cond, ◌||◌, List, [], ◌∷◌, ◌++◌, eqb, ltb, length, get_or, take, drop, Result, Ok, Err}
use Rattle.refusals.specs.Checks.{Check, ◌when◌, found, first}
use Rattle.functions.specs.Tags.{body_wrong, bandwidth_reserved}
pub use Rattle.functions.specs.Tags.{house}
use Rattle.refusals.specs.Refusals.{number_of}
use Rattle.addressing.specs.declared.Fault.{Fault as CodeFault}

-- ---- a group at the front of what is left of the data: tx_identifier 16, function_loop_length 8, functions

abbrev pub owner_of : List ℕ → ℕ
owner_of l = get_or l 0 0 * 256 + get_or l 1 0

abbrev pub loop_length : List ℕ → ℕ
loop_length l = get_or l 2 0

abbrev pub group_size : List ℕ → ℕ
group_size l = 3 + loop_length l

-- its header is cut, or its loop passes the end (01, refusal 26)
abbrev pub group_cut : List ℕ → Bool
group_cut l = ltb (length l) 3 || ltb (length l) (group_size l)

unfoldable pub group_checks : List ℕ → List Check
group_checks l = 26 when group_cut l ∷ []

pub record Group : Type 0 where
  pub owner : ℕ
  pub start : ℕ  -- where its loop starts
  pub loop : List ℕ  -- its loop's bytes

abbrev pub group_at : ℕ → List ℕ → Group
group_at at l = record { owner = owner_of l; start = at + 3; loop = take (loop_length l) (drop 3 l) }

-- ---- a function at the front of what is left of its loop: tag 8, function_length 8, body

abbrev pub tag_of : List ℕ → ℕ
tag_of l = get_or l 0 0

-- how many bytes its body has: those that function_length counts beyond the function's own
abbrev pub body_length : ℕ → List ℕ → ℕ
body_length own l = get_or l 1 0 - own

abbrev pub function_size : ℕ → List ℕ → ℕ
function_size own l = 2 + body_length own l

-- under 2 bytes left, its length under 2 (under what it counts of its own), or past its loop (01, refusal 27)
abbrev pub function_cut : ℕ → List ℕ → Bool
function_cut own l = ltb (length l) 2 || ltb (get_or l 1 0) own || ltb (length l) (function_size own l)

unfoldable pub function_checks : ℕ → List ℕ → List Check
function_checks own l =
    27 when function_cut own l
    ∷ 28 when body_wrong (tag_of l) (body_length own l)
    ∷ 29 when bandwidth_reserved (tag_of l) (get_or l 2 0)
    ∷ []

pub record Placed : Type 0 where
  pub tag : ℕ
  pub start : ℕ  -- where its body starts
  pub body : ℕ  -- how many bytes its body has

-- the place just after a function
abbrev pub end_of : Placed → ℕ
end_of f = f.start + f.body

abbrev pub function_at : ℕ → ℕ → List ℕ → Placed
function_at own at l = record { tag = tag_of l; start = at + 2; body = body_length own l }

-- ---- entries one after the other: groups in data, functions in a loop. Each has a header that says how long it is

-- how an entry at the front of what is left is read
pub record Entry (A : Type 0) : Type 0 where
  pub judge : List ℕ → ℕ  -- the number of its fault, or 0
  pub size : List ℕ → ℕ  -- how many bytes it takes
  pub read : ℕ → List ℕ → A  -- what it is, at a place

-- a fault: its number, and the place of the header where it is; 0 and 0 where there is none
pub record Fault : Type 0 where
  pub refusal : ℕ
  pub place : ℕ

-- entries up to the first bad one, and its fault
pub record Entries (A : Type 0) : Type 0 where
  pub entries : List A
  pub fault : Fault

abbrev pub no_fault : Fault
no_fault = record { refusal = 0; place = 0 }

abbrev pub none : {A : Type 0} → Entries A
none = record { entries = []; fault = no_fault }

abbrev pub stopped : {A : Type 0} → ℕ → ℕ → Entries A
stopped n at = record { entries = []; fault = record { refusal = n; place = at } }

abbrev pub on_top : {A : Type 0} → A → Entries A → Entries A
on_top x rest = record { entries = x ∷ rest.entries; fault = rest.fault }

-- the entries of the bytes l, which lie at place `at`; k bounds how many
unfoldable pub entries_by : {A : Type 0} → ℕ → Entry A → ℕ → List ℕ → Entries A
entries_by zero e at l = none
entries_by (suc k) e at [] = none
entries_by (suc k) e at (b ∷ bs) =
    let l = b ∷ bs in
    let n = e.judge l in
    let rest = entries_by k e (at + e.size l) (drop (e.size l) l) in
    let on = on_top (e.read at l) rest in
    cond (eqb n 0) on (stopped n at)

-- there are no more entries than bytes
unfoldable pub entries_in : {A : Type 0} → Entry A → ℕ → List ℕ → Entries A
entries_in e at l = entries_by (length l) e at l

-- ---- the data: its groups, and the functions of each

abbrev pub group : Entry Group
group = record { judge = λ l. first (group_checks l); size = group_size; read = group_at }

abbrev pub function : ℕ → Entry Placed
function own = record { judge = λ l. first (function_checks own l); size = function_size own; read = function_at own }

abbrev pub groups_in : ℕ → List ℕ → Entries Group
groups_in at l = entries_in group at l

abbrev pub groups_of : List ℕ → List Group
groups_of d = (groups_in 0 d).entries

abbrev pub loop_in : ℕ → Group → Entries Placed
loop_in own g = entries_in (function own) g.start g.loop

unfoldable pub functions_of : ℕ → List Group → List Placed
functions_of own [] = []
functions_of own (g ∷ gs) = (loop_in own g).entries ++ functions_of own gs

-- the first bad place decides: the loops of some groups in order, and then what follows the groups
unfoldable pub fault_in : ℕ → List Group → Fault → Fault
fault_in own [] after = after
fault_in own (g ∷ gs) after =
    let on = fault_in own gs after in
    let here = (loop_in own g).fault in
    cond (eqb here.refusal 0) on here

-- THE CHECK of the data: the number of its first fault in byte order, and the place of the group or function header where that is; 0
-- and 0 where it is good. What follows the whole groups is a cut one or nothing
unfoldable pub fault_of : ℕ → List ℕ → Fault
fault_of own d = fault_in own (groups_of d) (groups_in 0 d).fault

-- what a result of `check` stands for
abbrev pub fault_from : CodeFault → Fault
fault_from f = record { refusal = number_of f.refusal; place = f.place }

abbrev pub fault_told : {A : Type 0} → Result A CodeFault → Fault
fault_told (Ok a) = no_fault
fault_told (Err f) = fault_from f

-- the same in a list of checks: a fault's number, where there is one
abbrev pub fault : ℕ → List ℕ → Check
fault own d = found (fault_of own d).refusal
