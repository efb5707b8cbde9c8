-- The lines of 01's refusals 1 and 4 to 11, as tests.
use Rattle.std.specs.Prelude.{ℕ, ◌+◌, Bool, false, cond, not, ◌||◌, List, [], ◌∷◌, eqb, leb, ltb, length, get_or}
use Rattle.refusals.specs.Checks.{Check, ◌when◌}
use Rattle.transport.specs.Header.{sync_of, error_of, pid_of, scrambling_of, control_of, starts, payload_at, pointer_of}

-- 1: transport packet is not 188 bytes
abbrev pub not188 : List ℕ → Bool
not188 t = not (eqb (length t) 188)

-- 4: PID outside 0x0020 to 0x1FFE
unfoldable pub pid_outside : ℕ → Bool
pid_outside pid = ltb pid 0x0020 || ltb 0x1FFE pid

-- 5: first byte not 0x47
abbrev pub sync_wrong : List ℕ → Bool
sync_wrong t = not (eqb (sync_of t) 0x47)

-- 6: transport_error_indicator set
abbrev pub error_marked : List ℕ → Bool
error_marked t = eqb (error_of t) 1

-- 7: another PID
abbrev pub another_pid : ℕ → List ℕ → Bool
another_pid pid t = not (eqb (pid_of t) pid)

-- 8: scrambling control not 00
abbrev pub scrambled : List ℕ → Bool
scrambled t = not (eqb (scrambling_of t) 0)

-- 9: no payload (adaptation control 00 or 10)
abbrev pub no_payload : List ℕ → Bool
no_payload t = eqb (control_of t) 0 || eqb (control_of t) 2

-- 10: adaptation control 11 and field length over 182
unfoldable pub field_long : List ℕ → Bool
field_long t = cond (eqb (control_of t) 3) (ltb 182 (get_or t 4 0)) false

-- 11: start indicator set and the byte pointed at lies beyond the payload
unfoldable pub pointer_beyond : List ℕ → Bool
pointer_beyond t = cond (starts t) (leb 188 (payload_at t + 1 + pointer_of t)) false

-- 5 to 11, in 01's order
unfoldable pub transport_checks : ℕ → List ℕ → List Check
transport_checks pid t =
    5 when sync_wrong t
    ∷ 6 when error_marked t
    ∷ 7 when another_pid pid t
    ∷ 8 when scrambled t
    ∷ 9 when no_payload t
    ∷ 10 when field_long t
    ∷ 11 when pointer_beyond t
    ∷ []

-- 1, then 5 to 11: all that a transport packet by itself is refused for
unfoldable pub look_checks : ℕ → List ℕ → List Check
look_checks pid t = 1 when not188 t ∷ transport_checks pid t
