-- Text in a lent buffer: words and lines, laid behind each other.
use Rattle.std.specs.Prelude.{ℕ, ◌≡◌, ◌+◌, cond, List, [], ◌∷◌, ◌++◌, length}
use Rattle.fields.specs.Parts.{overlay, inside}
use Rattle.text.specs.Digits.{digits}
use Rattle.text.specs.declared.Text.{Text}

abbrev pub space : ℕ
space = 32

abbrev pub newline : ℕ
newline = 10

-- a number, and what stands behind it
unfoldable pub word : ℕ → ℕ → List ℕ
word n end = digits n ++ (end ∷ [])

-- where the next text goes, and what the buffer holds
pub record Filled : Type 0 where
  pub at : ℕ
  pub lines : List ℕ

-- text at a place
abbrev pub laid : List ℕ → ℕ → List ℕ → Filled
laid text at lines = record { at = at + length text; lines = overlay at text lines }

-- the same where there is room for all of it, and else nothing
unfoldable pub appended : List ℕ → ℕ → List ℕ → Filled
appended text at lines = cond (inside at (length text) lines) (laid text at lines) (record { at = at; lines = lines })

-- a lent buffer, and where the next text goes
abbrev pub filled : Text → Filled
filled t = record { at = t.at; lines = t.lines.now }

-- what it is once a text is appended: the buffer stays the one that was lent
abbrev pub Appends : List ℕ → Text → Text → Type 0
Appends text t u = (u.lines.ghost_name ≡ t.lines.ghost_name) × (filled u ≡ appended text t.at t.lines.now)

-- the same where it has room
abbrev pub Lays : List ℕ → Text → Text → Type 0
Lays text t u = (u.lines.ghost_name ≡ t.lines.ghost_name) × (filled u ≡ laid text t.at t.lines.now)
