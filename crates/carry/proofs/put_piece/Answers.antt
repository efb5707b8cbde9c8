-- `carry::put_piece` meets its contract: the bytes fill what the head, and the pointer behind it, leave.
use Rattle.std.proofs.Common.{rules, ◌≡◌, ℕ, ◌-◌, List, length, set, ap, ◌∙◌}
use Rattle.std.specs.Prelude.{Option, Some, None}
use Rattle.fields.specs.Parts.{overlay}
use Rattle.transport.specs.Load.{head_bytes}
use Rattle.carry.proofs.BuildLaws.{Ready, built}
use Rattle.carry.specs.Building.{blank}
use Rattle.carry.specs.OnBytes.{load_with}
use Rattle.carry.proofs.put_piece.Goals as goal
use Rattle.carry.proofs.put_piece.Goals.{in-None, in-Some-pointer}

module _ (pid count : ℕ) (o : Option ℕ) (d t h : List ℕ) where
  plain-ready : o ≡ None → t ≡ h → h ≡ overlay 0 (head_bytes pid 0 count (184 - length d)) blank → Ready pid count (load_with o d) t
  plain-ready e q r = rw e (q ∙ r)

  start-ready : (n : ℕ) → o ≡ Some n → t ≡ set h (187 - length d) n → h ≡ overlay 0 (head_bytes pid 1 count (183 - length d)) blank → Ready pid count (load_with o d) t
  start-ready n e q r = rw e (q ∙ ap (λ (l : List ℕ). set l (187 - length d) n) r)

pub returns : goal.returns
returns c =
    let a = c.args in
    let d = a.piece.bytes.now in
    let t = c.match-piece.t in
    let long : length t ≡ 188 = search rules in
    let r : Ready a.pid a.count (load_with a.piece.pointer d) t =
    elim c.match-piece.branch [
      | in-None w ↦ plain-ready a.pid a.count a.piece.pointer d t _ w.in-None.is w.t-is w.put_head.ensures
      | in-Some-pointer w ↦ start-ready a.pid a.count a.piece.pointer d t _ _ w.in-Some-pointer.is w.t-is w.put_head-in-Some-pointer.ensures
    ] in
    c.copy.ensures ∙ built a.pid a.count a.piece.pointer d c.requires.1 t long r
