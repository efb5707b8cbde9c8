-- What is laid, and what is still to be laid, is all of it.
use Rattle.std.proofs.Common.{◌≡◌, ℕ, ◌+◌, ◌*◌, ◌%◌, ◌≤◌, ◌<◌, List, length}
use Rattle.fields.specs.Parts.{overlay}
use Rattle.packet.specs.Cut.{joined}
use Rattle.transport.specs.Load.{Load}
use Rattle.carry.specs.Carry.{numbered}
use Rattle.carry.specs.OnBytes.{loads_from, coming}
use Rattle.carry.proofs.put_pieces.Given as goal

-- at a turn: what is still to be laid over the output as it is gives what all of it over the first gives
pub record At (pid first : ℕ) (all ls : List Load) (out₀ out : List ℕ) (n count : ℕ) : Type 0 where
  pub small : count < 16
  pub same : length out ≡ length out₀
  pub whole : n + length ls ≡ length all
  pub room : 188 * length all ≤ length out₀
  pub counts : (count + length ls) % 16 ≡ (first + length all) % 16
  pub laid : overlay (188 * n) (joined (numbered pid count ls)) out ≡ overlay 0 (joined (numbered pid first all)) out₀

abbrev pub invariant-loop-piece : goal.invariant-loop-piece
invariant-loop-piece l = At l.pid l.first_count (loads_from 0 l.batch) (coming l.piece-iterator) l.initial.out l.out l.packets l.count
