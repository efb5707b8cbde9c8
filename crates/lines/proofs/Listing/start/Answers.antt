-- `lines::Listing::start` meets its contract: 0x1000 is a PID that a reader takes.
use mathlib.Core.Path.{refl, sym, ap, ◌∙◌}
use Rattle.std.specs.Prelude.{Result, is_ok}
use Rattle.refusals.specs.declared.Refusal.{Refusal}
use Rattle.transport.specs.Tests.{pid_outside}
use Rattle.gather.specs.State.{started_told}
use Rattle.gather.specs.declared.Reader.{Reader}
use Rattle.gather.proofs.StateLaws.{start-ok}
use Rattle.lines.specs.Listing.{listed_pid}
use Rattle.lines.proofs.Listing.start.Goals as goal

pub unwrap-requires : goal.unwrap-requires
unfolding pid_outside
unwrap-requires c = ap is_ok (start-ok listed_pid refl c.start.result c.start.ensures)

pub returns : goal.returns
unfolding pid_outside
returns c =
    ap (λ (r : Result Reader Refusal). record { reader = (started_told r).reader; packets = 0; gaps = 0 }) (sym c.unwrap.ensures ∙ start-ok listed_pid refl c.start.result c.start.ensures)
