-- The lists over C's own values give each of their numbers exactly where they say.
-- Assumes nothing.
use Rattle.refusals.proofs.CheckLaws.{given-exactly}
use Rattle.transport.specs.Tests.{transport_checks}
use Rattle.gather.specs.State.{gather_checks}
use Rattle.door.specs.Demand1.{function_checks, mip_checks}
use Rattle.door.specs.Given.{Given}

pub given : Given
unfolding gather_checks transport_checks function_checks mip_checks
given =
    record {
      gathering = λ r t room space. given-exactly _ tt;
      function_write = λ kind tag value wait reserved n room. given-exactly _ tt;
      mip_write = λ count pointer periodic future stamp delay tps d room. given-exactly _ tt;
    }
