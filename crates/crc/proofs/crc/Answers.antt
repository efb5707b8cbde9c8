-- The register starts with all ones, which is the definition, and goes through the eights and then the last bytes.
use Rattle.std.proofs.Common.{◌≡◌, ◌∙◌, ◌/◌, ◌*◌, ℕ, length, drop, ap, rules}
use Rattle.std.specs.List.{fold}
use Rattle.std.specs.Simd.{first_chunks}
use Rattle.crc.specs.Crc.{feed, run, all_ones, crc_of}
use Rattle.crc.proofs.RunLaws.{run_fold}
use Rattle.crc.proofs.TableLaws.{run_eights}
use Rattle.crc.proofs.crc.Goals as goal

pub returns : goal.returns
unfolding crc_of
returns c =
    let l = c.args.bytes.now in
    let eights : c.fold-register.result ≡ fold run all_ones (first_chunks 8 (length l / 8) l) = search rules in
    let last : c.fold.result ≡ fold (feed 8) c.fold-register.result (drop (length l / 8 * 8) l) = search rules in
    last
    ∙ run_fold c.fold-register.result (drop (length l / 8 * 8) l)
    ∙ ap (λ (r : ℕ). run r (drop (length l / 8 * 8) l)) eights
    ∙ run_eights (length l / 8) all_ones l
