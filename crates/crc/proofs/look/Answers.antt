-- The tables keep their rule: all entries are computed from the definition here, at once, and compared.
use Rattle.std.proofs.Common.{◌%◌, refl, arith}
use Rattle.crc.specs.Crc.{shift, bit_at, feed}
use Rattle.crc.specs.Tables.{Tables}
use Rattle.crc.specs.declared.table.TheConstants.{TABLES}
use Rattle.crc.proofs.TableLaws.{tables-rule}
use Rattle.crc.proofs.look.Goals as goal

whole : Tables 16 TABLES
unfolding shift bit_at feed
whole = tables-rule 16 refl

pub returns : goal.returns
returns c = whole.entry c.args.j (c.args.x % 16) c.requires (omega arith)
