use Rattle.std.proofs.Common.{◌≡◌, ◌+◌, ◌<◌, length, slice_index_or, ap, ◌∙◌, arith}
use Rattle.checksum.specs.Crc.{entry_before}
use Rattle.checksum.proofs.Entries.{entry_at}
use Rattle.checksum.proofs.table.entry_in.Goals as goal

pub returns : goal.returns
returns c = λ behind is.
    let within : c.args.byte < length c.args.table.now = omega (arith, c.ranges.byte.fits, c.type_inv.table) in
    let same : 0 + c.args.byte ≡ c.args.byte = omega arith in
    ap (λ i. slice_index_or c.args.table.now i 0) c.from.ensures ∙ (entry_at behind 0 c.args.byte c.args.table.now within is ∙ ap (entry_before behind) same)
