use Rattle.std.proofs.Common.{◌≡◌, ap, ◌∙◌, flat_map, rules}
use Rattle.hex.specs.Hex.{encode_lower}
use Rattle.sector_text.specs.Hex.{hex_byte}
use Rattle.sector_text.proofs.Glyphs.{encoded}
use Rattle.sector_text.proofs.digits.put_block.Goals as goal

pub returns : goal.returns
returns c =
    let text : c.encode_to_slice.new.output ≡ flat_map hex_byte c.args.block.now =
    c.in-Ok.ensures.written ∙ ap encode_lower c.as_slice.ensures ∙ encoded c.args.block.now c.fits-block in
    search (rules, text)
