use Rattle.std.proofs.Common.{◌≡◌, ◌++◌, ◌/◌, length}
use Rattle.sector_text.specs.Hex.{hex_words}
use Rattle.sector_text.proofs.words.put_hex_words.Given as goal

abbrev pub invariant-loop-rest : goal.invariant-loop-rest
invariant-loop-rest l =
    l.out.items ++ hex_words (length l.rest / 512) l.rest ≡ l.fn.out.items ++ hex_words (length l.bytes / 512) l.bytes

abbrev pub decreases-loop-rest : goal.decreases-loop-rest
decreases-loop-rest l = length l.rest
