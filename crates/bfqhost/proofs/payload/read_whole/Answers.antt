use Rattle.std.proofs.Common.{◌≡◌, ℕ, List, arith, subst}
use Rattle.std.specs.Prelude.{Option, IfSome}
use Rattle.bfqhost.proofs.Payloads.{read_all}
use Rattle.bfqhost.proofs.payload.read_whole.Goals as goal

pub returns-clause-whole : goal.returns-clause-whole
returns-clause-whole g c =
    let whole : IfSome (g.R.Read.remaining c.take.result.inner) (λ all. c.read_to_end.new.buf.items ≡ all) =
    read_all (g.R.Read.remaining c.take.result.inner) 67108864 c.take.result.limit c.new-bytes.result.items c.read_to_end.new.buf.items
    c.new-bytes.ensures.items c.take.ensures.limit c.in_ok-read_to_end.ensures.bytes (omega (arith, c.len.ensures, c.if-len-gt-MOST_BYTES.false)) in
    subst (λ r. IfSome (g.R.Read.remaining r) (λ all. c.read_to_end.new.buf.items ≡ all)) c.take.ensures.inner whole
