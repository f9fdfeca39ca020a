use Rattle.std.proofs.Common.{◌≡◌, ◌≤◌, ◌<◌, ◌∙◌, sym, [], ◌++◌, length, take, length-append, None, ap, arith}
use Rattle.std.specs.Option.{option_to_list}
use Rattle.session_proto.specs.declared.version.Version.TheVariants.{One}
use Rattle.operator_asking.proofs.Waits.{read_more, none_of, no_values, closer, unread, replies, no_reply, waits_on, unfed}
use Rattle.operator_asking.proofs.receiving.receive.Goals as goal

pub returns-in_err-fed : goal.returns-in_err-fed
returns-in_err-fed g c =
    let piece = take c.in-Ok.count c.read.new.buf in
    let few : length piece ≤ 4096 = omega (arith, c.in-Ok.ensures.bound) in
    let some : 0 < length (c.pieces.feeder.bytes ++ piece) = omega (arith, c.in-Ok.ensures.bound, length-append c.pieces.feeder.bytes piece, c.if-count-eq0.false) in
    let read = read_more (g.H.Side.body_at One) g.H.Side.MOST _ _ _ c.pieces.feeder piece c.pieces.invariant c.in-Ok.ensures.bytes.0 few in
    unfed g.H.Side.body (g.H.Side.fits One) (g.H.Side.body_at One) g.H.Side.MOST _ _ _ c.from_residual.result read some c.from_residual.ensures.1

pub returns-in-Some : goal.returns-in-Some
returns-in-Some g c =
    let piece = take c.in-Ok.count c.read.new.buf in
    let few : length piece ≤ 4096 = omega (arith, c.in-Ok.ensures.bound) in
    let read = read_more (g.H.Side.body_at One) g.H.Side.MOST _ _ _ c.pieces.feeder piece c.pieces.invariant c.in-Ok.ensures.bytes.0 few in
    replies g.H.Side.body (g.H.Side.fits One) (g.H.Side.body_at One) g.H.Side.MOST _ _ _ c.in_ok-fed.fed.values.items _ _ c.in_ok-fed.fed.fault c.in-Some.reply
    read (c.in_ok-fed.ensures.read c.pieces.invariant.none) (sym c.into_iter.ensures.rest ∙ c.next.ensures.items ∙ ap (λ first. option_to_list first ++ c.next.new.self.rest.items) c.in-Some.is)

pub returns-then-is_some : goal.returns-then-is_some
returns-then-is_some g c =
    let piece = take c.in-Ok.count c.read.new.buf in
    let few : length piece ≤ 4096 = omega (arith, c.in-Ok.ensures.bound) in
    let read = read_more (g.H.Side.body_at One) g.H.Side.MOST _ _ _ c.pieces.feeder piece c.pieces.invariant c.in-Ok.ensures.bytes.0 few in
    let none : c.in_ok-fed.fed.values.items ≡ [] = no_values c.in_ok-fed.fed.values.items c.into_iter.result.rest.len c.next.result (omega (arith, ap length c.into_iter.ensures.rest)) c.next.ensures.variant.1 c.in-None.is in
    no_reply g.H.Side.body (g.H.Side.fits One) (g.H.Side.body_at One) g.H.Side.MOST _ _ _ c.in_ok-fed.fed.values.items _ c.in_ok-fed.fed.fault
    read (c.in_ok-fed.ensures.read c.pieces.invariant.none) none (sym c.if-is_some.ensures)

pub pieces-preserved : goal.pieces-preserved
pieces-preserved g c =
    let piece = take c.in-Ok.count c.read.new.buf in
    let few : length piece ≤ 4096 = omega (arith, c.in-Ok.ensures.bound) in
    let read = read_more (g.H.Side.body_at One) g.H.Side.MOST _ _ _ c.pieces.feeder piece c.pieces.invariant c.in-Ok.ensures.bytes.0 few in
    let none : c.in_ok-fed.fed.values.items ≡ [] = no_values c.in_ok-fed.fed.values.items c.into_iter.result.rest.len c.next.result (omega (arith, ap length c.into_iter.ensures.rest)) c.next.ensures.variant.1 c.in-None.is in
    let sound : c.in_ok-fed.fed.fault ≡ None = none_of c.in_ok-fed.fed.fault (sym c.if-is_some.ensures) in
    waits_on g.H.Side.body (g.H.Side.fits One) (g.H.Side.body_at One) g.H.Side.MOST _ _ _ c.in_ok-fed.fed.values.items c.in_ok-fed.fed.fault c.feed.new.self
    read (c.in_ok-fed.ensures.read c.pieces.invariant.none) sound c.in_ok-fed.ensures.fault (c.in_ok-fed.ensures.grows none sound) (c.in_ok-fed.ensures.short sound)

pub pieces-smaller : goal.pieces-smaller
pieces-smaller g c =
    let none : c.in_ok-fed.fed.values.items ≡ [] = no_values c.in_ok-fed.fed.values.items c.into_iter.result.rest.len c.next.result (omega (arith, ap length c.into_iter.ensures.rest)) c.next.ensures.variant.1 c.in-None.is in
    let sound : c.in_ok-fed.fed.fault ≡ None = none_of c.in_ok-fed.fed.fault (sym c.if-is_some.ensures) in
    closer g.H.Side.MOST c.pieces.feeder.bytes (take c.in-Ok.count c.read.new.buf) c.feed.new.self.bytes (c.in_ok-fed.ensures.grows none sound)
    (omega (arith, c.in-Ok.ensures.bound, c.if-count-eq0.false)) (c.in_ok-fed.ensures.short sound)

pub returns-in-Err : goal.returns-in-Err
returns-in-Err g c = unread (g.H.Side.body_at One) g.H.Side.MOST _ _ _ c.pieces.feeder c.pieces.invariant c.in-Err.ensures.bytes
