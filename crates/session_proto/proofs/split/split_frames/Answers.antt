use Rattle.std.proofs.Common.{◌≡◌, ◌<◌, ◌++◌, ◌∷◌, [], ◌+◌, Some, None, drop, arith, sym, ap, ◌∙◌}
use Rattle.session_proto.specs.Reading.{next_of}
use Rattle.session_proto.specs.declared.next.Next.TheVariants.{Whole}
use Rattle.session_proto.proofs.Nexts.{IsSide, more_short}
use Rattle.session_proto.proofs.Streams.{IsCut, cut_more, cut_ends, is_fault}
use Rattle.session_proto.proofs.split.split_frames.Given as given
use Rattle.session_proto.proofs.split.split_frames.Goals as goal

-- after a value's frame the cut is one frame further
further : (g : given.Over) (c : goal.In_ok-push-in-Whole g)
    → IsCut g.S.Side.body (g.S.Side.fits c.args.version) c.args.bytes.now (c.frames.values.items ++ c.in-Whole.value ∷ []) (c.frames.size + c.in-Whole.more) × (0 < c.in-Whole.more)
further g c =
    let laws = g.met.S.Side in
    let side : IsSide g.S.Side.body (g.S.Side.fits c.args.version) (g.S.Side.body_at c.args.version) g.S.Side.MOST =
    record { few = laws.few; in_limits = laws.in_limits c.args.version; again = laws.again c.args.version; spelled = laws.spelled c.args.version } in
    let next = next_of (g.S.Side.body_at c.args.version) g.S.Side.MOST in
    let e : next (drop c.frames.size c.args.bytes.now) ≡ Whole c.in-Whole.value c.in-Whole.more =
    ap next (sym c.split_at.ensures.back) ∙ sym c.in_ok-next_in.ensures ∙ c.in-Whole.is in
    cut_more g.S.Side.body (g.S.Side.fits c.args.version) (g.S.Side.body_at c.args.version) g.S.Side.MOST side c.args.bytes.now c.frames.values.items c.frames.size
    c.in-Whole.value c.in-Whole.more (λ i. omega (arith, c.type_inv.bytes i)) c.frames.invariant e

pub overflow_add-size : goal.overflow_add-size
overflow_add-size g c = let f = further g c in omega (arith, f.0.within)

pub frames-smaller : goal.frames-smaller
frames-smaller g c = let f = further g c in omega (arith, f.1, f.0.within)

pub frames-preserved : goal.frames-preserved
frames-preserved g c = let f = further g c in rw c.in_ok-push-in-Whole.ensures.items f.0

pub returns-in-More-clause-read : goal.returns-in-More-clause-read
returns-in-More-clause-read g c =
    cut_ends g.S.Side.body (g.S.Side.fits c.args.version) (g.S.Side.body_at c.args.version) g.S.Side.MOST c.args.bytes.now c.frames.values.items c.frames.size None c.frames.invariant
    (ap (next_of (g.S.Side.body_at c.args.version) g.S.Side.MOST) (sym c.split_at.ensures.back) ∙ sym c.in_ok-next_in.ensures ∙ c.in-More.is)

pub returns-in-More-clause-short : goal.returns-in-More-clause-short
returns-in-More-clause-short g c = λ _. more_short (g.S.Side.body_at c.args.version) g.S.Side.MOST (drop c.frames.size c.args.bytes.now)
    (ap (next_of (g.S.Side.body_at c.args.version) g.S.Side.MOST) (sym c.split_at.ensures.back) ∙ sym c.in_ok-next_in.ensures ∙ c.in-More.is)

pub returns-in-Bad-clause-read : goal.returns-in-Bad-clause-read
returns-in-Bad-clause-read g c =
    cut_ends g.S.Side.body (g.S.Side.fits c.args.version) (g.S.Side.body_at c.args.version) g.S.Side.MOST c.args.bytes.now c.frames.values.items c.frames.size (Some c.in-Bad.fault) c.frames.invariant
    (ap (next_of (g.S.Side.body_at c.args.version) g.S.Side.MOST) (sym c.split_at.ensures.back) ∙ sym c.in_ok-next_in.ensures ∙ c.in-Bad.is)

pub returns-in-Bad-clause-short : goal.returns-in-Bad-clause-short
returns-in-Bad-clause-short g c = λ none. absurd (is_fault c.in-Bad.fault none)
