use Rattle.std.proofs.Common.{sym, ◌∙◌, arith}
use Rattle.run_replay.proofs.Reading.{one_more, none_more}
use Rattle.run_replay.proofs.loading.kept.Goals as goal

pub loop-at-init : goal.loop-at-init
loop-at-init c = (c.in-Ok.ensures.entries, c.in-Ok.ensures.limits ∙ sym c.requires.limits, c.in-Ok.ensures.most ∙ sym c.requires.most)

pub loop-at-preserved : goal.loop-at-preserved
loop-at-preserved c = (
  one_more c.args.book.entries c.loop-at.front.entries c.make_again.new.book.entries c.loop-at.at _ c.loop-at.invariant.0 c.in_ok-make_again.ensures.made c.in-Some-entry.ensures,
  c.in_ok-make_again.ensures.limits ∙ c.loop-at.invariant.1,
  c.in_ok-make_again.ensures.most ∙ c.loop-at.invariant.2,
)

pub returns-in_default-entry-clause-entries : goal.returns-in_default-entry-clause-entries
returns-in_default-entry-clause-entries c =
    none_more c.args.book.entries c.loop-at.front.entries c.loop-at.at c.args.to c.in-Some.to c.loop-at.invariant.0 (sym c.in_default-entry.ensures) c.in-Some.is
    (omega (arith, c.loop-at-test.true, c.saturating_sub-count.ensures))
