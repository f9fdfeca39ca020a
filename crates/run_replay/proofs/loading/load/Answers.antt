use Rattle.std.proofs.Common.{◌≡◌, ◌<◌, ◌^◌, [], refl, sym, ap, subst, ◌∙◌, ◌++◌, map, length, unwrap_or, arith}
use Rattle.plain.specs.Step.{of_sizes}
use Rattle.dispatch_core.specs.Running.{sizes_of}
use Rattle.run_record.specs.declared.header.Header.{Header}
use Rattle.run_replay.specs.Replaying.{whose, IsOver, Goes}
use Rattle.run_replay.proofs.Reading.{Consumes-more, on_some, on_none, stands, stands_still, ended}
use Rattle.run_replay.proofs.loading.load.Goals as goal

pub loop-init : goal.loop-init
loop-init g c =
    let opens = c.in_ok-reel.ensures.opens in (
      stands _ _ c.in_ok-reel.reel c.in-Ok.book c.make_all.new.book c.in_ok-reel.batch.entries.items opens.0.0 c.in_ok-reel.batch.entries.items c.in_ok-reel.batch.is_bad opens.0.1 opens.0.2 opens.1
          c.in_ok-make_all.ensures.good [] refl (ap (map whose) (sym c.in-Ok.ensures.entries)) c.in_ok-make_all.ensures.made,
      refl,
      refl,
      refl,
    )

pub loop-preserved : goal.loop-preserved
loop-preserved g c =
    let s = c.loop.invariant.0 in
    let goes = on_some c.in_ok-batch.field-0 c.in-Some.batch (IsOver (g.R.Read.remaining c.loop.reader) (g.R.Read.remaining c.next.new.reader) c.loop.reel c.next.new.self)
    (λ batch. Goes (g.R.Read.remaining c.loop.reader) (g.R.Read.remaining c.next.new.reader) c.loop.reel c.next.new.self batch.entries.items batch.is_bad) c.in-Some.is c.in_ok-batch.ensures.goes in (
      stands _ _ c.next.new.self c.loop.book c.make_all-in-Some.new.book c.in-Some.batch.entries.items (s.bytes ++ goes.0.0) (s.entries ++ c.in-Some.batch.entries.items) c.in-Some.batch.is_bad
          (Consumes-more _ _ _ s.bytes goes.0.0 s.consumes goes.0.1) (goes.0.2 s.bytes s.entries s.read) goes.1 c.in_ok-make_all-in-Some.ensures.good s.entries refl s.made c.in_ok-make_all-in-Some.ensures.made,
      c.in_ok-make_all-in-Some.ensures.limits ∙ c.loop.invariant.1,
      c.in_ok-make_all-in-Some.ensures.most ∙ c.loop.invariant.2,
      c.next.ensures.header ∙ c.loop.invariant.3,
    )

pub returns-in-None : goal.returns-in-None
returns-in-None g c =
    let over = on_none c.in_ok-batch.field-0 (IsOver (g.R.Read.remaining c.loop.reader) (g.R.Read.remaining c.next.new.reader) c.loop.reel c.next.new.self)
    (λ batch. Goes (g.R.Read.remaining c.loop.reader) (g.R.Read.remaining c.next.new.reader) c.loop.reel c.next.new.self batch.entries.items batch.is_bad) c.in-None.is c.in_ok-batch.ensures.goes in
    let s = stands_still _ _ _ c.loop.reel c.next.new.self c.loop.book c.loop.invariant.0 over.0 over.2 over.3 in
    let header : c.in_ok-reel.reel.header ≡ c.next.new.self.header = sym (over.3 ∙ c.loop.invariant.3) in
    let few = subst (λ (h : Header). h.sectors < 2 ^ 55) header c.in_ok-reel.ensures.few in
    let limits = c.in_ok-book-in-None.ensures.limits ∙ c.loop.invariant.1 ∙ c.in_ok-make_all.ensures.limits ∙ c.in-Ok.ensures.limits
    ∙ ap of_sizes (c.in_ok-config.ensures.same c.in_ok-reel.reel.header.sectors) ∙ ap (λ (h : Header). of_sizes (sizes_of h.config h.sectors)) header in
    let most = c.in_ok-book-in-None.ensures.most ∙ c.loop.invariant.2 ∙ c.in_ok-make_all.ensures.most ∙ c.in-Ok.ensures.most ∙ c.in_ok-config.ensures.history
    ∙ ap (λ (h : Header). unwrap_or c.args.asked.history h.config.history_max) header in (
      s.bytes,
      s.consumes,
      over.1,
      ended _ _ c.next.new.self c.loop.book c.args.asked _ s refl (c.journal_len-entries.ensures ∙ ap length c.view.ensures.journal)
          (omega (arith, c.if-entries-reel.false)) c.is_torn.ensures few c.in_ok-book-in-None.ensures.entries limits most,
    )
