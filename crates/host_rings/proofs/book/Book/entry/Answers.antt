use Rattle.std.proofs.Common.{◌∙◌, sym, ap, arith, slice_get}
use Rattle.std.specs.Option.{option_copied}
use Rattle.std.proofs.lemmas.Option.{slice_get_within}
use Rattle.host_rings.proofs.Entries.{entry-at, entry-none, name-at}
use Rattle.host_rings.proofs.book.Book.entry.Goals as goal

pub returns-in_default : goal.returns-in_default
returns-in_default c = let s = c.self.inside in
    sym (ap (λ p. slice_get p.entries c.args.at) (sym c.self.view_is)
    ∙ entry-none s.names.items s.keeper.state.journal c.args.at (sym c.entry.ensures ∙ ap option_copied c.in_default.is))

pub index-requires : goal.index-requires
index-requires c = let s = c.self.inside in
    omega (
      arith,
      slice_get_within s.keeper.state.journal c.args.at c.in-Some.call.now (sym c.entry.ensures ∙ ap option_copied c.in-Some.is),
      c.self.invariant.even,
      c.self.invariant.counted,
    )

pub returns : goal.returns
returns c = let s = c.self.inside in
    let called = sym c.entry.ensures ∙ ap option_copied c.in-Some.is in
    sym (ap (λ p. slice_get p.entries c.args.at) (sym c.self.view_is)
    ∙ entry-at s.names.items s.keeper.state.journal c.args.at c.index.result.now c.in-Some.call.now c.self.invariant.even
    (name-at s.names.items c.args.at c.index.result.now
    (omega (arith, slice_get_within s.keeper.state.journal c.args.at c.in-Some.call.now called, c.self.invariant.even)) c.index.ensures) called)
