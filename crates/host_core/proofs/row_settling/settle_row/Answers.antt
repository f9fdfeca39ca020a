use Rattle.std.proofs.Common.{◌≡◌, refl, sym, ap, ◌∙◌, subst, arith, Some}
use Rattle.std.specs.List.{slice_get}
use Rattle.std.proofs.lemmas.Option.{slice_get_within}
use Rattle.host_core.specs.Seats.{row_of, AreBeside}
use Rattle.host_core.specs.SeatSettling.{seat_of}
use Rattle.host_core.proofs.Same.{each-set}
use Rattle.host_core.proofs.SettledRows.{map-set, or-stands, row-stands}
use Rattle.host_core.proofs.row_settling.settle_row.Goals as goal

pub returns-clause-rows : goal.returns-clause-rows
returns-clause-rows g c = map-set _ c.args.desks.now.items c.from-number.result c.index_mut.result.now c.settle.new.self c.index_mut.ensures.value c.settle.ensures.row

pub returns-clause-desks : goal.returns-clause-desks
returns-clause-desks g c = each-set c.args.desks.now.items _ c.from-number.result c.index_mut.result.now c.settle.new.self
    (omega (arith, slice_get_within c.args.desks.now.items _ c.requires.0 c.requires.1, c.from-number.ensures, c.number.ensures)) c.index_mut.ensures.value refl c.settle.ensures.desk

pub settle-requires : goal.settle-requires
settle-requires g c = subst (AreBeside (seat_of c.args.end)) (or-stands c.args.desks.now.items c.from-number.result c.requires.0 c.index_mut.result.now
    (ap (slice_get c.args.desks.now.items) (c.from-number.ensures ∙ c.number.ensures) ∙ c.requires.1) c.index_mut.ensures.value) c.requires.2

pub returns-clause-settled : goal.returns-clause-settled
returns-clause-settled g c =
    let row = row_of g.C.Staged.asked_by g.C.Staged.named in
    let desks = c.args.desks.now.items in
    let desk = c.index_mut.result.now in
    let at : slice_get desks c.from-number.result ≡ Some c.requires.0 = ap (slice_get desks) (c.from-number.ensures ∙ c.number.ensures) ∙ c.requires.1 in
    let same : c.requires.0 ≡ desk = or-stands desks c.from-number.result c.requires.0 desk at c.index_mut.ensures.value in
    record {
      row = row desk;
      place = c.from-number.result;
      stands = row-stands row desks c.from-number.result c.requires.0 desk at same;
      named = ap g.C.Staged.named (ap (λ d. d.number) (sym same) ∙ c.requires.2.2);
      settled = c.settle.ensures.settled;
    }
