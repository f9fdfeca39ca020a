use Rattle.std.proofs.Common.{arith, sym, refl, ◌<◌, ◌∙◌, map, ap, Some, length}
use Rattle.std.proofs.lemmas.List.{length-map}
use Rattle.host_core.specs.Seats.{row_of}
use Rattle.host_core.proofs.Rows.{changes-set, get-at}
use Rattle.host_core.proofs.Ends.{close-none, close-more, close-whole, open-next}
use Rattle.host_core.proofs.Same.{each-set, each-twice, each-none}
use Rattle.host_core.proofs.closing.close_row.Goals as goal

pub loop-number-preserved : goal.loop-number-preserved
loop-number-preserved g c =
    let row = row_of g.C.Staged.asked_by g.C.Staged.named in
    let d = c.index_mut.result.now in
    let within : c.loop-number.number < length c.loop-number.desks.items = omega (arith, c.loop-number-test.true, c.loop-number.auto.number-end, c.loop-number.invariant.1, c.len-number-end.ensures, c.loop-number.desks.ok.0) in (
      close-more c.loop-number.number (map row c.args.desks.now.items) (map row c.loop-number.desks.items) _ c.loop-number.invariant.0
          (changes-set _ row c.loop-number.desks.items _ c.loop-number.number d c.close.new.self within c.index_mut.ensures.value refl (
            open-next c.loop-number.number (map row c.args.desks.now.items) (map row c.loop-number.desks.items) (row d) c.loop-number.invariant.0 c.requires.open
                (get-at row c.loop-number.desks.items c.loop-number.number d within ∙ ap (λ x. Some (row x)) (sym c.index_mut.ensures.value)),
            c.close.ensures.row,
          )),
      c.loop-number.invariant.1,
      each-twice c.args.desks.now.items c.loop-number.desks.items _ c.loop-number.invariant.2
          (each-set c.loop-number.desks.items _ c.loop-number.number d c.close.new.self within c.index_mut.ensures.value refl c.close.ensures.desk),
    )

pub returns-clause-closes : goal.returns-clause-closes
returns-clause-closes g c =
    let row = row_of g.C.Staged.asked_by g.C.Staged.named in
    close-whole c.loop-number.number (map row c.args.desks.now.items) (map row c.loop-number.desks.items) c.loop-number.invariant.0
    (omega (
      arith,
      c.loop-number-test.false,
      c.loop-number.auto.number-end,
      c.loop-number.invariant.1,
      c.len-number-end.ensures,
      c.loop-number.desks.ok.0,
      c.args.desks.now.ok.0,
      length-map c.loop-number.desks.items row,
    ))

pub loop-number-init : goal.loop-number-init
loop-number-init g c = (close-none (map (row_of g.C.Staged.asked_by g.C.Staged.named) c.args.desks.now.items), refl, each-none c.args.desks.now.items)
