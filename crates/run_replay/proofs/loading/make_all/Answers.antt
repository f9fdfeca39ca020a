use Rattle.std.proofs.Common.{◌≡◌, ap, refl, length, map, ◌++◌, arith, ◌∙◌}
use Rattle.std.proofs.lemmas.List.{nil_from_length}
use Rattle.std.specs.Vec.Iter.{into_iter_items}
use Rattle.run_record.specs.Naming.{parts_of}
use Rattle.run_replay.specs.Replaying.{whose}
use Rattle.run_replay.proofs.Reading.{goes_on, all_made}
use Rattle.run_replay.proofs.loading.make_all.Goals as goal

pub loop-entry-init : goal.loop-entry-init
loop-entry-init c = (ap (λ es. map whose c.args.book.now.entries ++ map parts_of es) c.into_iter-entry-iterator.ensures.into_iter_gives.0, refl, refl)

pub loop-entry-preserved : goal.loop-entry-preserved
loop-entry-preserved c = (
  goes_on (map whose c.args.book.now.entries) (map whose c.loop-entry.book.entries) (map whose c.make_entry.new.book.entries) (map parts_of c.args.batch.entries.items) (into_iter_items c.loop-entry.entry-iterator) (into_iter_items c.next.new.self) c.in-Some.entry c.loop-entry.invariant.0 c.in-Some.ensures.steps.0 c.in_ok-make_entry.ensures.made,
  c.in_ok-make_entry.ensures.limits ∙ c.loop-entry.invariant.1,
  c.in_ok-make_entry.ensures.most ∙ c.loop-entry.invariant.2,
)

pub returns-clause-made : goal.returns-clause-made
returns-clause-made c =
    let none : length (into_iter_items c.loop-entry.entry-iterator) ≡ 0 = omega (arith, c.in-None.ensures.steps.0, c.loop-entry.entry-iterator.rest.ok.0) in
    all_made (map whose c.args.book.now.entries) (map whose c.loop-entry.book.entries) (map parts_of c.args.batch.entries.items) (into_iter_items c.loop-entry.entry-iterator) c.loop-entry.invariant.0 (nil_from_length _ none)
