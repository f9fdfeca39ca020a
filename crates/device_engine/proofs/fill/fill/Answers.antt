use Rattle.std.proofs.Common.{ℕ, ◌≡◌, ◌+◌, Ok, Err, length, arith, refl, ap, ◌∙◌, subst}
use Rattle.std.proofs.lemmas.Grind.{common_steps}
use Rattle.base_image.specs.Image.{Disk, Tells}
use Rattle.device_engine.proofs.Filling.{read_on, made_more, made_stops}
use Rattle.device_engine.proofs.fill.fill.Goals as goal

pub loop-at-preserved : goal.loop-at-preserved
loop-at-preserved g c =
    let step = c.in-Ok.ensures.reads in
    let so_far = c.loop-at.invariant in
    let part = c.read_at.new.buffer in
    let T : Disk → Type 0 = λ disk. Tells disk.bytes (c.args.offset + c.loop-at.at) part c.in-Ok.count in
    record {
      within = grind (arith, common_steps);
      same = step.2 ∙ so_far.same;
      read = read_on _ c.loop-at.buffer part _ c.args.offset c.loop-at.at c.in-Ok.count so_far.within step.0 so_far.read (subst T so_far.same step.1);
      reads = made_more c.args.offset (length c.loop-at.buffer) c.loop-at.at (length part) _ _ _ c.in-Ok.count _
          so_far.reads c.in-Ok.ensures.logged
          (grind (arith, common_steps)) (grind (arith, common_steps)) (grind (arith, common_steps)) step.0 (grind (arith, common_steps));
    }

pub returns-in-Ok-eq0-clause-reads : goal.returns-in-Ok-eq0-clause-reads
returns-in-Ok-eq0-clause-reads g c =
    let none : c.in-Ok-eq0.field-0 ≡ 0 = grind (arith, common_steps) in
    made_stops c.args.offset (length c.loop-at.buffer) c.loop-at.at (length c.read_at.new.buffer) _ _ _ (Ok c.in-Ok-eq0.field-0) (Ok 0) _
    c.loop-at.invariant.reads c.in-Ok-eq0.ensures.logged
    (grind (arith, common_steps)) (grind (arith, common_steps)) (ap (λ (n : ℕ). Ok n) none) (grind (arith, common_steps))

pub returns-in-Err-clause-reads : goal.returns-in-Err-clause-reads
returns-in-Err-clause-reads g c =
    made_stops c.args.offset (length c.loop-at.buffer) c.loop-at.at (length c.read_at.new.buffer) _ _ _ (Err c.in-Err.fault) (Err c.in-Err.fault) _
    c.loop-at.invariant.reads c.in-Err.ensures.logged
    (grind (arith, common_steps)) (grind (arith, common_steps)) refl (grind (arith, common_steps))
