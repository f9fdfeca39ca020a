use Rattle.std.proofs.Common.{List, ℕ, Some, [], ap, subst}
use Rattle.plain.specs.Step.{of_sizes}
use Rattle.dispatch_core.specs.Running.{sizes_of}
use Rattle.base_image.specs.Image.{Disk}
use Rattle.base_image.specs.Kinds.{Read}
use Rattle.script_host.specs.Run.{IsRun}
use Rattle.bfq_page.proofs.run_within.Goals as goal

pub returns : goal.returns
returns c =
    let left = Some c.run_script-end.new.reader.now in
    let text = Some c.run_script-end.new.writer.items in
    let ran = subst (λ (t : List ℕ). IsRun (of_sizes (sizes_of c.args.config c.new.result.disk.sectors)) c.args.config.history_max c.new.result.disk
    (Some c.args.script.now) left (Some t) text c.run_script-end.result) c.requires.empty c.run_script-end.ensures in (
      left,
      c.run_script-end.result,
      subst (λ (d : Disk). IsRun (of_sizes (sizes_of c.args.config d.sectors)) c.args.config.history_max d
          (Some c.args.script.now) left (Some []) text c.run_script-end.result) (ap (λ (i : Read). i.disk) c.new.ensures) ran,
      c.status_of.ensures,
    )
