use Rattle.std.proofs.Common.{◌≡◌, ◌-◌, ◌≤◌, length}
use Rattle.device_engine.specs.Fill.{Made}
use Rattle.device_engine.proofs.Filling.{IsRead, GoesUpto}
use Rattle.device_engine.proofs.fill.fill.Given as goal

abbrev pub invariant-loop-at : goal.invariant-loop-at
invariant-loop-at g l = record {
  within : l.at ≤ length l.buffer;
  same : g.I.Image.disk l.image ≡ g.I.Image.disk l.initial.image;
  read : IsRead (g.I.Image.disk l.initial.image).bytes l.offset l.buffer l.at;
  reads : Made (GoesUpto l.offset (length l.buffer) l.at) (g.I.Image.log l.initial.image) (g.I.Image.log l.image);
}

abbrev pub decreases-loop-at : goal.decreases-loop-at
decreases-loop-at g l = length l.initial.buffer - l.at
