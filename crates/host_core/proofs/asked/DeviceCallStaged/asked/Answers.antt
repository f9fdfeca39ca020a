use Rattle.host_core.proofs.asked.DeviceCallStaged.asked.Goals as goal

pub returns : goal.returns
returns c = c.asked_by_device.ensures c.args._seat
