use Rattle.run_replay.proofs.Room.{more_room}
use Rattle.run_replay.proofs.laws.more_room.Goals as goal

pub returns : goal.returns
returns c = more_room
