-- What a device takes, and what it asks of the machine then (our profile).
use Rattle.std.specs.Prelude.{ℕ, ◌==◌, Option, None, Some, if◌then◌else◌}
use Rattle.plain.specs.Machine.{Flight, Plain}
use Rattle.plain.specs.declared.answer.Work.{Work}
use Rattle.plain.specs.declared.call.DeviceCall.{DeviceCall}
use Rattle.plain.specs.declared.call.DeviceCall.TheVariants.{Take, Finish, Requeue}
use Rattle.plain.specs.declared.step.Step.{Step}
use Rattle.plain.specs.declared.step.Step.TheVariants as step
use Rattle.plain.specs.Requests.{range_of}

-- a request in flight, as a device takes it (blk-mq: the tag; the issue is our profile)
abbrev pub work_of : ℕ → Flight → Work
work_of tag flight = record { tag = tag; issue = flight.issue; op = flight.request.op; range = range_of flight.request.bios }

-- a request in flight as work, if it was issued with this serial (our profile)
abbrev pub work_issued : ℕ → ℕ → Option Flight → Option Work
work_issued tag issue None = None
work_issued tag issue (Some flight) = if flight.issue == issue then Some (work_of tag flight) else None

-- the request in flight under a tag with this issue, or none (our profile)
abbrev pub work_in_flight : Plain → ℕ → ℕ → Option Work
work_in_flight m tag issue = work_issued tag issue (m.flight tag)

-- the step that a device's call asks for: a request has ended, or it is given back; to take work is no step (our profile)
abbrev pub device_step : DeviceCall → Option Step
device_step (Take worker) = None
device_step (Finish tag issue outcome) = Some (step.Finish tag issue outcome)
device_step (Requeue tag issue) = Some (step.Requeue tag issue)
