-- The virtual times of the classes, one by one.
use Rattle.std.proofs.Common.{◌≡◌, ◌≤◌, ℕ, refl, arith}
use Rattle.sector_core.specs.declared.class.Class.{Class}
use Rattle.sector_core.specs.declared.class.Class.TheVariants.{RealTime, BestEffort, Idle}
use Rattle.plain.specs.declared.member.Vtimes.{Vtimes}
use Rattle.plain.specs.Classes.{same_times, time_of, with_time}

-- what holds of each time and of the new one holds of each after it is put
pub each_time : (P : ℕ → Type 0) (times : Vtimes) (c : Class) (v : ℕ) → ((d : Class) → P (time_of times d)) → P v → (d : Class) → P (time_of (with_time times c v) d)
each_time P times RealTime v all here RealTime = here
each_time P times RealTime v all here BestEffort = all BestEffort
each_time P times RealTime v all here Idle = all Idle
each_time P times BestEffort v all here RealTime = all RealTime
each_time P times BestEffort v all here BestEffort = here
each_time P times BestEffort v all here Idle = all Idle
each_time P times Idle v all here RealTime = all RealTime
each_time P times Idle v all here BestEffort = all BestEffort
each_time P times Idle v all here Idle = here

-- no time falls if that of a class is set to no lesser one
pub times_rise : (times : Vtimes) (c : Class) (v : ℕ) → time_of times c ≤ v → (d : Class) → time_of times d ≤ time_of (with_time times c v) d
times_rise times RealTime v le RealTime = le
times_rise times RealTime v le BestEffort = omega arith
times_rise times RealTime v le Idle = omega arith
times_rise times BestEffort v le RealTime = omega arith
times_rise times BestEffort v le BestEffort = le
times_rise times BestEffort v le Idle = omega arith
times_rise times Idle v le RealTime = omega arith
times_rise times Idle v le BestEffort = omega arith
times_rise times Idle v le Idle = le

pub time_of-with : (times : Vtimes) (c : Class) (v : ℕ) → time_of (with_time times c v) c ≡ v
time_of-with times RealTime v = refl
time_of-with times BestEffort v = refl
time_of-with times Idle v = refl

pub same_most : (v most : ℕ) → v ≤ most → (c : Class) → time_of (same_times v) c ≤ most
same_most v most le RealTime = le
same_most v most le BestEffort = le
same_most v most le Idle = le
