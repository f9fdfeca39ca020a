-- A script run on a keeper.
use Rattle.std.specs.Prelude.{◌≡◌, ℕ, List, Option, None, ◌⊎◌}
use Rattle.plain.specs.Opening.{Limits}
use Rattle.plain.specs.Keeper.{State, opened}
use Rattle.base_image.specs.Image.{Disk}
use Rattle.script_line.specs.Script.{Known, IsEnd}
use Rattle.script_line.specs.declared.ending.ScriptEnd.{ScriptEnd}
use Rattle.script_line.specs.declared.ending.ScriptEnd.TheVariants.{OutOfMemory}
use Rattle.host_console.specs.Printed.{Desk, Prints}

-- The lines that were read ran on this keeper over an image and a payload, if there is one, and came to some last state of these;
-- or there was no memory for it, and then nothing was read and nothing written.
abbrev pub IsRunAt : State → Disk → Option (List ℕ) → Known → Known → Known → Known → ScriptEnd → Type 0
IsRunAt k image payload r0 r1 w0 w1 end =
    ((last : Desk) × IsEnd Prints r0 r1 w0 w1 (record { keeper = k; disk = image; payload = payload }) last end)
    ⊎ ((end ≡ OutOfMemory) × (r1 ≡ r0) × (w1 ≡ w0))

-- The same on a new keeper.
abbrev pub IsRunOver : Limits → ℕ → Disk → Option (List ℕ) → Known → Known → Known → Known → ScriptEnd → Type 0
IsRunOver limits most image payload r0 r1 w0 w1 end = IsRunAt (opened limits most) image payload r0 r1 w0 w1 end

-- The same on a new keeper, with no payload.
abbrev pub IsRun : Limits → ℕ → Disk → Known → Known → Known → Known → ScriptEnd → Type 0
IsRun limits most image r0 r1 w0 w1 end = IsRunOver limits most image None r0 r1 w0 w1 end
