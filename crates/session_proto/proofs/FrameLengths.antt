-- The length of a frame.
use Rattle.std.proofs.Common.{◌≡◌, ◌+◌, ◌≤◌, List, ℕ, length, ap, arith}
use Rattle.std.proofs.lemmas.List.{length-append}
use Rattle.std.specs.Int.{w32, to_be_bytes}
use Rattle.session_proto.specs.Frame.{framed, IsFrame}
use Rattle.session_proto.specs.Host.{host_body, HostFits}
use Rattle.session_proto.specs.HostLaws.{host_in_limits}
use Rattle.session_proto.specs.declared.host.Host.{Host}

length-framed : (body : List ℕ) → length (framed body) ≡ 4 + length body
unfolding framed
length-framed body = omega (arith, length-append (to_be_bytes w32 (length body)) body)

-- the frame of what the host sends has at most 32,791 bytes
pub few_bytes : (v : Host) (bytes : List ℕ) → IsFrame (λ (r : Host). host_body r.0) (λ (r : Host). HostFits r.0) v bytes → length bytes ≤ 32791
few_bytes v bytes is = omega (arith, ap length is.1, length-framed (host_body v.0), (host_in_limits v is.0).1)
