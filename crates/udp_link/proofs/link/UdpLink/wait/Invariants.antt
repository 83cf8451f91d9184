use Rattle.std.proofs.Common.{◌≡◌, length}
use Rattle.udp_link.proofs.link.UdpLink.wait.Given as goal

abbrev pub invariant-loop-i : goal.invariant-loop-i
invariant-loop-i g l = record {
  same : l.self ≡ l.fn.self;
  room : length l.buf ≡ length l.fn.buf;
}
