use Rattle.std.proofs.Common.{◌-◌, length}
use Rattle.at_zone_socket.specs.AtpTimers.{records_at}
use Rattle.at_node.proofs.timers.+list_releases.Given as goal

abbrev pub decreases-list_releases : goal.decreases-list_releases
decreases-list_releases g l = length (records_at l.part.now l.own) - l.place
