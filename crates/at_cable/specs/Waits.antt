-- What waits on a cable in memory, as a datagram with its node.
use Rattle.at_ddp.specs.Outbox.{Posted}
use Rattle.at_cable.specs.declared.waiting.Waiting.{Waiting}

abbrev pub posted : {A : Type 0} → Waiting A → Posted
posted w = record { node = w.node; bytes = w.bytes }
