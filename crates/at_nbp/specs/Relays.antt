-- What a router makes of a request to look a name up (Inside AppleTalk, NBP, "NBP on an internet").
use Rattle.std.specs.Prelude.{Bool, false, true, List, ℕ, map, if◌then◌else◌}
use Rattle.at_nbp.specs.Names.{is_any_zone}
use Rattle.at_nbp.specs.Packets.{Content}
use Rattle.at_nbp.specs.Tuples.{Entry}
use Rattle.at_nbp.specs.declared.function.Function.{Function}
use Rattle.at_nbp.specs.declared.function.Function.TheVariants.{BroadcastRequest, LookUp, ForwardRequest}

-- a router relays what asks it
abbrev pub asks_router : Function → Bool
asks_router BroadcastRequest = true
asks_router ForwardRequest = true
asks_router _ = false

-- the zone of the one who asks stands for `*` and for an empty zone
abbrev pub in_zone : List ℕ → Entry → Entry
in_zone zone t = record t { zone = if is_any_zone t.zone then zone else t.zone }

-- the same question to every node
abbrev pub relayed : List ℕ → Content → Content
relayed zone p = record { function = LookUp; id = p.id; tuples = map (in_zone zone) p.tuples }
