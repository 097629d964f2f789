-- Who asks in a network of names and lookups, and for whom the packets are that it sends (Inside AppleTalk, NBP, "Name
-- lookup").
use Rattle.std.specs.Prelude.{◌≡◌, Bool, true, List}
use Rattle.std.specs.List.{AllByRecursion}
use Rattle.at_ddp.specs.declared.address.Address.{Address}
use Rattle.at_nbp.specs.Network.{Happening, Begins, Retries, Sent}
use Rattle.at_nbp.specs.Tuples.{Entry}
use Rattle.at_nbp.specs.declared.function.Function.{Function}
use Rattle.at_nbp.specs.declared.function.Function.TheVariants.{Reply}

-- if a lookup is asked, then at one of these addresses
abbrev pub IsAskedBy : (Address → Bool) → Happening → Type 0
IsAskedBy these (Begins who pattern) = these who ≡ true
IsAskedBy these (Retries who id) = these who ≡ true
IsAskedBy these other = Unit {0}

-- a reply goes to one of these addresses, and the tuples of any other packet have addresses of these
abbrev pub AsksFor : (Address → Bool) → Address → Function → List Entry → Type 0
AsksFor these to Reply tuples = these to ≡ true
AsksFor these to _ tuples = AllByRecursion (λ t. these t.address ≡ true) tuples

-- a packet that was sent is for one of these
abbrev pub IsSentFor : (Address → Bool) → Sent → Type 0
IsSentFor these s = AsksFor these s.to s.packet.function s.packet.tuples
