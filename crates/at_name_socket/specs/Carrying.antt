-- Identifiers that are not to be reused while a packet has them (Inside AppleTalk, NBP, "Name lookup").
use Rattle.std.specs.Prelude.{◌≡◌, ℕ, List, [], ◌∷◌}
use Rattle.at_ddp.specs.declared.address.Address.{Address}
use Rattle.at_nbp.specs.Packets.{BeginsWith, Content}
use Rattle.at_nbp.specs.Tuples.{Entry}
use Rattle.at_nbp.specs.declared.function.Function.{Function}
use Rattle.at_nbp.specs.declared.function.Function.TheVariants.{Reply}

-- the node that drew the identifier of a packet to this address: a reply goes to it, and any other packet names it in
-- its tuple
abbrev pub owner_by : Address → Function → List Entry → ℕ
owner_by to Reply tuples = to.node
owner_by to _ (t ∷ ts) = t.address.node
owner_by to _ [] = to.node

-- the bytes begin with a packet that carries this identifier of the node
pub record Carries (to : Address) (bytes : List ℕ) (node id : ℕ) : Type 0 where
  pub packet : Content
  pub rest : List ℕ
  pub begins : BeginsWith bytes packet rest
  pub owner : owner_by to packet.function packet.tuples ≡ node
  pub is : packet.id ≡ id
