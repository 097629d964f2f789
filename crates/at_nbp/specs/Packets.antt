-- NBP packets and their spelling (Inside AppleTalk, NBP, "NBP packet formats").
use Rattle.std.specs.Prelude.{◌≡◌, ℕ, ◌+◌, ◌*◌, ◌<◌, ◌≤◌, List, ◌∷◌, ◌++◌, length, All}
use Rattle.std.specs.List.{flat_map}
use Rattle.at_nbp.specs.Tuples.{Entry, IsTuple, tuple_spelling}
use Rattle.at_nbp.specs.declared.function.Function.{Function}
use Rattle.at_nbp.specs.declared.function.Function.TheVariants.{BroadcastRequest, LookUp, Reply, ForwardRequest}
use Rattle.at_nbp.specs.declared.packet.Packet.{Packet}

-- the fields of a packet, wherever its tuples lie in memory
pub record Content : Type 0 where
  pub function : Function
  pub id : ℕ
  pub tuples : List Entry

abbrev pub packet_content : Packet → Content
packet_content p = record { function = p.function; id = p.id; tuples = p.tuples }

-- the number of a function: BrRq, LkUp, LkUp-Reply and FwdReq
abbrev pub code : Function → ℕ
code BroadcastRequest = 1
code LookUp = 2
code Reply = 3
code ForwardRequest = 4

-- a reply has at most 15 tuples, and any other packet exactly one
abbrev pub HasCount : Function → ℕ → Type 0
HasCount Reply count = count ≤ 15
HasCount _ count = count ≡ 1

-- a packet whose fields are in range
pub record IsLawful (p : Content) : Type 0 where
  pub id : p.id < 256
  pub count : HasCount p.function (length p.tuples)
  pub each : All IsTuple p.tuples

-- function and number of tuples in one byte, the identifier, and the tuples one behind the other
unfoldable pub spelling : Content → List ℕ
spelling p = (16 * code p.function + length p.tuples) ∷ p.id ∷ flat_map tuple_spelling p.tuples

-- the input is the spelling of p, and then rest
pub record BeginsWith (input : List ℕ) (p : Content) (rest : List ℕ) : Type 0 where
  pub lawful : IsLawful p
  pub follows : input ≡ spelling p ++ rest
