-- Ends that are paired, in a network of ends of streams (Inside AppleTalk, ADSP, "Opening a connection").
use Rattle.std.specs.Prelude.{◌≡◌, ℕ, true, false, List, Some, ◌⊎◌}
use Rattle.at_ddp.specs.declared.address.Address.{Address}
use Rattle.at_adsp_end.specs.Ends.{EndState, has_opened}
use Rattle.at_adsp_end.specs.declared.remote.Remote.{Remote}
use Rattle.at_adsp_ends.specs.Tables.{by_id}
use Rattle.at_adsp.specs.Network.{Setting, Made, Network, Happening, born, newest}
use Rattle.at_adsp.specs.Network.{Connects, Listens, Closes, Writes, Reads, Resets, Ticks, Strange}

-- the number of an end: its address, and its identifier there
abbrev pub number_of : Made → Remote
number_of m = record { address = m.stream.owner; id = m.stream.id }

-- the end with this number that stands, or stood last
abbrev pub IsNewest : List Made → Made → Type 0
IsNewest made m = newest made m.stream.owner m.stream.id ≡ Some m

-- Of two ends each names the address and the identifier of the other, and no end got either number since. A freed end
-- counts with what it named last.
pub record ArePaired (made : List Made) (m p : Made) : Type 0 where
  pub names : m.last.remote ≡ Some (number_of p)
  pub named : p.last.remote ≡ Some (number_of m)
  pub newest : IsNewest made m
  pub peer_newest : IsNewest made p

-- one end asked for a connection at the address of the other, which listening made
pub record Asked (c l : Made) : Type 0 where
  pub asks : c.stream.listener ≡ false
  pub listens : l.stream.listener ≡ true
  pub there : c.stream.asked ≡ l.stream.owner

-- An end was opened with another, which is its peer: each of them names the other, and one asked the other. The peer of
-- one that listening made has it as its peer too.
pub record AreConnected (m p : Made) : Type 0 where
  pub peer : m.stream.peer ≡ Some p.stream.birth
  pub opened : has_opened m.last.phase ≡ true
  pub names : m.last.remote ≡ Some (number_of p)
  pub named : p.last.remote ≡ Some (number_of m)
  pub asked : Asked m p ⊎ Asked p m
  pub back : m.stream.listener ≡ true → p.stream.peer ≡ Some m.stream.birth

-- an end that stands at an address, among all that were ever made, and the peer that it is paired with
pub record IsPaired (made : List Made) (at : Address) (e : EndState) : Type 0 where
  pub it : Made
  pub peer : Made
  pub last : it.last ≡ e
  pub number : number_of it ≡ record { address = at; id = e.id }
  pub paired : ArePaired made it peer
  pub connected : AreConnected it peer

pub record GivesPairs (setting : Setting) (n : Network) : Type 0 where
  -- an end that stands is the newest with its number
  pub standing : (at : Address) (id : ℕ) (e : EndState) → by_id (n.tables at) id ≡ Some e
      → (m : Made) × (newest n.made at id ≡ Some m) × (m.last ≡ e)
  -- an end that stands and was opened with one of our addresses is paired
  pub paired : (at : Address) (id : ℕ) (e : EndState) → by_id (n.tables at) id ≡ Some e → has_opened e.phase ≡ true
      → setting.ours e.asked ≡ true → IsPaired n.made at e
  -- an end that has a peer was opened with it, also where either is freed since
  pub peers : (birth : ℕ) (m : Made) (other : ℕ) → born n.made birth ≡ Some m → m.stream.peer ≡ Some other
      → (p : Made) × (born n.made other ≡ Some p) × AreConnected m p
  -- two ends with one peer are one
  pub sole : (birth : ℕ) (m : Made) (second : ℕ) (q : Made) (other : ℕ) → born n.made birth ≡ Some m
      → born n.made second ≡ Some q → m.stream.peer ≡ Some other → q.stream.peer ≡ Some other → birth ≡ second

-- All that is called, or fires, is at one of our addresses, and nothing comes from another network. Segments may go to
-- other addresses: there no end stands, and every request is denied.
abbrev pub HappensHere : Setting → Happening → Type 0
HappensHere setting (Connects at to) = setting.ours at ≡ true
HappensHere setting (Listens at on) = setting.ours at ≡ true
HappensHere setting (Closes at id) = setting.ours at ≡ true
HappensHere setting (Writes at id items) = setting.ours at ≡ true
HappensHere setting (Reads at id count) = setting.ours at ≡ true
HappensHere setting (Resets at id) = setting.ours at ≡ true
HappensHere setting (Ticks at id tick) = setting.ours at ≡ true
HappensHere setting (Strange at from segment) = ⊥
HappensHere setting other = Unit {0}
