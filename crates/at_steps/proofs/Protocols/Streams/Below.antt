-- What the layers below promise of a node's steps in words of streams.
use Rattle.std.proofs.Common.{◌≡◌, ℕ, ◌<◌, ◌≤◌, List, ◌∷◌, ◌++◌, length, Some}
use Rattle.std.specs.List.{AllByRecursion}
use Rattle.at_ddp.specs.Datagram.{Content as Datagram, AreBytes, BeginsWith, IsAddress, canonical, written}
use Rattle.at_ddp.specs.declared.address.Address.{Address}
use Rattle.at_adsp_frame.specs.Segments.{Content, IsLawful, Spells, spelled}
use Rattle.at_adsp_end.specs.declared.change.EndChange.TheVariants as step
use Rattle.at_adsp_ends.specs.Receiving.{received}
use Rattle.at_adsp.specs.Connections.{ChangesStreams, streams}
use Rattle.at_adsp.specs.Meetings.{OpensWith}
use Rattle.at_adsp.specs.Lawfully.{IsInRange, IsLawfulSetting, IsLawfullySent}
use Rattle.at_ddp.specs.Posts.{AllSent, packet_at}
use Rattle.at_adsp.specs.Network.{AllTimely, Happening, Sent, Setting, Takes, after, done}
use Rattle.at_adsp.specs.Pairs.{GivesPairs, HappensHere}

-- each happening leaves the streams, or changes one
abbrev pub AllChange : Type 0
AllChange = (setting : Setting) (history : List Happening) (h : Happening) → AllTimely setting history
    → ChangesStreams setting (after setting history) h

-- an end that stands is the newest with its number
abbrev pub AllPaired : Type 0
AllPaired = (setting : Setting) (history : List Happening) → AllTimely setting history
    → GivesPairs setting (after setting history)

-- an end that a segment opens has a peer
abbrev pub AllOpen : Type 0
AllOpen = (setting : Setting) (history : List Happening) (which id : ℕ) (s : Sent)
    → AllTimely setting (Takes which ∷ history) → AllByRecursion (HappensHere setting) history
    → packet_at (after setting history).sent which ≡ Some s →
    (received setting.numbers ((after setting history).tables s.to) s.from s.packet).answer ≡ step.Opened id
    → OpensWith (streams (after setting history)) (streams (done setting (after setting history) (Takes which)))
    s.to id

-- what is written in a datagram is read, and nothing else
pub record ReadingLaws : Type 0 where
  pub reads : (to from : Address) (kind : ℕ) (bytes rest : List ℕ) → IsAddress to → IsAddress from → kind < 256
      → AreBytes bytes → length bytes ≤ 586
      → BeginsWith (canonical to from kind bytes ++ rest) (written to from kind bytes) rest
  pub alone : (input : List ℕ) (d e : Datagram) (x y : List ℕ) → BeginsWith input d x → BeginsWith input e y → (d ≡ e)
      × (x ≡ y)
  pub spells : (s : Content) → IsLawful s → Spells (spelled s) s
  pub fits : (s : Content) → IsLawful s → AreBytes (spelled s) × (length (spelled s) ≤ 586)

-- of datagrams that come
pub record HearingLaws : Type 0 where
  pub changes : AllChange
  pub paired : AllPaired
  pub opens : AllOpen
  pub reading : ReadingLaws
  pub segment : (input : List ℕ) (s t : Content) → Spells input s → Spells input t → s ≡ t
  pub lawful : (setting : Setting) (history : List Happening) → IsLawfulSetting setting
      → AllByRecursion IsInRange history → AllSent IsLawfullySent (after setting history).sent
