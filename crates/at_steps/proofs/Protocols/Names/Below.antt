-- What the layers below promise of a node's steps in words of names and lookups.
use Rattle.std.proofs.Common.{◌≡◌, ℕ, ◌<◌, ◌≤◌, Bool, List, [], ◌∷◌, ◌++◌, length, Some, None}
use Rattle.std.specs.Prelude.{IfSome}
use Rattle.std.specs.List.{AllByRecursion}
use Rattle.at_ddp.specs.Datagram.{Content as Datagram, AreBytes, BeginsWith as DatagramBegins, IsAddress, canonical}
use Rattle.at_ddp.specs.Datagram.{written}
use Rattle.at_ddp.specs.Tables.{without_first}
use Rattle.at_ddp.specs.declared.address.Address.{Address}
use Rattle.at_nbp.specs.Askers.{IsAskedBy, IsSentFor}
use Rattle.at_nbp.specs.Lawfully.{IsInRange, IsLawfulSetting, IsLawfullySent, IsName}
use Rattle.at_nbp.specs.Lookups.{Search, begun, beginning, next_id, search_of, sent_question}
use Rattle.at_nbp.specs.NameTables.{IsRegistered, Table, is_called, register_fault, registered}
use Rattle.at_nbp.specs.Network.{AllAsk, AllTimely, FindsStood, Happening, Network, Setting, after}
use Rattle.at_nbp.specs.Packets.{BeginsWith, Content, IsLawful, spelling}
use Rattle.at_nbp.specs.Tuples.{IsString}
use Rattle.at_nbp.specs.declared.name.Name.{Name}
use Rattle.at_name_socket.specs.NameSockets.{SocketState, any_pattern, claim_begun, finish, finish_fault}
use Rattle.at_name_socket.specs.Sockets.{Closes, Opens, Stays}
use Rattle.at_name_socket.specs.Steps.{Comes, Happens, StandsLawfully}
use Rattle.at_name_socket.specs.declared.step.Heard.{Heard}

-- the finds of every lookup stood, and its table of lookups is lawful
abbrev pub AllStood : Type 0
AllStood = (setting : Setting) (history : List Happening) → AllAsk setting → AllTimely setting history
    → FindsStood setting history

-- an event that changes nothing here is a happening too
abbrev pub NothingHappens : Type 0
NothingHappens = (n : Network) (at : Address) (s : SocketState) → StandsLawfully n at s → Happens n at s s Stays []

-- of calls
pub record CallLaws (A : Type 0) : Type 0 where
  pub stood : AllStood
  pub nothing : NothingHappens
  pub least : (object kind : List ℕ) (socket : ℕ) (old : Table)
      → IsRegistered object kind socket old (registered old object kind socket)
  pub looks : (n : Network) (at : Address) (s : SocketState) (id : ℕ) (pattern : Name) → StandsLawfully n at s
      → IsName pattern → next_id s.lookups ≡ Some id
      → Happens n at s (record s { lookups = begun s.lookups (beginning id pattern) }) (Opens id pattern None)
      (sent_question s.lookups (beginning id pattern) ∷ [])
  pub claims : (n : Network) (at : Address) (s : SocketState) (id : ℕ) (object kind : List ℕ) (socket : ℕ)
      → StandsLawfully n at s → IsString object → IsString kind → socket < 256 → next_id s.lookups ≡ Some id
      → Happens n at s (claim_begun s id object kind socket)
      (Opens id (any_pattern object kind)
      (Some (record { id = id; object = object; kind = kind; socket = socket })))
      (sent_question s.lookups (beginning id (any_pattern object kind)) ∷ [])
  pub registers : (n : Network) (at : Address) (s : SocketState) (object kind : List ℕ) (socket : ℕ)
      → StandsLawfully n at s → IsString object → IsString kind → socket < 256
      → register_fault s.table.names object kind ≡ None
      → Happens n at s (record s { table = registered s.table object kind socket }) Stays []
  pub unregisters : (n : Network) (at : Address) (s : SocketState) (object kind : List ℕ) → StandsLawfully n at s
      → Happens n at s (record
      s { table = record s.table { names = without_first (is_called object kind) s.table.names } }) Stays []
  pub finishes : (n : Network) (at : Address) (s : SocketState) (id : ℕ) → StandsLawfully n at s → finish_fault s id
      ≡ None → Happens n at s (finish {A = A} s id).state (Closes id) []

-- of timers
pub record TimerLaws : Type 0 where
  pub stood : AllStood
  pub nothing : NothingHappens
  pub retries : (n : Network) (at : Address) (s : SocketState) (id : ℕ) (search : Search) → StandsLawfully n at s
      → search_of s.lookups id ≡ Some search → Happens n at s s Stays (sent_question s.lookups search ∷ [])

-- what is written in a datagram is read, and nothing else
pub record ReadingLaws : Type 0 where
  pub reads : (to from : Address) (kind : ℕ) (bytes rest : List ℕ) → IsAddress to → IsAddress from → kind < 256
      → AreBytes bytes → length bytes ≤ 586
      → DatagramBegins (canonical to from kind bytes ++ rest) (written to from kind bytes) rest
  pub alone : (input : List ℕ) (d e : Datagram) (x y : List ℕ) → DatagramBegins input d x → DatagramBegins input e y
      → (d ≡ e) × (x ≡ y)
  pub bytes : (p : Content) → IsLawful p → AreBytes (spelling p)
  pub begins : (p : Content) (rest : List ℕ) → IsLawful p → BeginsWith (spelling p ++ rest) p rest

-- of datagrams that come
pub record HearingLaws : Type 0 where
  pub stood : AllStood
  pub nothing : NothingHappens
  pub reading : ReadingLaws
  pub packet : (input : List ℕ) (p q : Content) (rest other : List ℕ) → BeginsWith input p rest
      → BeginsWith input q other → (p ≡ q) × (rest ≡ other)
  pub lawful : (setting : Setting) (history : List Happening) → IsLawfulSetting setting → AllTimely setting history
      → AllByRecursion IsInRange history → AllByRecursion (λ o. IfSome o IsLawfullySent) (after setting history).sent
  pub asked : (these : Address → Bool) (setting : Setting) (history : List Happening) → AllAsk setting
      → AllTimely setting history → AllByRecursion (IsAskedBy these) history
      → AllByRecursion (λ o. IfSome o (IsSentFor these)) (after setting history).sent
  pub comes : (n : Network) (at : Address) (s : SocketState) (which : ℕ) (h : Heard) (new : SocketState)
      (pushes : List (Address × List ℕ)) → StandsLawfully n at s → Comes n at s which h new pushes
      → Happens n at s new Stays pushes
