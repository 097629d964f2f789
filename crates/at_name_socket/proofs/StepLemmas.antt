-- Each step of the socket as a happening of the network.
use Rattle.std.proofs.Common.{◌≡◌, ℕ, zero, suc, ◌+◌, ◌<◌, ◌≤◌, Bool, true, false, cond, length, List, [], ◌∷◌, find}
use Rattle.std.proofs.Common.{Option, Some, None, refl, sym, ap, subst, ◌∙◌, arith}
use Rattle.std.specs.Prelude.{All, ◌||◌, is_some, nat_le}
use Rattle.std.specs.List.{AllByRecursion, IsDistinct, list_any}
use Rattle.std.proofs.lemmas.Bool.Decides.{nat_tests}
use Rattle.at_ddp.specs.declared.address.Address.{Address}
use Rattle.at_name_socket.specs.NameSockets.{SocketState, any_pattern, claim_begun, opening, own_zone}
use Rattle.at_name_socket.specs.Sockets.{IsClaim, IsSocket, Opens, Stays, changed, open_at}
use Rattle.at_name_socket.specs.Steps.{Becomes, Happens, StandsLawfully, spelled}
use Rattle.at_name_socket.specs.declared.claim.Claim.{Claim}
use Rattle.at_name_socket.specs.declared.neighbour.Neighbour.{Neighbour}
use Rattle.at_nbp.specs.Lawfully.{IsName}
use Rattle.at_nbp.specs.Lookups as lookups
use Rattle.at_nbp.specs.Lookups.{Lookups, Search, beginning, next_id, question, search_of, sent_question}
use Rattle.at_nbp.specs.NameTables.{Table, has_number, is_called, is_no_text, number_from, register_fault}
use Rattle.at_ddp.proofs.PostLemmas.{put_here, put_there}
use Rattle.at_nbp.specs.Network.{Begins, Network, Other, Retries, begins, done, retries}
use Rattle.at_nbp.specs.Packets.{Content}
use Rattle.at_nbp.specs.Tuples.{IsString}
use Rattle.at_nbp.specs.declared.fault.NbpFault.TheVariants.{EmptyName, NameInUse, NamesFull}
use Rattle.at_nbp.specs.declared.name.Name.{Name}
use Rattle.at_nbp.specs.declared.names.Registered.{Registered}
use Rattle.at_name_socket.proofs.OpenLemmas.{claim_lawful, claim_opens, found_lawful, found_opens, stands_begun}

-- ---- what is in range

pub star_fits : IsString (0x2A ∷ [])
star_fits = record { fits = omega arith; bytes = all_one }
  where
    all_one : All (λ b. b < 256) (0x2A ∷ [])
    all_one zero d lt = omega arith
    all_one (suc k) d lt = absurd (omega (arith, lt))

-- the number of a new name is at most that of the names
pub number_few : (tries number : ℕ) (names : List Registered) (socket : ℕ)
    → number_from tries number names socket ≤ number + tries
number_few zero number names socket = omega arith
number_few (suc tries) number names socket =
    go (number_few tries (number + 1) names socket) (list_any (has_number socket number) names)
  where
    go : number_from tries (number + 1) names socket ≤ (number + 1) + tries → (b : Bool)
        → cond b (number_from tries (number + 1) names socket) number ≤ number + suc tries
    go ih true = omega (arith, ih)
    go ih false = omega arith

-- a table that takes one name more has fewer than 64
pub few_names : (names : List Registered) (object kind : List ℕ) → register_fault names object kind ≡ None
    → length names < 64
few_names names object kind h =
    go (is_no_text object || is_no_text kind) (is_some (find (is_called object kind) names))
    (nat_le 64 (length names)) refl h
  where
    go : (a b c : Bool) → nat_le 64 (length names) ≡ c
        → cond a (Some EmptyName) (cond b (Some NameInUse) (cond c (Some NamesFull) None)) ≡ None → length names < 64
    go true b c e g = absurd cc
    go false true c e g = absurd cc
    go false false true e g = absurd cc
    go false false false e g = grind (arith, nat_tests, e)

-- ---- a new socket

pub new_lawful : (net node : ℕ) (router : Option ℕ) (zone : Option (List ℕ)) (neighbours : Option (List Neighbour))
    → IsString (own_zone zone) →
    ((ns : List Neighbour) → neighbours ≡ Some ns → AllByRecursion (λ (n : Neighbour). IsString n.zone) ns)
    → IsSocket (opening net node router zone neighbours)
unfolding IsDistinct
new_lawful net node router its_zone neighbours fits known =
    record { differ = tt; claims = tt; zone = fits; neighbours = known }

-- ---- nothing happens

pub passes : (n : Network) (at : Address) (s : SocketState) → StandsLawfully n at s → Happens n at s s Stays []
passes n at s st = record {
  happening = Other 0;
  is =
      record {
        becomes = record {
          stands = record { table = (st.stands).table; lookups = (st.stands).lookups };
          others = λ a apart. (refl, refl);
          same_event = refl;
          begun = refl;
          packets = [];
          sent = refl;
          are = refl;
          opened = λ id. refl;
          socket = st.socket;
          own = refl;
        };
        timely = tt;
        answered = tt;
        in_range = tt;
        asks = λ these is. tt;
      };
}

-- ---- lookups

-- a lookup begins, which may be a claim
begins_open : (n : Network) (at : Address) (s new : SocketState) (id : ℕ) (pattern : Name) (claim : Option Claim)
    → StandsLawfully n at s → IsName pattern → next_id s.lookups ≡ Some id →
    new.table ≡ s.table → new.lookups ≡ lookups.begun s.lookups (beginning id pattern)
    → ((other : ℕ) → open_at new other ≡ changed (Opens id pattern claim) (open_at s) other) → IsSocket new →
    Happens n at s new (Opens id pattern claim) (sent_question s.lookups (beginning id pattern) ∷ [])
begins_open n at s new id pattern claim st name drawn table now opened lawful =
    let here = st.stands in
    let to : done n (Begins at pattern)
    ≡ begins n at pattern (Some id) = ap (begins n at pattern) (ap next_id here.lookups ∙ drawn) in
    let packet : Lookups → Address × Content = λ l. (l.to, question l (beginning id pattern)) in
    let pushes = sent_question s.lookups (beginning id pattern) ∷ [] in
    let becomes : Becomes n (begins n at pattern (Some id)) at s new (Opens id pattern claim) pushes = record {
      stands = record {
        table = here.table ∙ sym table;
        lookups = put_here n.lookups at (lookups.begun (n.lookups at) (beginning id pattern))
            ∙ ap (λ (l : Lookups). lookups.begun l (beginning id pattern)) here.lookups ∙ sym now;
      };
      others = λ a apart. (refl, put_there n.lookups at a (lookups.begun (n.lookups at) (beginning id pattern)) apart);
      same_event = refl;
      begun = refl;
      packets = packet (n.lookups at) ∷ [];
      sent = refl;
      are = ap (λ (l : Lookups). spelled (packet l) ∷ []) (sym here.lookups);
      opened = opened;
      socket = lawful;
      own = ap (λ (t : Table). t.own) table;
    } in
    record {
      happening = Begins at pattern;
      is =
          record {
            becomes = subst (λ (m : Network). Becomes n m at s new (Opens id pattern claim) pushes) (sym to) becomes;
            timely = tt;
            answered = tt;
            in_range = (st.fits, name);
            asks = λ these is. is;
          };
    }

module _ (drawn : (l : Lookups) (id : ℕ) → next_id l ≡ Some id → search_of l id ≡ None) where
  pub find_happens : (n : Network) (at : Address) (s : SocketState) (id : ℕ) (pattern : Name) → StandsLawfully n at s
      → IsName pattern → next_id s.lookups ≡ Some id →
      Happens n at s (record s { lookups = lookups.begun s.lookups (beginning id pattern) }) (Opens id pattern None)
      (sent_question s.lookups (beginning id pattern) ∷ [])
  find_happens n at s id pattern st name next =
      let none = drawn s.lookups id next in
      begins_open n at s (record s { lookups = lookups.begun s.lookups (beginning id pattern) }) id pattern None st
      name next refl refl (found_opens s id pattern st.socket none) (found_lawful s id pattern st.socket none)

  -- a claim is noted beside its lookup
  pub claim_happens : (n : Network) (at : Address) (s : SocketState) (id : ℕ) (object kind : List ℕ) (socket : ℕ)
      → StandsLawfully n at s → IsString object → IsString kind → socket < 256 → next_id s.lookups ≡ Some id →
      Happens n at s (claim_begun s id object kind socket)
      (Opens id (any_pattern object kind)
      (Some (record { id = id; object = object; kind = kind; socket = socket })))
      (sent_question s.lookups (beginning id (any_pattern object kind)) ∷ [])
  claim_happens n at s id object kind socket st first second small next =
      let none = drawn s.lookups id next in
      let claim : Claim = record { id = id; object = object; kind = kind; socket = socket } in
      let new : IsClaim (claim_begun s id object kind socket) claim =
      record {
        object = first;
        kind = second;
        socket = small;
        stands = stands_begun s.lookups id (any_pattern object kind) none;
      } in
      begins_open n at s (claim_begun s id object kind socket) id (any_pattern object kind) (Some claim) st
      (record { object = first; kind = second; zone = star_fits }) next refl refl
      (claim_opens s id object kind socket st.socket none) (claim_lawful s id object kind socket st.socket none new)

pub retry_happens : (n : Network) (at : Address) (s : SocketState) (id : ℕ) (looked : Search) → StandsLawfully n at s
    → search_of s.lookups id ≡ Some looked →
    Happens n at s s Stays (sent_question s.lookups looked ∷ [])
retry_happens n at s id looked st there =
    let here = st.stands in
    let to : done n (Retries at id)
    ≡ retries n at (Some looked) = ap (retries n at) (ap (λ (l : Lookups). search_of l id) here.lookups ∙ there) in
    let packet : Lookups → Address × Content = λ l. (l.to, question l looked) in
    let pushes = sent_question s.lookups looked ∷ [] in
    let becomes : Becomes n (retries n at (Some looked)) at s s Stays pushes = record {
      stands = record { table = here.table; lookups = here.lookups };
      others = λ a apart. (refl, refl);
      same_event = refl;
      begun = refl;
      packets = packet (n.lookups at) ∷ [];
      sent = refl;
      are = ap (λ (l : Lookups). spelled (packet l) ∷ []) (sym here.lookups);
      opened = λ other. refl;
      socket = st.socket;
      own = refl;
    } in
    record {
      happening = Retries at id;
      is = record {
        becomes = subst (λ (m : Network). Becomes n m at s s Stays pushes) (sym to) becomes;
        timely = tt;
        answered = tt;
        in_range = st.fits;
        asks = λ these is. is;
      };
    }
