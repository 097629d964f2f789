-- Names that come and go, and lookups that end, as happenings of the network.
use Rattle.std.proofs.Common.{◌≡◌, ℕ, ◌<◌, length, List, [], find, Option, Some, None, refl, sym, ap, ◌∙◌, append-nil}
use Rattle.std.proofs.Common.{arith}
use Rattle.at_ddp.specs.Tables.{without_first}
use Rattle.at_ddp.specs.declared.address.Address.{Address}
use Rattle.at_ddp.proofs.Alls.{all_found}
use Rattle.at_ddp.proofs.PostLemmas.{put_here, put_there}
use Rattle.at_name_socket.proofs.ClosedLemmas.{closes_lawful, closes_open, named_lawful}
use Rattle.at_name_socket.specs.NameSockets.{SocketState, claim_ended, claim_fault, closing, ended, ending, fault_of}
use Rattle.at_name_socket.specs.NameSockets.{finish, finish_fault, is_claim, taker}
use Rattle.at_name_socket.specs.Sockets.{Closes, IsClaim, Stays}
use Rattle.at_name_socket.specs.Steps.{Happens, StandsLawfully}
use Rattle.at_name_socket.specs.declared.claim.Claim.{Claim}
use Rattle.at_nbp.specs.Lawfully.{IsNamed}
use Rattle.at_nbp.specs.Lookups.{Lookups, Search, closed, search_of}
use Rattle.at_nbp.specs.NameTables.{Table, is_called, number_from, register_fault, registered}
use Rattle.at_nbp.specs.Network.{Claims, Finishes, Network, Registers, Unregisters}
use Rattle.at_nbp.specs.Tuples.{IsString}
use Rattle.at_nbp.specs.declared.find.Find.{Find}
use Rattle.at_nbp.specs.declared.names.Registered.{Registered}
use Rattle.at_name_socket.proofs.StepLemmas.{few_names, number_few}

-- ---- names and the end of lookups

-- the name that joins a table
abbrev joining : List ℕ → List ℕ → ℕ → Table → Registered
joining object kind socket t =
    record { object = object; kind = kind; socket = socket; enumerator = number_from (length t.names) 0 t.names socket }

joins_fit : (t u : Table) (object kind : List ℕ) (socket : ℕ) → t ≡ u → IsString object → IsString kind → socket < 256
    → register_fault u.names object kind ≡ None → IsNamed (joining object kind socket t)
joins_fit t u object kind socket same first second small allowed =
    let few = few_names t.names object kind (ap (λ (x : Table). register_fault x.names object kind) same ∙ allowed) in
    let number = number_few (length t.names) 0 t.names socket in
    record { object = first; kind = second; socket = small; enumerator = omega (arith, few, number) }

pub register_happens : (n : Network) (at : Address) (s : SocketState) (object kind : List ℕ) (socket : ℕ)
    → StandsLawfully n at s → IsString object → IsString kind → socket < 256 →
    register_fault s.table.names object kind ≡ None
    → Happens n at s (record s { table = registered s.table object kind socket }) Stays []
register_happens n at s object kind socket st first second small allowed =
    let here = st.stands in
    let joined : Table → Table = λ t. registered t object kind socket in
    record {
      happening = Registers at (joining object kind socket (n.tables at));
      is =
          record {
            becomes =
                record {
                  stands = record {
                    table = put_here n.tables at (joined (n.tables at)) ∙ ap joined here.table;
                    lookups = here.lookups;
                  };
                  others = λ a apart. (put_there n.tables at a (joined (n.tables at)) apart, refl);
                  same_event = refl;
                  begun = refl;
                  packets = [];
                  sent = sym (append-nil n.sent);
                  are = refl;
                  opened = λ id. refl;
                  socket = named_lawful s (joined s.table) st.socket refl;
                  own = refl;
                };
            timely = tt;
            answered = tt;
            in_range = joins_fit (n.tables at) s.table object kind socket here.table first second small allowed;
            asks = λ these is. tt;
          };
    }

pub unregister_happens : (n : Network) (at : Address) (s : SocketState) (object kind : List ℕ) → StandsLawfully n at s →
    Happens n at s (record s {
      table = record s.table { names = without_first (is_called object kind) s.table.names };
    }) Stays []
unregister_happens n at s object kind st =
    let here = st.stands in
    let left : Table → Table = λ t. record t { names = without_first (is_called object kind) t.names } in
    record {
      happening = Unregisters at object kind;
      is =
          record {
            becomes =
                record {
                  stands = record {
                    table = put_here n.tables at (left (n.tables at)) ∙ ap left here.table;
                    lookups = here.lookups;
                  };
                  others = λ a apart. (put_there n.tables at a (left (n.tables at)) apart, refl);
                  same_event = refl;
                  begun = refl;
                  packets = [];
                  sent = sym (append-nil n.sent);
                  are = refl;
                  opened = λ id. refl;
                  socket = named_lawful s (left s.table) st.socket refl;
                  own = refl;
                };
            timely = tt;
            answered = tt;
            in_range = tt;
            asks = λ these is. tt;
          };
    }

-- ---- the end of a lookup

closes : (n : Network) (at : Address) (s : SocketState) (id : ℕ) → StandsLawfully n at s
    → Happens n at s (closing s id) (Closes id) []
closes n at s id st =
    let here = st.stands in
    record {
      happening = Finishes at id;
      is =
          record {
            becomes =
                record {
                  stands = record {
                    table = here.table;
                    lookups = put_here n.lookups at (closed (n.lookups at) id)
                        ∙ ap (λ (l : Lookups). closed l id) here.lookups;
                  };
                  others = λ a apart. (refl, put_there n.lookups at a (closed (n.lookups at) id) apart);
                  same_event = refl;
                  begun = refl;
                  packets = [];
                  sent = sym (append-nil n.sent);
                  are = refl;
                  opened = closes_open s id st.socket st.lookups;
                  socket = closes_lawful s id st.socket;
                  own = refl;
                };
            timely = tt;
            answered = tt;
            in_range = tt;
            asks = λ these is. tt;
          };
    }

claims : (n : Network) (at : Address) (s : SocketState) (id : ℕ) (object kind : List ℕ) (socket : ℕ)
    → StandsLawfully n at s → IsString object → IsString kind → socket < 256 →
    register_fault s.table.names object kind ≡ None
    → Happens n at s (record (closing s id) { table = registered s.table object kind socket }) (Closes id) []
claims n at s id object kind socket st first second small allowed =
    let here = st.stands in
    let joined : Table → Table = λ t. registered t object kind socket in
    record {
      happening = Claims at id (joining object kind socket (n.tables at));
      is =
          record {
            becomes =
                record {
                  stands =
                      record {
                        table = put_here n.tables at (joined (n.tables at)) ∙ ap joined here.table;
                        lookups = put_here n.lookups at (closed (n.lookups at) id)
                            ∙ ap (λ (l : Lookups). closed l id) here.lookups;
                      };
                  others = λ a apart. (
                    put_there n.tables at a (joined (n.tables at)) apart,
                    put_there n.lookups at a
                        (closed (n.lookups at) id) apart,
                  );
                  same_event = refl;
                  begun = refl;
                  packets = [];
                  sent = sym (append-nil n.sent);
                  are = refl;
                  opened = closes_open s id st.socket st.lookups;
                  socket = named_lawful (closing s id) (joined s.table) (closes_lawful s id st.socket) refl;
                  own = refl;
                };
            timely = tt;
            answered = tt;
            in_range = joins_fit (n.tables at) s.table object kind socket here.table first second small allowed;
            asks = λ these is. tt;
          };
    }

claim_ends : (A : Type 0) (n : Network) (at : Address) (s : SocketState) (id : ℕ) (claim : Claim) (taken : Option Find)
    → StandsLawfully n at s → IsClaim s claim → claim_fault s claim taken ≡ None →
    Happens n at s (claim_ended {A = A} s id claim taken).state (Closes id) []
claim_ends A n at s id claim (Some f) st is allowed = closes n at s id st
claim_ends A n at s id claim None st is allowed =
    claims n at s id claim.object claim.kind claim.socket st is.object is.kind is.socket allowed

lookup_ends : (A : Type 0) (n : Network) (at : Address) (s : SocketState) (id : ℕ) (looked : Search)
    (claim : Option Claim) → find (is_claim id) s.claims ≡ claim → StandsLawfully n at s
    → fault_of s (Some looked) claim ≡ None →
    Happens n at s (ended {A = A} s id looked.finds claim).state (Closes id) []
lookup_ends A n at s id looked None is st allowed = closes n at s id st
lookup_ends A n at s id looked (Some claim) is st allowed =
    let lawful = st.socket in
    claim_ends A n at s id claim (taker s looked.finds claim) st
    (all_found (IsClaim s) (is_claim id) s.claims claim lawful.claims is).0 allowed

ends : (A : Type 0) (n : Network) (at : Address) (s : SocketState) (id : ℕ) (looked : Option Search)
    → StandsLawfully n at s → fault_of s looked (find (is_claim id) s.claims) ≡ None →
    Happens n at s (ending {A = A} s id looked).state (Closes id) []
ends A n at s id None st allowed = absurd cc
ends A n at s id (Some looked) st allowed = lookup_ends A n at s id looked (find (is_claim id) s.claims) refl st allowed

pub finish_happens : (A : Type 0) (n : Network) (at : Address) (s : SocketState) (id : ℕ) → StandsLawfully n at s
    → finish_fault s id ≡ None → Happens n at s (finish {A = A} s id).state (Closes id) []
finish_happens A n at s id st allowed = ends A n at s id (search_of s.lookups id) st allowed
