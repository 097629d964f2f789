-- What is relayed, and lists of finds and claims.
use Rattle.std.proofs.Common.{◌≡◌, ℕ, zero, suc, ◌+◌, ◌<◌, List, [], ◌∷◌, ◌++◌, length, get_or, take, map, Option, Some}
use Rattle.std.proofs.Common.{None, IsSome, refl, sym, ap, subst, ◌∙◌, arith}
use Rattle.std.specs.Prelude.{find, slice_get, IfSome, Result, Ok, Err}
use Rattle.std.specs.List.{position_from}
use Rattle.std.proofs.lemmas.Bool.{eqb-true}
use Rattle.at_ddp.proofs.TableLemmas.{found, none_by, without_none}
use Rattle.at_ddp.specs.declared.address.Address.{Address}
use Rattle.at_name_socket.specs.NameSockets.{Ending, IsEnding, SocketState, claim_ended, claim_fault, closing, ended}
use Rattle.at_name_socket.specs.NameSockets.{ending, fault_of, finish, finds_told, finish_fault, is_claim, relayed_in}
use Rattle.at_name_socket.specs.NameSockets.{taker, told_at_end, zone_of}
use Rattle.at_name_socket.specs.declared.claim.Claim.{Claim}
use Rattle.at_name_socket.specs.declared.neighbour.Neighbour.{Neighbour}
use Rattle.at_name_socket.specs.declared.step.Finished.{Finished}
use Rattle.at_name_socket.specs.declared.step.Finished.TheVariants as finished
use Rattle.at_nbp.specs.Lookups.{Search, closed, counted, finds_in, search_of}
use Rattle.at_nbp.specs.NameTables.{register_fault, registered}
use Rattle.at_nbp.specs.Packets.{Content, spelling}
use Rattle.at_nbp.specs.Relays.{relayed}
use Rattle.at_nbp.specs.Tuples.{Entry}
use Rattle.at_nbp.specs.declared.fault.NbpFault.{NbpFault}
use Rattle.at_nbp.specs.declared.find.Find.{Find}

-- ---- lists of finds

pub take_found : {X : Type 0} (xs : List X) (i : ℕ) (x : X) → slice_get xs i ≡ Some x → take (i + 1) xs
    ≡ take i xs ++ x ∷ []
take_found [] i x h = absurd cc
take_found (y ∷ ys) zero x h = let same : y ≡ x = cc in ap (λ z. z ∷ []) same
take_found (y ∷ ys) (suc i) x h =
    let next : suc i + 1 ≡ suc (i + 1) = omega arith in
    ap (λ n. take n (y ∷ ys)) next ∙ ap (λ l. y ∷ l) (take_found ys i x h)

-- ---- what is relayed

pub relayed_one : (s : SocketState) (neighbours : List Neighbour) (p : Content) (t : Entry) (zone : List ℕ)
    → p.tuples ≡ t ∷ [] → zone ≡ zone_of s.table.zone neighbours t.address.node →
    (record s.table.own { node = 255 }, spelling (relayed zone p)) ∷ [] ≡ relayed_in s neighbours p
relayed_one s neighbours p t zone one is =
    let sent : Entry → Address
    × List ℕ = λ e. (
      record s.table.own { node = 255 },
      spelling
          (relayed (zone_of s.table.zone neighbours e.address.node) p),
    ) in
    ap (λ z. (record s.table.own { node = 255 }, spelling (relayed z p)) ∷ []) is ∙ ap (map sent) (sym one)

-- ---- what becomes of a claim

-- the claim at an index, if its lookup is open
pub record Claiming (s : SocketState) (id index : ℕ) : Type 0 where
  pub claim : Claim
  pub first : find (is_claim id) s.claims ≡ Some claim
  pub numbered : claim.id ≡ id
  pub within : index < length s.claims
  pub at : (d : Claim) → get_or s.claims index d ≡ claim
  pub search : Search
  pub is_search : search_of s.lookups id ≡ Some search

pub claiming : (s : SocketState) (id index : ℕ) → position_from (is_claim id) 0 s.claims ≡ Some index
    → IsSome (search_of s.lookups id) → Claiming s id index
claiming s id index at some = go (search_of s.lookups id) refl some
  where
    go : (o : Option Search) → search_of s.lookups id ≡ o → IsSome o → Claiming s id index
    go None e g = absurd (cc)
    go (Some search) e g =
        let f = found (is_claim id) s.claims index at in
        record {
          claim = f.entry;
          first = f.first;
          numbered = eqb-true (f.entry).id id f.passes;
          within = f.within;
          at = f.at;
          search = search;
          is_search = e;
        }

-- the claim that is lent at its place
pub claim_is : (s t : SocketState) (id index : ℕ) (e : Claiming s id index) (claim : Claim)
    → claim ≡ get_or t.claims index claim → t ≡ s → claim ≡ e.claim
claim_is s t id index e claim lent same = lent ∙ ap (λ (u : SocketState). get_or u.claims index claim) same ∙ e.at claim

-- the fault of the claim, with who has its name
pub fault_is : (s : SocketState) (id index : ℕ) (c : Claiming s id index) → finish_fault s id
    ≡ claim_fault s c.claim (taker s (c.search).finds c.claim)
fault_is s id index c = λ i. fault_of s (c.is_search i) (c.first i)

pub claim_ending : (A : Type 0) (s : SocketState) (id index : ℕ) (c : Claiming s id index) → finish {A = A} s id
    ≡ claim_ended s id c.claim (taker s (c.search).finds c.claim)
claim_ending A s id index c = ap (ending {A = A} s id) c.is_search ∙ ap (ended {A = A} s id (c.search).finds) c.first

pub taken_ends : (A : Type 0) (s new : SocketState) (id index : ℕ) (c : Claiming s id index) (f : Find)
    → taker s (c.search).finds c.claim ≡ Some f → new ≡ closing s id →
    IsEnding {A = A} (finish s id) (finished.Taken f) new
taken_ends A s new id index c f takes is =
    subst (λ (e : Ending A). IsEnding e (finished.Taken f) new)
    (sym (claim_ending A s id index c ∙ ap (claim_ended {A = A} s id c.claim) takes))
    (record { finished = refl; state = is })

-- a claim of a name that is taken can be finished
pub taken_has_no_fault : (s : SocketState) (id index : ℕ) (c : Claiming s id index) (f : Find)
    → taker s (c.search).finds c.claim ≡ Some f → finish_fault s id ≡ None
taken_has_no_fault s id index c f takes = fault_is s id index c ∙ ap (claim_fault s c.claim) takes

-- the finds of its lookup
pub finds_are : (s : SocketState) (id index : ℕ) (c : Claiming s id index) → finds_in (search_of s.lookups id)
    ≡ (c.search).finds
finds_are s id index c = ap finds_in c.is_search

pub taker_is : (s : SocketState) (id index : ℕ) (c : Claiming s id index) (claim : Claim) → claim ≡ c.claim
    → taker s (finds_in (search_of s.lookups claim.id)) claim ≡ taker s (c.search).finds c.claim
taker_is s id index c claim same =
    (λ i. taker s (finds_in (search_of s.lookups (same i).id)) (same i))
    ∙ ap (λ k. taker s (finds_in (search_of s.lookups k)) c.claim) c.numbered
    ∙ ap (λ l. taker s l c.claim) (finds_are s id index c)

-- ---- the name of a claim that is registered

pub register_is : (s : SocketState) (id index : ℕ) (c : Claiming s id index) (claim : Claim) (object kind : List ℕ)
    → claim ≡ c.claim → object ≡ claim.object → kind ≡ claim.kind →
    taker s (c.search).finds c.claim ≡ None → finish_fault s id ≡ register_fault s.table.names object kind
register_is s id index c claim object kind same o k none =
    fault_is s id index c ∙ ap (claim_fault s c.claim) none
    ∙ sym ((λ i. register_fault s.table.names (o i) (k i))
    ∙ (λ i. register_fault s.table.names (same i).object (same i).kind))

pub claimed_ends : (A : Type 0) (s mid new : SocketState) (id index : ℕ) (c : Claiming s id index) (claim : Claim)
    (object kind : List ℕ) → claim ≡ c.claim → object ≡ claim.object → kind ≡ claim.kind →
    taker s (c.search).finds c.claim ≡ None → mid ≡ record s { table = registered s.table object kind claim.socket }
    → new ≡ closing mid id → IsEnding {A = A} (finish s id) finished.Claimed new
claimed_ends A s mid new id index c claim object kind same o k none is closes =
    let with_name : List ℕ → List ℕ → ℕ
    → SocketState = λ x y z. record (closing s id) { table = registered s.table x y z } in
    let table : with_name object kind claim.socket ≡ with_name (c.claim).object (c.claim).kind (c.claim).socket =
    (λ i. with_name (o i) (k i) claim.socket) ∙ ap (λ (x : Claim). with_name x.object x.kind x.socket) same in
    subst (λ (e : Ending A). IsEnding e finished.Claimed new)
    (sym (claim_ending A s id index c ∙ ap (claim_ended {A = A} s id c.claim) none))
    (record { finished = refl; state = closes ∙ ap (λ (t : SocketState). closing t id) is ∙ table })

-- ---- refusals

pub same_fault : {X Y : Type 0} (o : Option NbpFault) (r : Result X NbpFault) (answer : Result Y NbpFault)
    (fault : NbpFault) → r ≡ Err fault → answer ≡ Err fault → IfSome o (λ f. r ≡ Err f) →
    IfSome o (λ f. answer ≡ Err f)
same_fault None r answer fault is gives named = tt
same_fault {X} {Y} (Some f) r answer fault is gives named =
    let same : fault ≡ f = cc in
    let as_error : NbpFault → Result Y NbpFault = λ e. Err e in
    gives ∙ ap as_error same

-- a call that did not refuse had no reason to
pub no_fault : {X : Type 0} (o : Option NbpFault) (r : Result X NbpFault) (x : X) → r ≡ Ok x
    → IfSome o (λ f. r ≡ Err f) → o ≡ None
no_fault None r x is named = refl
no_fault (Some f) r x is named = absurd cc

-- ---- a lookup that is no claim

pub record Plain (s : SocketState) (id : ℕ) : Type 0 where
  pub search : Search
  pub is_search : search_of s.lookups id ≡ Some search
  pub none : find (is_claim id) s.claims ≡ None

pub plain : (s : SocketState) (id count : ℕ) (r : Option ℕ) (given : List Claim) → counted (search_of s.lookups id)
    ≡ Ok count → given ≡ s.claims → r ≡ position_from (is_claim id) 0 given → r ≡ None → Plain s id
plain s id count r given some same is none = go (search_of s.lookups id) refl some
  where
    go : (o : Option Search) → search_of s.lookups id ≡ o → counted o ≡ Ok count → Plain s id
    go None e g = absurd (cc)
    go (Some search) e g = record {
      search = search;
      is_search = e;
      none = none_by (is_claim id) s.claims given r same is none;
    }

pub plain_fault : (s : SocketState) (id : ℕ) → Plain s id → finish_fault s id ≡ None
plain_fault s id p = λ i. fault_of s (p.is_search i) (p.none i)

-- the end of such a lookup tells its finds, and that of a claim tells none
pub plain_told : (s : SocketState) (id : ℕ) → Plain s id → finds_told s id ≡ Some (finds_in (search_of s.lookups id))
plain_told s id p = (λ i. told_at_end (p.is_search i) (p.none i)) ∙ ap (λ o. Some (finds_in o)) (sym p.is_search)

pub claim_told : (s : SocketState) (id count : ℕ) (r : Option ℕ) (given : List Claim) (index : ℕ)
    → counted (search_of s.lookups id) ≡ Ok count → given ≡ s.claims → r ≡ position_from (is_claim id) 0 given → r
    ≡ Some index → finds_told s id ≡ None
claim_told s id count r given index some same is at = go (search_of s.lookups id) refl some
  where
    go : (o : Option Search) → search_of s.lookups id ≡ o → counted o ≡ Ok count → finds_told s id ≡ None
    go None e g = absurd (cc)
    go (Some search) e g =
        let f = found (is_claim id) s.claims index (ap (position_from (is_claim id) 0) (sym same) ∙ sym is ∙ at) in
        λ i. told_at_end (e i) (f.first i)

pub plain_ends : (A : Type 0) (s new : SocketState) (id : ℕ) (finds : List Find) → Plain s id → finds
    ≡ finds_in (search_of s.lookups id) → new ≡ record s { lookups = closed s.lookups id } →
    IsEnding {A = A} (finish s id) (finished.Found finds) new
plain_ends A s new id finds p are is =
    let found : finds ≡ (p.search).finds = are ∙ ap finds_in p.is_search in
    let left : new ≡ closing s id = is
    ∙ ap (λ (l : List Claim). record s { lookups = closed s.lookups id; claims = l })
    (sym (without_none (is_claim id) s.claims p.none)) in
    let as_found : List Find → Finished A = λ l. finished.Found l in
    subst (λ (e : Ending A). IsEnding e (finished.Found finds) new)
    (sym (ap (ending {A = A} s id) p.is_search ∙ ap (ended {A = A} s id (p.search).finds) p.none))
    (record { finished = ap as_found found; state = left })
