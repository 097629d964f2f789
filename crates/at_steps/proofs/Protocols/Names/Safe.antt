-- The socket of a node for names: its calls, its timer and its packets are safe.
use Rattle.std.proofs.Common.{◌≡◌, ◌⊎◌, inl, inr, ℕ, ◌<◌, ◌≤◌, Bool, true, false, cond, List, length, Option, Some}
use Rattle.std.proofs.Common.{None, refl, ap, subst, arith}
use Rattle.std.specs.Prelude.{MatchBool, find, is_some, nat_le, ◌==◌, ◌||◌}
use Rattle.std.proofs.lemmas.Bool.Decides.{nat_tests}
use Rattle.at_ddp.specs.Datagram.{Content as Datagram}
use Rattle.at_ddp.specs.declared.address.Address.{Address}
use Rattle.at_ddp.specs.Protocols.{nbp_kind}
use Rattle.at_nbp.specs.Fault as nbp
use Rattle.at_nbp.specs.Lookups.{Lookups, Search, next_id, search_of}
use Rattle.at_nbp.specs.NameTables.{AreNames, is_called, is_no_text, register_fault}
use Rattle.at_nbp.specs.declared.fault.NbpFault.{NbpFault}
use Rattle.at_nbp.specs.declared.fault.NbpFault.TheVariants as nbps
use Rattle.at_nbp.specs.declared.find.Find.{Find}
use Rattle.at_nbp.specs.declared.name.Name.{Name}
use Rattle.at_nbp.specs.declared.names.Registered.{Registered}
use Rattle.at_name_socket.specs.NameSockets.{Hears as SocketHears, SocketState, claim_fault, fault_of, finish}
use Rattle.at_name_socket.specs.NameSockets.{finish_fault, is_claim, names_of, taker}
use Rattle.at_name_socket.specs.declared.claim.Claim.{Claim}
use Rattle.at_name_socket.specs.declared.step.Finished.{Finished}
use Rattle.at_name_socket.specs.declared.step.Finished.TheVariants as finished
use Rattle.at_name_socket.specs.declared.step.Heard.{Heard}
use Rattle.at_name_socket.specs.declared.step.Heard.TheVariants as heard
use Rattle.at_event.specs.Outcomes.{Outcome, Over, idle, over}
use Rattle.at_event.specs.declared.Call.TheVariants.{Names}
use Rattle.at_event.specs.declared.Timer.TheVariants as timer
use Rattle.at_event.specs.declared.names.NameCall.{NameCall}
use Rattle.at_event.specs.declared.names.NameCall.TheVariants as calls
use Rattle.at_event.specs.declared.names.NameTimer.{NameTimer}
use Rattle.at_event.specs.declared.names.NameTimer.TheVariants as nbp_timer
use Rattle.at_event.specs.declared.Report.TheVariants as report
use Rattle.at_node.specs.Limits.{IsWithin}
use Rattle.at_node.specs.NameCalls.{asked_again, claim_called, claimed_as, find_called, finish_called, finished_as}
use Rattle.at_node.specs.NameCalls.{found_as, lookup_fired, refused_by, register_called, registered_as, sent_of}
use Rattle.at_node.specs.NameCalls.{told_of, unregister_called, unregistered_as}
use Rattle.at_node.specs.NameHearing.{HearsName, HearsNames, HearsNbpFault, told_by}
use Rattle.at_node.specs.Nodes.{NodeState, called, over_finish, timed, with_names}
use Rattle.at_session.specs.Sessions.{pattern_asked}
use Rattle.at_steps.specs.Safety.{IsSafe, IsTrueOf, TransactionTable, number_told}
use Rattle.at_event.specs.declared.Reason.TheVariants.{OfNames}
use Rattle.at_steps.proofs.Safety.By.{by, faulted, quiet, refused, sent_few, through}

-- what the layers below promise: below 8 open lookups an identifier is free, and few packets are sent for one
pub record NameLaws : Type 0 where
  pub free : (l : Lookups) → l.next < 256 → next_id l ≡ None → 8 ≤ length l.searches
  pub few : (s : SocketState) (bytes : List ℕ) (h : Heard) (new : SocketState) (pushes : List (Address × List ℕ))
      → AreNames s.table.names → SocketHears s bytes h new pushes → length pushes ≤ 64

module _ (A : Type 0) (n : NodeState) (Wants : TransactionTable → Type 0) (laws : NameLaws) (within : IsWithin n) where
  abbrev Safe : Outcome A SocketState → Type 0
  Safe o = IsSafe Wants n n.names o

  abbrev True : NbpFault → Type 0
  True fault = IsTrueOf Wants n (OfNames fault)

  told : (a b : NbpFault) → Some a ≡ Some b → True a → True b
  told a b is h = let same : a ≡ b = cc in subst True same h

  refuses : (fault : NbpFault) → True fault → Safe (refused_by n.names fault)
  refuses fault holds = refused A Wants n n.names (OfNames fault) holds

  -- ---- lookups

  full : next_id n.names.lookups ≡ None → True nbps.LookupsFull
  full none = laws.free n.names.lookups within.lookups.next_fits none

  finds_safe : (pattern : Name) (id : Option ℕ) → next_id n.names.lookups ≡ id
      → Safe (found_as n.seat n.names pattern id)
  finds_safe pattern None is = refuses nbps.LookupsFull (full is)
  finds_safe pattern (Some id) is =
      quiet A Wants n n.names (found_as n.seat n.names pattern (Some id)) refl (omega arith)

  pub find_safe : (pattern : Name) → Safe (find_called n.seat n.names pattern)
  find_safe pattern = finds_safe pattern (next_id n.names.lookups) refl

  claims_safe : (object kind : List ℕ) (socket : ℕ) (id : Option ℕ) → next_id n.names.lookups ≡ id
      → Safe (claimed_as n.seat n.names object kind socket id)
  claims_safe object kind socket None is = refuses nbps.LookupsFull (full is)
  claims_safe object kind socket (Some id) is =
      quiet A Wants n n.names (claimed_as n.seat n.names object kind socket (Some id)) refl (omega arith)

  pub claim_safe : (object kind : List ℕ) (socket : ℕ) → Safe (claim_called n.seat n.names object kind socket)
  claim_safe object kind socket = go (is_no_text object || is_no_text kind)
    where
      go : (b : Bool) → Safe (cond b (refused_by n.names nbps.EmptyName)
          (claimed_as n.seat n.names object kind socket (next_id n.names.lookups)))
      go true = refuses nbps.EmptyName tt
      go false = claims_safe object kind socket (next_id n.names.lookups) refl

  asks_again_safe : (search : Option Search) → Safe (asked_again n.seat n.names search)
  asks_again_safe None = refuses nbps.NoSuchLookup tt
  asks_again_safe (Some search) =
      quiet A Wants n n.names (asked_again n.seat n.names (Some search)) refl (omega arith)

  pub lookup_safe : (id : ℕ) → Safe (lookup_fired n.seat n.names id)
  lookup_safe id = asks_again_safe (search_of n.names.lookups id)

  -- ---- names

  register_true : (object kind : List ℕ) (fault : NbpFault)
      → register_fault n.names.table.names object kind ≡ Some fault → True fault
  register_true object kind fault =
      go (is_no_text object || is_no_text kind) (is_some (find (is_called object kind) n.names.table.names))
      (nat_le 64 (length n.names.table.names)) refl
    where
      go : (a b c : Bool) → nat_le 64 (length n.names.table.names) ≡ c
          → cond a (Some nbps.EmptyName) (cond b (Some nbps.NameInUse) (cond c (Some nbps.NamesFull) None)) ≡ Some fault
          → True fault
      go true b c is h = told nbps.EmptyName fault h tt
      go false true c is h = told nbps.NameInUse fault h tt
      go false false true is h = told nbps.NamesFull fault h (grind (arith, nat_tests, is))
      go false false false is h = absurd (cc)

  registers_safe : (object kind : List ℕ) (socket : ℕ) (fault : Option NbpFault)
      → register_fault n.names.table.names object kind ≡ fault → Safe (registered_as n.names object kind socket fault)
  registers_safe object kind socket None is =
      quiet A Wants n n.names (registered_as n.names object kind socket None) refl (omega arith)
  registers_safe object kind socket (Some fault) is = refuses fault (register_true object kind fault is)

  pub register_safe : (object kind : List ℕ) (socket : ℕ) → Safe (register_called n.names object kind socket)
  register_safe object kind socket =
      registers_safe object kind socket (register_fault n.names.table.names object kind) refl

  unregisters_safe : (object kind : List ℕ) (name : Option Registered) → Safe (unregistered_as n.names object kind name)
  unregisters_safe object kind None = refuses nbps.NoSuchName tt
  unregisters_safe object kind (Some name) =
      quiet A Wants n n.names (unregistered_as n.names object kind (Some name)) refl (omega arith)

  pub unregister_safe : (object kind : List ℕ) → Safe (unregister_called n.names object kind)
  unregister_safe object kind = unregisters_safe object kind (find (is_called object kind) n.names.table.names)

  -- ---- the end of a lookup

  finish_true : (search : Option Search) (claim : Option Claim) (fault : NbpFault)
      → fault_of n.names search claim ≡ Some fault → True fault
  finish_true None claim fault is = told nbps.NoSuchLookup fault is tt
  finish_true (Some search) None fault is = absurd (cc)
  finish_true (Some search) (Some claim) fault is = go (taker n.names search.finds claim) is
    where
      go : (o : Option Find) → claim_fault n.names claim o ≡ Some fault → True fault
      go None h = register_true claim.object claim.kind fault h
      go (Some f) h = absurd (cc)

  finished_quiet : (f : Finished A) → number_told (told_of f) ≡ None
  finished_quiet (finished.Found finds) = refl
  finished_quiet finished.Claimed = refl
  finished_quiet (finished.Taken f) = refl

  finishes_safe : (id : ℕ) (fault : Option NbpFault) → finish_fault n.names id ≡ fault
      → Safe (finished_as n.names id fault)
  finishes_safe id None is =
      quiet A Wants n n.names (finished_as n.names id None) (finished_quiet (finish n.names id).finished) (omega arith)
  finishes_safe id (Some fault) is =
      refuses fault (finish_true (search_of n.names.lookups id) (find (is_claim id) n.names.claims) fault is)

  pub finish_safe : (id : ℕ) → Safe (finish_called n.names id)
  finish_safe id = finishes_safe id (finish_fault n.names id) refl

  -- ---- packets

  heard_quiet : (x : Heard) → number_told (told_by {A = A} x) ≡ None
  heard_quiet heard.Ignored = refl
  heard_quiet heard.Relayed = refl
  heard_quiet (heard.Answered count) = refl
  heard_quiet (heard.Kept count) = refl

  decoded : (fault : NbpFault) (bytes : List ℕ) → nbp.IsFirstFault fault bytes → True fault
  decoded nbps.NamesFull bytes h = absurd h
  decoded nbps.LookupsFull bytes h = absurd h
  decoded fault bytes h = tt

  pub names_safe : (d : Datagram) (o : Outcome A SocketState) → HearsNames n.seat n.names d o → Safe o
  names_safe d o = go (d.to.socket == 2)
    where
      go : (b : Bool) → MatchBool b (HearsName n.seat n.names d.data_ o ⊎ HearsNbpFault n.names d.data_ o)
          (o ≡ idle n.names report.Ignored) → Safe o
      go true (inl h) =
          let out = sent_of n.seat h.pushes in
          let q : Outcome A SocketState = record { report = told_by h.step; state = h.new; out = out } in
          let few = laws.few n.names d.data_ h.step h.new h.pushes within.names h.hears in
          by A Wants n n.names o q h.outcome
          (quiet A Wants n n.names q (heard_quiet h.step)
          (sent_few (names_of n.seat.net n.seat.number) nbp_kind h.pushes 131070 (omega (arith, few))))
      go true (inr h) =
          faulted A Wants n n.names (OfNames h.fault) h.number o (decoded h.fault d.data_ h.first) h.numbered h.outcome
      go false h =
          by A Wants n n.names o (idle n.names report.Ignored) h
          (quiet A Wants n n.names (idle n.names report.Ignored) refl (omega arith))

  -- ---- at the node

  of_socket : (o : Outcome A SocketState) → Safe o → IsSafe Wants n n (over (with_names n) o)
  of_socket o safe = through A Wants n (with_names n) n.names o refl safe

  of_finish : (o : Outcome A SocketState) → Safe o → IsSafe Wants n n (over_finish n o)
  of_finish o safe = record {
    reason = safe.reason;
    no_effect = λ k told. ap (over_finish n) (safe.no_effect k told);
    few = safe.few;
  }

  pub name_call_safe : (call : NameCall) → IsSafe Wants n n (called {A = A} n (Names call))
  name_call_safe (calls.Find object kind zone) =
      let pattern = pattern_asked n.session object kind zone in
      of_socket (find_called n.seat n.names pattern) (find_safe pattern)
  name_call_safe (calls.Claim object kind socket) =
      of_socket (claim_called n.seat n.names object kind socket) (claim_safe object kind socket)
  name_call_safe (calls.Finish id) = of_finish (finish_called n.names id) (finish_safe id)
  name_call_safe (calls.Register object kind socket) =
      of_socket (register_called n.names object kind socket) (register_safe object kind socket)
  name_call_safe (calls.Unregister object kind) =
      of_socket (unregister_called n.names object kind) (unregister_safe object kind)

  pub name_timer_safe : (time : NameTimer) → IsSafe {A = A} Wants n n (timed n (timer.Names time))
  name_timer_safe (nbp_timer.Lookup id) = of_socket (lookup_fired n.seat n.names id) (lookup_safe id)

  pub names_over : (d : Datagram) (o : Outcome A NodeState) → Over (with_names n) (HearsNames n.seat n.names d) o
      → IsSafe Wants n n o
  names_over d o (p, may, is) = by A Wants n n o (over (with_names n) p) is (of_socket p (names_safe d p may))
