-- What comes of events at the socket for names: all that is sent is of NBP, and the report is of names, or nobody's.
use Rattle.std.proofs.Common.{◌≡◌, ◌⊎◌, inl, inr, ℕ, Bool, true, false, cond, List, Option, Some, None, refl, sym, ap}
use Rattle.std.proofs.Common.{subst}
use Rattle.std.specs.Prelude.{MatchBool, find, ◌==◌, ◌||◌}
use Rattle.at_ddp.specs.Datagram.{Content as Datagram}
use Rattle.at_ddp.specs.Protocols.{nbp_kind}
use Rattle.at_nbp.specs.Fault.{number_of}
use Rattle.at_nbp.specs.Lookups as lookups
use Rattle.at_nbp.specs.Lookups.{Search, search_of}
use Rattle.at_nbp.specs.NameTables.{is_called, is_no_text, register_fault}
use Rattle.at_nbp.specs.declared.fault.NbpFault.{NbpFault}
use Rattle.at_nbp.specs.declared.fault.NbpFault.TheVariants.{EmptyName, LookupsFull, NoSuchName}
use Rattle.at_nbp.specs.declared.name.Name.{Name}
use Rattle.at_nbp.specs.declared.names.Registered.{Registered}
use Rattle.at_name_socket.specs.NameSockets.{SocketState, any_pattern, claim_begun, finish, finish_fault, names_of}
use Rattle.at_name_socket.specs.declared.step.Finished.{Finished}
use Rattle.at_name_socket.specs.declared.step.Finished.TheVariants as finished
use Rattle.at_name_socket.specs.declared.step.Heard.{Heard}
use Rattle.at_name_socket.specs.declared.step.Heard.TheVariants as heard
use Rattle.at_node.specs.NameCalls.{sent_of, becomes, refused_by, looks_up, found_as, claimed_as, told_of, finished_as}
use Rattle.at_node.specs.NameCalls.{asked_again, registered_as, unregistered_as}
use Rattle.at_node.specs.NameHearing.{HearsName, HearsNames, HearsNbpFault, told_by}
use Rattle.at_event.specs.Kinds.{Nbp}
use Rattle.at_node.specs.Nodes.{NodeState, with_names, called, timed}
use Rattle.at_event.specs.Outcomes.{Outcome, Over, idle, refused_as}
use Rattle.at_event.specs.declared.Call.{Call}
use Rattle.at_event.specs.declared.Call.TheVariants.{Names}
use Rattle.at_event.specs.declared.names.NameCall.{NameCall}
use Rattle.at_event.specs.declared.names.NameCall.TheVariants.{Find, Claim, Finish, Register, Unregister}
use Rattle.at_event.specs.declared.Report.TheVariants as report
use Rattle.at_event.specs.declared.Timer.TheVariants as timer
use Rattle.at_event.specs.declared.names.NameTimer.{NameTimer}
use Rattle.at_event.specs.declared.names.NameTimer.TheVariants as nbp_timer
use Rattle.at_event.specs.declared.seat.Seat.{Seat}
use Rattle.at_session.specs.Sessions.{SessionState, pattern_asked}
use Rattle.at_steps.specs.Acts.{Act, Calls, Fires, Gets}
use Rattle.at_steps.proofs.Coming.{ComesBy, MaySay, Speaks, all_sent, no_list}

abbrev pub IsOfLookups : (A : Type 0) → Act A → Outcome A SocketState → Type 0
IsOfLookups A act o = Speaks A nbp_kind Nbp act o

-- the node with the names and lookups of another state
abbrev pub take_names : NodeState → NodeState → NodeState
take_names n now = with_names n now.names

abbrev pub ComesOfNames : (A : Type 0) → NodeState → Act A → Outcome A NodeState → Type 0
ComesOfNames A n act o = ComesBy A take_names nbp_kind Nbp n act o

-- ---- calls, timers and datagrams

module _ (A : Type 0) (call : Call A) (n : SocketState) where
  call_refused : (number : Option ℕ) → IsOfLookups A (Calls call) (idle n (refused_as number))
  call_refused None = (tt, (tt, tt))
  call_refused (Some k) = (tt, (tt, tt))

  begun : (s : Seat) (id : ℕ) (pattern : Name) (new : SocketState)
      → IsOfLookups A (Calls call) (looks_up s n id pattern new)
  begun s id pattern new = ((refl, tt), (refl, tt))

  found : (s : Seat) (pattern : Name) (o : Option ℕ) → IsOfLookups A (Calls call) (found_as s n pattern o)
  found s pattern None = call_refused (number_of LookupsFull)
  found s pattern (Some id) =
      begun s id pattern (record n { lookups = lookups.begun n.lookups (lookups.beginning id pattern) })

  claimed : (s : Seat) (object kind : List ℕ) (socket : ℕ) (o : Option ℕ)
      → IsOfLookups A (Calls call) (claimed_as s n object kind socket o)
  claimed s object kind socket None = call_refused (number_of LookupsFull)
  claimed s object kind socket (Some id) = begun s id (any_pattern object kind) (claim_begun n id object kind socket)

  claiming : (s : Seat) (object kind : List ℕ) (socket : ℕ) (b : Bool)
      → IsOfLookups A (Calls call)
      (cond b (refused_by n EmptyName) (claimed_as s n object kind socket (lookups.next_id n.lookups)))
  claiming s object kind socket true = call_refused (number_of EmptyName)
  claiming s object kind socket false = claimed s object kind socket (lookups.next_id n.lookups)

  told : (f : Finished A) (new : SocketState) → IsOfLookups A (Calls call) (becomes (told_of f) new)
  told (finished.Found finds) new = (tt, (refl, tt))
  told finished.Claimed new = (tt, (refl, tt))
  told (finished.Taken f) new = (tt, (refl, tt))

  ended : (id : ℕ) (o : Option NbpFault) → IsOfLookups A (Calls call) (finished_as n id o)
  ended id None = told (finish {A = A} n id).finished (finish {A = A} n id).state
  ended id (Some fault) = call_refused (number_of fault)

  registering : (object kind : List ℕ) (socket : ℕ) (o : Option NbpFault)
      → IsOfLookups A (Calls call) (registered_as n object kind socket o)
  registering object kind socket None = (tt, (refl, tt))
  registering object kind socket (Some fault) = call_refused (number_of fault)

unregistering : (A : Type 0) (n : SocketState) (object kind : List ℕ) (o : Option Registered)
    → IsOfLookups A (Calls (Names (Unregister object kind))) (unregistered_as n object kind o)
unregistering A n object kind None = call_refused A (Names (Unregister object kind)) n (number_of NoSuchName)
unregistering A n object kind (Some name) = (tt, (refl, tt))

pub names_called : (A : Type 0) (n : NodeState) (call : NameCall)
    → ComesOfNames A n (Calls (Names call)) (called n (Names call))
names_called A n (Find object kind zone) = record {
  state = refl;
  its = found A (Names (Find object kind zone)) n.names n.seat (pattern_asked n.session object kind zone)
      (lookups.next_id n.names.lookups);
}
names_called A n (Claim object kind socket) = record {
  state = refl;
  its = claiming A (Names (Claim object kind socket)) n.names n.seat object kind socket
      (is_no_text object || is_no_text kind);
}
names_called A n (Finish id) =
    record { state = refl; its = ended A (Names (Finish id)) n.names id (finish_fault n.names id) }
names_called A n (Register object kind socket) = record {
  state = refl;
  its = registering A (Names (Register object kind socket)) n.names object kind socket
      (register_fault n.names.table.names object kind);
}
names_called A n (Unregister object kind) = record {
  state = refl;
  its = unregistering A n.names object kind (find (is_called object kind) n.names.table.names);
}

asked : (A : Type 0) (s : Seat) (n : SocketState) (id : ℕ) (o : Option Search)
    → IsOfLookups A (Fires (timer.Names (nbp_timer.Lookup id))) (asked_again s n o)
asked A s n id None = (tt, (tt, tt))
asked A s n id (Some search) = ((refl, tt), (tt, tt))

pub names_timed : (A : Type 0) (n : NodeState) (time : NameTimer)
    → ComesOfNames A n (Fires (timer.Names time)) (timed n (timer.Names time))
names_timed A n (nbp_timer.Lookup id) =
    record { state = refl; its = asked A n.seat n.names id (search_of n.names.lookups id) }

module _ (A : Type 0) (s : Seat) (n : SocketState) (which : ℕ) where
  step_told : (h : Heard) → MaySay A Nbp (Gets which) (told_by h)
  step_told heard.Ignored = (tt, tt)
  step_told heard.Relayed = (refl, tt)
  step_told (heard.Answered count) = (refl, tt)
  step_told (heard.Kept count) = (refl, tt)

  -- what a datagram does at the socket for names
  datagram_of_names : (d : Datagram) (p : Outcome A SocketState) → HearsNames s n d p → IsOfLookups A (Gets which) p
  datagram_of_names d p = go (d.to.socket == 2)
    where
      by : (q : Outcome A SocketState) → p ≡ q → IsOfLookups A (Gets which) q → IsOfLookups A (Gets which) p
      by q is h = subst (IsOfLookups A (Gets which)) (sym is) h

      go : (b : Bool) → MatchBool b (HearsName s n d.data_ p ⊎ HearsNbpFault n d.data_ p) (p ≡ idle n report.Ignored)
          → IsOfLookups A (Gets which) p
      go true (inl h) = by (record { report = told_by h.step; state = h.new; out = sent_of s h.pushes }) h.outcome
          (all_sent nbp_kind (names_of s.net s.number) h.pushes, step_told h.step)
      go true (inr h) = by (idle n (report.Refused h.number)) h.outcome (tt, (tt, tt))
      go false h = by (idle n report.Ignored) h (tt, (tt, tt))

-- and at the node, whose session keeps nothing of it
pub names_heard : (A : Type 0) (n : NodeState) (which : ℕ) (d : Datagram) (o : Outcome A NodeState)
    → Over (with_names n) (HearsNames n.seat n.names d) o → ComesOfNames A n (Gets which) o
names_heard A n which d o (p, may, is) =
    let its = datagram_of_names A n.seat n.names which d p may in
    subst (ComesOfNames A n (Gets which)) (sym is) (record {
      state = ap (λ (s : SessionState). record (with_names n p.state) { session = s })
          (no_list A n.session Nbp refl p.report its.1.0);
      its = its;
    })
