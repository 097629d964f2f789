-- What the calls of the socket for names are in the network.
use Rattle.std.proofs.Common.{◌≡◌, ℕ, ◌<◌, Bool, true, false, cond, List, [], ◌∷◌, Option, Some, None, refl, lit<, lit≤}
use Rattle.std.specs.Prelude.{◌||◌, find}
use Rattle.std.proofs.lemmas.List.Elements.{All-from_recursion}
use Rattle.at_nbp.specs.Fault.{number_of}
use Rattle.at_nbp.specs.Lookups as lookups
use Rattle.at_nbp.specs.Lookups.{Search, beginning, next_id, search_of, sent_question}
use Rattle.at_nbp.specs.NameTables.{is_called, is_no_text, register_fault, registered}
use Rattle.at_nbp.specs.Network.{Happening, Setting, after}
use Rattle.at_nbp.specs.Tuples.{IsString}
use Rattle.at_nbp.specs.declared.fault.NbpFault.{NbpFault}
use Rattle.at_nbp.specs.declared.fault.NbpFault.TheVariants.{EmptyName, LookupsFull, NoSuchName}
use Rattle.at_nbp.specs.declared.find.Find.{Find as Found}
use Rattle.at_nbp.specs.declared.names.Registered.{Registered}
use Rattle.at_name_socket.specs.NameSockets.{SocketState, any_pattern, claim_begun, claim_ended, claim_fault, ended}
use Rattle.at_name_socket.specs.NameSockets.{ending, fault_of, finish, finish_fault, names_of, taker}
use Rattle.at_name_socket.specs.Sockets.{Closes, Opens, Stays, changed, claim_of, open_at}
use Rattle.at_name_socket.specs.Steps.{StandsLawfully}
use Rattle.at_name_socket.specs.declared.claim.Claim.{Claim as Claimed}
use Rattle.at_name_socket.specs.declared.step.Finished.{Finished}
use Rattle.at_name_socket.specs.declared.step.Finished.TheVariants as finished
use Rattle.at_event.specs.Kinds.{IsCall}
use Rattle.at_event.specs.Kinds.Names.{IsZone}
use Rattle.at_node.specs.Numbers.{drawn_by}
use Rattle.at_event.specs.Kinds.{speaker_of_call}
use Rattle.at_node.specs.NameCalls.{claimed_as, finish_called, finished_as, found_as, refused_by, registered_as}
use Rattle.at_node.specs.NameCalls.{told_of, unregistered_as, without_name}
use Rattle.at_session.specs.Sessions.{SessionState, finds_kept, pattern_asked, zone_asked, zone_picked}
use Rattle.at_node.specs.Nodes.{NodeState, called, with_names}
use Rattle.at_event.specs.Outcomes.{over}
use Rattle.at_event.specs.declared.Call.{Call}
use Rattle.at_event.specs.declared.Call.TheVariants.{Names}
use Rattle.at_event.specs.declared.names.NameCall.TheVariants.{Find, Claim, Finish, Register, Unregister}
use Rattle.at_event.specs.declared.Report.TheVariants as report
use Rattle.at_event.specs.declared.names.NameReport.TheVariants as nbp_report
use Rattle.at_steps.specs.Acts.{Calls}
use Rattle.at_steps.specs.NameHappenings.{Stands, is_nbp}
use Rattle.at_steps.specs.NameSteps.{Claims, Finds, HasClaimed, HasLost, Looks, Registers, Unregisters}
use Rattle.at_steps.proofs.Protocols.Names.Below.{CallLaws}
use Rattle.at_steps.proofs.Protocols.Names.Moves.{IsIts, StepTo, draws_none, keeping, moved, refused_moves}
use Rattle.at_steps.proofs.Protocols.Names.Moves.{stands_lawfully}

star : IsString (0x2A ∷ [])
star = record { fits = lit≤ tt; bytes = All-from_recursion (λ b. b < 256) (0x2A ∷ []) (lit< tt, tt) }

-- a lookup without a zone asks for one that is in range
picked_fits : (picked : Option (List ℕ)) → IsZone picked → IsString (zone_picked picked)
picked_fits None fits = star
picked_fits (Some zone) fits = fits

zone_fits : (s : SessionState) (zone : Option (List ℕ)) → IsZone s.picked → IsZone zone → IsString (zone_asked s zone)
zone_fits s None picked fits = picked_fits s.picked picked
zone_fits s (Some zone) picked fits = fits

-- the end of a lookup draws no identifier
ends_without : (A : Type 0) (f : Finished A) → drawn_by (told_of f) ≡ None
ends_without A (finished.Found finds) = refl
ends_without A finished.Claimed = refl
ends_without A (finished.Taken f) = refl

-- a name that nobody has was not found
none_found : (s : SocketState) (finds : List Found) (claim : Claimed) → taker s finds claim ≡ None → finds ≡ []
none_found s [] claim none = refl
none_found s (f ∷ fs) claim none = absurd (cc)

module _ (A : Type 0) (laws : CallLaws A) (setting : Setting) (history : List Happening) (n : NodeState)
    (st : Stands setting history n.seat.net n.seat.number n) where
  lawful : StandsLawfully (after setting history) (names_of n.seat.net n.seat.number) n.names
  lawful = stands_lawfully A setting history n st (laws.stood setting history st.all_ask st.timely)

  refusing : (call : Call A) (number : NbpFault)
      → IsIts A setting history n (Calls call) (over (with_names n) (refused_by n.names number))
  refusing call fault = refused_moves A setting history n st
      (laws.stood setting history st.all_ask st.timely) laws.nothing (Calls call) (number_of fault)

  -- ---- lookups begin

  finding : (object kind : List ℕ) (zone : Option (List ℕ)) → IsString object → IsString kind → IsZone zone
      → (o : Option ℕ) → next_id n.names.lookups ≡ o
      → IsIts A setting history n (Calls (Names (Find object kind zone)))
      (over (with_names n) (found_as n.seat n.names (pattern_asked n.session object kind zone) o))
  finding object kind zone object_fits kind_fits fits None e = refusing (Names (Find object kind zone)) LookupsFull
  finding object kind zone object_fits kind_fits fits (Some id) e =
      let h = laws.looks (after setting history) (names_of n.seat.net n.seat.number) n.names id
      (pattern_asked n.session object kind zone) lawful
      (record { object = object_fits; kind = kind_fits; zone = zone_fits n.session zone st.picked fits }) e in
      let i = h.is in
      let b = i.becomes in (
        moved A setting history n st (Calls (Names (Find object kind zone))) (report.Names (nbp_report.Looking id))
            (record n.names {
              lookups = lookups.begun n.names.lookups
                  (beginning id (pattern_asked n.session object kind zone));
            })
            (Opens id (pattern_asked n.session object kind zone) None)
            (sent_question n.names.lookups (beginning id (pattern_asked n.session object kind zone)) ∷ []) h
            (λ now is. (pattern_asked n.session object kind zone, is)),
        Looks (record {
          id = id;
          object = object;
          kind = kind;
          zone = zone;
          act = refl;
          report = refl;
          table = refl;
          lookups = b.opened;
        }),
      )

  claiming : (object kind : List ℕ) (socket : ℕ) → IsString object → IsString kind → socket < 256 → (o : Option ℕ)
      → next_id n.names.lookups ≡ o
      → IsIts A setting history n (Calls (Names (Claim object kind socket)))
      (over (with_names n) (claimed_as n.seat n.names object kind socket o))
  claiming object kind socket object_fits kind_fits fits None e =
      refusing (Names (Claim object kind socket)) LookupsFull
  claiming object kind socket object_fits kind_fits fits (Some id) e =
      let h = laws.claims (after setting history) (names_of n.seat.net n.seat.number) n.names id object kind socket
      lawful object_fits kind_fits fits e in
      let i = h.is in
      let b = i.becomes in (
        moved A setting history n st (Calls (Names (Claim object kind socket))) (report.Names (nbp_report.Looking id))
            (claim_begun n.names id object kind socket)
            (Opens id (any_pattern object kind)
            (Some (record { id = id; object = object; kind = kind; socket = socket })))
            (sent_question n.names.lookups (beginning id (any_pattern object kind)) ∷ []) h
            (λ now is. (any_pattern object kind, is)),
        Claims (record {
          id = id;
          object = object;
          kind = kind;
          socket = socket;
          act = refl;
          report = refl;
          table = refl;
          lookups = b.opened;
        }),
      )

  claiming_name : (object kind : List ℕ) (socket : ℕ) → IsString object → IsString kind → socket < 256 → (b : Bool)
      → IsIts A setting history n (Calls (Names (Claim object kind socket)))
      (over (with_names n) (cond b (refused_by n.names EmptyName)
      (claimed_as n.seat n.names object kind socket (next_id n.names.lookups))))
  claiming_name object kind socket object_fits kind_fits fits true =
      refusing (Names (Claim object kind socket)) EmptyName
  claiming_name object kind socket object_fits kind_fits fits false =
      claiming object kind socket object_fits kind_fits fits (next_id n.names.lookups) refl

  -- ---- lookups end

  module _ (id : ℕ) where
    -- the lookup is closed, and the others stay
    abbrev Closed : SocketState → Type 0
    Closed new = (i : ℕ) → open_at new i ≡ changed (Closes id) (open_at n.names) i

    by_taker : (search : Search) → search_of n.names.lookups id ≡ Some search → (claim : Claimed) → claim_of n.names id
        ≡ Some claim → (t : Option Found) → taker n.names search.finds claim ≡ t → claim_fault n.names claim t ≡ None
        → Closed (claim_ended {A = A} n.names id claim t).state
        → StepTo A n (Calls (Names (Finish id))) (claim_ended {A = A} n.names id claim t).state
        (told_of (claim_ended {A = A} n.names id claim t).finished)
    by_taker search e claim is (Some f) has free closed =
        HasLost (record {
          id = id;
          claim = claim;
          finds = search.finds;
          owner = f;
          act = refl;
          report = refl;
          stands = record { looked = search; stands = e; claims = is; found = refl };
          taken = has;
          table = refl;
          lookups = closed;
        })
    by_taker search e claim is None has free closed =
        HasClaimed (record {
          id = id;
          claim = claim;
          act = refl;
          report = refl;
          stands = record {
            looked = search;
            stands = e;
            claims = is;
            found = none_found n.names search.finds claim has;
          };
          allowed = free;
          table = laws.least claim.object claim.kind claim.socket n.names.table;
          lookups = closed;
        })

    by_claim : (search : Search) → search_of n.names.lookups id ≡ Some search → (y : Option Claimed)
        → claim_of n.names id ≡ y → fault_of n.names (Some search) y ≡ None
        → Closed (ended {A = A} n.names id search.finds y).state
        → StepTo A n (Calls (Names (Finish id))) (ended {A = A} n.names id search.finds y).state
        (told_of (ended {A = A} n.names id search.finds y).finished)
    by_claim search e None is free closed =
        Finds (record {
          id = id;
          finds = search.finds;
          act = refl;
          report = refl;
          stands = record { looked = search; stands = e; claims = is; found = refl };
          table = refl;
          lookups = closed;
        })
    by_claim search e (Some claim) is free closed =
        by_taker search e claim is (taker n.names search.finds claim) refl free closed

    by_search : (x : Option Search) → search_of n.names.lookups id ≡ x → fault_of n.names x (claim_of n.names id) ≡ None
        → Closed (ending {A = A} n.names id x).state
        → StepTo A n (Calls (Names (Finish id))) (ending {A = A} n.names id x).state
        (told_of (ending {A = A} n.names id x).finished)
    by_search None e free closed = absurd (cc)
    by_search (Some search) e free closed = by_claim search e (claim_of n.names id) refl free closed

    finishing : (fault : Option NbpFault) → finish_fault n.names id ≡ fault
        → IsIts A setting history n (Calls (Names (Finish id))) (over (with_names n) (finished_as n.names id fault))
    finishing (Some fault) e = refusing (Names (Finish id)) fault
    finishing None e =
        let h = laws.finishes (after setting history) (names_of n.seat.net n.seat.number) n.names id lawful e in
        let i = h.is in
        let b = i.becomes in (
          moved A setting history n st (Calls (Names (Finish id))) (told_of (finish {A = A} n.names id).finished)
              (finish {A = A} n.names id).state (Closes id) [] h
              (λ now is. draws_none (after setting history).event (names_of n.seat.net n.seat.number)
              (drawn_by (told_of (finish {A = A} n.names id).finished)) (after setting history).begun now
              (ends_without A (finish {A = A} n.names id).finished) is),
          by_search (search_of n.names.lookups id) refl e b.opened,
        )

  -- ---- names

  registering : (object kind : List ℕ) (socket : ℕ) → IsString object → IsString kind → socket < 256
      → (fault : Option NbpFault) → register_fault n.names.table.names object kind ≡ fault
      → IsIts A setting history n (Calls (Names (Register object kind socket)))
      (over (with_names n) (registered_as n.names object kind socket fault))
  registering object kind socket object_fits kind_fits fits (Some fault) e =
      refusing (Names (Register object kind socket)) fault
  registering object kind socket object_fits kind_fits fits None e =
      let h = laws.registers (after setting history) (names_of n.seat.net n.seat.number) n.names object kind socket
      lawful object_fits kind_fits fits e in
      let i = h.is in
      let b = i.becomes in (
        moved A setting history n st (Calls (Names (Register object kind socket))) (report.Names nbp_report.Registered)
            (record n.names { table = registered n.names.table object kind socket }) Stays [] h (λ now is. is),
        Registers (record {
          object = object;
          kind = kind;
          socket = socket;
          act = refl;
          report = refl;
          allowed = e;
          table = laws.least object kind socket n.names.table;
          lookups = b.opened;
        }),
      )

  unregistering : (object kind : List ℕ) (o : Option Registered) → find (is_called object kind) n.names.table.names ≡ o
      → IsIts A setting history n (Calls (Names (Unregister object kind)))
      (over (with_names n) (unregistered_as n.names object kind o))
  unregistering object kind None e = refusing (Names (Unregister object kind)) NoSuchName
  unregistering object kind (Some name) e =
      let h = laws.unregisters (after setting history) (names_of n.seat.net n.seat.number) n.names object kind lawful in
      let i = h.is in
      let b = i.becomes in (
        moved A setting history n st (Calls (Names (Unregister object kind))) (report.Names nbp_report.Unregistered)
            (without_name n.names object kind) Stays [] h (λ now is. is),
        Unregisters (record {
          object = object;
          kind = kind;
          name = name;
          act = refl;
          report = refl;
          stood = e;
          table = refl;
          lookups = b.opened;
        }),
      )

  pub call_happens : (call : Call A) → IsCall call → is_nbp (speaker_of_call call) ≡ true
      → IsIts A setting history n (Calls call) (called n call)
  call_happens (Names (Find object kind zone)) range its =
      finding object kind zone range.0 range.1 range.2 (next_id n.names.lookups) refl
  call_happens (Names (Claim object kind socket)) range its = claiming_name object kind socket range.0 range.1 range.2
      (is_no_text object || is_no_text kind)
  call_happens (Names (Finish id)) range its =
      keeping A setting history n (Calls (Names (Finish id))) (over (with_names n) (finish_called n.names id))
      (finds_kept n.session (finish_called {A = A} n.names id).report) (finishing id (finish_fault n.names id) refl)
  call_happens (Names (Register object kind socket)) range its = registering object kind socket range.0 range.1 range.2
      (register_fault n.names.table.names object kind) refl
  call_happens (Names (Unregister object kind)) range its =
      unregistering object kind (find (is_called object kind) n.names.table.names) refl
  call_happens other range its = absurd (cc)
