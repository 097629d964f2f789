-- Which numbers calls, timers and packets of names draw.
use Rattle.std.proofs.Common.{◌∙◌, ◌≡◌, ◌⊎◌, Bool, List, None, Option, Some, ap, cond, false, find, inl, inr}
use Rattle.std.proofs.Common.{option_map, refl, true, ℕ}
use Rattle.std.specs.Prelude.{◌==◌, ◌||◌, MatchBool}
use Rattle.at_nbp.specs.Lookups.{Search, next_id, search_of}
use Rattle.at_nbp.specs.NameTables.{is_called, is_no_text, register_fault}
use Rattle.at_nbp.specs.declared.fault.NbpFault.{NbpFault}
use Rattle.at_nbp.specs.declared.fault.NbpFault.TheVariants.{EmptyName}
use Rattle.at_nbp.specs.declared.name.Name.{Name}
use Rattle.at_nbp.specs.declared.names.Registered.{Registered}
use Rattle.at_name_socket.specs.NameSockets.{SocketState, finish, finish_fault}
use Rattle.at_name_socket.specs.declared.step.Finished.{Finished}
use Rattle.at_event.specs.Outcomes.{Outcome, Over, idle}
use Rattle.at_event.specs.declared.names.NameCall.{NameCall}
use Rattle.at_event.specs.declared.names.NameCall.TheVariants.{Claim, Find, Finish, Register, Unregister}
use Rattle.at_event.specs.declared.Call.TheVariants.{Names}
use Rattle.at_event.specs.declared.seat.Seat.{Seat}
use Rattle.at_session.specs.Sessions.{pattern_asked}
use Rattle.at_node.specs.NameCalls.{asked_again, claimed_as, finished_as, found_as, refused_by, registered_as}
use Rattle.at_node.specs.NameCalls.{told_of, unregistered_as}
use Rattle.at_node.specs.Nodes.{KeepsSeat, NodeState, called, timed, with_names}
use Rattle.at_node.specs.Numbers.{drawn_by, name_draw}
use Rattle.at_node.specs.declared.numbers.Draw.TheVariants.{Lookup}
use Rattle.at_ddp.specs.Datagram.{Content as Datagram}
use Rattle.at_name_socket.specs.declared.step.Heard.{Heard}
use Rattle.at_node.specs.NameHearing.{HearsName, HearsNames, HearsNbpFault, told_by}
use Rattle.at_node.proofs.Drawn.{By, IsDrawn, refused, silent, told_none}
use Rattle.at_event.specs.declared.names.NameTimer.{NameTimer}
use Rattle.at_nbp.specs.Fault as nbp
use Rattle.at_name_socket.specs.declared.step.Finished.TheVariants as finished
use Rattle.at_event.specs.declared.Report.TheVariants as report
use Rattle.at_event.specs.declared.Timer.TheVariants as timer
use Rattle.at_event.specs.declared.names.NameTimer.TheVariants as nbp_timer
use Rattle.at_name_socket.specs.declared.step.Heard.TheVariants as heard

module _ (A : Type 0) where
  module _ (s : Seat) (n : SocketState) where
    finds : (pattern : Name) (o : Option ℕ) → By A (found_as s n pattern o) (option_map (λ id. Lookup id) o)
    finds pattern None = refl
    finds pattern (Some id) = refl

    claimed : (object kind : List ℕ) (socket : ℕ) (o : Option ℕ)
        → By A (claimed_as s n object kind socket o) (option_map (λ id. Lookup id) o)
    claimed object kind socket None = refl
    claimed object kind socket (Some id) = refl

    claims : (object kind : List ℕ) (socket : ℕ) (b : Bool)
        → By A (cond b (refused_by n EmptyName) (claimed_as s n object kind socket (next_id n.lookups)))
        (cond b None (option_map (λ id. Lookup id) (next_id n.lookups)))
    claims object kind socket true = refl
    claims object kind socket false = claimed object kind socket (next_id n.lookups)

    told : (f : Finished A) → drawn_by (told_of f) ≡ None
    told (finished.Found finds) = refl
    told finished.Claimed = refl
    told (finished.Taken f) = refl

    finishes : (id : ℕ) (o : Option NbpFault) → By A (finished_as n id o) None
    finishes id None = told (finish {A = A} n id).finished
    finishes id (Some fault) = refused A n (nbp.number_of fault)

    registers : (object kind : List ℕ) (socket : ℕ) (o : Option NbpFault)
        → By A (registered_as n object kind socket o) None
    registers object kind socket None = refl
    registers object kind socket (Some fault) = refused A n (nbp.number_of fault)

    unregisters : (object kind : List ℕ) (o : Option Registered) → By A (unregistered_as n object kind o) None
    unregisters object kind None = refl
    unregisters object kind (Some name) = refl

    asks_again : (o : Option Search) → By A (asked_again s n o) None
    asks_again None = refl
    asks_again (Some search) = refl

  -- ---- what comes of a call, of a timer and of a packet

  pub name_draws : (n : NodeState) (c : NameCall) → By A (called n (Names c)) (name_draw n c)
  name_draws n (Find object kind place) =
      finds n.seat n.names (pattern_asked n.session object kind place) (next_id n.names.lookups)
  name_draws n (Claim object kind socket) =
      claims n.seat n.names object kind socket (is_no_text object || is_no_text kind)
  name_draws n (Finish id) = finishes n.seat n.names id (finish_fault n.names id)
  name_draws n (Register object kind socket) =
      registers n.seat n.names object kind socket (register_fault n.names.table.names object kind)
  name_draws n (Unregister object kind) =
      unregisters n.seat n.names object kind (find (is_called object kind) n.names.table.names)

  pub name_call_stays : (n : NodeState) (c : NameCall) → KeepsSeat {A = A} n (called n (Names c))
  name_call_stays n (Find object kind area) = refl
  name_call_stays n (Claim object kind socket) = refl
  name_call_stays n (Finish id) = refl
  name_call_stays n (Register object kind socket) = refl
  name_call_stays n (Unregister object kind) = refl

  pub name_timer_draws : (n : NodeState) (time : NameTimer) → By A (timed n (timer.Names time)) None
  name_timer_draws n (nbp_timer.Lookup id) = asks_again n.seat n.names (search_of n.names.lookups id)

  pub name_timer_stays : (n : NodeState) (time : NameTimer) → KeepsSeat {A = A} n (timed n (timer.Names time))
  name_timer_stays n (nbp_timer.Lookup id) = refl

  names_none : (s : Seat) (n : SocketState) (d : Datagram) (o : Outcome A SocketState) → HearsNames s n d o
      → drawn_by o.report ≡ None
  names_none s n d o = go (d.to.socket == 2)
    where
      told : (h : Heard) → drawn_by {A = A} (told_by h) ≡ None
      told heard.Ignored = refl
      told heard.Relayed = refl
      told (heard.Answered count) = refl
      told (heard.Kept count) = refl

      go : (b : Bool) → MatchBool b (HearsName s n d.data_ o ⊎ HearsNbpFault n d.data_ o) (o ≡ idle n report.Ignored)
          → drawn_by o.report ≡ None
      go false h = told_none A o _ h refl
      go true (inl h) = told_none A o _ h.outcome (told h.step)
      go true (inr h) = told_none A o _ h.outcome refl

  pub names_drawn : (n : NodeState) (d : Datagram) (o : Outcome A NodeState)
      → Over (with_names n) (HearsNames n.seat n.names d) o → IsDrawn A n d o
  names_drawn n d o (p, may, is) =
      silent A n d o (ap (λ (x : Outcome A NodeState). drawn_by x.report) is ∙ names_none n.seat n.names d p may)
