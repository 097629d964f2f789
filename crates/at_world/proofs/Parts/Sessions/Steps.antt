-- What each event of a node is to the session of its user.
use Rattle.std.proofs.Common.{◌≡◌, ℕ, false, cond, List, map, None, Some, refl, sym, ap, subst, ◌∙◌}
use Rattle.std.specs.Prelude.{find, ◌==◌}
use Rattle.std.specs.List.{AllByRecursion}
use Rattle.std.proofs.lemmas.Bool.{eq-eqb, false≢true}
use Rattle.at_world.proofs.Parts.Names.LookupSteps.{looked_up}
use Rattle.at_name_socket.specs.NameSockets.{SocketState}
use Rattle.at_event.specs.Kinds.{IsCall}
use Rattle.at_event.specs.Outcomes.{Outcome, posted}
use Rattle.at_event.specs.declared.Call.{Call}
use Rattle.at_event.specs.declared.Call.TheVariants.{Names, Session}
use Rattle.at_event.specs.declared.names.NameCall.TheVariants.{Finish}
use Rattle.at_event.specs.declared.session.SessionCall.TheVariants.{Pick}
use Rattle.at_event.specs.declared.Report.{Report}
use Rattle.at_event.specs.declared.Report.TheVariants as report
use Rattle.at_event.specs.declared.zones.ZoneReport.TheVariants as zip_report
use Rattle.at_event.specs.declared.names.NameReport.TheVariants as nbp_report
use Rattle.at_event.specs.declared.Timer.{Timer}
use Rattle.at_event.specs.declared.service.Reply.{Reply}
use Rattle.at_node.specs.Hearing.{Hears}
use Rattle.at_node.specs.Nodes.{NodeState, called, timed}
use Rattle.at_session.specs.Sessions.{SessionState, finds_kept, list_kept}
use Rattle.at_steps.specs.Acts.{Act, Calls, Fires, Gets}
use Rattle.at_steps.specs.NameSteps as names
use Rattle.at_steps.specs.SessionSteps.{IsStep, after, pick_kept}
use Rattle.at_steps.specs.StreamHappenings.{IsOpenable}
use Rattle.at_world.specs.Cables.{Cable}
use Rattle.at_world.specs.Events.{act_of, node_of}
use Rattle.at_world.specs.Machine.NameGuards.{NameMachine}
use Rattle.at_world.specs.Machine.SessionGuards.{Sessions, SessionStep, with_session}
use Rattle.at_nodes.specs.Nodes.{is_numbered}
use Rattle.at_world.specs.Worlds.{WorldState, node_at, recorded}
use Rattle.at_setup.specs.declared.event.Event.{Event}
use Rattle.at_setup.specs.declared.event.Event.TheVariants as event
use Rattle.at_world.proofs.CableTie.{CableTie, found_after}
use Rattle.at_world.proofs.Parts.Names.Happenings.{stands_there}
use Rattle.at_world.proofs.Parts.Names.Tie.{NameLaws, NameTie}
use Rattle.at_world.proofs.Parts.Sessions.Finds.{all_openable}
use Rattle.at_world.proofs.Parts.Sessions.Tie.{Fits, HasSession, SessionTie}

-- what the layers below promise
pub record SessionLaws (A : Type 0) : Type 0 where
  pub called : (n : NodeState) (call : Call A)
      → IsStep n.session (Calls call) (called n call).report (called n call).state.session
  pub timed : (n : NodeState) (time : Timer)
      → IsStep {A = A} n.session (Fires time) (timed {A = A} n time).report (timed {A = A} n time).state.session
  pub heard : (n : NodeState) (which : ℕ) (bytes : List ℕ) (said : Reply A) (o : Outcome A NodeState)
      → Hears said n bytes o → IsStep n.session (Gets which) o.report o.state.session

-- out of memory, a session stays
pub nothing_steps : (A : Type 0) (s : SessionState) (act : Act A) → IsStep s act report.NoMemory s
nothing_steps A s (Calls (Session (Pick zone))) = record { becomes = refl; picks = tt }
nothing_steps A s (Calls (Names (Finish id))) = record { becomes = refl; picks = tt }
nothing_steps A s (Gets which) = record { becomes = refl; picks = tt }
nothing_steps A s act = record { becomes = refl; picks = tt }

-- ---- what a session keeps is in range

module _ (A : Type 0) (net : ℕ) (s : SessionState) (f : Fits net s) where
  list_fits : (r : Report A) → Fits net (list_kept s r)
  list_fits (report.Zones (zip_report.List which names)) = record { picked = f.picked; finds = f.finds }
  list_fits r = f

  pick_fits : (zone : List ℕ) (r : Report A) → IsCall {A = A} (Session (Pick zone)) → Fits net (pick_kept s zone r)
  pick_fits zone report.Picked range = record { picked = range; finds = f.finds }
  pick_fits zone r range = f

  call_fits : (call : Call A) (r : Report A) → IsCall call
      → ((id : ℕ) → call ≡ Names (Finish id) → Fits net (finds_kept s r))
      → Fits net (after s (Calls call) r)
  call_fits (Session (Pick zone)) r range ends = pick_fits zone r range
  call_fits (Names (Finish id)) r range ends = ends id refl
  call_fits call r range ends = f

-- ---- the tie after a step of one node

module _ (A : Type 0) (w : WorldState) (c : Cable) (ss : Sessions) (e : Event A) (n : NodeState)
    (o : Outcome A NodeState) (st : SessionTie w c ss) (stands : node_at w (node_of e) ≡ Some n) where
  -- the sessions follow an outcome
  abbrev pub Good : Type 0
  Good = (ss' : Sessions) × SessionStep ss e o.report ss'
      × SessionTie (recorded w (node_of e) o.report o.state (map posted o.out)) c ss'

  its : HasSession c.net (ss (node_of e)) n
  its = st.sessions (node_of e) n stands

  abbrev now : Sessions
  now = with_session ss (node_of e) o.state.session

  pub good_next : o.state.seat.number ≡ node_of e → IsStep n.session (act_of e) o.report o.state.session
      → Fits c.net o.state.session → Good
  good_next number step fits = (
    now,
    record {
      session = o.state.session;
      step = subst (λ s. IsStep s (act_of e) o.report o.state.session) its.same step;
      becomes = refl;
    },
    record {
      sessions = λ j y h. found_after (node_of e) j o.state n y w.nodes (HasSession c.net (now j)) number stands h
          (mine j) (other j y);
    },
  )
    where
      mine : (j : ℕ) → node_of e ≡ j → HasSession c.net (now j) o.state
      mine j is = record { same = sym (ap (λ b. cond b o.state.session (ss j)) (eq-eqb (node_of e) j is)); fits = fits }

      other : (j : ℕ) (y : NodeState) → (node_of e == j) ≡ false → find (is_numbered j) w.nodes ≡ Some y
          → HasSession c.net (now j) y
      other j y apart there = let old = st.sessions j y there in
          record { same = old.same ∙ sym (ap (λ b. cond b o.state.session (ss j)) apart); fits = old.fits }

-- ---- each event

module _ (A : Type 0) (laws : SessionLaws A) (named : NameLaws A) (w : WorldState) (c : Cable) (ss : Sessions)
    (m : NameMachine) (ct : CableTie w c) (st : SessionTie w c ss) (t : NameTie w c ct.wires m) (k : ℕ) (n : NodeState)
    (stands : node_at w k ≡ Some n) where
  fits : Fits c.net n.session
  fits = let has = st.sessions k n stands in has.fits

  number : (x : NodeState) → x.seat ≡ n.seat → x.seat.number ≡ k
  number x seat = let seats = ct.seats k n stands in (λ i. (seat i).number) ∙ seats.number

  -- what a lookup found that ends lies on the network
  found_fits : (id : ℕ) (r : Report A) (now : SocketState)
      → names.IsStep {A = A} (record {
        part = n.names;
        now = now;
        session = n.session;
        act = Calls (Names (Finish id));
        report = r;
      }) → Fits c.net (finds_kept n.session r)
  found_fits id (report.Names (nbp_report.Found finds)) now (names.Finds s) =
      let e : Event A = event.Call k (Names (Finish id)) in
      let same : s.finds ≡ finds = cc in
      let looked = looked_up A named w c ss m ct.wires e n n (report.Names (nbp_report.Found finds)) t stands
      (let has = st.sessions k n stands in has.same) s.id None s.finds s.stands in
      let its = looked.0.1 in
      let all = all_openable named.named c.net ct.net t.setting t.history m.past t.past t.lawful t.timely t.in_range
      (its.begun).event ((s.stands).looked).pattern ((s.stands).looked).finds its.stood in
      record { picked = fits.picked; finds = subst (AllByRecursion (IsOpenable c.net)) ((s.stands).found ∙ same) all }
  found_fits id (report.Names (nbp_report.Found finds)) now (names.Plain s) = absurd (false≢true s.plain)
  found_fits id (report.Names (nbp_report.Found finds)) now (names.Looks s) = let told = s.report in absurd (cc)
  found_fits id (report.Names (nbp_report.Found finds)) now (names.Claims s) = let told = s.report in absurd (cc)
  found_fits id (report.Names (nbp_report.Found finds)) now (names.HasClaimed s) = let told = s.report in absurd (cc)
  found_fits id (report.Names (nbp_report.Found finds)) now (names.HasLost s) = let told = s.report in absurd (cc)
  found_fits id (report.Names (nbp_report.Found finds)) now (names.Registers s) = let told = s.report in absurd (cc)
  found_fits id (report.Names (nbp_report.Found finds)) now (names.Unregisters s) = let told = s.report in absurd (cc)
  found_fits id r now step = fits

  ended_fits : (call : Call A) → IsCall call → (id : ℕ) → call ≡ Names (Finish id)
      → Fits c.net (finds_kept n.session (called n call).report)
  ended_fits call range id is =
      let at = stands_there A named w c ss m ct st t (event.Call k (Names (Finish id))) n stands in
      let happens = named.called t.setting t.history n (Names (Finish id)) at (subst IsCall is range) refl in
      subst (λ (x : Call A). Fits c.net (finds_kept n.session (called n x).report)) (sym is)
      (found_fits id (called {A = A} n (Names (Finish id))).report (called {A = A} n (Names (Finish id))).state.names
      happens.1)

  pub call_follows : (call : Call A) → IsCall call → (called n call).state.seat ≡ n.seat
      → Good A w c ss (event.Call k call) n (called n call) st stands
  call_follows call range seat =
      let step = laws.called n call in
      good_next A w c ss (event.Call k call) n (called n call) st stands (number (called n call).state seat) step
      (subst (Fits c.net) (sym step.becomes)
      (call_fits A c.net n.session fits call (called n call).report range (ended_fits call range)))

  pub timer_follows : (time : Timer) → (timed {A = A} n time).state.seat ≡ n.seat
      → Good A w c ss (event.Timer k time) n (timed n time) st stands
  timer_follows time seat =
      let step = laws.timed n time in
      good_next A w c ss (event.Timer k time) n (timed n time) st stands
      (number (timed {A = A} n time).state seat) step (subst (Fits c.net) (sym step.becomes) fits)

  pub datagram_follows : (which : ℕ) (bytes : List ℕ) (said : Reply A) (o : Outcome A NodeState) → Hears said n bytes o
      → o.state.seat ≡ n.seat → Good A w c ss (event.Deliver which k) n o st stands
  datagram_follows which bytes said o hears seat =
      let step = laws.heard n which bytes said o hears in
      good_next A w c ss (event.Deliver which k) n o st stands (number o.state seat) step
      (subst (Fits c.net) (sym step.becomes) (list_fits A c.net n.session fits o.report))
