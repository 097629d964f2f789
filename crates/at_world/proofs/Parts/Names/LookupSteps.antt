-- Steps of lookups and of names are steps of the machine.
use Rattle.std.proofs.Common.{◌≡◌, ℕ, ◌+◌, Bool, true, false, cond, List, [], ◌∷◌, find, length, Option}
use Rattle.std.proofs.Common.{Some, None, refl, sym, ap, subst, ◌∙◌}
use Rattle.std.specs.Prelude.{option_map, ◌==◌}
use Rattle.std.proofs.lemmas.Bool.{eqb-true}
use Rattle.at_ddp.specs.Tables.{without_first}
use Rattle.at_ddp.proofs.Alls.{all_found, all_pairs}
use Rattle.at_nbp.specs.Lookups.{IsSearch, Lookups, Search, asked, has_id}
use Rattle.at_nbp.specs.NameTables.{IsRegistered, Table, is_called, register_fault}
use Rattle.at_nbp.specs.Network.{Begun, IsFound, after, newest}
use Rattle.at_nbp.specs.declared.find.Find.{Find as Found}
use Rattle.at_name_socket.specs.NameSockets.{any_pattern, names_of}
use Rattle.at_name_socket.specs.Sockets as sockets
use Rattle.at_name_socket.specs.Sockets.{Closes, Opens, Stays, claim_of}
use Rattle.at_name_socket.specs.declared.claim.Claim.{Claim as Claimed}
use Rattle.at_node.specs.Numbers.{drawn_by}
use Rattle.at_session.specs.Sessions.{pattern_asked}
use Rattle.at_node.specs.Nodes.{NodeState}
use Rattle.at_event.specs.declared.Call.TheVariants.{Names}
use Rattle.at_event.specs.declared.names.NameCall.TheVariants.{Find, Claim, Finish, Register, Unregister}
use Rattle.at_event.specs.declared.Report.{Report}
use Rattle.at_event.specs.declared.Report.TheVariants as report
use Rattle.at_event.specs.declared.names.NameReport.TheVariants as nbp_report
use Rattle.at_steps.specs.NameSteps as steps
use Rattle.at_steps.specs.NameSteps.{Change, IsOpen, IsPlain, IsStep}
use Rattle.at_world.specs.Cables.{Cable}
use Rattle.at_world.specs.Events.{act_of, node_of}
use Rattle.at_world.specs.Machine.NameGuards.{NameMachine}
use Rattle.at_world.specs.Machine.NameGuards.{next}
use Rattle.at_world.specs.Machine.NameGuards.{with_names}
use Rattle.at_world.specs.Machine.SessionGuards.{Sessions}
use Rattle.at_world.specs.Worlds.{WorldState, node_at}
use Rattle.at_setup.specs.declared.event.Event.{Event}
use Rattle.at_setup.specs.declared.event.Event.TheVariants as event
use Rattle.at_world.proofs.Acts.{called_at}
use Rattle.at_world.proofs.CableTie.{Wire}
use Rattle.at_world.proofs.Parts.Names.Lookups.{IsDrawn, IsKnown, Known}
use Rattle.at_world.proofs.Parts.Names.Stood.{all_stood}
use Rattle.at_world.proofs.Parts.Names.Tie.{Becomes, HasSocket, NameLaws, NameTie, moved}
use Rattle.at_world.proofs.Parts.Names.Steps.{so_at, plainly, plain_draws}
use Rattle.at_world.proofs.Parts.Names.LookupFinds.{IsOpenHere, some_begun, finds_are, taken_by}

module _ (A : Type 0) (laws : NameLaws A) (w : WorldState) (c : Cable) (ss : Sessions) (m : NameMachine)
    (wires : List Wire) (e : Event A) (n x : NodeState) (r : Report A) (t : NameTie w c wires m)
    (stands : node_at w (node_of e) ≡ Some n) (told : n.session ≡ ss (node_of e)) where
  its : HasSocket c.net t.setting t.history m (node_of e) n
  its = t.sockets (node_of e) n stands

  -- the machine's names of the node are its own
  own_names : n.names.table ≡ m.names (node_of e)
  own_names = let here = its.stands in sym here.table ∙ t.now (node_of e)

  -- ---- names that stay, or become others

  pub same_names : x.names.table ≡ n.names.table → (k : ℕ) → m.names k ≡ cond (node_of e == k) x.names.table (m.names k)
  same_names same k = go (node_of e == k) refl
    where
      go : (b : Bool) → (node_of e == k) ≡ b → m.names k ≡ cond b x.names.table (m.names k)
      go true g = ap m.names (sym (eqb-true (node_of e) k g)) ∙ sym own_names ∙ sym same
      go false g = refl

  -- ---- lookups that are open

  abbrev begun : List Begun
  begun = (after t.setting t.history).begun

  -- what a lookup found that is open at the node
  pub looked_up : (id : ℕ) (claim : Option Claimed) (finds : List Found) (o : IsOpen n.names id claim finds)
      → (IsSearch o.looked × IsFound t.setting t.history (names_of c.net (node_of e)) o.looked)
      × (has_id id o.looked ≡ true)
  looked_up id claim finds o =
      let here = its.stands in
      let stood = laws.found t.setting t.history t.all_ask t.timely in
      let all = stood.lawful (names_of c.net (node_of e)) in
      let there = ap (λ (l : Lookups). find (has_id id) l.searches) here.lookups ∙ o.stands in
      all_found (λ (s : Search). IsSearch s × IsFound t.setting t.history (names_of c.net (node_of e)) s) (has_id id)
      ((after t.setting t.history).lookups (names_of c.net (node_of e))).searches o.looked
      (all_pairs IsSearch (IsFound t.setting t.history (names_of c.net (node_of e)))
      ((after t.setting t.history).lookups (names_of c.net (node_of e))).searches all.each
      (stood.found (names_of c.net (node_of e)))) there

  open_here : (id : ℕ) (claim : Option Claimed) (finds : List Found) → IsOpen n.names id claim finds
      → IsOpenHere m (node_of e) id claim finds
  open_here id claim finds o =
      let both = looked_up id claim finds o in
      let found = both.0.1 in
      let known : IsKnown c.net m.lookups begun (node_of e) id
      (record { pattern = (o.looked).pattern; claim = claim_of n.names id }) =
      subst (Known c.net m.lookups begun (node_of e) id)
      (ap (option_map (λ (l : Search). record { pattern = l.pattern; claim = claim_of n.names id })) o.stands)
      (its.known id) in
      let newest_of : newest begun (names_of c.net (node_of e)) id
      ≡ Some found.begun = ap (newest begun (names_of c.net (node_of e))) (sym (eqb-true (o.looked).id id both.1))
      ∙ found.newest in
      let since : (known.lookup).since ≡ (found.begun).event + 1 = known.since
      ∙ ap (λ (b : Begun). b.event + 1) (some_begun known.began found.begun (sym known.newest ∙ newest_of)) in
      record {
        lookup = known.lookup;
        stands = known.stands;
        claims = known.claim ∙ o.claims;
        tells = finds_are m.past known.lookup o.looked finds known.pattern o.found both.0.0
            (all_stood c.net t.setting t.history m.past t.past (found.begun).event (known.lookup).since since
            (o.looked).pattern (o.looked).finds found.stood);
      }

  -- ---- each kind of step

  abbrev Steps : Type 0
  Steps = Becomes A ss m e n x r

  abbrev its_change : Change A
  its_change = record { part = n.names; now = x.names; session = n.session; act = act_of e; report = r }

  plain_step : IsPlain its_change → Steps
  plain_step s = record {
    names = m.names;
    change = Stays;
    allows = plainly A ss m e r s.plain;
    tables = same_names s.table;
    opened = s.lookups;
    drawn = plain_draws A e r s.plain;
  }

  looks_step : steps.BeginsLookup its_change → Steps
  looks_step s = record {
    names = m.names;
    change = Opens s.id (pattern_asked n.session s.object s.kind s.zone) None;
    allows = so_at A ss m (moved m m.names (node_of e)
        (Opens s.id (pattern_asked n.session s.object s.kind s.zone) None)) e
        (event.Call (node_of e) (Names (Find s.object s.kind s.zone))) r (report.Names (nbp_report.Looking s.id))
        (called_at e (Names (Find s.object s.kind s.zone)) s.act) s.report
        (record {
          becomes = λ i. next
              (record m {
                lookups = record {
                  node = node_of e;
                  id = s.id;
                  pattern = asked (pattern_asked (told i) s.object s.kind s.zone);
                  claim = None;
                  since = length m.past;
                }
                    ∷ m.lookups;
              });
        });
    tables = same_names s.table;
    opened = s.lookups;
    drawn = ap drawn_by s.report;
  }

  claims_step : steps.BeginsClaim its_change → Steps
  claims_step s =
      let claim : Claimed = record { id = s.id; object = s.object; kind = s.kind; socket = s.socket } in
      record {
        names = m.names;
        change = Opens s.id (any_pattern s.object s.kind) (Some claim);
        allows = so_at A ss m (moved m m.names (node_of e) (Opens s.id (any_pattern s.object s.kind) (Some claim))) e
            (event.Call (node_of e) (Names (Claim s.object s.kind s.socket))) r (report.Names (nbp_report.Looking s.id))
            (called_at e (Names (Claim s.object s.kind s.socket)) s.act) s.report
            (record { becomes = refl });
        tables = same_names s.table;
        opened = s.lookups;
        drawn = ap drawn_by s.report;
      }

  -- an event with this report draws no identifier
  draws_none : (change : sockets.Change) (told : Report A) → r ≡ told → IsDrawn change (drawn_by told)
      → IsDrawn change (drawn_by r)
  draws_none change told is none = subst (λ y. IsDrawn change (drawn_by y)) (sym is) none

  finds_step : steps.EndsLookup its_change → Steps
  finds_step s =
      let o = open_here s.id None s.finds s.stands in
      record {
        names = m.names;
        change = Closes s.id;
        allows =
            so_at A ss m (moved m m.names (node_of e) (Closes s.id)) e (event.Call (node_of e) (Names (Finish s.id))) r
            (report.Names (nbp_report.Found s.finds)) (called_at e (Names (Finish s.id)) s.act) s.report
            (record { lookup = o.lookup; stands = o.stands; claims = o.claims; tells = o.tells; becomes = refl });
        tables = same_names s.table;
        opened = s.lookups;
        drawn = draws_none (Closes s.id) (report.Names (nbp_report.Found s.finds)) s.report tt;
      }

  claimed_step : steps.EndsClaim its_change → Steps
  claimed_step s =
      let o = open_here s.id (Some s.claim) [] s.stands in
      let named = with_names m (node_of e) x.names.table in
      record {
        names = named.names;
        change = Closes s.id;
        allows = so_at A ss m (moved m named.names (node_of e) (Closes s.id)) e
            (event.Call (node_of e) (Names (Finish s.id))) r (report.Names nbp_report.Claimed)
            (called_at e (Names (Finish s.id)) s.act)
            s.report
            (record {
              lookup = o.lookup;
              stands = o.stands;
              claim = s.claim;
              claims = o.claims;
              registers = record {
                allowed = ap (λ (y : Table). register_fault y.names (s.claim).object (s.claim).kind) (sym own_names)
                    ∙ s.allowed;
                table = x.names.table;
                joins = subst (λ (y : Table). IsRegistered (s.claim).object (s.claim).kind
                    (s.claim).socket y x.names.table) own_names s.table;
                becomes = refl;
              };
            });
        tables = λ k. refl;
        opened = s.lookups;
        drawn = draws_none (Closes s.id) (report.Names nbp_report.Claimed) s.report tt;
      }

  lost_step : steps.LosesClaim its_change → Steps
  lost_step s =
      let o = open_here s.id (Some s.claim) s.finds s.stands in
      record {
        names = m.names;
        change = Closes s.id;
        allows =
            so_at A ss m (moved m m.names (node_of e) (Closes s.id)) e (event.Call (node_of e) (Names (Finish s.id))) r
            (report.Names (nbp_report.Taken s.owner)) (called_at e (Names (Finish s.id)) s.act) s.report
            (record {
              lookup = o.lookup;
              stands = o.stands;
              claim = s.claim;
              claims = o.claims;
              taken = taken_by m (node_of e) o.lookup s.claim s.owner n.names own_names s.finds o.tells s.taken;
              becomes = refl;
            });
        tables = same_names s.table;
        opened = s.lookups;
        drawn = draws_none (Closes s.id) (report.Names (nbp_report.Taken s.owner)) s.report tt;
      }

  registers_step : steps.RegistersName its_change → Steps
  registers_step s =
      let named = with_names m (node_of e) x.names.table in
      record {
        names = named.names;
        change = Stays;
        allows = so_at A ss m (moved m named.names (node_of e) Stays) e
            (event.Call (node_of e) (Names (Register s.object s.kind s.socket))) r (report.Names nbp_report.Registered)
            (called_at e (Names (Register s.object s.kind s.socket)) s.act) s.report
            (record {
              allowed = ap (λ (y : Table). register_fault y.names s.object s.kind) (sym own_names) ∙ s.allowed;
              table = x.names.table;
              joins = subst (λ (y : Table). IsRegistered s.object s.kind s.socket y x.names.table) own_names s.table;
              becomes = refl;
            });
        tables = λ k. refl;
        opened = s.lookups;
        drawn = draws_none Stays (report.Names nbp_report.Registered) s.report tt;
      }

  -- the node's names without this one
  abbrev without : List ℕ → List ℕ → Table → Table
  without object kind y = record y { names = without_first (is_called object kind) y.names }

  unregisters_step : steps.TakesAway its_change → Steps
  unregisters_step s =
      let named = with_names m (node_of e) (without s.object s.kind (m.names (node_of e))) in
      record {
        names = named.names;
        change = Stays;
        allows = so_at A ss m (moved m named.names (node_of e) Stays) e
            (event.Call (node_of e) (Names (Unregister s.object s.kind))) r (report.Names nbp_report.Unregistered)
            (called_at e (Names (Unregister s.object s.kind)) s.act) s.report
            (record {
              name = s.name;
              stood = ap (λ (y : Table). find (is_called s.object s.kind) y.names) (sym own_names) ∙ s.stood;
              becomes = refl;
            });
        tables = λ k. ap (λ (y : Table). cond (node_of e == k) y (m.names k))
            (sym (s.table ∙ ap (without s.object s.kind) own_names));
        opened = s.lookups;
        drawn = draws_none Stays (report.Names nbp_report.Unregistered) s.report tt;
      }

  pub step_becomes : IsStep its_change → Steps
  step_becomes (steps.Plain s) = plain_step s
  step_becomes (steps.Looks s) = looks_step s
  step_becomes (steps.Claims s) = claims_step s
  step_becomes (steps.Finds s) = finds_step s
  step_becomes (steps.HasClaimed s) = claimed_step s
  step_becomes (steps.HasLost s) = lost_step s
  step_becomes (steps.Registers s) = registers_step s
  step_becomes (steps.Unregisters s) = unregisters_step s
