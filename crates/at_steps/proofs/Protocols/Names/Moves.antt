-- A step of the socket for names as a step of its node, and an event that leaves the socket as it was.
use Rattle.std.proofs.Common.{◌≡◌, ℕ, ◌<◌, Bool, true, false, cond, List, [], Option, Some, None, refl, sym, ap, subst}
use Rattle.std.proofs.Common.{◌∙◌, arith, lit<}
use Rattle.std.specs.Prelude.{◌&&◌}
use Rattle.std.proofs.lemmas.Bool.{eq-eqb, lt-ltb}
use Rattle.at_ddp.specs.Address.{same_address}
use Rattle.at_ddp.specs.declared.address.Address.{Address}
use Rattle.at_ddp.proofs.Octets.{same_address-true}
use Rattle.at_nbp.specs.Lookups.{AreLookups}
use Rattle.at_ddp.specs.Posts.{put, stamped}
use Rattle.at_steps.specs.Entries.{AreEntries}
use Rattle.at_steps.proofs.Entries.{entries_of}
use Rattle.at_nbp.specs.Network.{Begun, FindsStood, Happening, Setting, after, done}
use Rattle.at_name_socket.specs.NameSockets.{SocketState, names_of}
use Rattle.at_name_socket.specs.Sockets as sockets
use Rattle.at_name_socket.specs.Sockets.{Stays}
use Rattle.at_name_socket.specs.Steps as steps
use Rattle.at_name_socket.specs.Steps.{StandsLawfully, begun_with}
use Rattle.at_node.specs.Numbers.{drawn_by}
use Rattle.at_node.specs.NameCalls.{sent_of}
use Rattle.at_node.specs.Nodes.{NodeState, with_names}
use Rattle.at_event.specs.Outcomes.{Outcome, idle, refused_as}
use Rattle.at_node.specs.declared.numbers.Draw.{Draw}
use Rattle.at_event.specs.declared.Report.{Report}
use Rattle.at_event.specs.declared.Report.TheVariants as report
use Rattle.at_session.specs.Sessions.{SessionState}
use Rattle.at_steps.specs.Acts.{Act}
use Rattle.at_steps.specs.NameHappenings.{BeginsBy, Happens, IsHappening, Stands, is_names_socket, name_coding}
use Rattle.at_steps.specs.NameSteps.{IsStep, Plain, is_plain}
use Rattle.at_steps.proofs.Kept.{in_session}
use Rattle.at_steps.proofs.Protocols.Names.Below.{NothingHappens}

abbrev pub IsIts : (A : Type 0) (setting : Setting) (history : List Happening) (n : NodeState) → Act A
    → Outcome A NodeState → Type 0
IsIts A setting history n act o = IsHappening {A = A} setting history n.seat.net n.seat.number n act o

-- whatever the session keeps, it is the same happening
pub keeping : (A : Type 0) (setting : Setting) (history : List Happening) (n : NodeState) (act : Act A)
    (o : Outcome A NodeState) (kept : SessionState) → IsIts A setting history n act o
    → IsIts A setting history n act (in_session kept o)
keeping A setting history n act o kept (h, step) = (
  record {
    happening = h.happening;
    timely = h.timely;
    answered = h.answered;
    in_range = h.in_range;
    asked = h.asked;
    same_event = h.same_event;
    tables = h.tables;
    lookups = h.lookups;
    more = h.more;
    sent = h.sent;
    posts = h.posts;
    begun = h.begun;
    socket = h.socket;
    own = h.own;
  },
  step,
)

-- a step of the socket, to this socket
abbrev pub StepTo : (A : Type 0) (n : NodeState) → Act A → SocketState → Report A → Type 0
StepTo A n act new r = IsStep {A = A} (record { part = n.names; now = new; session = n.session; act = act; report = r })

-- the values at all addresses, if that at one is new and the others stay
put_at : {X : Type 0} (g f : Address → X) (at : Address) (x : X) → g at ≡ x
    → ((a : Address) → same_address at a ≡ false → g a ≡ f a) → (a : Address) → g a ≡ put f at x a
put_at g f at x here others a = go (same_address at a) refl
  where
    go : (b : Bool) → same_address at a ≡ b → g a ≡ cond b x (f a)
    go true e = ap g (sym (same_address-true at a e)) ∙ here
    go false e = others a e

its_own : (net number : ℕ) → number < 255 → is_names_socket net (names_of net number) ≡ true
its_own net number small = λ i. eq-eqb net net refl i && (lt-ltb number 255 small i && true)

-- the begun lookups after an event that draws no identifier
pub draws_none : (event : ℕ) (who : Address) (o : Option Draw) (before now : List Begun) → o ≡ None → now ≡ before
    → BeginsBy event who o before now
draws_none event who o before now none is = subst (λ d. BeginsBy event who d before now) (sym none) is

module _ (A : Type 0) (setting : Setting) (history : List Happening) (n : NodeState)
    (st : Stands setting history n.seat.net n.seat.number n) where
  pub stands_lawfully : FindsStood setting history
      → StandsLawfully (after setting history) (names_of n.seat.net n.seat.number) n.names
  stands_lawfully stood =
      let small = st.small_number in
      let here = st.stands in
      record {
        stands = st.stands;
        socket = st.socket;
        lookups = subst AreLookups here.lookups (stood.lawful (names_of n.seat.net n.seat.number));
        own = st.own;
        fits = record { net = st.small_net; node = omega (arith, small); socket = lit< tt };
      }

  -- the lookups that began after the socket's step are those that the report tells of
  abbrev pub Draws : sockets.Change → Report A → Type 0
  Draws change r =
      (now : List Begun) → now
      ≡ begun_with (after setting history).begun (after setting history).event
      (names_of n.seat.net n.seat.number) change
      → BeginsBy (after setting history).event (names_of n.seat.net n.seat.number) (drawn_by r)
      (after setting history).begun now

  -- a step of the socket is one of the node
  pub moved : (act : Act A) (r : Report A) (new : SocketState) (change : sockets.Change)
      (pushes : List (Address × List ℕ))
      → steps.Happens (after setting history) (names_of n.seat.net n.seat.number) n.names new change pushes
      → Draws change r
      → Happens setting history n.seat.net n.seat.number n act
      (record { report = r; state = with_names n new; out = sent_of n.seat pushes })
  moved act r new change pushes h draws =
      let i = h.is in
      let b = i.becomes in
      let now = b.stands in
      record {
        happening = h.happening;
        timely = i.timely;
        answered = i.answered;
        in_range = i.in_range;
        asked = i.asks (is_names_socket n.seat.net) (its_own n.seat.net n.seat.number st.small_number);
        same_event = b.same_event;
        tables = put_at (done (after setting history) h.happening).tables (after setting history).tables
            (names_of n.seat.net n.seat.number) new.table now.table (λ a apart. (b.others a apart).0);
        lookups = put_at (done (after setting history) h.happening).lookups (after setting history).lookups
            (names_of n.seat.net n.seat.number) new.lookups now.lookups (λ a apart. (b.others a apart).1);
        more = stamped (after setting history).event (names_of n.seat.net n.seat.number) b.packets;
        sent = b.sent;
        posts = subst (λ l. AreEntries name_coding (after setting history).event (sent_of n.seat l)
            (stamped (after setting history).event (names_of n.seat.net n.seat.number) b.packets)) (sym b.are)
            (entries_of name_coding (after setting history).event (names_of n.seat.net n.seat.number) b.packets);
        begun = draws (done (after setting history) h.happening).begun b.begun;
        socket = b.socket;
        own = b.own ∙ st.own;
      }

  -- ---- nothing happens here

  pub idle_moves : FindsStood setting history → NothingHappens → (act : Act A) (r : Report A) → is_plain act r ≡ true
      → drawn_by r ≡ None → IsIts A setting history n act (idle n r)
  idle_moves stood nothing act r plain none =
      let h = nothing (after setting history) (names_of n.seat.net n.seat.number) n.names (stands_lawfully stood) in (
        moved act r n.names Stays [] h
            (λ now is. draws_none (after setting history).event (names_of n.seat.net n.seat.number) (drawn_by r)
            (after setting history).begun now none is),
        Plain (record { plain = plain; table = refl; lookups = λ id. refl }),
      )

  pub refused_moves : FindsStood setting history → NothingHappens → (act : Act A) (number : Option ℕ)
      → IsIts A setting history n act (idle n (refused_as number))
  refused_moves stood nothing act None = idle_moves stood nothing act report.NoMemory refl refl
  refused_moves stood nothing act (Some k) = idle_moves stood nothing act (report.Refused k) refl refl
