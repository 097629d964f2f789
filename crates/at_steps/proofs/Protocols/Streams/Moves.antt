-- A happening at the socket for streams as a step of its node.
use Rattle.std.proofs.Common.{◌≡◌, inr, ℕ, Bool, true, false, cond, List, [], ◌∷◌, ◌++◌, Option, Some, None, Result, Ok}
use Rattle.std.proofs.Common.{Err, refl, sym, ap, subst, ◌∙◌, arith, lit<}
use Rattle.std.specs.Prelude.{◌&&◌, find, take}
use Rattle.std.proofs.lemmas.Bool.{true≢false, eq-eqb, lt-ltb}
use Rattle.std.proofs.lemmas.List.{append-nil}
use Rattle.at_ddp.specs.Datagram.{IsAddress}
use Rattle.at_ddp.specs.declared.address.Address.{Address}
use Rattle.at_adsp_end.specs.declared.fault.StreamFault.{StreamFault}
use Rattle.at_adsp_ends.specs.Calls.{listened}
use Rattle.at_adsp_ends.specs.Tables.{Done, EndTable, by_id}
use Rattle.at_adsp.specs.Connections.{streams}
use Rattle.at_adsp.specs.Lawfully.{IsInRange}
use Rattle.at_ddp.specs.Posts.{put, stamped}
use Rattle.at_ddp.proofs.PostLemmas.{put_itself}
use Rattle.at_steps.specs.Entries.{AreEntries}
use Rattle.at_steps.proofs.Entries.{entries_of}
use Rattle.at_adsp.specs.Network.{Happening, IsTimely, Network, Other, Sent, Setting, after, calls_with, does_with}
use Rattle.at_adsp.specs.Network.{done, listens}
use Rattle.at_adsp.specs.Streams.{Deed, GaveUp, Read, Stream, Wrote, has_number, read_after, with_deed, with_peer}
use Rattle.at_adsp.specs.Streams.{written_after}
use Rattle.at_event.specs.Outcomes.{Outcome, Outgoing, idle, refused_as}
use Rattle.at_event.specs.declared.Report.{Report}
use Rattle.at_event.specs.declared.Report.TheVariants as report
use Rattle.at_event.specs.declared.streams.StreamReport.TheVariants as adsp_report
use Rattle.at_event.specs.declared.seat.Seat.{Seat}
use Rattle.at_node.specs.Numbers.{drawn_by}
use Rattle.at_node.specs.Nodes.{NodeState, with_streams}
use Rattle.at_node.specs.declared.numbers.Draw.{Draw}
use Rattle.at_stream_socket.specs.Calls as sockets
use Rattle.at_stream_socket.specs.Sockets.{sent_of, streams_at}
use Rattle.at_steps.specs.Acts.{Act}
use Rattle.at_steps.specs.StreamHappenings.{Drawn, IsHappening, IsHere, IsOf, Stands, identifiers, is_streams_socket}
use Rattle.at_steps.specs.StreamHappenings.{numbers_drawn, stream_coding}
use Rattle.at_steps.specs.StreamSteps.{Change, HasAnswered, HasAsked, HasOpened, HasRead, HasEnd, HasReset, HasWritten}
use Rattle.at_steps.specs.StreamSteps.{IsStep, Plain, is_plain, named_by}
use Rattle.at_steps.proofs.Protocols.Streams.Below.{AllPaired}
use Rattle.at_steps.proofs.Protocols.Streams.Ends.{Finds, find_mapped}
use Rattle.at_steps.proofs.Protocols.Streams.Passing.{foreign_draws}

abbrev pub IsIts : (A : Type 0) (setting : Setting) (history : List Happening) (n : NodeState) → Act A
    → Outcome A NodeState → Type 0
IsIts A setting history n act o = IsHappening {A = A} setting history n.seat.net n.seat.number n act o

-- ---- identifiers

-- a report that says nothing new draws no identifier
plain_draws : (A : Type 0) (act : Act A) (r : Report A) (event : ℕ) (who : Address) → is_plain act r ≡ true
    → numbers_drawn event who (drawn_by r) ≡ []
plain_draws A act (report.Streams (adsp_report.Opening id)) event who h = absurd (true≢false (sym h))
plain_draws A act (report.Streams (adsp_report.Made id)) event who h = absurd (true≢false (sym h))
plain_draws A act (report.Streams r) event who h = refl
plain_draws A act r event who h = foreign_draws A r event who refl

-- what the ends' users do, and whom the ends open with, leaves their identifiers
peer_keeps : (at : Address) (id : ℕ) (peer : Option ℕ) (ss : List Stream) → identifiers (with_peer at id peer ss)
    ≡ identifiers ss
peer_keeps at id peer [] = refl
peer_keeps at id peer (s ∷ ss) = go (peer_keeps at id peer ss) (has_number at id s)
  where
    go : identifiers (with_peer at id peer ss) ≡ identifiers ss → (b : Bool)
        → identifiers (cond b (record s { peer = peer } ∷ ss) (s ∷ with_peer at id peer ss)) ≡ identifiers (s ∷ ss)
    go ih true = refl
    go ih false = ap (λ (l : List Drawn). record { event = s.birth; who = s.owner; id = s.id } ∷ l) ih

deed_keeps : (at : Address) (id : ℕ) (deed : Deed) (ss : List Stream) → identifiers (with_deed at id deed ss)
    ≡ identifiers ss
deed_keeps at id deed [] = refl
deed_keeps at id deed (s ∷ ss) = go (deed_keeps at id deed ss) (has_number at id s)
  where
    go : identifiers (with_deed at id deed ss) ≡ identifiers ss → (b : Bool)
        → identifiers (cond b (record s { written = written_after deed s.written; read = read_after deed s.read } ∷ ss)
        (s ∷ with_deed at id deed ss)) ≡ identifiers (s ∷ ss)
    go ih true = refl
    go ih false = ap (λ (l : List Drawn). record { event = s.birth; who = s.owner; id = s.id } ∷ l) ih

-- the identifiers after a step are those before it, and the one that its report tells of
module _ (A : Type 0) (c : Change A) where
  abbrev Draws : List Drawn → Type 0
  Draws now = now ≡ numbers_drawn c.event c.at (drawn_by c.report) ++ identifiers c.part

  draws_none : (now : List Drawn) (o : Option Draw) → drawn_by c.report ≡ o → numbers_drawn c.event c.at o ≡ [] → now
      ≡ identifiers c.part → Draws now
  draws_none now o is none same = same
      ∙ ap (λ (l : List Drawn). l ++ identifiers c.part) (sym (ap (numbers_drawn c.event c.at) is ∙ none))

  draws_one : (id : ℕ) (now : List Drawn) (r : Report A) → c.report ≡ r → now
      ≡ numbers_drawn c.event c.at (drawn_by r) ++ identifiers c.part → Draws now
  draws_one id now r is h = h
      ∙ ap (λ (x : Report A). numbers_drawn c.event c.at (drawn_by x) ++ identifiers c.part) (sym is)

  pub step_draws : IsStep c → Draws (identifiers c.now)
  step_draws (Plain s) = draws_none (identifiers c.now) (drawn_by c.report) refl
      (plain_draws A c.act c.report c.event c.at s.plain) (ap identifiers s.streams)
  step_draws (HasAsked s) =
      draws_one s.id (identifiers c.now) (report.Streams (adsp_report.Opening s.id)) s.report (ap identifiers s.streams)
  step_draws (HasAnswered s) =
      draws_one s.id (identifiers c.now) (report.Streams (adsp_report.Made s.id)) s.report (ap identifiers s.streams)
  step_draws (HasOpened s) = draws_none (identifiers c.now) None (ap drawn_by s.report) refl
      (let opens = s.opens in ap identifiers opens.becomes ∙ peer_keeps c.at s.id (Some (opens.peer).birth) c.part)
  step_draws (HasWritten s) = draws_none (identifiers c.now) None (ap drawn_by s.report) refl
      (ap identifiers s.streams ∙ deed_keeps c.at s.id (Wrote (take s.count s.items)) c.part)
  step_draws (HasRead s) = draws_none (identifiers c.now) None (ap drawn_by s.report) refl
      (ap identifiers s.streams ∙ deed_keeps c.at s.id (Read s.items) c.part)
  step_draws (HasReset s) = draws_none (identifiers c.now) None (ap drawn_by s.report) refl
      (ap identifiers s.streams ∙ deed_keeps c.at s.id GaveUp c.part)

-- ---- tables and what is sent

-- the network after a step of one socket, whose ends become these
pub record Becomes (old new : Network) (at : Address) (t : EndTable) (out : List Outgoing) : Type 0 where
  pub same_event : new.event ≡ old.event
  pub tables : (a : Address) → new.tables a ≡ put old.tables at t a
  pub more : List (Option Sent)
  pub sent : new.sent ≡ old.sent ++ more
  pub posts : AreEntries stream_coding old.event out more

pub stays : (old : Network) (at : Address) (t : EndTable) → old.tables at ≡ t → Becomes old old at t []
stays old at t is = record {
  same_event = refl;
  tables = put_itself old.tables at t is;
  more = [];
  sent = sym (append-nil old.sent);
  posts = tt;
}

pub becomes_done : {X : Type 0} (setting : Setting) (old : Network) (s : Seat) (deed : Deed) (d : Done X)
    → Becomes old (does_with deed setting old (streams_at s.net s.number) d) (streams_at s.net s.number) d.after
    (sent_of s d.sent)
becomes_done setting old s deed d = record {
  same_event = refl;
  tables = λ a. refl;
  more = stamped old.event (streams_at s.net s.number) d.sent;
  sent = refl;
  posts = entries_of stream_coding old.event (streams_at s.net s.number) d.sent;
}

pub becomes_called : {A X : Type 0} (setting : Setting) (old : Network) (s : Seat) (t : EndTable) (deed : X → Deed)
    (told : X → Report A) (r : Result (Done X) StreamFault) → old.tables (streams_at s.net s.number) ≡ t
    → Becomes old (calls_with deed setting old (streams_at s.net s.number) r) (streams_at s.net s.number)
    (sockets.called s t told r).state (sockets.called s t told r).out
becomes_called setting old s t deed told (Err fault) is = stays old (streams_at s.net s.number) t is
becomes_called setting old s t deed told (Ok d) is = becomes_done setting old s (deed d.answer) d

pub becomes_listening : (old : Network) (at : Address) (t : EndTable) (on : Bool) → old.tables at ≡ t
    → Becomes old (listens old at on) at (listened t on) []
becomes_listening old at t on is = record {
  same_event = refl;
  tables = λ a. ap (λ x. put old.tables at (listened x on) a) is;
  more = [];
  sent = sym (append-nil old.sent);
  posts = tt;
}

-- ---- steps of the node

module _ (A : Type 0) (setting : Setting) (history : List Happening) (n : NodeState)
    (st : Stands setting history n.seat.net n.seat.number n) where
  abbrev pub before : Network
  before = after setting history

  abbrev pub own : Address
  own = streams_at n.seat.net n.seat.number

  pub its_own : is_streams_socket n.seat.net own ≡ true
  its_own = λ i. eq-eqb n.seat.net n.seat.net refl i
      && ((lt-ltb 0 n.seat.number st.some_number i && lt-ltb n.seat.number 255 st.small_number i) && true)

  pub fits : IsAddress own
  fits = let small = st.small_number in record { net = st.small_net; node = omega (arith, small); socket = lit< tt }

  -- the streams are these now, at this report
  abbrev pub changed : Act A → Report A → List Stream → Change A
  changed act r now = record {
    part = streams before;
    now = now;
    event = before.event;
    at = own;
    sent = before.sent;
    session = n.session;
    act = act;
    report = r;
  }

  pub happens : (act : Act A) (o : Outcome A EndTable) (h : Happening) → IsTimely setting before h → IsInRange h
      → IsHere n.seat.net h → IsOf n.session own act o.report h
      → Becomes before (done setting before h) own o.state o.out
      → IsStep (changed act o.report (streams (done setting before h)))
      → IsIts A setting history n act (record { report = o.report; state = with_streams n o.state; out = o.out })
  happens act o h timely in_range here is_of b step = (
    record {
      happening = h;
      timely = timely;
      in_range = in_range;
      here = here;
      is_of = is_of;
      same_event = b.same_event;
      tables = b.tables;
      more = b.more;
      sent = b.sent;
      posts = b.posts;
      drawn = step_draws A (changed act o.report (streams (done setting before h))) step;
    },
    step,
  )

  -- an end that stands was made
  pub has_end : AllPaired → (c : Change A) (id : ℕ) → c.at ≡ own → c.part ≡ streams before → Finds n.streams id
      → HasEnd c id
  has_end paired c id there same found =
      let pairs = paired setting history st.timely in
      let stands = pairs.standing own id found.0 (ap (λ (t : EndTable). by_id t id) st.stands ∙ found.1) in
      record {
        stream = (stands.0).stream;
        made = (λ i. find (has_number (there i) id) (same i)) ∙ find_mapped own id before.made stands.0 stands.1;
      }

  -- a report that names no end, or one that stands
  abbrev pub NamesEnd : Option ℕ → Type 0
  NamesEnd None = Unit {0}
  NamesEnd (Some id) = Finds n.streams id

  named : (o : Option ℕ) → NamesEnd o → (id : ℕ) → o ≡ Some id → Finds n.streams id
  named None f id is = absurd (cc)
  named (Some k) f id is = let same : k ≡ id = cc in subst (Finds n.streams) same f

  pub plain_step : AllPaired → (act : Act A) (r : Report A) (now : List Stream) → is_plain act r ≡ true
      → NamesEnd (named_by r) → now ≡ streams before → IsStep (changed act r now)
  plain_step paired act r now plain names same =
      Plain (record {
        plain = plain;
        stands = λ id is. has_end paired (changed act r now) id refl refl (named (named_by r) names id is);
        streams = same;
      })

  -- a refusal
  pub refused_step : AllPaired → (act : Act A) (number : Option ℕ) (now : List Stream) → now ≡ streams before
      → IsStep (changed act (refused_as number) now)
  refused_step paired act None now same = plain_step paired act report.NoMemory now refl tt same
  refused_step paired act (Some k) now same = plain_step paired act (report.Refused k) now refl tt same

  -- nothing happens here
  pub idles : AllPaired → (act : Act A) (r : Report A) → is_plain act r ≡ true → NamesEnd (named_by r)
      → IsIts A setting history n act (idle n r)
  idles paired act r plain names =
      happens act (idle n.streams r) (Other 0) tt tt tt (inr (0, refl))
      (record {
        same_event = refl;
        tables = put_itself before.tables own n.streams st.stands;
        more = [];
        sent = refl;
        posts = tt;
      })
      (plain_step paired act r (streams before) plain names refl)

  pub refused : AllPaired → (act : Act A) (number : Option ℕ)
      → IsIts A setting history n act (idle n (refused_as number))
  refused paired act None = idles paired act report.NoMemory refl tt
  refused paired act (Some k) = idles paired act (report.Refused k) refl tt
