-- Each packet that comes to the socket as a happening of the network.
use Rattle.std.proofs.Common.{◌≡◌, ℕ, true, List, [], ◌∷◌, map, length, find, Option, Some, None, refl, sym, ap, subst}
use Rattle.std.proofs.Common.{◌∙◌, append-nil, arith}
use Rattle.std.specs.List.{AllByRecursion}
use Rattle.at_ddp.specs.Datagram.{IsAddress}
use Rattle.at_ddp.specs.declared.address.Address.{Address}
use Rattle.at_ddp.proofs.Alls.{all_found}
use Rattle.at_name_socket.specs.NameSockets.{AnswersTo, Relays, SocketState, Takes, is_node, relayed_in, zone_of}
use Rattle.at_name_socket.specs.NameSockets.{zone_or}
use Rattle.at_name_socket.specs.Sockets.{Stays}
use Rattle.at_name_socket.specs.Steps.{Becomes, Comes, Happens, StandsLawfully, spelled}
use Rattle.at_name_socket.specs.declared.neighbour.Neighbour.{Neighbour}
use Rattle.at_name_socket.specs.declared.step.Heard.{Heard}
use Rattle.at_nbp.specs.Lookups.{Lookups, heard}
use Rattle.at_nbp.specs.NameTables.{Table}
use Rattle.at_ddp.specs.Posts.{packet_at, put}
use Rattle.at_ddp.proofs.PostLemmas.{put_here, put_there}
use Rattle.at_name_socket.proofs.ClosedLemmas.{reply_lawful, reply_opens}
use Rattle.at_nbp.specs.Network.{Answers, AreMatches, Hears, Network, Relays as Relaying, Sent, answers, done, hears}
use Rattle.at_nbp.specs.Network.{is_fresh, relays, reply_to}
use Rattle.at_nbp.specs.Packets.{Content, HasCount}
use Rattle.at_nbp.specs.Relays.{asks_router, relayed}
use Rattle.at_nbp.specs.Replies.{AreReplies, matching, pattern_of, sent_reply}
use Rattle.at_nbp.specs.Tuples.{Entry, IsString}
use Rattle.at_nbp.specs.declared.function.Function.{Function}
use Rattle.at_nbp.specs.declared.function.Function.TheVariants.{BroadcastRequest, LookUp, Reply, ForwardRequest}
use Rattle.at_name_socket.proofs.StepLemmas.{passes}

-- ---- a lookup

replies_are : (to : Address) (id : ℕ) (replies : List (List Entry)) → map (sent_reply id to) replies
    ≡ map spelled (map (reply_to to id) replies)
replies_are to id [] = refl
replies_are to id (r ∷ rs) = ap (λ l. sent_reply id to r ∷ l) (replies_are to id rs)

answer_happens : (n : Network) (at : Address) (s : SocketState) (which : ℕ) (x : Sent) (t : Entry) (ts : List Entry)
    (replies : List (List Entry)) → StandsLawfully n at s → packet_at n.sent which ≡ Some x →
    (x.packet).tuples ≡ t ∷ ts → (x.packet).function ≡ LookUp → AreReplies (matching s.table (pattern_of t)) replies
    → Happens n at s s Stays (map (sent_reply (x.packet).id t.address) replies)
answer_happens n at s which x t ts replies st is are named full =
    let here = st.stands in
    let to : done n (Answers which at replies) ≡ answers n at replies (Some x) = ap (answers n at replies) is in
    let pushes = map (sent_reply (x.packet).id t.address) replies in
    let sends : List Entry → Network =
    λ l. answers n at replies (Some (record x { packet = record x.packet { tuples = l } })) in
    let becomes : Becomes n (sends (t ∷ ts)) at s s Stays pushes = record {
      stands = record { table = here.table; lookups = here.lookups };
      others = λ a apart. (refl, refl);
      same_event = refl;
      begun = refl;
      packets = map (reply_to t.address (x.packet).id) replies;
      sent = refl;
      are = replies_are t.address (x.packet).id replies;
      opened = λ other. refl;
      socket = st.socket;
      own = refl;
    } in
    let fit : AreMatches (n.tables at) replies (x.packet).tuples = subst (AreMatches (n.tables at) replies) (sym are)
    (subst (λ (table : Table). AreReplies (matching table (pattern_of t)) replies) (sym here.table) full) in
    record {
      happening = Answers which at replies;
      is =
          record {
            becomes = subst (λ (m : Network). Becomes n m at s s Stays pushes) (sym (to ∙ ap sends are)) becomes;
            timely = tt;
            answered = λ y there. let same : x
                ≡ y = cc in subst (λ (z : Sent). ((z.packet).function ≡ LookUp)
                × AreMatches (n.tables at) replies (z.packet).tuples) same (named, fit);
            in_range = st.fits;
            asks = λ these is. tt;
          };
    }

answers_happen : (n : Network) (at : Address) (s : SocketState) (which : ℕ) (x : Sent) (tuples : List Entry)
    (h : Heard) (pushes : List (Address × List ℕ)) → StandsLawfully n at s →
    packet_at n.sent which ≡ Some x → (x.packet).tuples ≡ tuples → (x.packet).function ≡ LookUp
    → AnswersTo s (x.packet).id tuples h pushes → Happens n at s s Stays pushes
answers_happen n at s which x [] h pushes st is are named a =
    subst (Happens n at s s Stays) (sym a.1) (passes n at s st)
answers_happen n at s which x (t ∷ ts) h pushes st is are named a =
    let r = a.1 in
    subst (Happens n at s s Stays) (sym r.2) (answer_happens n at s which x t ts r.0 st is are named r.1)

-- ---- a request

relay_happens : (n : Network) (at : Address) (s : SocketState) (which : ℕ) (x : Sent) (to : Address) (zone : List ℕ)
    → StandsLawfully n at s → IsAddress to → IsString zone → packet_at n.sent which ≡ Some x →
    asks_router (x.packet).function ≡ true → Happens n at s s Stays (spelled (to, relayed zone x.packet) ∷ [])
relay_happens n at s which x to zone st fits known is asks =
    let here = st.stands in
    let becomes : Becomes n (relays n at to zone (Some x)) at s s Stays (spelled (to, relayed zone x.packet) ∷ []) =
    record {
      stands = record { table = here.table; lookups = here.lookups };
      others = λ a apart. (refl, refl);
      same_event = refl;
      begun = refl;
      packets = (to, relayed zone x.packet) ∷ [];
      sent = refl;
      are = refl;
      opened = λ other. refl;
      socket = st.socket;
      own = refl;
    } in
    record {
      happening = Relaying which at to zone;
      is =
          record {
            becomes = subst (λ (m : Network). Becomes n m at s s Stays (spelled (to, relayed zone x.packet) ∷ []))
                (sym (ap (relays n at to zone) is)) becomes;
            timely = tt;
            answered = λ y there. let same : x
                ≡ y = cc in subst (λ (z : Sent). asks_router (z.packet).function ≡ true) same asks;
            in_range = (st.fits, fits, known);
            asks = λ these is. tt;
          };
    }

-- every node of the same network
everyone_fits : (own at : Address) → own ≡ at → IsAddress at → IsAddress (record own { node = 255 })
everyone_fits own at is fits = let same = subst IsAddress (sym is) fits in
    record { net = same.net; node = omega arith; socket = same.socket }

zone_known : (own : List ℕ) (neighbours : List Neighbour) (node : ℕ) → IsString own
    → AllByRecursion (λ (n : Neighbour). IsString n.zone) neighbours → IsString (zone_of own neighbours node)
zone_known own neighbours node fits all = go (find (is_node node) neighbours) refl
  where
    go : (o : Option Neighbour) → find (is_node node) neighbours ≡ o → IsString (zone_or own o)
    go None e = fits
    go (Some n) e = (all_found (λ (m : Neighbour). IsString m.zone) (is_node node) neighbours n all e).0

one_relayed : (s : SocketState) (neighbours : List Neighbour) (p : Content) (tuples : List Entry) → p.tuples ≡ tuples
    → length tuples ≡ 1 →
    (t : Entry) × (spelled (
      record s.table.own { node = 255 },
      relayed
          (zone_of s.table.zone neighbours t.address.node) p,
    ) ∷ [] ≡ relayed_in s neighbours p)
one_relayed s neighbours p [] are one = absurd (omega (arith, one))
one_relayed s neighbours p (t ∷ u ∷ ts) are one = absurd (omega (arith, one))
one_relayed s neighbours p (t ∷ []) are one = (
  t,
  ap (map (λ (e : Entry). spelled
      (record s.table.own { node = 255 }, relayed (zone_of s.table.zone neighbours e.address.node) p))) (sym are),
)

relays_happen : (n : Network) (at : Address) (s : SocketState) (which : ℕ) (x : Sent)
    (neighbours : Option (List Neighbour)) (h : Heard) (pushes : List (Address × List ℕ)) → s.neighbours ≡ neighbours
    → StandsLawfully n at s →
    packet_at n.sent which ≡ Some x → length (x.packet).tuples ≡ 1 → asks_router (x.packet).function ≡ true
    → Relays s x.packet neighbours h pushes → Happens n at s s Stays pushes
relays_happen n at s which x None h pushes are st is one asks r =
    subst (Happens n at s s Stays) (sym r.1) (passes n at s st)
relays_happen n at s which x (Some neighbours) h pushes are st is one asks r =
    let sent = one_relayed s neighbours x.packet (x.packet).tuples refl one in
    let lawful = st.socket in
    let known = zone_known s.table.zone neighbours ((sent.0).address).node lawful.zone
    (lawful.neighbours neighbours are) in
    subst (Happens n at s s Stays) (sent.1 ∙ sym r.1)
    (relay_happens n at s which x (record s.table.own { node = 255 })
    (zone_of s.table.zone neighbours ((sent.0).address).node) st
    (everyone_fits s.table.own at st.own st.fits) known is asks)

-- ---- a reply

reply_happens : (n : Network) (at : Address) (s : SocketState) (which : ℕ) (x : Sent) → StandsLawfully n at s
    → packet_at n.sent which ≡ Some x → x.to ≡ at → is_fresh n.begun x ≡ true →
    Happens n at s (record s { lookups = (heard s.lookups x.packet).after }) Stays []
reply_happens n at s which x st is here fresh =
    let stands = st.stands in
    let new : SocketState = record s { lookups = (heard s.lookups x.packet).after } in
    let hearing : Address → Network =
    λ a. record n { lookups = put n.lookups a (heard (n.lookups a) x.packet).after } in
    let to : done n (Hears which) ≡ hearing at = ap (hears n) is ∙ ap hearing here in
    let becomes : Becomes n (hearing at) at s new Stays [] = record {
      stands = record {
        table = stands.table;
        lookups = put_here n.lookups at (heard (n.lookups at) x.packet).after
            ∙ ap (λ (l : Lookups). (heard l x.packet).after) stands.lookups;
      };
      others = λ a apart. (refl, put_there n.lookups at a (heard (n.lookups at) x.packet).after apart);
      same_event = refl;
      begun = refl;
      packets = [];
      sent = sym (append-nil n.sent);
      are = refl;
      opened = reply_opens s x.packet;
      socket = reply_lawful s x.packet st.socket;
      own = refl;
    } in
    record {
      happening = Hears which;
      is =
          record {
            becomes = subst (λ (m : Network). Becomes n m at s new Stays []) (sym to) becomes;
            timely = λ y there. let same : x ≡ y = cc in subst (λ (z : Sent). is_fresh n.begun z ≡ true) same fresh;
            answered = tt;
            in_range = tt;
            asks = λ these is. tt;
          };
    }

-- ---- any packet

packet_happens : (n : Network) (at : Address) (s : SocketState) (which : ℕ) (x : Sent) (function : Function)
    (h : Heard) (new : SocketState) (pushes : List (Address × List ℕ)) → StandsLawfully n at s →
    packet_at n.sent which ≡ Some x → (x.packet).function ≡ function → HasCount function (length (x.packet).tuples)
    → (function ≡ Reply → x.to ≡ at) → (function ≡ Reply → is_fresh n.begun x ≡ true) →
    Takes s x.packet function h new pushes → Happens n at s new Stays pushes
packet_happens n at s which x LookUp h new pushes st is named count here fresh t =
    subst (λ (u : SocketState). Happens n at s u Stays pushes) (sym t.1)
    (answers_happen n at s which x (x.packet).tuples h pushes st is refl named t.0)
packet_happens n at s which x BroadcastRequest h new pushes st is named count here fresh t =
    subst (λ (u : SocketState). Happens n at s u Stays pushes) (sym t.1)
    (relays_happen n at s which x s.neighbours h pushes refl st is count (ap asks_router named) t.0)
packet_happens n at s which x ForwardRequest h new pushes st is named count here fresh t =
    subst (λ (u : SocketState). Happens n at s u Stays pushes) (sym t.1)
    (relays_happen n at s which x s.neighbours h pushes refl st is count (ap asks_router named) t.0)
packet_happens n at s which x Reply h new pushes st is named count here fresh t =
    subst (Happens n at s new Stays) (sym t.2)
    (subst (λ (u : SocketState). Happens n at s u Stays []) (sym t.1)
    (reply_happens n at s which x st is (here refl) (fresh refl)))

pub comes_happens : (n : Network) (at : Address) (s : SocketState) (which : ℕ) (h : Heard) (new : SocketState)
    (pushes : List (Address × List ℕ)) → StandsLawfully n at s → Comes n at s which h new pushes →
    Happens n at s new Stays pushes
comes_happens n at s which h new pushes st c =
    packet_happens n at s which c.sent ((c.sent).packet).function h new pushes st c.is refl c.counted c.here c.fresh
    c.takes
