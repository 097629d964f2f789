-- How often a play and its history deliver a request.
use Rattle.std.proofs.Common.{◌≡◌, inl, inr, ℕ, ◌+◌, ◌≤◌, Bool, true, false, cond, List, [], ◌∷◌}
use Rattle.std.proofs.Common.{Some, refl, sym, ap, subst, ◌∙◌, arith, lit<}
use Rattle.std.specs.Prelude.{slice_get, ◌||◌, ◌==◌, ◌&&◌}
use Rattle.std.specs.List.{AllByRecursion}
use Rattle.std.proofs.lemmas.Bool.{false≢true, eq-eqb, eqb-true, and_parts}
use Rattle.std.proofs.lemmas.List.{append-nil}
use Rattle.at_ddp.specs.Address.{same_address}
use Rattle.at_ddp.specs.Datagram.{Content as Datagram, BeginsWith, canonical, written}
use Rattle.at_ddp.specs.declared.address.Address.{Address}
use Rattle.at_ddp.proofs.Octets.{same_address-true, same_address_itself}
use Rattle.at_atp_frame.specs.Frames.{Request, IsLawful, IsTimer, Spells, spelled}
use Rattle.at_atp.specs.HandUps as HandUps
use Rattle.at_atp.specs.HandUps.{is_handed_up, hand_ups_since}
use Rattle.at_atp.specs.HandUps.{has_expired as record_expired, AllLived}
use Rattle.at_atp.specs.Lawfully.{IsInRange, IsLawfullySent}
use Rattle.at_atp_frame.specs.Frames.{number_of}
use Rattle.at_ddp.specs.Posts.{AllSent, packet_at}
use Rattle.at_ddp.specs.Protocols.{atp_kind}
use Rattle.at_ddp.proofs.PostLemmas.{sent_at}
use Rattle.at_atp.specs.Network.{Network, Sent, Happening, Takes, Serves, after}
use Rattle.at_atp_responder.specs.Once.{same_key}
use Rattle.at_atp_responder.specs.declared.reception.Key.{Key}
use Rattle.at_event.specs.declared.Report.{Report}
use Rattle.at_event.specs.declared.Report.TheVariants as report
use Rattle.at_event.specs.declared.transactions.TransactionReport.TheVariants as atp_report
use Rattle.at_event.specs.declared.zones.ZoneReport.TheVariants as zip_report
use Rattle.at_world.specs.ExactlyOnce.{Played, CameFrom, HandsUp, Lives, AllLive}
use Rattle.at_world.specs.Sents.{SentDatagram}
use Rattle.at_steps.specs.AtpReports.{came_under}
use Rattle.at_steps.specs.AtpReports as reports
use Rattle.at_world.specs.Events.{act_of, node_of}
use Rattle.at_world.specs.Stories.{Within, Matches, posted_packet}
use Rattle.at_setup.specs.declared.event.Event.{Event}
use Rattle.at_world.proofs.Acts.{delivered_at}
use Rattle.at_world.proofs.Parts.Atp.Counts.{HandsUpAt, NoneOf, OneOf, SomeOf, began_under, expired_is, has_expired}
use Rattle.at_world.proofs.Parts.Atp.Counts.{live_before, steps_since}
use Rattle.at_setup.specs.declared.event.Event.TheVariants as event
use Rattle.at_world.proofs.Parts.Atp.Told.{OnceLaws, Told, within_before}

module _ (A : Type 0) (laws : OnceLaws A) (net : ℕ) (sent : List SentDatagram) where
  pub begins : (s : Sent) → IsLawfullySent s
      → BeginsWith (posted_packet s).bytes (written s.to s.from atp_kind (spelled s.packet)) []
  begins s ok =
      let fits = laws.packet_fits s.packet ok.lawful in
      subst (λ bytes. BeginsWith bytes (written s.to s.from atp_kind (spelled s.packet)) [])
      (append-nil (canonical s.to s.from atp_kind (spelled s.packet)))
      (laws.reads s.to s.from atp_kind (spelled s.packet) [] ok.to_fits ok.from_fits (lit< tt) fits.0 fits.1)

  pub key_parts : (s : Sent) (key : Key) → same_key (record { from = s.from; tid = number_of s.packet }) key ≡ true
      → (s.from ≡ key.from) × (number_of s.packet ≡ key.tid)
  key_parts s key h = let both = and_parts (same_address s.from key.from) (number_of s.packet == key.tid) h in
      (same_address-true s.from key.from both.0, eqb-true (number_of s.packet) key.tid both.1)

  pub came_there : (which : ℕ) (key : Key) (s : Sent) → slice_get sent which ≡ Some (posted_packet s)
      → IsLawfullySent s → same_key (record { from = s.from; tid = number_of s.packet }) key ≡ true
      → CameFrom sent which key
  came_there which key s is ok same =
      let parts = key_parts s key same in
      record {
        datagram = posted_packet s;
        was_sent = is;
        header = written s.to s.from atp_kind (spelled s.packet);
        rest = [];
        begins = begins s ok;
        packet = s.packet;
        spells = laws.packet_reads s.packet ok.lawful;
        sender = parts.0;
        numbered = parts.1;
      }

  -- the packet that came at a place is the one that was sent there, from the same address
  pub came_as : (which : ℕ) (key : Key) (s : Sent) → slice_get sent which ≡ Some (posted_packet s) → IsLawfullySent s
      → (c : CameFrom sent which key) → (s.packet ≡ c.packet) × (s.from ≡ key.from)
  came_as which key s is ok c =
      let one : posted_packet s ≡ c.datagram = some_one (posted_packet s) c.datagram (sym is ∙ c.was_sent) in
      let header : written s.to s.from atp_kind (spelled s.packet)
      ≡ c.header = (laws.alone (posted_packet s).bytes
      (written s.to s.from atp_kind (spelled s.packet)) c.header [] c.rest (begins s ok)
      (subst (λ (d : SentDatagram). BeginsWith d.bytes c.header c.rest) (sym one) c.begins)).0 in (
        laws.packet_alone (spelled s.packet) s.packet c.packet (laws.packet_reads s.packet ok.lawful)
            (subst (λ (d : Datagram). Spells d.data_ c.packet) (sym header) c.spells),
        ap (λ (d : Datagram). d.from) header ∙ c.sender,
      )
    where
      some_one : (a b : SentDatagram) → Some a ≡ Some b → a ≡ b
      some_one a b h = cc

  pub came_so : (which : ℕ) (key : Key) (s : Sent) → slice_get sent which ≡ Some (posted_packet s) → IsLawfullySent s
      → CameFrom sent which key → same_key (record { from = s.from; tid = number_of s.packet }) key ≡ true
  came_so which key s is ok c =
      let both = came_as which key s is ok c in
      let tid : number_of s.packet ≡ key.tid = ap number_of both.0 ∙ c.numbered in
      (λ i. same_address (both.1 i) key.from && tid i == key.tid)
      ∙ (λ i. same_address_itself key.from i && eq-eqb key.tid key.tid refl i)

  -- what the network delivers is what the reports say was delivered
  pub hands_sound : (e : Event A) (r : Report A) (n : Network) (key : Key) → Within sent n
      → AllSent IsLawfullySent n.sent → reports.Finishes net (node_of e) n (act_of e) r → HandsUp sent key e r
      → reports.handed_up_by n.sent (act_of e) r key ≡ true
  hands_sound (event.Call node call) r n key within ok f h = absurd h
  hands_sound (event.Deliver which node) (report.Zones (zip_report.Served count)) n key within ok f h = let it = f.0 in
      ap (λ o. came_under o key) f.1
      ∙ came_so which key it (within which it f.1) (sent_at IsLawfullySent n.sent which it ok f.1) h
  hands_sound (event.Deliver which node) (report.Transactions (atp_report.Asked k user bytes)) n key within ok f h = h
  hands_sound (event.Deliver which node) r n key within ok f h = absurd h
  hands_sound (event.Timer node time) r n key within ok f h = absurd h
  hands_sound (event.Forge node bytes) r n key within ok f h = absurd h

  pub hands_complete : (e : Event A) (r : Report A) (n : Network) (key : Key) → Within sent n
      → AllSent IsLawfullySent n.sent → reports.Finishes net (node_of e) n (act_of e) r
      → reports.handed_up_by n.sent (act_of e) r key ≡ true → HandsUp sent key e r
  hands_complete (event.Call node call) r n key within ok f h = absurd (false≢true h)
  hands_complete (event.Deliver which node) (report.Zones (zip_report.Served count)) n key within ok f h = let it =
      f.0 in
      came_there which key it (within which it f.1) (sent_at IsLawfullySent n.sent which it ok f.1)
      (sym (ap (λ o. came_under o key) f.1) ∙ h)
  hands_complete (event.Deliver which node) (report.Transactions (atp_report.Asked k user bytes)) n key within ok f h =
      h
  hands_complete (event.Deliver which node) r n key within ok f h = absurd (false≢true h)
  hands_complete (event.Timer node time) r n key within ok f h = absurd (false≢true h)
  hands_complete (event.Forge node bytes) r n key within ok f h = absurd (false≢true h)

  -- ---- how often

  pub lawful : (hs : List Happening) → AllByRecursion IsInRange hs → AllSent IsLawfullySent (after A hs).sent
  lawful hs range = laws.lawful_sent hs range

  pub none_go : (x : Played A) (xs : List (Played A)) (key : Key) (k : ℕ) (b u : Bool)
      → (HandsUpAt sent key x → u ≡ true) → cond b 0 (cond u (k + 1) k) ≡ 0
      → (k ≡ 0 → NoneOf (HandsUpAt sent key) (steps_since net xs key))
      → NoneOf (HandsUpAt sent key) (cond b [] (x ∷ steps_since net xs key))
  none_go x xs key k true u sound is before = tt
  none_go x xs key k false true sound is before = absurd (omega (arith, is))
  none_go x xs key k false false sound is before = ((λ hands. false≢true (sound hands)), before is)

  pub none_of : (past : List (Played A)) (hs : List Happening) (key : Key) → Told A net past hs
      → Within sent (after A hs) → AllByRecursion IsInRange hs → hand_ups_since A hs key ≡ 0
      → NoneOf (HandsUpAt sent key) (steps_since net past key)
  none_of [] [] key told within range is = tt
  none_of [] (h ∷ hs) key told within range is = absurd told
  none_of (x ∷ xs) [] key told within range is = absurd told
  none_of (x ∷ xs) (h ∷ hs) key told within range is =
      let m = told.0 in
      let earlier = within_before A sent h hs told.1 within in
      none_go x xs key (hand_ups_since A hs key) (began_under net x.event x.report key)
      (is_handed_up (after A hs) h key)
      (λ hands. m.hands_up key
      ∙ hands_sound x.event x.report (after A hs) key earlier (lawful hs range.1) m.finishes hands)
      (ap (λ b. cond b 0 (cond (is_handed_up (after A hs) h key) (hand_ups_since A hs key + 1)
      (hand_ups_since A hs key))) (sym (m.draws_it key)) ∙ is)
      (λ zero. none_of xs hs key told.2 earlier range.1 zero)

  pub most_go : (x : Played A) (xs : List (Played A)) (key : Key) (k : ℕ) (b u : Bool)
      → (HandsUpAt sent key x → u ≡ true) → cond b 0 (cond u (k + 1) k) ≤ 1
      → (k ≡ 0 → NoneOf (HandsUpAt sent key) (steps_since net xs key))
      → (k ≤ 1 → OneOf (HandsUpAt sent key) (steps_since net xs key))
      → OneOf (HandsUpAt sent key) (cond b [] (x ∷ steps_since net xs key))
  most_go x xs key k true u sound few none most = tt
  most_go x xs key k false true sound few none most = ((λ hands. none (omega (arith, few))), most (omega (arith, few)))
  most_go x xs key k false false sound few none most = ((λ hands. absurd (false≢true (sound hands))), most few)

  pub most_of : (past : List (Played A)) (hs : List Happening) (key : Key) → Told A net past hs
      → Within sent (after A hs) → AllByRecursion IsInRange hs → hand_ups_since A hs key ≤ 1
      → OneOf (HandsUpAt sent key) (steps_since net past key)
  most_of [] [] key told within range few = tt
  most_of [] (h ∷ hs) key told within range few = absurd told
  most_of (x ∷ xs) [] key told within range few = absurd told
  most_of (x ∷ xs) (h ∷ hs) key told within range few =
      let m = told.0 in
      let earlier = within_before A sent h hs told.1 within in
      most_go x xs key (hand_ups_since A hs key) (began_under net x.event x.report key)
      (is_handed_up (after A hs) h key)
      (λ hands. m.hands_up key
      ∙ hands_sound x.event x.report (after A hs) key earlier (lawful hs range.1) m.finishes hands)
      (subst (λ b. cond b 0 (cond (is_handed_up (after A hs) h key) (hand_ups_since A hs key + 1)
      (hand_ups_since A hs key)) ≤ 1) (m.draws_it key) few)
      (λ zero. none_of xs hs key told.2 earlier range.1 zero) (λ one. most_of xs hs key told.2 earlier range.1 one)

  pub some_go : (x : Played A) (xs : List (Played A)) (key : Key) (k : ℕ) (b u : Bool)
      → (u ≡ true → HandsUpAt sent key x) → 1 ≤ cond b 0 (cond u (k + 1) k)
      → (1 ≤ k → SomeOf (HandsUpAt sent key) (steps_since net xs key))
      → SomeOf (HandsUpAt sent key) (cond b [] (x ∷ steps_since net xs key))
  some_go x xs key k true u complete some before = absurd (omega (arith, some))
  some_go x xs key k false true complete some before = inl (complete refl)
  some_go x xs key k false false complete some before = inr (before some)

  pub some_of : (past : List (Played A)) (hs : List Happening) (key : Key) → Told A net past hs
      → Within sent (after A hs) → AllByRecursion IsInRange hs → 1 ≤ hand_ups_since A hs key
      → SomeOf (HandsUpAt sent key) (steps_since net past key)
  some_of [] [] key told within range some = absurd (omega (arith, some))
  some_of [] (h ∷ hs) key told within range some = absurd told
  some_of (x ∷ xs) [] key told within range some = absurd told
  some_of (x ∷ xs) (h ∷ hs) key told within range some =
      let m = told.0 in
      let earlier = within_before A sent h hs told.1 within in
      some_go x xs key (hand_ups_since A hs key) (began_under net x.event x.report key)
      (is_handed_up (after A hs) h key)
      (λ up. hands_complete x.event x.report (after A hs) key earlier (lawful hs range.1) m.finishes
      (sym (m.hands_up key) ∙ up))
      (subst (λ b. 1 ≤ cond b 0
      (cond (is_handed_up (after A hs) h key) (hand_ups_since A hs key + 1) (hand_ups_since A hs key)))
      (m.draws_it key) some)
      (λ one. some_of xs hs key told.2 earlier range.1 one)

  -- ---- records that live

  pub same_expiry : (past : List (Played A)) (hs : List Happening) (at : Address) (key : Key)
      → Told A net past hs → record_expired A hs at key ≡ has_expired net past at key
  same_expiry [] [] at key told = refl
  same_expiry [] (h ∷ hs) at key told = absurd told
  same_expiry (x ∷ xs) [] at key told = absurd told
  same_expiry (x ∷ xs) (h ∷ hs) at key told =
      let m = told.0 in
      let before = same_expiry xs hs at key told.2 in
      λ i. cond (m.draws_it key i) false (m.expires_it at key i || before i)

  at_most_4 : (xo : Bool) (timer : ℕ) → IsTimer xo timer → timer ≤ 4
  at_most_4 true timer h = h
  at_most_4 false timer h = omega (arith, h)

  lives_in : (e : Event A) (past : List (Played A)) (hs : List Happening) (which node : ℕ)
      → e ≡ event.Deliver which node → Told A net past hs → Within sent (after A hs)
      → AllByRecursion IsInRange hs → Lives net sent e past → (s : Sent) (mask : ℕ) (xo : Bool) (timer tid : ℕ)
      (user bytes : List ℕ) → packet_at (after A hs).sent which ≡ Some s
      → s.packet ≡ Request mask xo timer tid user bytes
      → record_expired A hs s.to (record { from = s.from; tid = tid }) ≡ false
  lives_in e past hs which node is told within range lives s mask xo timer tid user bytes was_sent packet_is =
      let ok = sent_at IsLawfullySent (after A hs).sent which s (lawful hs range) was_sent in
      let parts = subst IsLawful packet_is ok.lawful in
      same_expiry past hs s.to (record { from = s.from; tid = tid }) told
      ∙ expired_is A net past s.to (record { from = s.from; tid = tid })
      ∙ subst (λ x. Lives net sent x past) is lives s mask xo timer tid user bytes (within which s was_sent) packet_is
      (at_most_4 xo timer parts.1)

  pub all_lived : (past : List (Played A)) (hs : List Happening) → Told A net past hs → Within sent (after A hs)
      → AllByRecursion IsInRange hs → AllLive net sent past → AllLived A hs
  all_lived [] [] told within range live = tt
  all_lived [] (h ∷ hs) told within range live = absurd told
  all_lived (x ∷ xs) [] told within range live = absurd told
  all_lived (x ∷ xs) (h ∷ hs) told within range live =
      (lived h told.0, all_lived xs hs told.2 earlier range.1 (live_before A net sent x xs live))
    where
      earlier : Within sent (after A hs)
      earlier = within_before A sent h hs told.1 within

      lives : Lives net sent x.event xs
      lives = live [] xs x refl

      lived : (g : Happening) → Matches net x.tables (after A hs) g x.event x.report → HandUps.Lives A hs g
      lived (Takes which) m = lives_in x.event xs hs which (node_of x.event)
          (delivered_at x.event which m.takes_in) told.2 earlier range.1 lives
      lived (Serves which packets) m = lives_in x.event xs hs which (node_of x.event)
          (delivered_at x.event which m.takes_in) told.2 earlier range.1 lives
      lived g m = tt
