-- All that is sent in a network is in range, if what is asked and registered is.
use Rattle.std.proofs.Common.{◌≡◌, ℕ, zero, suc, ◌+◌, ◌%◌, ◌<◌, Bool, true, false, cond, List, [], ◌∷◌, ◌++◌, length}
use Rattle.std.proofs.Common.{map, replicate, Option, Some, None, refl, sym, subst, arith}
use Rattle.std.specs.Prelude.{All, IfSome, nat_lt, slice_get}
use Rattle.std.specs.List.{AllByRecursion, list_any}
use Rattle.at_ddp.specs.Datagram.{IsAddress}
use Rattle.at_ddp.specs.Tables.{without_first}
use Rattle.at_ddp.specs.declared.address.Address.{Address}
use Rattle.at_ddp.proofs.Alls.{all_at, all_both, all_found, all_replaced, all_without}
use Rattle.at_nbp.specs.Lawfully.{IsInRange, IsLawfulSetting, IsLawfullySent, IsName, IsNamed}
use Rattle.at_nbp.specs.Lookups as lookups
use Rattle.at_nbp.specs.Lookups.{Lookups, Search, answered, beginning, closed, free_id, has_id, heard, is_reply}
use Rattle.at_nbp.specs.Lookups.{next_id, question, reply_came, search_of}
use Rattle.at_nbp.specs.NameTables.{Table, is_called}
use Rattle.at_nbp.specs.Names.{is_match}
use Rattle.at_ddp.specs.Posts.{packet_at, packet_of, put, stamped}
use Rattle.at_ddp.proofs.PostLemmas.{put_all}
use Rattle.at_ddp.proofs.NumberLemmas.{is_free}
use Rattle.at_nbp.specs.Network.{AllTimely, Answers, AreMatches, Begins, Claims, Finishes, Happening, Hears, IsAnswered}
use Rattle.at_nbp.specs.Network.{Network, Other, Registers, Relays, Retries, Sent, Setting, Unregisters, after, answers}
use Rattle.at_nbp.specs.Network.{answers_with, begins, done, finishes, hears, relays, reply_to, retries, with_names}
use Rattle.at_nbp.specs.Network.{with_sent}
use Rattle.at_nbp.specs.Packets.{Content}
use Rattle.at_nbp.specs.Relays.{relayed}
use Rattle.at_nbp.specs.Replies.{matching, name_in, pattern_of}
use Rattle.at_nbp.specs.Tuples.{Entry, IsString, IsTuple}
use Rattle.at_nbp.specs.declared.function.Function.TheVariants.{Reply}
use Rattle.at_nbp.specs.declared.name.Name.{Name}
use Rattle.at_nbp.specs.declared.names.Registered.{Registered}
use Rattle.at_nbp.proofs.Ranges.{IsAsked, IsSpelled, asked_fits, by_place, entries_fit, first_tuple, question_fits}
use Rattle.at_nbp.proofs.Ranges.{relayed_fits, replies_fit}

record TableFits (at : Address) (t : Table) : Type 0 where
  pub own : t.own ≡ at
  pub zone : IsString t.zone
  pub names : AllByRecursion IsNamed t.names

record LookupsFit (who : Address) (l : Lookups) : Type 0 where
  pub own : l.own ≡ who
  pub to : IsAddress who → IsAddress l.to
  pub next : l.next < 256
  pub asked : AllByRecursion IsAsked l.searches

abbrev SentFits : List (Option Sent) → Type 0
SentFits sent = AllByRecursion (λ (o : Option Sent). IfSome o IsLawfullySent) sent

record Fits (n : Network) : Type 0 where
  pub tables : (at : Address) → TableFits at (n.tables at)
  pub lookups : (who : Address) → LookupsFit who (n.lookups who)
  pub sent : SentFits n.sent

-- ---- what is sent

abbrev CanBeSent : Address × Content → Type 0
CanBeSent x = IsAddress x.0 × IsSpelled x.1

stamped_fits : (event : ℕ) (from : Address) (packets : List (Address × Content)) → IsAddress from
    → AllByRecursion CanBeSent packets → SentFits (stamped event from packets)
stamped_fits event from [] at each = tt
stamped_fits event from (x ∷ xs) at each = (
  record { from_fits = at; to_fits = (each.0).0; lawful = (each.0).1.0; fits = (each.0).1.1 },
  stamped_fits event
      from xs at each.1,
)

sends_fits : (n : Network) (from : Address) (packets : List (Address × Content)) → Fits n → IsAddress from
    → AllByRecursion CanBeSent packets → Fits (with_sent n from packets)
sends_fits n from packets f at each = record {
  tables = f.tables;
  lookups = f.lookups;
  sent = all_both (λ (o : Option Sent). IfSome o IsLawfullySent) n.sent (stamped n.event from packets) f.sent
      (stamped_fits n.event from packets at each);
}

sent_fits : (sent : List (Option Sent)) (which : ℕ) (s : Sent) → SentFits sent → packet_at sent which ≡ Some s
    → IsLawfullySent s
sent_fits sent which s each is = go (slice_get sent which) refl is
  where
    go : (o : Option (Option Sent)) → slice_get sent which ≡ o → packet_of o ≡ Some s → IsLawfullySent s
    go None e g = absurd cc
    go (Some x) e g = subst (λ (y : Option Sent). IfSome y IsLawfullySent) g
        (all_at (λ (y : Option Sent). IfSome y IsLawfullySent) sent which x each e)

foreign_fits : (count : ℕ) → SentFits (replicate count None)
foreign_fits zero = tt
foreign_fits (suc count) = (tt, foreign_fits count)

-- ---- what stands at one address

with_lookups : (n : Network) (who : Address) (l : Lookups) → Fits n → LookupsFit who l
    → Fits (record n { lookups = put n.lookups who l })
with_lookups n who l f is =
    record { tables = f.tables; lookups = put_all LookupsFit n.lookups who l f.lookups is; sent = f.sent }

names_fit : (n : Network) (at : Address) (names : List Registered) → Fits n → AllByRecursion IsNamed names
    → Fits (with_names n at names)
names_fit n at names f each =
    let old = f.tables at in
    record {
      tables = put_all TableFits n.tables at (record (n.tables at) { names = names }) f.tables
          (record { own = old.own; zone = old.zone; names = each });
      lookups = f.lookups;
      sent = f.sent;
    }

-- ---- lookups

drawn_fits : (l : Lookups) (id : ℕ) → l.next < 256 → next_id l ≡ Some id → id < 256
drawn_fits l id fits h = go (nat_lt (length l.searches) 8) h
  where
    go : (b : Bool) → cond b (free_id (length l.searches + 1) l.next l.searches) None ≡ Some id → id < 256
    go true g =
        let d = is_free (λ n. (n + 1) % 256) (λ n. list_any (has_id n) l.searches) (λ n. n < 256) (λ n is. omega arith)
        (length l.searches + 1) l.next id fits g in
        d.0
    go false g = absurd cc

asks_fits : (n : Network) (who : Address) (s : Search) → Fits n → IsAddress who → IsAsked s
    → Fits (with_sent n who (((n.lookups who).to, question (n.lookups who) s) ∷ []))
asks_fits n who s f at is =
    let l = f.lookups who in
    let own : IsAddress (n.lookups who).own = subst IsAddress (sym l.own) at in
    sends_fits n who (((n.lookups who).to, question (n.lookups who) s) ∷ []) f at
    ((l.to at, question_fits (n.lookups who) s own is), tt)

begins_fits : (n : Network) (who : Address) (pattern : Name) (o : Option ℕ) → next_id (n.lookups who) ≡ o → Fits n
    → IsAddress who → IsName pattern → Fits (begins n who pattern o)
begins_fits n who pattern None drawn f at name = f
begins_fits n who pattern (Some id) drawn f at name =
    let l = f.lookups who in
    let s : IsAsked (beginning id pattern) =
    record { id = drawn_fits (n.lookups who) id l.next drawn; pattern = asked_fits pattern name } in
    let asked = asks_fits n who (beginning id pattern) f at s in
    let new : LookupsFit who (lookups.begun (n.lookups who) (beginning id pattern)) = record {
      own = l.own;
      to = l.to;
      next = omega arith;
      asked = all_both IsAsked (n.lookups who).searches (beginning id pattern ∷ []) l.asked (s, tt);
    } in
    let after = with_lookups
    (with_sent n who (((n.lookups who).to, question (n.lookups who) (beginning id pattern)) ∷ [])) who
    (lookups.begun (n.lookups who) (beginning id pattern)) asked new in
    record { tables = after.tables; lookups = after.lookups; sent = after.sent }

retries_fits : (n : Network) (who : Address) (id : ℕ) (o : Option Search) → search_of (n.lookups who) id ≡ o → Fits n
    → IsAddress who → Fits (retries n who o)
retries_fits n who id None is f at = f
retries_fits n who id (Some s) is f at = asks_fits n who s f at
    (all_found IsAsked (has_id id) (n.lookups who).searches s (f.lookups who).asked is).0

finishes_fits : (n : Network) (who : Address) (id : ℕ) → Fits n → Fits (finishes n who id)
finishes_fits n who id f =
    let l = f.lookups who in
    with_lookups n who (closed (n.lookups who) id) f
    (record {
      own = l.own;
      to = l.to;
      next = l.next;
      asked = all_without IsAsked (has_id id) (n.lookups who).searches l.asked;
    })

heard_fits : (who : Address) (l : Lookups) (p : Content) → LookupsFit who l → LookupsFit who (heard l p).after
heard_fits who l p f = go (is_reply p.function)
  where
    came : (o : Option Search) → search_of l p.id ≡ o → LookupsFit who (reply_came l p o).after
    came None e = f
    came (Some s) e =
        let is = (all_found IsAsked (has_id p.id) l.searches s f.asked e).0 in
        record {
          own = f.own;
          to = f.to;
          next = f.next;
          asked = all_replaced IsAsked (has_id p.id) (answered s p.tuples) l.searches f.asked
              (record { id = is.id; pattern = is.pattern });
        }

    go : (b : Bool) → LookupsFit who (reply_came l p (cond b (search_of l p.id) None)).after
    go true = came (search_of l p.id) refl
    go false = f

hears_fits : (n : Network) (o : Option Sent) → Fits n → Fits (hears n o)
hears_fits n None f = f
hears_fits n (Some s) f = with_lookups n s.to (heard (n.lookups s.to) s.packet).after f
    (heard_fits s.to (n.lookups s.to) s.packet (f.lookups s.to))

-- ---- answers and relays

packets_fit : (to : Address) (id : ℕ) (replies : List (List Entry)) → IsAddress to
    → AllByRecursion (λ (reply : List Entry). IsSpelled (record { function = Reply; id = id; tuples = reply })) replies
    →
    AllByRecursion CanBeSent (map (reply_to to id) replies)
packets_fit to id [] at each = tt
packets_fit to id (r ∷ rs) at each = ((at, each.0), packets_fit to id rs at each.1)

answers_fits : (n : Network) (at : Address) (id : ℕ) (replies : List (List Entry)) (tuples : List Entry) → Fits n
    → IsAddress at → id < 256 → All IsTuple tuples → AreMatches (n.tables at) replies tuples →
    Fits (answers_with n at id replies tuples)
answers_fits n at id replies [] f here fits each are = f
answers_fits n at id replies (t ∷ ts) f here fits each are =
    let table = f.tables at in
    let own : IsAddress (n.tables at).own = subst IsAddress (sym table.own) here in
    let entries = entries_fit (n.tables at) (λ r. is_match (pattern_of t) (name_in (n.tables at) r))
    (n.tables at).names own table.zone table.names in
    let full = replies_fit id (matching (n.tables at) (pattern_of t)) replies fits are
    (by_place IsTuple (matching (n.tables at) (pattern_of t)) entries) in
    sends_fits n at (map (reply_to t.address id) replies) f here
    (packets_fit t.address id replies (first_tuple t ts each).address full)

-- ---- every happening

done_fits : (n : Network) (h : Happening) → Fits n → IsInRange h → IsAnswered n h → Fits (done n h)
done_fits n (Begins who pattern) f is full = begins_fits n who pattern (next_id (n.lookups who)) refl f is.0 is.1
done_fits n (Retries who id) f is full = retries_fits n who id (search_of (n.lookups who) id) refl f is
done_fits n (Finishes who id) f is full = finishes_fits n who id f
done_fits n (Hears which) f is full = hears_fits n (packet_at n.sent which) f
done_fits n (Answers which at replies) f is full = go (packet_at n.sent which) refl
  where
    go : (o : Option Sent) → packet_at n.sent which ≡ o → Fits (answers n at replies o)
    go None e = f
    go (Some s) e = let lawful = (sent_fits n.sent which s f.sent e).lawful in
        answers_fits n at s.packet.id replies s.packet.tuples f is lawful.id lawful.each (full s e).1
done_fits n (Relays which at to zone) f is full = go (packet_at n.sent which) refl
  where
    go : (o : Option Sent) → packet_at n.sent which ≡ o → Fits (relays n at to zone o)
    go None e = f
    go (Some s) e =
        let lawful = (sent_fits n.sent which s f.sent e).lawful in
        sends_fits n at ((to, relayed zone s.packet) ∷ []) f is.0
        ((is.1, relayed_fits zone s.packet is.2 (full s e) lawful), tt)
done_fits n (Registers at name) f is full = names_fit n at ((n.tables at).names ++ name ∷ []) f
    (all_both IsNamed (n.tables at).names (name ∷ []) (f.tables at).names (is, tt))
done_fits n (Unregisters at object kind) f is full =
    names_fit n at (without_first (is_called object kind) (n.tables at).names) f
    (all_without IsNamed (is_called object kind) (n.tables at).names (f.tables at).names)
done_fits n (Claims at id name) f is full =
    names_fit (finishes n at id) at ((n.tables at).names ++ name ∷ []) (finishes_fits n at id f)
    (all_both IsNamed (n.tables at).names (name ∷ []) (f.tables at).names (is, tt))
done_fits n (Other count) f is full = record {
  tables = f.tables;
  lookups = f.lookups;
  sent = all_both (λ (o : Option Sent). IfSome o IsLawfullySent) n.sent (replicate count None) f.sent
      (foreign_fits count);
}

history_fits : (setting : Setting) (history : List Happening) → IsLawfulSetting setting → AllTimely setting history
    → AllByRecursion IsInRange history → Fits (after setting history)
history_fits setting [] lawful timely ranges = record {
  tables = λ at. record { own = refl; zone = lawful.zone at; names = tt };
  lookups = λ who. record { own = refl; to = lawful.to who; next = omega arith; asked = tt };
  sent = tt;
}
history_fits setting (h ∷ hs) lawful timely ranges =
    let f = done_fits (after setting hs) h (history_fits setting hs lawful timely.2 ranges.1) ranges.0 timely.1 in
    record { tables = f.tables; lookups = f.lookups; sent = f.sent }

pub all_lawful : (setting : Setting) (history : List Happening) → IsLawfulSetting setting → AllTimely setting history
    → AllByRecursion IsInRange history → SentFits (after setting history).sent
all_lawful setting history lawful timely ranges = (history_fits setting history lawful timely ranges).sent

pub all_named : (setting : Setting) (history : List Happening) → IsLawfulSetting setting → AllTimely setting history
    → AllByRecursion IsInRange history → (at : Address)
    → AllByRecursion IsNamed ((after setting history).tables at).names
all_named setting history lawful timely ranges at = let fits = history_fits setting history lawful timely ranges in
    (fits.tables at).names
