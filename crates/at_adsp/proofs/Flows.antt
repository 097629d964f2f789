-- What is written and what is read in a network of ends of streams, as one end changes or another is made.
use Rattle.std.proofs.Common.{◌≡◌, ℕ, ◌+◌, ◌<◌, ◌≤◌, Bool, true, false, cond, List, [], ◌∷◌, ◌++◌, Option, Some, refl}
use Rattle.std.proofs.Common.{sym, ap, subst, ◌∙◌, arith}
use Rattle.std.specs.Prelude.{find, ◌==◌, ◌&&◌}
use Rattle.std.specs.List.{AllByRecursion}
use Rattle.std.proofs.lemmas.Bool.{and_parts, eqb-true, eq-eqb}
use Rattle.at_ddp.specs.Tables.{replaced}
use Rattle.at_ddp.specs.declared.address.Address.{Address}
use Rattle.at_ddp.proofs.Alls.{all_found}
use Rattle.at_adsp_frame.specs.Segments.{Content}
use Rattle.at_adsp_end.specs.Ends.{EndState, addressed, has_opened, no_receiver, no_sender}
use Rattle.at_adsp_end.specs.declared.item.Item.{Item}
use Rattle.at_adsp_ends.specs.Tables.{by_id, made as made_end, moved}
use Rattle.at_ddp.specs.Posts.{AllSent, stamped}
use Rattle.at_ddp.proofs.PostLemmas.{sent_both, sent_implied, sent_pairs}
use Rattle.at_adsp.specs.Network.{Setting, Made, Sent, Network, beginning, birth_of, dest_of, does, does_with, is_end}
use Rattle.at_adsp.specs.Network.{is_fresh, is_kept, joined, newest, noted, noted_with}
use Rattle.at_adsp.specs.Streams.{Stream, Deed, Nothing, read_after, written_after}
use Rattle.at_adsp.proofs.Beginnings.{Begins, kept_before}
use Rattle.at_adsp.proofs.Carries.{Carries, CarriesPart, Goes, Writer, part_grows, writer_of}
use Rattle.at_adsp.proofs.Changes.{Moves, fresh_same, made_is, newest_now, there}
use Rattle.at_adsp.proofs.Finds.{none_finds}
use Rattle.at_adsp.proofs.Growth.{Fall, births_kept, found_below, unequal}
use Rattle.at_adsp.proofs.Hears.{Reader}
use Rattle.at_adsp.proofs.Logs.{Log, nothing_more}
use Rattle.at_adsp.proofs.Readers.{reading_begins, reading_grows}
use Rattle.at_adsp.proofs.Senders.{writes_begins}
use Rattle.at_adsp.proofs.Sound.{Sound, Stands}
use Rattle.std.proofs.lemmas.Option.{same_Some}

-- an end keeps to the log of its writer, and reads on in the log of its peer's
pub record EndFlows (logs : ℕ → List Log) (s : Stream) (e : EndState) : Type 0 where
  pub writer : Writer s.written (logs s.birth) e.phase e.sender
  pub begins : has_opened e.phase ≡ false → (s.read ≡ []) × (e.receiver ≡ no_receiver)
  pub reader : (b : ℕ) → s.peer ≡ Some b → Reader s.read (logs b) e.receiver

abbrev pub Flows : (ℕ → List Log) → Made → Type 0
Flows logs m = EndFlows logs m.stream m.last

-- what a segment carries, as long as its identifiers are not drawn again
abbrev pub CarriesHere : List Made → (ℕ → List Log) → Sent → Type 0
CarriesHere made logs s =
    is_fresh made s ≡ true → (b : ℕ) → birth_of (newest made s.from s.packet.source) ≡ Some b
    → CarriesPart (logs b) s.packet.first s.packet.body

-- each end has a log, by its birth, after so many events
pub record Flow (events : ℕ) (all : List Made) (packets : List (Option Sent)) : Type 0 where
  pub logs : ℕ → List Log
  pub none : (b : ℕ) → events ≤ b → logs b ≡ []
  pub ends : AllByRecursion (Flows logs) all
  pub sent : AllSent (CarriesHere all logs) packets

abbrev pub FlowOf : ℕ → Network → Type 0
FlowOf events n = Flow events n.made n.sent

abbrev pub flow_later : (n : Network) → FlowOf n.event n → FlowOf (n.event + 1) n
flow_later n h = record { logs = h.logs; none = λ b le. h.none b (omega (arith, le)); ends = h.ends; sent = h.sent }

-- ---- one log goes on

abbrev with_log : ℕ → List Log → (ℕ → List Log) → ℕ → List Log
with_log b l logs c = cond (c == b) l (logs c)

log_there : (b : ℕ) (l : List Log) (logs : ℕ → List Log) → with_log b l logs b ≡ l
log_there b l logs = ap (λ t. cond t l (logs b)) (eq-eqb b b refl)

log_elsewhere : (b : ℕ) (l : List Log) (logs : ℕ → List Log) (c : ℕ) → (c == b) ≡ false → with_log b l logs c ≡ logs c
log_elsewhere b l logs c other = ap (λ t. cond t l (logs c)) other

log_grows : (b : ℕ) (l : List Log) (logs : ℕ → List Log) (more : List Log) → l ≡ logs b ++ more → (c : ℕ)
    → (k : List Log) × (with_log b l logs c ≡ logs c ++ k)
log_grows b l logs more is c = go (c == b) refl
  where
    go : (t : Bool) → (c == b) ≡ t → (k : List Log) × (cond t l (logs c) ≡ logs c ++ k)
    go true e = (more, is ∙ ap (λ d. logs d ++ more) (sym (eqb-true c b e)))
    go false e = ([], sym (nothing_more (logs c)))

reader_grows : (got : List Item) (l m : List Log) (e : EndState) → (k : List Log) × (m ≡ l ++ k)
    → Reader got l e.receiver → Reader got m e.receiver
reader_grows got l m e k h =
    subst (λ x. Reader got x e.receiver) (sym k.1) (reading_grows got e.receiver.unread l k.0 e.receiver.received h)

-- ---- all ends that were made

below_apart : (P Q : Made → Type 0) (b bound : ℕ) (made : List Made) → bound ≤ b → Fall bound made
    → ((x : Made) → (x.stream.birth == b) ≡ false → P x → Q x) → AllByRecursion P made → AllByRecursion Q made
below_apart P Q b bound [] le h stays all = tt
below_apart P Q b bound (x ∷ xs) le h stays all =
    let lt = h.0 in (
      stays x (apart (x.stream.birth == b) refl) all.0,
      below_apart P Q b x.stream.birth xs
          (omega (arith, le, lt)) h.1 stays all.1,
    )
  where
    apart : (c : Bool) → (x.stream.birth == b) ≡ c → c ≡ false
    apart false e = refl
    apart true e = let same = eqb-true x.stream.birth b e in let lt = h.0 in absurd (omega (arith, same, lt, le))

-- what holds of the end that takes another's place, and stays of all others
pub all_born : (P Q : Made → Type 0) (p : Made → Bool) (m u : Made) (made : List Made) (bound : ℕ) → Fall bound made
    → find p made ≡ Some m → ((x : Made) → (x.stream.birth == m.stream.birth) ≡ false → P x → Q x) → Q u →
    AllByRecursion P made → AllByRecursion Q (replaced p u made)
all_born P Q p m u [] bound h is stays now all = tt
all_born P Q p m u (z ∷ zs) bound h is stays now all =
    go (λ f. all_born P Q p m u zs z.stream.birth h.1 f stays now all.1) (p z) is
  where
    go : (find p zs ≡ Some m → AllByRecursion Q (replaced p u zs)) → (c : Bool) → cond c (Some z) (find p zs) ≡ Some m
        → AllByRecursion Q (cond c (u ∷ zs) (z ∷ replaced p u zs))
    go ih true f =
        let e : z.stream.birth ≡ m.stream.birth = ap (λ (x : Made). x.stream.birth) (same_Some z m f) in
        (now, below_apart P Q m.stream.birth z.stream.birth zs (omega (arith, e)) h.1 stays all.1)
    go ih false f = (
      stays z (unequal m.stream.birth z.stream.birth (found_below p m zs z.stream.birth h.1 f)) all.0,
      ih f,
    )

-- ---- one end changes

module _ (deed : Deed) (setting : Setting) (n : Network) (at : Address) (e f : EndState)
    (sound : Sound setting (n.event + 1) n) (s : Stands setting n.made at e) (moves : Moves e f)
    (flow : FlowOf (n.event + 1) n) where
  pub flowed : EndFlows flow.logs s.it.stream e
  flowed = subst (EndFlows flow.logs s.it.stream) s.last
      (all_found (Flows flow.logs) (is_end at f.id) n.made s.it flow.ends (there deed setting n at e f sound s moves)).0

  abbrev new : Made
  new = noted_with deed setting n.made f s.it

  abbrev later : List Made
  later = replaced (is_end at f.id) (noted_with deed setting n.made f s.it) n.made

  module _ (out : List Content)
      (goes : Goes (written_after deed s.it.stream.written) (flow.logs s.it.stream.birth) f out)
      (begins : has_opened f.phase ≡ false → (read_after deed s.it.stream.read ≡ []) × (f.receiver ≡ no_receiver))
      (reader : (b : ℕ) → new.stream.peer ≡ Some b
      → Reader (read_after deed s.it.stream.read) (flow.logs b) f.receiver) where
    abbrev logs : ℕ → List Log
    logs = with_log s.it.stream.birth goes.log flow.logs

    grown : (c : ℕ) → (k : List Log) × (with_log s.it.stream.birth goes.log flow.logs c ≡ flow.logs c ++ k)
    grown c = log_grows s.it.stream.birth goes.log flow.logs goes.more goes.is c

    other_flows : (x : Made) → (x.stream.birth == s.it.stream.birth) ≡ false → Flows flow.logs x → Flows logs x
    other_flows x other h = record {
      writer = subst (λ l. Writer x.stream.written l x.last.phase x.last.sender)
          (sym (log_elsewhere s.it.stream.birth goes.log flow.logs x.stream.birth other)) h.writer;
      begins = h.begins;
      reader = λ b is. reader_grows x.stream.read (flow.logs b) (logs b) x.last (grown b) (h.reader b is);
    }

    new_flows : Flows logs new
    new_flows = record {
      writer = subst (λ l. Writer (written_after deed s.it.stream.written) l f.phase f.sender)
          (sym (log_there s.it.stream.birth goes.log flow.logs)) goes.writer;
      begins = begins;
      reader = λ b is. reader_grows (read_after deed s.it.stream.read) (flow.logs b) (logs b) f (grown b) (reader b is);
    }

    carries_still : (x : Sent) → CarriesHere n.made flow.logs x → CarriesHere later logs x
    carries_still x h fresh b is =
        let was = births_kept (is_end at f.id) (is_end x.from x.packet.source) s.it new n.made refl refl
        (there deed setting n at e f sound s moves) in
        let k = grown b in
        subst (λ l. CarriesPart l x.packet.first x.packet.body) (sym k.1)
        (part_grows (flow.logs b) k.0 x.packet.first x.packet.body
        (h (fresh_same deed setting n at e f sound s moves x fresh) b (sym was ∙ is)))

    carries_now : (xs : List Content) → AllByRecursion (Carries f.id goes.log) xs
        → AllSent (CarriesHere later logs) (stamped n.event at (addressed f.asked xs))
    carries_now [] h = tt
    carries_now (x ∷ xs) h = (one, carries_now xs h.1)
      where
        one : CarriesHere later logs (record { event = n.event; from = at; to = f.asked; packet = x })
        one fresh b is =
            let it : Some s.it.stream.birth
            ≡ Some b = sym (ap (λ k. birth_of (newest later at k)) h.0.0
            ∙ ap birth_of (newest_now deed setting n at e f sound s moves)) ∙ is in
            let same : s.it.stream.birth ≡ b = cc in
            subst (λ c. CarriesPart (logs c) x.first x.body) same
            (subst (λ l. CarriesPart l x.first x.body) (sym (log_there s.it.stream.birth goes.log flow.logs)) h.0.1)

    flows_so : Flow (n.event + 1) later (n.sent ++ stamped n.event at (addressed f.asked out))
    flows_so = record {
      logs = logs;
      none = λ b le.
          let lt = found_below (is_end at f.id) s.it n.made (n.event + 1) sound.births
          (there deed setting n at e f sound s moves) in
          log_elsewhere s.it.stream.birth goes.log flow.logs b (unequal s.it.stream.birth b (omega (arith, lt, le)))
          ∙ flow.none b le;
      ends = all_born (Flows flow.logs) (Flows logs) (is_end at f.id) s.it new n.made (n.event + 1) sound.births
          (there deed setting n at e f sound s moves) other_flows new_flows flow.ends;
      sent = sent_both (CarriesHere later logs) n.sent (stamped n.event at (addressed f.asked out))
          (sent_implied (CarriesHere n.made flow.logs) (CarriesHere later logs) n.sent carries_still flow.sent)
          (carries_now out goes.carries);
    }

    pub changed_flow : {X : Type 0} (answer : X) (old : EndState) → by_id (n.tables at) f.id ≡ Some old
        → FlowOf (n.event + 1) (does_with deed setting n at (moved (n.tables at) answer f out))
    changed_flow answer old found =
        subst (λ (l : List Made). Flow (n.event + 1) l (n.sent ++ stamped n.event at (addressed f.asked out)))
        (sym (made_is deed setting n at e f sound s moves old found)) flows_so

-- ---- an end is made

-- a segment that opens something carries nothing
abbrev pub CarryNothing : List Content → Type 0
CarryNothing out = (l : List Log) → AllByRecursion (λ (s : Content). CarriesPart l s.first s.body) out

pub nothing_carried : (made : List Made) (logs : ℕ → List Log) (event : ℕ) (from to : Address) (out : List Content)
    → CarryNothing out → AllSent (CarriesHere made logs) (stamped event from (addressed to out))
nothing_carried all ls event from to [] h = tt
nothing_carried all ls event from to (x ∷ xs) h =
    ((λ fresh b is. (h (ls b)).0), nothing_carried all ls event from to xs (λ l. (h l).1))

module _ (setting : Setting) (n : Network) (at : Address) (e : EndState) (sound : Sound setting n.event n)
    (b : Begins setting n at e) (flow : FlowOf n.event n) (quiet : (e.sender ≡ no_sender) × (e.receiver ≡ no_receiver))
  where
    abbrev fresh_made : List Made
    fresh_made = noted setting (beginning n.event at e ∷ n.made) e (beginning n.event at e) ∷ n.made

    still : (x : Sent) → (x.event < n.event) × CarriesHere n.made flow.logs x → CarriesHere fresh_made flow.logs x
    still x h fresh c is =
        let both = and_parts (is_kept fresh_made x.event x.from x.packet.source)
        (is_kept fresh_made x.event x.to (dest_of x.packet.body)) fresh in
        let source = kept_before setting n at e sound b x.event x.from x.packet.source h.0 both.0 in
        let dest = kept_before setting n at e sound b x.event x.to (dest_of x.packet.body) h.0 both.1 in
        h.1 (λ i. source.0 i && dest.0 i) c
        (sym (ap (λ t. birth_of (cond t
        (Some (noted setting (beginning n.event at e ∷ n.made) e (beginning n.event at e)))
        (newest n.made x.from x.packet.source))) source.1) ∙ is)

    made_so : (out : List Content) → CarryNothing out
        → Flow (n.event + 1) fresh_made (n.sent ++ stamped n.event at (addressed e.asked out))
    made_so out nothing = record {
      logs = flow.logs;
      none = λ c le. flow.none c (omega (arith, le));
      ends = (new_flows, flow.ends);
      sent =
          sent_both (CarriesHere fresh_made flow.logs) n.sent (stamped n.event at (addressed e.asked out))
          (sent_implied (λ x. (x.event < n.event) × CarriesHere n.made flow.logs x)
          (CarriesHere fresh_made flow.logs) n.sent still
          (sent_pairs (λ x. x.event < n.event) (CarriesHere n.made flow.logs) n.sent sound.past flow.sent))
          (nothing_carried fresh_made flow.logs n.event at e.asked out nothing);
    }
      where
        new_flows : Flows flow.logs (noted setting (beginning n.event at e ∷ n.made) e (beginning n.event at e))
        new_flows = record {
          writer =
              subst (λ l. Writer [] l e.phase e.sender) (sym (flow.none n.event (omega arith)))
              (subst (Writer [] [] e.phase) (sym quiet.0) (writer_of [] [] e.phase no_sender writes_begins));
          begins = λ unopened. (refl, quiet.1);
          reader = λ c is. subst (Reader [] (flow.logs c)) (sym quiet.1) (reading_begins (flow.logs c));
        }

    pub made_flow : {X : Type 0} (answer : X) (out : List Content) → CarryNothing out
        → FlowOf (n.event + 1) (does setting n at (made_end (n.tables at) answer e out))
    made_flow answer out nothing =
        subst (λ (l : List Made). Flow (n.event + 1) l (n.sent ++ stamped n.event at (addressed e.asked out)))
        (sym made_is_new) (made_so out nothing)
      where
        made_is_new : joined Nothing setting n.event n.made at e (by_id (n.tables at) e.id) ≡ fresh_made
        made_is_new = ap (joined Nothing setting n.event n.made at e)
            (none_finds (λ x. x.id == e.id) (n.tables at).ends b.drawn.free)
