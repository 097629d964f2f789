-- Every history that is in range leaves a network in range.
use Rattle.std.proofs.Common.{◌≡◌, Bool, List, [], ◌∷◌}
use Rattle.std.proofs.Common.{replicate, Option, Some, None, refl, lit<}
use Rattle.std.specs.List.{AllByRecursion}
use Rattle.at_ddp.specs.declared.address.Address.{Address}
use Rattle.at_adsp_ends.specs.Calls.{listened, read_at, reset_at}
use Rattle.at_adsp_ends.specs.Calls.{wrote}
use Rattle.at_adsp_ends.specs.Tables.{by_id}
use Rattle.at_adsp_ends.specs.Tables.{next_id}
use Rattle.at_adsp.specs.Lawfully.{IsInRange, IsLawfulSetting, IsLawfullySent}
use Rattle.at_ddp.specs.Posts.{AllSent, packet_at, put}
use Rattle.at_ddp.proofs.PostLemmas.{none_sent, put_elsewhere, sent_at, sent_both}
use Rattle.at_adsp.proofs.RangeSteps.{connects_fits, closes_fits, writes_fits, reads_fits, resets_fits}
use Rattle.at_adsp.proofs.RangeSteps.{ticks_fits}
use Rattle.at_adsp.proofs.RangeMoves.{deed_fits}
use Rattle.at_adsp.proofs.RangeSegments.{part_fits}
use Rattle.at_adsp.specs.Network.{Closes, Connects, Happening, Listens, Network, Other, Reads, Resets, Sent, Setting}
use Rattle.at_adsp.specs.Network.{Strange, Takes, Ticks, Writes, after, done, gave_up, takes}
use Rattle.at_adsp.specs.Network.{wrote_first}
use Rattle.at_adsp.specs.Streams.{Read}
use Rattle.at_adsp.proofs.RangeHistories.{TableFits, NetworkFits}

listens_fits : (n : Network) (at : Address) (on : Bool) → NetworkFits n
    → NetworkFits (record n { tables = put n.tables at (listened (n.tables at) on) })
listens_fits n at on f = record {
  tables = put_elsewhere (λ a t. TableFits t) n.tables at (listened (n.tables at) on) (λ a other. f.tables a)
      (let t = f.tables at in record { next = t.next; room = t.room; ends = t.ends });
  sent = f.sent;
}

done_fits : (setting : Setting) (n : Network) (h : Happening) → IsLawfulSetting setting → NetworkFits n → IsInRange h
    → NetworkFits (done setting n h)
done_fits setting n (Connects at to) l f is = connects_fits setting n at is.0 f to is.1 (next_id (n.tables at)) refl
done_fits setting n (Listens at on) l f is = listens_fits n at on f
done_fits setting n (Closes at id) l f is = closes_fits setting n at is f setting.numbers l.numbers id
    (by_id (n.tables at) id) refl
done_fits setting n (Writes at id items) l f is =
    deed_fits setting n at is.0 f (wrote_first items)
    (wrote setting.numbers (n.tables at) items (by_id (n.tables at) id))
    (writes_fits setting n at is.0 f setting.numbers l.numbers items is.1 id (by_id (n.tables at) id) refl)
done_fits setting n (Reads at id count) l f is =
    deed_fits setting n at is f Read (read_at setting.numbers (n.tables at) count (by_id (n.tables at) id))
    (reads_fits setting n at is f setting.numbers l.numbers count id (by_id (n.tables at) id) refl)
done_fits setting n (Resets at id) l f is =
    deed_fits setting n at is f gave_up (reset_at setting.numbers (n.tables at) (by_id (n.tables at) id))
    (resets_fits setting n at is f setting.numbers l.numbers id (by_id (n.tables at) id) refl)
done_fits setting n (Ticks at id tick) l f is = ticks_fits setting n at is f setting.numbers l.numbers tick id
    (by_id (n.tables at) id) refl
done_fits setting n (Takes which) l f is = go (packet_at n.sent which) refl
  where
    go : (o : Option Sent) → packet_at n.sent which ≡ o → NetworkFits (takes setting n o)
    go None e = f
    go (Some s) e =
        let x = sent_at IsLawfullySent n.sent which s f.sent e in
        part_fits setting n s.to x.to_fits f setting.numbers l.numbers s.from x.from_fits s.packet x.lawful
        s.packet.body
done_fits setting n (Strange at from s) l f is =
    part_fits setting n at is.0 f setting.numbers l.numbers from is.1 s is.2 s.body
done_fits setting n (Other count) l f is =
    record {
      tables = f.tables;
      sent = sent_both IsLawfullySent n.sent (replicate count None) f.sent (none_sent IsLawfullySent count);
    }

history_fits : (setting : Setting) (history : List Happening) → IsLawfulSetting setting
    → AllByRecursion IsInRange history → NetworkFits (after setting history)
history_fits setting [] l each =
    record { tables = λ at. record { next = lit< tt; room = l.rooms at; ends = tt }; sent = tt }
history_fits setting (h ∷ hs) l each =
    let f = done_fits setting (after setting hs) h l (history_fits setting hs l each.1) each.0 in
    record { tables = f.tables; sent = f.sent }

pub all_lawful : (setting : Setting) (history : List Happening) → IsLawfulSetting setting
    → AllByRecursion IsInRange history → AllSent IsLawfullySent (after setting history).sent
all_lawful setting history l each = (history_fits setting history l each).sent
