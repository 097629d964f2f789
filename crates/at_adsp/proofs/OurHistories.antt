-- Which ends and addresses are ours after a history in which all happens at our addresses.
use Rattle.std.proofs.Common.{◌≡◌, ℕ, Bool, true, false, List, [], ◌∷◌, replicate, Option, Some, None, refl, sym}
use Rattle.std.specs.Prelude.{Result, Ok, Err}
use Rattle.std.specs.List.{AllByRecursion}
use Rattle.std.proofs.lemmas.Bool.{true≢false}
use Rattle.at_ddp.specs.declared.address.Address.{Address}
use Rattle.at_ddp.proofs.Alls.{all_found}
use Rattle.at_adsp_frame.specs.Segments.{Content}
use Rattle.at_adsp_end.specs.Ends.{EndState, has_opened, is_opening}
use Rattle.at_adsp_end.specs.declared.fault.StreamFault.{StreamFault}
use Rattle.at_adsp_end.specs.declared.phase.Phase.{Phase}
use Rattle.at_adsp_end.specs.declared.phase.Phase.TheVariants as phase
use Rattle.at_adsp_ends.specs.Calls.{closed_at, connected, listened, read_at, reset_at, ticked_at, wrote}
use Rattle.at_adsp_ends.specs.Receiving.{received}
use Rattle.at_adsp_ends.specs.Tables.{Done, by_id, has_id, next_id}
use Rattle.at_adsp.specs.Network.{Setting, Sent, Network, Happening, Connects, Listens, Closes, Writes, Reads, Resets}
use Rattle.at_adsp.specs.Network.{Ticks, Takes, Strange, Other}
use Rattle.at_ddp.specs.Posts.{AllSent, packet_at, stamped}
use Rattle.at_ddp.proofs.PostLemmas.{none_sent, put_elsewhere, sent_at, sent_both}
use Rattle.at_adsp.specs.Network.{after, calls_with, does_with, done, gave_up, takes, wrote_first}
use Rattle.at_adsp.specs.Pairs.{HappensHere}
use Rattle.at_adsp.specs.Streams.{Deed, Nothing, Read}
use Rattle.at_adsp.proofs.Ours.{AreOurs, IsOurs, KeepsAny, KeepsOurs, SaysOurs}
use Rattle.at_adsp.proofs.OurMoves.{closed_ours, connected_ours, reads_ours, received_ours, resets_ours, ticks_ours}
use Rattle.at_adsp.proofs.OurMoves.{wrote_ours}

-- what a segment says of the address that it was sent from
abbrev pub SentOurs : (Address → Bool) → Sent → Type 0
SentOurs ours s = SaysOurs ours s.from s.packet.body

pub record OurNetwork (ours : Address → Bool) (n : Network) : Type 0 where
  pub tables : (at : Address) → AreOurs ours at (n.tables at)
  pub sent : AllSent (SentOurs ours) n.sent

stamped_ours : (ours : Address → Bool) (event : ℕ) (at : Address) (out : List (Address × Content))
    → AllByRecursion (λ (x : Address × Content). SaysOurs ours at x.1.body) out
    → AllSent (SentOurs ours) (stamped event at out)
stamped_ours ours event at [] h = tt
stamped_ours ours event at (x ∷ out) h = (h.0, stamped_ours ours event at out h.1)

module _ (setting : Setting) (n : Network) (h : OurNetwork setting.ours n) where
  does_ours : {X : Type 0} (deed : Deed) (at : Address) (d : Done X) → KeepsOurs setting.ours at d
      → OurNetwork setting.ours (does_with deed setting n at d)
  does_ours deed at d keeps = record {
    tables = put_elsewhere (AreOurs setting.ours) n.tables at d.after (λ a other. h.tables a) keeps.table;
    sent = sent_both (SentOurs setting.ours) n.sent (stamped n.event at d.sent) h.sent
        (stamped_ours setting.ours n.event at d.sent keeps.sent);
  }

  calls_ours : {X : Type 0} (deed : X → Deed) (at : Address) (r : Result (Done X) StreamFault)
      → KeepsAny setting.ours at r → OurNetwork setting.ours (calls_with deed setting n at r)
  calls_ours deed at (Err fault) keeps = h
  calls_ours deed at (Ok d) keeps = does_ours (deed d.answer) at d keeps

  takes_ours : (o : Option Sent) → ((s : Sent) → o ≡ Some s → SentOurs setting.ours s)
      → OurNetwork setting.ours (takes setting n o)
  takes_ours None says = h
  takes_ours (Some s) says =
      does_ours Nothing s.to (received setting.numbers (n.tables s.to) s.from s.packet)
      (received_ours setting.ours s.to setting.numbers (n.tables s.to) (h.tables s.to) s.from s.packet
      (says s refl))

  done_ours : (x : Happening) → HappensHere setting x → OurNetwork setting.ours (done setting n x)
  done_ours (Connects at to) here =
      calls_ours (λ answer. Nothing) at (connected (n.tables at) to (next_id (n.tables at)))
      (connected_ours setting.ours at setting.numbers (n.tables at) (h.tables at) here to (next_id (n.tables at)))
  done_ours (Listens at on) here = record {
    tables = put_elsewhere (AreOurs setting.ours) n.tables at (listened (n.tables at) on) (λ a other. h.tables a)
        (record { listens = λ is. here; ends = (h.tables at).ends });
    sent = h.sent;
  }
  done_ours (Closes at id) here =
      calls_ours (λ answer. Nothing) at (closed_at setting.numbers (n.tables at) (by_id (n.tables at) id))
      (closed_ours setting.ours at setting.numbers (n.tables at) (h.tables at) id (by_id (n.tables at) id) refl)
  done_ours (Writes at id items) here =
      calls_ours (wrote_first items) at (wrote setting.numbers (n.tables at) items (by_id (n.tables at) id))
      (wrote_ours setting.ours at setting.numbers (n.tables at) (h.tables at) items id (by_id (n.tables at) id) refl)
  done_ours (Reads at id count) here =
      calls_ours Read at (read_at setting.numbers (n.tables at) count (by_id (n.tables at) id))
      (reads_ours setting.ours at setting.numbers (n.tables at) (h.tables at) count id
      (by_id (n.tables at) id) refl)
  done_ours (Resets at id) here =
      calls_ours gave_up at (reset_at setting.numbers (n.tables at) (by_id (n.tables at) id))
      (resets_ours setting.ours at setting.numbers (n.tables at) (h.tables at) id (by_id (n.tables at) id) refl)
  done_ours (Ticks at id fires) here =
      calls_ours (λ answer. Nothing) at (ticked_at setting.numbers (n.tables at) fires (by_id (n.tables at) id))
      (ticks_ours setting.ours at setting.numbers (n.tables at) (h.tables at) fires id
      (by_id (n.tables at) id) refl)
  done_ours (Takes which) here =
      takes_ours (packet_at n.sent which) (λ s is. sent_at (SentOurs setting.ours) n.sent which s h.sent is)
  done_ours (Strange at from segment) here = absurd here
  done_ours (Other count) here =
      record {
        tables = h.tables;
        sent = sent_both (SentOurs setting.ours) n.sent (replicate count None) h.sent
            (none_sent (SentOurs setting.ours) count);
      }

history_ours : (setting : Setting) (history : List Happening) → AllByRecursion (HappensHere setting) history
    → OurNetwork setting.ours (after setting history)
history_ours setting [] here =
    record { tables = λ at. record { listens = λ on. absurd (true≢false (sym on)); ends = tt }; sent = tt }
history_ours setting (h ∷ hs) here =
    let f = done_ours setting (after setting hs) (history_ours setting hs here.1) h here.0 in
    record { tables = f.tables; sent = f.sent }

not_opening : (p : Phase) → has_opened p ≡ true → is_opening p ≡ false
not_opening phase.Opening opened = absurd (true≢false (sym opened))
not_opening phase.Half opened = refl
not_opening phase.Open opened = refl
not_opening phase.Closed opened = refl

pub asked_ours : (setting : Setting) (history : List Happening) → AllByRecursion (HappensHere setting) history
    → (at : Address) (id : ℕ) (e : EndState) → by_id ((after setting history).tables at) id ≡ Some e →
    has_opened e.phase ≡ true → setting.ours e.asked ≡ true
asked_ours setting history here at id e is opened =
    let n = history_ours setting history here in
    (all_found (IsOurs setting.ours at) (has_id id) ((after setting history).tables at).ends e
    (n.tables at).ends is).0.there (not_opening e.phase opened)
