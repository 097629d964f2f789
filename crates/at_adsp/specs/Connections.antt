-- What happens to the ends of streams as their users see them: one is made, one opens, or all stay (Inside AppleTalk,
-- ADSP, "Opening a connection").
use Rattle.std.specs.Prelude.{◌≡◌, ℕ, Bool, true, false, List, [], ◌∷◌, map, Option, Some, None, Result, Ok, Err}
use Rattle.at_ddp.specs.declared.address.Address.{Address}
use Rattle.at_adsp_end.specs.declared.fault.StreamFault.{StreamFault}
use Rattle.at_adsp_end.specs.declared.change.EndChange.{EndChange}
use Rattle.at_adsp_end.specs.declared.change.EndChange.TheVariants as step
use Rattle.at_adsp_ends.specs.Calls.{wrote, read_at, reset_at}
use Rattle.at_adsp_ends.specs.Receiving.{received}
use Rattle.at_adsp_ends.specs.Tables.{Done, by_id, next_id}
use Rattle.at_adsp.specs.Network.{Setting, Made, Sent, Network, Happening, Connects, Writes, Reads, Resets, Takes}
use Rattle.at_ddp.specs.Posts.{packet_at}
use Rattle.at_adsp.specs.Network.{Strange, done, wrote_first, gave_up}
use Rattle.at_adsp.specs.Streams.{Stream, Deed, Read, with_peer, with_deed}

-- all ends that were ever made, newest first
abbrev pub streams : Network → List Stream
streams n = map (λ (m : Made). m.stream) n.made

-- an end that this event makes has no peer
abbrev pub begun : ℕ → Address → ℕ → Bool → Address → Stream
begun event at id listener asked = record {
  birth = event;
  owner = at;
  id = id;
  listener = listener;
  asked = asked;
  peer = None;
  written = [];
  read = [];
}

-- an end that asked is made under this identifier, if there is one
abbrev pub AfterConnecting : Network → Network → Address → Address → Option ℕ → Type 0
AfterConnecting old new at to None = streams new ≡ streams old
AfterConnecting old new at to (Some id) = streams new ≡ begun old.event at id false to ∷ streams old

-- A segment from an address comes to another, and this is the step there. An end that opens may have a peer from then
-- on.
abbrev pub AfterStep : Network → Network → Address → Address → EndChange → Type 0
AfterStep old new at from (step.Made id) = streams new ≡ begun old.event at id true from ∷ streams old
AfterStep old new at from (step.Opened id) =
    (peer : Option ℕ) × (streams new ≡ with_peer at id peer (streams old))
AfterStep old new at from other = streams new ≡ streams old

abbrev pub AfterSegment : Setting → Network → Network → Option Sent → Type 0
AfterSegment setting old new None = streams new ≡ streams old
AfterSegment setting old new (Some s) =
    AfterStep old new s.to s.from (received setting.numbers (old.tables s.to) s.from s.packet).answer

-- the user of an end did something with it, or the call was refused
abbrev pub AfterCall : {X : Type 0} → Network → Network → Address → ℕ → (X → Deed) → Result (Done X) StreamFault
    → Type 0
AfterCall old new at id deed (Err fault) = streams new ≡ streams old
AfterCall old new at id deed (Ok d) = streams new ≡ with_deed at id (deed d.answer) (streams old)

-- what each happening does
abbrev pub ChangesStreams : Setting → Network → Happening → Type 0
ChangesStreams setting n (Connects at to) =
    AfterConnecting n (done setting n (Connects at to)) at to (next_id (n.tables at))
ChangesStreams setting n (Writes at id items) =
    AfterCall n (done setting n (Writes at id items)) at id (wrote_first items)
    (wrote setting.numbers (n.tables at) items (by_id (n.tables at) id))
ChangesStreams setting n (Reads at id count) =
    AfterCall n (done setting n (Reads at id count)) at id Read
    (read_at setting.numbers (n.tables at) count (by_id (n.tables at) id))
ChangesStreams setting n (Resets at id) =
    AfterCall n (done setting n (Resets at id)) at id gave_up
    (reset_at setting.numbers (n.tables at) (by_id (n.tables at) id))
ChangesStreams setting n (Takes datagram) =
    AfterSegment setting n (done setting n (Takes datagram)) (packet_at n.sent datagram)
ChangesStreams setting n (Strange at from segment) =
    AfterStep n (done setting n (Strange at from segment)) at from
    (received setting.numbers (n.tables at) from segment).answer
ChangesStreams setting n other = streams (done setting n other) ≡ streams n
