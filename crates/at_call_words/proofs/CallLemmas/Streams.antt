-- A word says one kind of call of streams.
use Rattle.std.proofs.Common.{ℕ, Bool, List, sym, subst}
use Rattle.std.specs.Prelude.{codes}
use Rattle.std.specs.Str.{bytes_eq}
use Rattle.at_adsp_end.specs.declared.item.Item.{Item}
use Rattle.at_event.specs.declared.streams.StreamCall.{StreamCall}
use Rattle.at_event.specs.declared.streams.StreamCall.TheVariants.{Close, Connect, Listen, Open, Read, Reset, Write}
use Rattle.at_call_words.specs.Calls.Streams.{IsSwitch, SaysStreamCall, WriteSays}
use Rattle.at_call_words.specs.Words.{One, Two}
use Rattle.at_call_words.proofs.CallLemmas.Either.{Either}
use Rattle.at_words.specs.Numbers.{IsCount, IsNode, IsTwoBytes}

abbrev pub OpenSaid : List (List ℕ) → Type 0
OpenSaid ws = (index : ℕ) × One IsCount ws index

abbrev pub ListenSaid : List (List ℕ) → Type 0
ListenSaid ws = (on : Bool) × One IsSwitch ws on

abbrev pub ConnectSaid : List (List ℕ) → Type 0
ConnectSaid ws = (node socket : ℕ) × Two IsNode IsNode ws node socket

abbrev pub WriteSaid : List (List ℕ) → Type 0
WriteSaid ws = (id : ℕ) × (items : List Item) × WriteSays ws id items

abbrev pub ReadSaid : List (List ℕ) → Type 0
ReadSaid ws = (id count : ℕ) × Two IsTwoBytes IsTwoBytes ws id count

abbrev pub EndSaid : List (List ℕ) → Type 0
EndSaid ws = (id : ℕ) × One IsTwoBytes ws id

-- what the words after this one say; or Other, if it is no word of streams
abbrev pub StreamsSaid : List ℕ → List (List ℕ) → Type 0 → Type 0
StreamsSaid word ws Other =
    Either (bytes_eq word (codes "open")) (OpenSaid ws) (
    Either (bytes_eq word (codes "listen")) (ListenSaid ws) (
    Either (bytes_eq word (codes "connect")) (ConnectSaid ws) (
    Either (bytes_eq word (codes "write")) (WriteSaid ws) (
    Either (bytes_eq word (codes "read")) (ReadSaid ws) (
    Either (bytes_eq word (codes "reset")) (EndSaid ws) (
    Either (bytes_eq word (codes "close")) (EndSaid ws) Other))))))

module _ (Said : List ℕ → Type 0) (ws : List (List ℕ)) where
  -- so each word of streams says a call
  abbrev pub SaidOfStreams : Type 0
  SaidOfStreams =
      (OpenSaid ws → Said (codes "open")) × (ListenSaid ws → Said (codes "listen"))
      × (ConnectSaid ws → Said (codes "connect")) × (WriteSaid ws → Said (codes "write"))
      × (ReadSaid ws → Said (codes "read")) × (EndSaid ws → Said (codes "reset")) × (EndSaid ws → Said (codes "close"))

  pub stream_kinds : SaidOfStreams → {A : Type 0} (word : List ℕ) (c : StreamCall A) → SaysStreamCall word ws c
      → Said word
  stream_kinds (open_, listen, connect, write, read, reset, close) word (Open index) (is, said) =
      subst Said (sym is) (open_ (index, said))
  stream_kinds (open_, listen, connect, write, read, reset, close) word (Listen on) (is, said) =
      subst Said (sym is) (listen (on, said))
  stream_kinds (open_, listen, connect, write, read, reset, close) word (Connect node socket) (is, said) =
      subst Said (sym is) (connect (node, socket, said))
  stream_kinds (open_, listen, connect, write, read, reset, close) word (Write id items) (is, said) =
      subst Said (sym is) (write (id, items, said))
  stream_kinds (open_, listen, connect, write, read, reset, close) word (Read id count) (is, said) =
      subst Said (sym is) (read (id, count, said))
  stream_kinds (open_, listen, connect, write, read, reset, close) word (Reset id) (is, said) =
      subst Said (sym is) (reset (id, said))
  stream_kinds (open_, listen, connect, write, read, reset, close) word (Close id) (is, said) =
      subst Said (sym is) (close (id, said))
