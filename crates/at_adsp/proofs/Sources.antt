-- What is read of an end that has opened reads from what was written at its peer.
use Rattle.std.proofs.Common.{◌≡◌, ℕ, Bool, true, false, cond, List, [], ◌∷◌, ◌++◌, take, find, Option, Some, None}
use Rattle.std.proofs.Common.{refl, sym, ap, subst, ◌∙◌}
use Rattle.std.specs.Prelude.{Result, Ok, Err, ◌==◌}
use Rattle.std.specs.List.{AllByRecursion}
use Rattle.std.proofs.lemmas.Bool.{eqb-true}
use Rattle.at_ddp.specs.declared.address.Address.{Address}
use Rattle.at_ddp.proofs.Alls.{found_passes}
use Rattle.at_ddp.proofs.MemberLemmas.{contains_of, found_there, there_seen}
use Rattle.at_adsp.proofs.StreamSegments.{change_by_one}
use Rattle.at_adsp_end.specs.Calls.{reading}
use Rattle.at_adsp_end.specs.Ends.{EndState, has_opened}
use Rattle.at_adsp_end.specs.Positions.{Numbers}
use Rattle.at_adsp_end.specs.declared.fault.StreamFault.{StreamFault}
use Rattle.at_adsp_end.specs.declared.fault.StreamFault.TheVariants.{NotOpen}
use Rattle.at_adsp_end.specs.declared.item.Item.{Item}
use Rattle.at_adsp_ends.specs.Calls.{read_at}
use Rattle.at_adsp_ends.specs.Tables.{Done, EndTable, by_id, has_id, moved}
use Rattle.at_adsp.specs.Connections.{AfterCall, streams}
use Rattle.at_adsp.specs.Meetings.{ReadsWith}
use Rattle.at_adsp.specs.Network.{AllTimely, Happening, Made, Network, Reads, Setting, after, born, is_end, newest}
use Rattle.at_adsp.specs.Orders.{ReadsInOrder}
use Rattle.at_adsp.specs.Pairs.{HappensHere, IsPaired}
use Rattle.at_adsp.specs.Reading.{ReadsFrom}
use Rattle.at_adsp.specs.Streams.{Deed, Read, Stream, has_number, read_after, with_deed, written_after}
use Rattle.at_adsp.proofs.Growth.{found_born}
use Rattle.at_adsp.proofs.Histories.{are_paired, history_sound}
use Rattle.at_adsp.proofs.Meets.{paired_newest, stream_of}
use Rattle.at_adsp.proofs.Members.{found_seen, seen_found}
use Rattle.at_adsp.proofs.OurHistories.{asked_ours}
use Rattle.at_adsp.proofs.Sound.{Sound}
use Rattle.std.proofs.lemmas.Option.{same_Some}

-- ---- one end did something

abbrev deeded : Deed → Stream → Stream
deeded deed m = record m { written = written_after deed m.written; read = read_after deed m.read }

-- it is found as it was
deed_found : (at : Address) (id : ℕ) (deed : Deed) (m : Stream) (ss : List Stream) → find (has_number at id) ss
    ≡ Some m → find (has_number at id) (with_deed at id deed ss) ≡ Some (deeded deed m)
deed_found at id deed m [] is = absurd (cc)
deed_found at id deed m (z ∷ zs) is = go (λ f. deed_found at id deed m zs f) (has_number at id z) refl is
  where
    go : (find (has_number at id) zs ≡ Some m → find (has_number at id) (with_deed at id deed zs)
        ≡ Some (deeded deed m)) →
        (b : Bool) → has_number at id z ≡ b → cond b (Some z) (find (has_number at id) zs) ≡ Some m
        → find (has_number at id) (cond b (deeded deed z ∷ zs) (z ∷ with_deed at id deed zs)) ≡ Some (deeded deed m)
    go ih true e f = ap (λ c. cond c (Some (deeded deed z)) (find (has_number at id) zs)) e
        ∙ ap (λ y. Some (deeded deed y)) (same_Some z m f)
    go ih false e f = ap (λ c. cond c (Some z) (find (has_number at id) (with_deed at id deed zs))) e ∙ ih f

abbrev has_been : ℕ → Stream → Bool
has_been birth s = s.birth == birth

-- where it reads, no end has written anything
written_still : (at : Address) (id : ℕ) (items : List Item) (birth : ℕ) (x : Stream) (ss : List Stream)
    → find (has_been birth) ss ≡ Some x →
    (y : Stream) × (find (has_been birth) (with_deed at id (Read items) ss) ≡ Some y) × (y.written ≡ x.written)
written_still at id items birth x [] is = absurd (cc)
written_still at id items birth x (z ∷ zs) is = go (λ f. written_still at id items birth x zs f) (has_number at id z)
    (has_been birth z) refl is
  where
    go : (find (has_been birth) zs ≡ Some x → (y : Stream)
        × (find (has_been birth) (with_deed at id (Read items) zs) ≡ Some y) × (y.written ≡ x.written)) →
        (b c : Bool) → has_been birth z ≡ c → cond c (Some z) (find (has_been birth) zs) ≡ Some x →
        (y : Stream) × (find (has_been birth)
        (cond b (deeded (Read items) z ∷ zs) (z ∷ with_deed at id (Read items) zs)) ≡ Some y)
        × (y.written ≡ x.written)
    go ih true true e f = (
      deeded (Read items) z,
      ap (λ c. cond c (Some (deeded (Read items) z)) (find (has_been birth) zs)) e,
      ap
          (λ (y : Stream). y.written) (same_Some z x f),
    )
    go ih true false e f = (x, ap (λ c. cond c (Some (deeded (Read items) z)) (find (has_been birth) zs)) e ∙ f, refl)
    go ih false true e f = (
      z,
      ap (λ c. cond c (Some z) (find (has_been birth) (with_deed at id (Read items) zs))) e,
      ap (λ (y : Stream). y.written) (same_Some z x f),
    )
    go ih false false e f =
        let more = ih f in
        (more.0, ap (λ c. cond c (Some z) (find (has_been birth) (with_deed at id (Read items) zs))) e ∙ more.1, more.2)

-- ---- what can be read was opened

read_opened : (N : Numbers) (t : EndTable) (count : ℕ) (o : Option EndState) (d : Done (List Item))
    → read_at N t count o ≡ Ok d → (e : EndState) × (o ≡ Some e) × (has_opened e.phase ≡ true)
read_opened N t count None d is = absurd (cc)
read_opened N t count (Some e) d is = (e, refl, go (has_opened e.phase) is)
  where
    go : (b : Bool) → cond b
        (Ok (moved t (take count e.receiver.unread) (reading N e count).after (reading N e count).sent)) (Err NotOpen)
        ≡ Ok d → b ≡ true
    go true h = refl
    go false h = absurd (cc)

-- ---- the law

module _ (setting : Setting) (history : List Happening) (at : Address) (id count : ℕ) (d : Done (List Item))
    (timely : AllTimely setting history) (here : AllByRecursion (HappensHere setting) history)
    (reads : read_at setting.numbers ((after setting history).tables at) count
    (by_id ((after setting history).tables at) id) ≡ Ok d)
    (in_order : ReadsInOrder (after setting (Reads at id count ∷ history))) where
  abbrev n : Network
  n = after setting history

  abbrev m : Network
  m = after setting (Reads at id count ∷ history)

  same : streams m ≡ with_deed at id (Read d.answer) (streams n)
  same = subst (λ (r : Result (Done (List Item)) StreamFault). AfterCall n m at id Read r) reads
      (change_by_one setting history (Reads at id count) timely)

  now : Sound setting m.event m
  now = history_sound setting (Reads at id count ∷ history) (tt, timely)

  pair : (e : EndState) × (e.id ≡ id) × IsPaired n.made at e
  pair =
      let o = read_opened setting.numbers (n.tables at) count (by_id (n.tables at) id) d reads in (
        o.0,
        eqb-true (o.0).id id (found_passes (has_id id) (n.tables at).ends o.0 o.1),
        (are_paired setting history timely).paired at id o.0 o.1 o.2
            (asked_ours setting history here at id o.0 o.1 o.2),
      )

  abbrev it : Made
  it = pair.2.it

  abbrev peer : Made
  peer = pair.2.peer

  it_newest : newest n.made at id ≡ Some it
  it_newest = paired_newest n.made at id pair.0 pair.2 pair.1

  end_newest : find (has_number at id) (streams n) ≡ Some it.stream
  end_newest = found_seen stream_of (has_number at id) n.made it it_newest

  peer_born : born n.made peer.stream.birth ≡ Some peer
  peer_born = found_born (is_end peer.stream.owner peer.stream.id) peer n.made n.event
      (history_sound setting history timely).births pair.2.paired.peer_newest

  -- the end and its peer as they are then
  reader : (x : Made) × (newest m.made at id ≡ Some x) × (x.stream ≡ deeded (Read d.answer) it.stream)
  reader =
      seen_found stream_of (has_number at id) m.made (deeded (Read d.answer) it.stream)
      (ap (find (has_number at id)) same ∙ deed_found at id (Read d.answer) it.stream (streams n) end_newest)

  writer : (y : Stream) × (find (has_been peer.stream.birth) (with_deed at id (Read d.answer) (streams n)) ≡ Some y)
      × (y.written ≡ peer.stream.written)
  writer = written_still at id d.answer peer.stream.birth peer.stream (streams n)
      (found_seen stream_of (has_been peer.stream.birth) n.made peer peer_born)

  writer_made : (x : Made) × (born m.made peer.stream.birth ≡ Some x) × (x.stream ≡ writer.0)
  writer_made = seen_found stream_of (has_been peer.stream.birth) m.made writer.0
      (ap (find (has_been peer.stream.birth)) same ∙ writer.1)

  comes : ReadsFrom (it.stream.read ++ d.answer) peer.stream.written
  comes =
      let r = in_order.reads reader.0.stream.birth reader.0 peer.stream.birth
      (found_born (is_end at id) reader.0 m.made m.event now.births reader.1)
      (ap (λ (x : Stream). x.peer) reader.2 ∙ pair.2.connected.peer) in
      let one : r.0 ≡ writer_made.0 = same_Some r.0 writer_made.0 (sym r.1 ∙ writer_made.1) in
      subst (λ l. ReadsFrom l peer.stream.written) (ap (λ (x : Stream). x.read) reader.2)
      (subst (λ w. ReadsFrom reader.0.stream.read w)
      (ap (λ (x : Made). x.stream.written) one ∙ ap (λ (x : Stream). x.written) writer_made.2 ∙ writer.2) r.2)

  pub reads_with : ReadsWith (streams n) at id d.answer
  reads_with = record {
    end = it.stream;
    newest = end_newest;
    peer = peer.stream;
    has = pair.2.connected.peer;
    made = contains_of (streams n) peer.stream
        (there_seen stream_of n.made peer
        (found_there (is_end peer.stream.owner peer.stream.id) n.made peer pair.2.paired.peer_newest).0);
    reads = comes;
  }
