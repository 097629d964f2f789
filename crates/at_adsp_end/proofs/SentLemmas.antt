-- What is sent, one after the other.
use Rattle.std.proofs.Common.{◌≡◌, ℕ, List, [], ◌∷◌, ◌++◌, append_assoc, refl, sym, ap}
use Rattle.std.proofs.Common.{subst, ◌∙◌}
use Rattle.at_ddp.specs.Outbox.{Outbox}
use Rattle.at_ddp.specs.Sending.{Sends}
use Rattle.at_ddp.specs.declared.address.Address.{Address}
use Rattle.at_ddp.proofs.OutboxLemmas.{sends_both}
use Rattle.at_adsp_frame.specs.Segments.{Content, spelled}
use Rattle.at_adsp_end.specs.Cuts.{cut_now, pieces, numbered}
use Rattle.at_adsp_end.specs.Ends.{EndState, SendsTo, addressed, spelled_all}
use Rattle.at_adsp_end.specs.Loads.{HasRoomTo, LeavesRoom}
use Rattle.at_adsp_end.specs.Outgoings.{Cuts}
use Rattle.at_adsp_end.specs.Positions.{wire}
use Rattle.at_adsp_end.specs.declared.item.Item.{Item}
use Rattle.at_adsp_end.proofs.CutLemmas.{cut_split}
use Rattle.at_adsp_end.proofs.LoadLemmas.{room_less}

-- ---- two lists of packets

spelled_both : (to : Address) (xs ys : List Content) → spelled_all (addressed to (xs ++ ys))
    ≡ spelled_all (addressed to xs) ++ spelled_all (addressed to ys)
spelled_both to [] ys = refl
spelled_both to (x ∷ xs) ys = ap (λ (l : List (Address × List ℕ)). (to, spelled x) ∷ l) (spelled_both to xs ys)

pub sends_to_both : (a b c : Outbox) (to : Address) (xs ys : List Content) → SendsTo a b to xs → SendsTo b c to ys
    → SendsTo a c to (xs ++ ys)
sends_to_both a b c to xs ys s t =
    subst (Sends a c) (sym (spelled_both to xs ys))
    (sends_both a b c (spelled_all (addressed to xs)) (spelled_all (addressed to ys)) s t)

-- ---- a list of items, one after the other

pub record SoFar (begun now : Outbox) (by : EndState) (first at : ℕ) (got : List ℕ)
    (all rest : List Item) : Type 0 where
  pub gone : List Content
  pub sent : SendsTo begun now by.asked gone
  pub whole : numbered wire by first (pieces [] all) ≡ gone ++ numbered wire by at (pieces got rest)
  pub room : LeavesRoom begun now by.asked gone

pub far_next : (begun old new : Outbox) (by : EndState) (first at after : ℕ) (got left : List ℕ) (all : List Item)
    (x : Item) (xs : List Item) → SoFar begun old by first at got all (x ∷ xs) → Cuts old new by at got x after left
    → SoFar begun new by first after left all xs
far_next begun old new by first at after got left all x xs s k =
    let now = cut_now wire by at got x in
    record {
      gone = s.gone ++ now;
      sent = sends_to_both begun old new by.asked s.gone now s.sent k.sent;
      whole = s.whole ∙ ap (λ l. s.gone ++ l) (k.rest xs)
          ∙ sym (append_assoc s.gone now (numbered wire by after (pieces left xs)));
      room = λ more h. k.room more
          (s.room (now ++ more) (subst (HasRoomTo begun by.asked) (append_assoc s.gone now more) h));
    }

-- room for all is room for the others
left_room : (begun now : Outbox) (by : EndState) (first at : ℕ) (got : List ℕ) (all rest : List Item)
    → SoFar begun now by first at got all rest → HasRoomTo begun by.asked (numbered wire by first (pieces [] all))
    → HasRoomTo now by.asked (numbered wire by at (pieces got rest))
left_room begun now by first at got all rest s h =
    s.room (numbered wire by at (pieces got rest)) (subst (HasRoomTo begun by.asked) s.whole h)

pub far_room : (begun now : Outbox) (by : EndState) (first at : ℕ) (got : List ℕ) (all : List Item) (x : Item)
    (xs : List Item) → SoFar begun now by first at got all (x ∷ xs)
    → HasRoomTo begun by.asked (numbered wire by first (pieces [] all))
    → HasRoomTo now by.asked (cut_now wire by at got x)
far_room begun now by first at got all x xs s h =
    let split = cut_split by at got x xs in
    room_less now by.asked (cut_now wire by at got x) split.0
    (subst (HasRoomTo now by.asked) split.1 (left_room begun now by first at got all (x ∷ xs) s h))
