-- An end all of whose numbers are in range.
use Rattle.std.proofs.Common.{◌≡◌, ℕ, ◌^◌, ◌<◌, ◌≤◌, Bool, true, false, cond, List, [], ◌∷◌, ◌++◌}
use Rattle.std.proofs.Common.{length, refl, sym, ◌∙◌, arith, lit<, lit≤, length-append}
use Rattle.std.proofs.Common.{◌≢◌}
use Rattle.std.specs.Prelude.{◌==◌}
use Rattle.std.specs.List.{AllByRecursion}
use Rattle.std.proofs.lemmas.Bool.{true≢false, eq-eqb}
use Rattle.std.proofs.lemmas.List.Elements.{All-append, All-cons, All-nil}
use Rattle.at_ddp.specs.Datagram.{AreBytes, IsAddress}
use Rattle.at_adsp_frame.specs.Segments.{Content, Part, IsLawful, IsLawfulPart}
use Rattle.at_adsp_end.specs.Cuts.{Piece, last_piece, open_piece, pieces}
use Rattle.at_adsp_end.specs.Ends.{EndState, asking, id_of}
use Rattle.at_adsp_end.specs.Ends.{packet}
use Rattle.at_adsp_end.specs.declared.item.Item.{Item}
use Rattle.at_adsp_end.specs.declared.item.Item.TheVariants.{Byte, End}
use Rattle.at_adsp_end.specs.Items.{IsItem}

-- ---- lists of items

abbrev pub AreItems : List Item → Type 0
AreItems items = AllByRecursion IsItem items

-- ---- pieces

abbrev pub IsPiece : Piece → Type 0
IsPiece p = AreBytes p.bytes × (length p.bytes ≤ 572)

last_fits : (got : List ℕ) → AreBytes got → length got ≤ 572 → AllByRecursion IsPiece (last_piece got)
last_fits [] bytes few = tt
last_fits (b ∷ got) bytes few = ((bytes, few), tt)

one_byte : (b : ℕ) → b < 256 → AreBytes (b ∷ [])
one_byte b fits = All-cons (λ n. n < 256) b [] fits (All-nil (λ n. n < 256))

pub pieces_fit : (got : List ℕ) (items : List Item) → AreBytes got → length got ≤ 572 → AreItems items
    → AllByRecursion IsPiece (pieces got items)
pieces_fit got [] bytes few each = last_fits got bytes few
pieces_fit got (End ∷ xs) bytes few each = ((bytes, few), pieces_fit [] xs (All-nil (λ n. n < 256)) (lit≤ tt) each.1)
pieces_fit got (Byte b ∷ xs) bytes few each =
    go (pieces_fit (b ∷ []) xs (one_byte b each.0) (lit≤ tt) each.1)
    (λ more. pieces_fit (got ++ b ∷ []) xs (All-append (λ n. n < 256) got (b ∷ []) bytes (one_byte b each.0)) more
    each.1) (length got == 572) refl
  where
    go : AllByRecursion IsPiece (pieces (b ∷ []) xs)
        → (length (got ++ b ∷ []) ≤ 572 → AllByRecursion IsPiece (pieces (got ++ b ∷ []) xs)) → (c : Bool)
        → (length got == 572) ≡ c →
        AllByRecursion IsPiece (cond c (open_piece got ∷ pieces (b ∷ []) xs) (pieces (got ++ b ∷ []) xs))
    go full rest true is = ((bytes, few), full)
    go full rest false is =
        let other : length got ≢ 572 = (λ e. true≢false (sym (eq-eqb (length got) 572 e) ∙ is)) in
        rest (omega (arith, length-append got (b ∷ [])))

-- ---- an end in range

pub record EndFits (e : EndState) : Type 0 where
  pub id : e.id < 2 ^ 16
  pub asked : IsAddress e.asked
  pub remote : id_of e.remote < 2 ^ 16
  pub received : e.receiver.received < 2 ^ 32
  pub room : e.receive_room < 2 ^ 16
  pub unacknowledged : AreItems e.sender.unacknowledged
  pub waiting : AreItems e.sender.waiting

abbrev pub AllLawful : List Content → Type 0
AllLawful sent = AllByRecursion IsLawful sent

-- an end and what it sends are in range
pub record Fits (e : EndState) (packets : List Content) : Type 0 where
  pub end : EndFits e
  pub sent : AllLawful packets

pub packet_fits : (e : EndState) (first : ℕ) (ack : Bool) (body : Part) → EndFits e → first < 2 ^ 32 → IsLawfulPart body
    → IsLawful (packet e first ack body)
packet_fits e first ack body f in_range part = record {
  numbers = record {
    source = f.id;
    first = in_range;
    next = f.received;
    window = let room = f.room in omega (arith, room);
  };
  body = part;
}

pub asking_fits : (e : EndState) → EndFits e → IsLawful (asking e)
asking_fits e f = record {
  numbers = record {
    source = f.id;
    first = lit< tt;
    next = lit< tt;
    window = let room = f.room in omega (arith, room);
  };
  body = (lit< tt, refl);
}
