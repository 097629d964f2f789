-- The records of a capture that were read so far.
use Rattle.std.proofs.Common.{◌≡◌, inl, inr, ℕ, zero, suc, ◌+◌, ◌*◌, ◌^◌, List, [], ◌∷◌, ◌++◌, length}
use Rattle.std.proofs.Common.{refl, sym, ap, subst, ◌∙◌, arith, append_assoc, append-nil, map}
use Rattle.std.specs.Prelude.{All, Option, None, Some}
use Rattle.std.specs.List.{FoldsTo}
use Rattle.std.specs.Io.KnownBytes.{Consumes, IsAtEnd}
use Rattle.std.proofs.KnownBytes.{Consumes-trans}
use Rattle.std.proofs.lemmas.Fn.{FoldsTo-push}
use Rattle.std.proofs.lemmas.List.{length-append, map-append}
use Rattle.std.proofs.lemmas.List.Elements.{All-append}
use Rattle.std.proofs.lemmas.Grind.{flat_map-append}
use Rattle.at_pcap.proofs.RecordLemmas.{all_of, ended, header_len}
use Rattle.at_pcap.specs.Orders.{bytes_in}
use Rattle.at_pcap.specs.declared.order.Order.TheVariants.{Big, Little}
use Rattle.at_pcap.specs.Captures.{IsFileHeader, IsRecord, Record, file_header_bytes, magic_of, record_bytes}
use Rattle.at_pcap.specs.Captures.{header_bytes, header_of}
use Rattle.at_pcap.specs.Faults.{TellsRecord}
use Rattle.at_pcap.specs.Files.{BegunFile, Classic, HoldsFile, Records, StarvedFile, TellsFile}
use Rattle.at_pcap.specs.Frames.{Frame, frame_of}
use Rattle.at_pcap.specs.Readings.{AreFirst, broken_at, place, records_bytes}
use Rattle.at_pcap.specs.declared.order.Order.{Order}
use Rattle.at_pcap.specs.declared.file_header.FileHeader.{FileHeader}
use Rattle.at_pcap.specs.declared.fault.ReadError.{ReadError}
use Rattle.at_pcap.specs.declared.fault.ReadError.TheVariants as error

-- this file header and some records were read, which were taken, and this is the place behind them
pub record HasRead (S : Type 0) (takes : S → Frame → S → Type 0) (known left : Option (List ℕ)) (h : FileHeader)
    (old new : S) (at : ℕ) : Type 0 where
  pub front : List ℕ
  pub records : List Record
  pub file_header : IsFileHeader front h
  pub each : All IsRecord records
  pub read : Consumes known left (front ++ records_bytes h.order records)
  pub taken : FoldsTo takes old (map (frame_of h) records) new
  pub here : at ≡ place (length (front ++ records_bytes h.order records))

len_of : (o : Order) (magic minor word : ℕ) (ignored : List ℕ)
    → length (bytes_in o 4 magic ++ bytes_in o 2 2 ++ bytes_in o 2 minor ++ ignored ++ bytes_in o 4 word)
    ≡ 12 + length ignored
len_of Big magic minor word ignored = omega (arith, length-append ignored (bytes_in Big 4 word))
len_of Little magic minor word ignored = omega (arith, length-append ignored (bytes_in Little 4 word))

pub file_header_len : (front : List ℕ) (h : FileHeader) → IsFileHeader front h → length front ≡ 24
unfolding file_header_bytes
file_header_len front h is =
    let len = len_of h.order (magic_of h.precision) is.minor (is.upper * 2 ^ 16 + h.link_type) is.ignored in
    ap length is.fields ∙ len ∙ omega (arith, is.ignored_len)

pub begin : (S : Type 0) (takes : S → Frame → S → Type 0) (known left : Option (List ℕ)) (h : FileHeader) (old : S)
    (bytes : List ℕ) → IsFileHeader bytes h → Consumes known left bytes → HasRead S takes known left h old old 24
begin S takes known left h old bytes is read =
    let all : bytes ≡ bytes ++ [] = sym (append-nil bytes) in
    record {
      front = bytes;
      records = [];
      file_header = is;
      each = λ k d low. absurd (omega (arith, low));
      read = subst (Consumes known left) all read;
      taken = refl;
      here = ap place (sym (ap length (sym all) ∙ file_header_len bytes h is));
    }

pub farther : (at n m : ℕ) → at ≡ place n → place (at + m) ≡ place (n + m)
farther at n m is = rw is (omega arith)

single : (p : Record) → IsRecord p → All IsRecord (p ∷ [])
single p ok zero d low = ok
single p ok (suc k) d low = absurd (omega (arith, low))

-- one more record was read and taken
pub more : (S : Type 0) (takes : S → Frame → S → Type 0) (known left last : Option (List ℕ))
    (h : FileHeader) (old new next : S) (at after : ℕ) (p : Record)
    → HasRead S takes known left h old new at → IsRecord p → Consumes left last (record_bytes h.order p)
    → takes new (frame_of h p) next → after ≡ place (at + (16 + length p.captured))
    → HasRead S takes known last h old next after
more S takes known left last h old new next at after p so_far ok read taken place_is =
    let front = so_far.front in
    let ps = so_far.records in
    let bytes = records_bytes h.order ps in
    let all : (front ++ bytes) ++ record_bytes h.order p ≡ front ++ records_bytes h.order (ps ++ p ∷ []) =
    append_assoc front bytes (record_bytes h.order p) ∙ ap (λ l. front ++ l)
    (ap (λ l. bytes ++ l) (sym (append-nil (record_bytes h.order p)))
    ∙ sym (flat_map-append (record_bytes h.order) ps (p ∷ []))) in
    let one : All IsRecord (p ∷ []) = single p ok in
    let len : length (front ++ records_bytes h.order (ps ++ p ∷ []))
    ≡ length (front ++ bytes) + (16 + length p.captured) =
    sym (ap length all) ∙ omega (
      arith,
      length-append (front ++ bytes) (record_bytes h.order p),
      length-append (header_bytes h.order (header_of p)) p.captured,
      header_len h.order (header_of p),
    ) in
    record {
      front = front;
      records = ps ++ p ∷ [];
      file_header = so_far.file_header;
      each = All-append IsRecord ps (p ∷ []) so_far.each one;
      read = subst (Consumes known last) all (Consumes-trans known left last (front
          ++ bytes) (record_bytes h.order p) so_far.read read);
      taken = subst (λ l. FoldsTo takes old l next) (sym (map-append (frame_of h) ps (p ∷ [])))
          (FoldsTo-push takes old (map (frame_of h) ps) new (frame_of h p) next so_far.taken taken);
      here = place_is ∙ farther at (length (front ++ bytes)) (16 + length p.captured) so_far.here
          ∙ ap place (sym len);
    }

pub first_of : (known left : Option (List ℕ)) (front : List ℕ) → Consumes known left front → AreFirst known front
first_of None left front read = tt
first_of (Some xs) None front read = absurd read
first_of (Some xs) (Some ys) front read = (ys, read)

module _ (S : Type 0) (takes : S → Frame → S → Type 0) (known left : Option (List ℕ)) (h : FileHeader) (old new : S)
    (at : ℕ) (so_far : HasRead S takes known left h old new at) where
  front_of : List ℕ
  front_of = so_far.front ++ records_bytes h.order so_far.records

  pub whole : IsAtEnd left → HoldsFile takes known old new
  unfolding front_of
  whole over = (
    front_of,
    map (frame_of h) so_far.records,
    ended known left front_of so_far.read over,
    Classic h so_far.records [] None (record {
      begins = record {
        front = so_far.front;
        file_header = so_far.file_header;
        each = so_far.each;
        parts = sym (append-nil front_of);
      };
      ends = refl;
    }),
    so_far.taken,
  )

  pub begun : BegunFile takes known old new
  unfolding front_of
  begun = record {
    first = front_of;
    frames = map (frame_of h) so_far.records;
    are = first_of known left front_of so_far.read;
    begins = Records front_of h so_far.records (record {
      front = so_far.front;
      file_header = so_far.file_header;
      each = so_far.each;
      parts = sym (append-nil front_of);
    });
    taken = so_far.taken;
  }

  pub broken_off : (keeps : S → S → Type 0) (e : ReadError) → TellsRecord h.order left e
      → TellsFile takes keeps known old new (broken_at e at)
  unfolding front_of
  broken_off keeps (error.Fault f) tells = record {
    all = front_of ++ tells.0;
    frames = map (frame_of h) so_far.records;
    rest = tells.0;
    are = all_of known left front_of tells.0 so_far.read tells.1;
    is = Classic h so_far.records tells.0 (Some f) (record {
      begins = record { front = so_far.front; file_header = so_far.file_header; each = so_far.each; parts = refl };
      ends = tells.2;
    });
    here = so_far.here ∙ ap place (omega (arith, length-append front_of tells.0));
    taken = so_far.taken;
  }
  broken_off keeps (error.Unreadable why) tells = begun
  broken_off keeps error.NoMemory tells = (new, begun, inl refl)

  -- the next frame was refused
  pub starved : (keeps : S → S → Type 0) (last : S) → keeps new last → StarvedFile takes keeps known old last
  starved keeps last kept = (new, begun, inr kept)
