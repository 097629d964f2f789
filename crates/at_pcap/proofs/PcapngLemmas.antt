-- The blocks of a pcapng file that were read so far.
use Rattle.std.proofs.Common.{◌≡◌, ℕ, ◌+◌, ◌<◌, ◌≤◌, List, [], ◌++◌, length, take, true, refl, sym, ap, subst}
use Rattle.std.proofs.Common.{◌∙◌, arith, append_assoc, append-nil}
use Rattle.std.specs.Prelude.{Option, None, Some}
use Rattle.std.specs.Io.KnownBytes.{Consumes, IsAtEnd, prepend_known}
use Rattle.std.specs.List.{FoldsTo}
use Rattle.std.proofs.KnownBytes.{Consumes-trans}
use Rattle.std.proofs.lemmas.Fn.{FoldsTo-push}
use Rattle.std.proofs.lemmas.List.{length-append}
use Rattle.at_pcap.specs.Blocks.{Section, is_section}
use Rattle.at_pcap.specs.Faults.{AreAll}
use Rattle.at_pcap.specs.Files.{BegunFile, Blocks, HoldsFile, Nothing, Pcapng, TellsFile}
use Rattle.at_pcap.specs.Frames.{Frame}
use Rattle.at_pcap.specs.Readings.{AreFirst, place}
use Rattle.at_pcap.specs.Sections.{AreBlocks, NoBlocks, OneMore, with_found}
use Rattle.at_pcap.specs.Steps.{Moves, TakesFound, TellsMove}
use Rattle.at_pcap.specs.declared.reader.CaptureError.{CaptureError}
use Rattle.at_pcap.specs.declared.reader.CaptureError.TheVariants as broken
use Rattle.at_pcap.proofs.FrontLemmas.{section_before}
use Rattle.at_pcap.proofs.ReadingLemmas.{first_of, farther}
use Rattle.at_pcap.proofs.RecordLemmas.{all_of, ended}

-- these blocks were read, whose frames were taken, and this is the place behind them
pub record HasBlocks (S : Type 0) (takes : S → Frame → S → Type 0) (known left : Option (List ℕ)) (s : Section)
    (old new : S) (at : ℕ) : Type 0 where
  pub bytes : List ℕ
  pub frames : List Frame
  pub begins : is_section bytes ≡ true
  pub long : 4 ≤ length bytes
  pub blocks : AreBlocks bytes frames s
  pub read : Consumes known left bytes
  pub taken : FoldsTo takes old frames new
  pub here : at ≡ place (length bytes)

-- what the front and a reader hold, where that is known
prepended : (front more : List ℕ) (known left : Option (List ℕ)) → Consumes known left more
    → Consumes (prepend_known front known) left (front ++ more)
prepended front more None left read = tt
prepended front more (Some xs) None read = absurd read
prepended front more (Some xs) (Some ys) read = ap (λ l. front ++ l) read ∙ sym (append_assoc front more ys)

prepended_all : (front more : List ℕ) (known : Option (List ℕ)) → AreAll known more
    → AreAll (prepend_known front known) (front ++ more)
prepended_all front more None are = tt
prepended_all front more (Some xs) are = ap (λ l. front ++ l) are

more_taken : (S : Type 0) (takes : S → Frame → S → Type 0) (old mid new : S) (frames : List Frame)
    (found : Option Frame) → FoldsTo takes old frames mid → TakesFound takes mid found new
    → FoldsTo takes old (with_found frames found) new
more_taken S takes old mid new frames None before taken = subst (FoldsTo takes old frames) (sym taken) before
more_taken S takes old mid new frames (Some f) before taken = FoldsTo-push takes old frames mid f new before taken

none_first : (known : Option (List ℕ)) → AreFirst known []
none_first None = tt
none_first (Some xs) = (xs, refl)

-- the first block
pub first_block : (S : Type 0) (takes : S → Frame → S → Type 0) (known left : Option (List ℕ)) (front : List ℕ)
    (s t : Section) (old new : S) (after : ℕ) → is_section front ≡ true → 4 ≤ length front
    → Moves takes known left front s t old new 0 after
    → HasBlocks S takes (prepend_known front known) left t old new after
first_block S takes known left front s t old new after is long m =
    let block = front ++ m.block.more in
    record {
      bytes = block;
      frames = with_found [] m.found;
      begins = section_before front m.block.more long ∙ is;
      long = omega (arith, length-append front m.block.more);
      blocks = OneMore [] [] s block (record { section = t; found = m.found }) (NoBlocks s)
          (record { is = m.block.is; whole = m.block.whole });
      read = prepended front m.block.more known left m.block.read;
      taken = more_taken S takes old old new [] m.found refl m.taken;
      here = m.here ∙ ap place (omega arith);
    }

-- nothing was read but the front
pub first_broken : (S : Type 0) (takes : S → Frame → S → Type 0) (keeps : S → S → Type 0) (known : Option (List ℕ))
    (front : List ℕ) (s : Section) (old new : S) (e : CaptureError) → is_section front ≡ true → 4 ≤ length front
    → TellsMove keeps known front s old new 0 e → TellsFile takes keeps (prepend_known front known) old new e
first_broken S takes keeps known front s old new (broken.Fault fault there) is long tells = record {
  all = front ++ tells.2.more;
  frames = [];
  rest = front ++ tells.2.more;
  are = prepended_all front tells.2.more known tells.2.all;
  is = Pcapng [] (front ++ tells.2.more) (Some fault) (record {
    begins = section_before front tells.2.more long ∙ is;
    front = [];
    section = s;
    blocks = NoBlocks s;
    parts = refl;
    ends = (omega (arith, length-append front tells.2.more), tells.2.is);
  });
  here = tells.0 ∙ omega arith;
  taken = sym tells.1;
}
first_broken S takes keeps known front s old new (broken.Unreadable why) is long tells =
    let are = none_first (prepend_known front known) in
    record { first = []; frames = []; are = are; begins = Nothing; taken = sym tells }
first_broken S takes keeps known front s old new broken.NoMemory is long tells = (
  old,
  record { first = []; frames = []; are = none_first (prepend_known front known); begins = Nothing; taken = refl },
  tells,
)

module _ (S : Type 0) (takes : S → Frame → S → Type 0) (known left : Option (List ℕ)) (s : Section) (old new : S)
    (at : ℕ) (has : HasBlocks S takes known left s old new at) where
  pub all_read : IsAtEnd left → HoldsFile takes known old new
  all_read over = (
    has.bytes,
    has.frames,
    ended known left has.bytes has.read over,
    Pcapng has.frames [] None (record {
      begins = has.begins;
      front = has.bytes;
      section = s;
      blocks = has.blocks;
      parts = sym (append-nil has.bytes);
      ends = refl;
    }),
    has.taken,
  )

  pub some_read : BegunFile takes known old new
  some_read = record {
    first = has.bytes;
    frames = has.frames;
    are = first_of known left has.bytes has.read;
    begins = Blocks has.bytes has.frames s has.begins has.blocks;
    taken = has.taken;
  }

  module _ (mid : Option (List ℕ)) (front : List ℕ) (read : Consumes left mid front) where
    pub next_block : (t : Section) (last : Option (List ℕ)) (next : S) (after : ℕ)
        → Moves takes mid last front s t new next at after → HasBlocks S takes known last t old next after
    next_block t last next after m =
        let block = front ++ m.block.more in
        let long = has.long in
        record {
          bytes = has.bytes ++ block;
          frames = with_found has.frames m.found;
          begins = section_before has.bytes block has.long ∙ has.begins;
          long = omega (arith, length-append has.bytes block);
          blocks = OneMore has.bytes has.frames s block (record { section = t; found = m.found }) has.blocks
              (record { is = m.block.is; whole = m.block.whole });
          read = Consumes-trans known left last has.bytes block has.read
              (Consumes-trans left mid last front m.block.more read m.block.read);
          taken = more_taken S takes old new next has.frames m.found has.taken m.taken;
          here = m.here ∙ farther at (length has.bytes) (length block) has.here
              ∙ ap place (sym (length-append has.bytes block));
        }

    pub broken_block : (keeps : S → S → Type 0) (next : S) (e : CaptureError) → 0 < length front
        → TellsMove keeps mid front s new next at e → TellsFile takes keeps known old next e
    broken_block keeps next (broken.Fault fault there) some tells =
        let rest = front ++ tells.2.more in
        let len = length-append has.bytes rest in
        record {
          all = has.bytes ++ rest;
          frames = has.frames;
          rest = rest;
          are = all_of known left has.bytes rest has.read (all_of left mid front tells.2.more read tells.2.all);
          is = Pcapng has.frames rest (Some fault) (record {
            begins = section_before has.bytes rest has.long ∙ has.begins;
            front = has.bytes;
            section = s;
            blocks = has.blocks;
            parts = refl;
            ends = (omega (arith, length-append front tells.2.more), tells.2.is);
          });
          here = tells.0 ∙ has.here ∙ ap place (omega arith);
          taken = subst (FoldsTo takes old has.frames) (sym tells.1) has.taken;
        }
    broken_block keeps next (broken.Unreadable why) some tells =
        subst (BegunFile takes known old) (sym tells) some_read
    broken_block keeps next broken.NoMemory some tells = (new, some_read, tells)

-- where nothing is behind a reader, nothing was
pub end_before : (left mid : Option (List ℕ)) (buffer : List ℕ) (n : ℕ) → n ≡ 0 → Consumes left mid (take n buffer)
    → IsAtEnd mid → IsAtEnd left
end_before None mid buffer n none read over = tt
end_before (Some xs) None buffer n none read over = absurd read
end_before (Some xs) (Some ys) buffer n none read over =
    read ∙ ap (λ m. take m buffer ++ ys) none ∙ over
