-- Words and bytes that are shown, if a reading of them is known.
use Rattle.std.proofs.Common.{arith, ◌≡◌, ◌⊎◌, ◌<◌, ◌≤◌, ◌/◌, ◌∷◌, [], List, ℕ, Ok, length, refl, sym, ◌∙◌, ap, subst}
use Rattle.std.proofs.Common.{inl, inr, None, ◌++◌, append_assoc}
use Rattle.std.specs.Prelude.{Option}
use Rattle.at_ddp.specs.Datagram.{Content, BeginsWith}
use Rattle.at_diagnostics.specs.Diagnostics.{TellsReason}
use Rattle.at_diagnostics.specs.Lines.{reason_told}
use Rattle.at_diagnostics.specs.declared.diagnostics.Diagnostics.{Diagnostics}
use Rattle.at_print.specs.Papers.{Page}
use Rattle.at_print.specs.Refusals.{refusal_line}
use Rattle.at_print.specs.Reports.{IsReadable}
use Rattle.at_print.specs.declared.status.Status.{Status}
use Rattle.at_print.specs.declared.status.Status.TheVariants.{Done, Failed}
use Rattle.at_show.specs.HexFaults.{fault_line}
use Rattle.at_show.specs.Shown.{IsSound, Shows}
use Rattle.at_show.specs.Texts.{WordText, NoHex, NoRoom}
use Rattle.at_show.specs.Told.{TellsRefusal, TellsWhy}
use Rattle.at_words.specs.Hexes.{IsHex}
use Rattle.at_words.specs.declared.hex_word.HexFault.{HexFault}
use Rattle.at_words.specs.declared.hex_word.HexFault.TheVariants as fault
use Rattle.hex.proofs.HexLemmas.{decode_of-odd}
use Rattle.hex.specs.Hex.{decode_of}

-- the datagram with which the bytes begin can be read, if it is the only one
pub readable_in : (bytes : List ℕ) (d : Content) (rest : List ℕ)
    → ((other : Content) (after : List ℕ) → BeginsWith bytes other after → (d ≡ other) × (rest ≡ after))
    → IsSound bytes → IsReadable d.kind d.data_
readable_in bytes d rest only sound =
    let P : Content → Type 0 = λ e. IsReadable e.kind e.data_ in
    subst P (sym (only sound.datagram sound.rest sound.begins).0) sound.readable

-- `-` has no digits
no_digits : (word bytes : List ℕ) → word ≡ 45 ∷ [] → decode_of word ≡ Ok bytes → ⊥
no_digits word bytes is decoded = let odd = decode_of-odd (45 ∷ []) refl in cc (sym (ap decode_of is) ∙ decoded)

-- a word spells no two lists of bytes
one_spelling : (word a b : List ℕ) → IsHex word a → IsHex word b → a ≡ b
one_spelling word a b (inl p) (inl q) = p.1 ∙ sym q.1
one_spelling word a b (inl p) (inr q) = absurd (no_digits word b p.0 q.1)
one_spelling word a b (inr p) (inl q) = absurd (no_digits word a q.0 p.1)
one_spelling word a b (inr p) (inr q) = cc (sym p.1 ∙ q.1)

-- what a word spells is sound, if the word is shown
pub sound_in : (word bytes : List ℕ) → Shows word → IsHex word bytes → IsSound bytes
sound_in word bytes shows spelled =
    subst IsSound (one_spelling word shows.bytes bytes shows.written spelled) shows.sound

-- what is printed of a word that spells no bytes, or for which there is no room
pub fault_text : (word : List ℕ) (room : ℕ) (f : HexFault) → (f ≡ fault.NoHex → (bytes : List ℕ) → ¬ IsHex word bytes)
    → (f ≡ fault.NoMemory → room < length word / 2) → WordText word room (fault_line f)
fault_text word room fault.NoHex none lacks = NoHex (none refl)
fault_text word room fault.NoMemory none lacks = NoRoom (lacks refl)

-- a word that is shown spells bytes, and there is room for them
pub no_fault : (word : List ℕ) (room : ℕ) (f : HexFault) → (f ≡ fault.NoHex → (bytes : List ℕ) → ¬ IsHex word bytes)
    → (f ≡ fault.NoMemory → room < length word / 2) → Shows word → length word / 2 ≤ room → ⊥
no_fault word room fault.NoHex none lacks shows fits = none refl shows.bytes shows.written
no_fault word room fault.NoMemory none lacks shows fits = let short = lacks refl in omega (arith, short, fits)

-- why something was refused
pub tells_why : {W : Type 0} (page : W → Page) (IsText : List ℕ → Type 0) (status : Status) (number : Option ℕ)
    (old new : Diagnostics W) → status ≡ Failed → IsText (refusal_line number)
    → TellsReason page (reason_told number) old new → TellsWhy page IsText status old new
tells_why page IsText status number old new failed is told = subst (λ s. TellsWhy page IsText s old new) (sym failed) (
  refusal_line number,
  number,
  is,
  record { front = []; line = refusal_line number; whole = refl; is = inl refl },
  told,
)

-- the same of a text that begins with more
pub told_behind : {W : Type 0} (page : W → Page) (front : List ℕ) (IsEnd IsText : List ℕ → Type 0) (status : Status)
    (old new : Diagnostics W) → ((text : List ℕ) → IsEnd text → IsText (front ++ text))
    → TellsWhy page IsEnd status old new → TellsWhy page IsText status old new
told_behind page front IsEnd IsText Done old new more same = same
told_behind page front IsEnd IsText Failed old new more (text, number, is, ends, told) = (
  front ++ text,
  number,
  more text is,
  record {
    front = front ++ ends.front;
    line = ends.line;
    whole = ap (λ l. front ++ l) ends.whole ∙ sym (append_assoc front ends.front ends.line);
    is = ends.is;
  },
  told,
)

-- a word that spells no bytes has no number
pub fault_told : {W : Type 0} (page : W → Page) (IsText : List ℕ → Type 0) (f : HexFault) (old new : Diagnostics W)
    → IsText (fault_line f) → TellsReason page (reason_told None) old new → TellsRefusal page IsText old new
fault_told page IsText fault.NoHex old new is told = (
  fault_line fault.NoHex,
  None,
  is,
  record { front = []; line = fault_line fault.NoHex; whole = refl; is = inr (refl, refl) },
  told,
)
fault_told page IsText fault.NoMemory old new is told = (
  fault_line fault.NoMemory,
  None,
  is,
  record { front = []; line = fault_line fault.NoMemory; whole = refl; is = inl refl },
  told,
)

-- nothing is told of what is shown, and one line of anything else
pub told_in : {W : Type 0} (page : W → Page) (IsText : List ℕ → Type 0) (status : Status) (old new : Diagnostics W)
    (P : Type 0) → (status ≡ Done → P) → TellsWhy page IsText status old new
    → (P × (new ≡ old)) ⊎ TellsRefusal page IsText old new
told_in page IsText Done old new P shows same = inl (shows refl, same)
told_in page IsText Failed old new P shows line = inr line
