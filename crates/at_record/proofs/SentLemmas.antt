-- The records of what a world sent, one after the other.
use Rattle.std.proofs.Common.{◌≡◌, ℕ, ◌+◌, ◌<◌, ◌≤◌, List, [], ◌∷◌, ◌++◌, length, take, drop, get_or, sym, ap, subst}
use Rattle.std.proofs.Common.{◌∙◌, Some, drop_of_length-le}
use Rattle.std.proofs.lemmas.List.{drop_more, take_more}
use Rattle.std.proofs.lemmas.List.Elements.{All-push}
use Rattle.std.proofs.lemmas.Option.{get_or_from_slice_get}
use Rattle.std.specs.Prelude.{Option, slice_get}
use Rattle.at_pcap.specs.Captures.{record_bytes}
use Rattle.at_pcap.specs.Readings.{records_bytes}
use Rattle.at_pcap.specs.declared.order.Order.TheVariants.{Little}
use Rattle.at_print.specs.Papers.{Page}
use Rattle.at_print.specs.Printers.{Prints}
use Rattle.at_print.specs.declared.printer.Printer.{Printer}
use Rattle.at_print.proofs.PrintLemmas.{TextLeft, text_ended, text_more}
use Rattle.at_record.specs.Recordings.{AreSendings, records_text, sending_of, sendings}
use Rattle.at_recording.specs.Frames.{IsSending}
use Rattle.at_recording.specs.Moments.{moment_after}
use Rattle.at_recording.specs.Recordings.{record_at, records_after}
use Rattle.at_recording.specs.declared.moment.Moment.{Moment}
use Rattle.at_world.specs.Sents.{SentDatagram}

-- the records of these, behind one of this moment
abbrev pub text_after : Option Moment → List SentDatagram → List ℕ
text_after last sent = records_bytes Little (records_after last (sendings sent))

module _ (sent : List SentDatagram) (i : ℕ) (s : SentDatagram) (within : i < length sent)
    (is : slice_get sent i ≡ Some s) where
  -- the datagram at a place, and those behind it
  here : drop i sent ≡ s ∷ drop (i + 1) sent
  here = drop_more sent i s within ∙ ap (λ x. x ∷ drop (i + 1) sent) (get_or_from_slice_get sent i s s is)

  -- the record of the next datagram
  pub record_next : {W : Type 0} (page : W → Page) (a b c : Printer W) (last : Option Moment) (m : Moment)
      → m ≡ moment_after last s.event → TextLeft page a b (records_text sent) (text_after last (drop i sent))
      → Prints page b c (record_bytes Little (record_at m s.to s.bytes))
      → TextLeft page a c (records_text sent) (text_after (Some m) (drop (i + 1) sent))
  record_next page a b c last m now so_far prints =
      let next = moment_after last s.event in
      subst (λ x. TextLeft page a c (records_text sent) (text_after (Some x) (drop (i + 1) sent))) (sym now)
      (text_more page a b c (records_text sent) (text_after last (drop i sent))
      (record_bytes Little (record_at next s.to s.bytes)) (text_after (Some next) (drop (i + 1) sent)) so_far
      (ap (text_after last) here)
      (subst (λ x. Prints page b c (record_bytes Little (record_at x s.to s.bytes))) now prints))

  -- the fields of one more fit
  pub fit_next : AreSendings (take i sent) → IsSending (sending_of s) → AreSendings (take (i + 1) sent)
  fit_next fit next =
      let first : get_or sent i s ≡ s = get_or_from_slice_get sent i s s is in
      subst AreSendings (sym (take_more sent i s within ∙ ap (λ x. take i sent ++ x ∷ []) first))
      (All-push (λ d. IsSending (sending_of d)) (take i sent) s fit next)

-- no datagram is left
pub records_ended : {W : Type 0} (page : W → Page) (a b : Printer W) (last : Option Moment) (i : ℕ)
    (sent : List SentDatagram) → length sent ≤ i
    → TextLeft page a b (records_text sent) (text_after last (drop i sent)) → Prints page a b (records_text sent)
records_ended page a b last i sent past so_far =
    text_ended page a b (records_text sent) (text_after last (drop i sent)) so_far
    (ap (text_after last) (drop_of_length-le sent past))
