-- What each segment that comes leaves true of a network of ends of streams.
use Rattle.std.proofs.Common.{◌≡◌, ℕ, ◌+◌, Bool, true, false, cond, Option, Some, None, ◌⊎◌, refl}
use Rattle.std.specs.Prelude.{◌==◌, ◌&&◌}
use Rattle.at_ddp.specs.Address.{same_address}
use Rattle.at_ddp.specs.declared.address.Address.{Address}
use Rattle.at_adsp_frame.specs.Segments.{Content, Part, Open}
use Rattle.at_adsp_frame.specs.declared.segment.OpenKind.{OpenKind}
use Rattle.at_adsp_frame.specs.declared.segment.OpenKind.TheVariants.{Request, Acknowledgement}
use Rattle.at_adsp_frame.specs.declared.segment.OpenKind.TheVariants.{RequestAndAcknowledgement, Denial}
use Rattle.at_adsp_end.specs.Ends.{EndState, has_remote, is_open, is_opening}
use Rattle.at_adsp_end.specs.Hearing.{heard, told}
use Rattle.at_adsp_end.specs.Positions.{Numbers}
use Rattle.at_adsp_end.specs.declared.remote.Remote.{Remote}
use Rattle.at_adsp_end.specs.declared.change.EndChange.TheVariants as step
use Rattle.at_adsp_ends.specs.Openings.{denial_came, ignored}
use Rattle.at_adsp_ends.specs.Receiving.{opening_came, part_came, segment_came, settled}
use Rattle.at_adsp_ends.specs.Tables.{EndTable, by_id, by_remote, freed}
use Rattle.at_adsp.specs.Network.{Setting, Network, MakesInTime, NoneNames, does, hears}
use Rattle.at_adsp.proofs.EndMoves.{heard_plain, heard_quiet, open_is, plain_says}
use Rattle.at_adsp.proofs.Receptions.{ack_sound, answer_sound, any_sound}
use Rattle.at_adsp.proofs.Sound.{Sound, Tells, TellsKind}
use Rattle.at_adsp.proofs.Steps.{freed_sound, ignored_sound, later, quiet_sound}

module _ (setting : Setting) (n : Network) (at from : Address) (s : Content) (sound : Sound setting n.event n) where
  abbrev N : Numbers
  N = setting.numbers

  abbrev t : EndTable
  t = n.tables at

  abbrev r : Remote
  r = record { address = from; id = s.source }

  now : Sound setting (n.event + 1) n
  now = later setting n sound

  -- what comes is from a strange address, or says this
  abbrev By : Type 0 → Type 0
  By tells = (setting.ours from ≡ false) ⊎ ((setting.ours from ≡ true) × tells)

  denial_sound : (dest : ℕ) (o : Option EndState) → by_id t dest ≡ o
      → Sound setting (n.event + 1) (does setting n at (denial_came t from o))
  denial_sound dest None is = ignored_sound setting n at now
  denial_sound dest (Some e) is = go (is_opening e.phase && same_address e.asked from)
    where
      go : (b : Bool) → Sound setting (n.event + 1)
          (does setting n at (cond b (freed t (step.Denied e.id) e) (ignored t)))
      go true = freed_sound setting n at (step.Denied e.id) e now
      go false = ignored_sound setting n at now

  -- ---- other segments

  segment_sound : (o : Option EndState) → by_remote t r ≡ o
      → Sound setting (n.event + 1) (does setting n at (segment_came N t s o))
  segment_sound None is = ignored_sound setting n at now
  segment_sound (Some e) is = go (is_open e.phase) refl
    where
      go : (b : Bool) → is_open e.phase ≡ b
          → Sound setting (n.event + 1) (does setting n at (cond b (settled t (heard N e (told N e s))) (ignored t)))
      go true opened =
          quiet_sound setting n at (has_remote r) e (heard N e (told N e s)).after (heard N e (told N e s)).step
          (heard N e (told N e s)).sent now is
          (heard_quiet N e (told N e s) (open_is e.phase opened))
          (plain_says (heard N e (told N e s)).after (heard N e (told N e s)).sent (heard_plain N e (told N e s)))
      go false opened = ignored_sound setting n at now

  -- ---- every segment

  opening_sound : setting.ours at ≡ true → (kind : OpenKind) (dest : ℕ)
      → ((id : ℕ) → (opening_came N t r s kind dest).answer ≡ step.Made id → NoneNames n at id)
      → By (TellsKind setting n.made from at s.source kind dest) →
      Sound setting (n.event + 1) (does setting n at (opening_came N t r s kind dest))
  opening_sound here Request dest makes by = any_sound setting n at from s sound (s.source == 0) makes
  opening_sound here Acknowledgement dest makes by =
      ack_sound setting n at from s sound here dest (by_id t dest) refl by
  opening_sound here RequestAndAcknowledgement dest makes by =
      answer_sound setting n at from s sound here dest (by_remote t r) (by_id t dest) refl by
  opening_sound here Denial dest makes by = denial_sound dest (by_id t dest) refl

  part_sound : setting.ours at ≡ true → (part : Part)
      → ((id : ℕ) → (part_came N t r s part).answer ≡ step.Made id → NoneNames n at id)
      → By (Tells setting n.made from at s.source part) →
      Sound setting (n.event + 1) (does setting n at (part_came N t r s part))
  part_sound here (Open kind dest) makes by = opening_sound here kind dest makes by
  part_sound here other makes by = segment_sound (by_remote t r) refl

  pub hears_sound : setting.ours at ≡ true → MakesInTime setting n at from s
      → By (Tells setting n.made from at s.source s.body) → Sound setting (n.event + 1) (hears setting n at from s)
  hears_sound here makes by = part_sound here s.body makes by
