-- What happens at sockets for streams of this network happens at our addresses.
use Rattle.std.proofs.Common.{◌≡◌, ℕ, Bool, true, List, [], ◌∷◌, ap, ◌∙◌}
use Rattle.std.specs.List.{AllByRecursion}
use Rattle.at_ddp.specs.declared.address.Address.{Address}
use Rattle.at_adsp.specs.Network.{Closes, Connects, Happening, Listens, Other, Reads, Resets, Setting, Strange, Takes}
use Rattle.at_adsp.specs.Network.{Ticks, Writes}
use Rattle.at_adsp.specs.Pairs.{HappensHere}
use Rattle.at_steps.specs.StreamHappenings.{IsHere, is_streams_socket}

module _ (net : ℕ) (setting : Setting) (ours : setting.ours ≡ is_streams_socket net) where
  its : (at : Address) → is_streams_socket net at ≡ true → setting.ours at ≡ true
  its at is = ap (λ (f : Address → Bool). f at) ours ∙ is

  one_ours : (h : Happening) → IsHere net h → HappensHere setting h
  one_ours (Connects at to) is = its at is.0
  one_ours (Listens at on) is = its at is
  one_ours (Closes at id) is = its at is
  one_ours (Writes at id items) is = its at is
  one_ours (Reads at id count) is = its at is
  one_ours (Resets at id) is = its at is
  one_ours (Ticks at id tick) is = its at is
  one_ours (Takes which) is = tt
  one_ours (Strange at from segment) is = absurd is
  one_ours (Other count) is = tt

pub all_ours : (net : ℕ) (setting : Setting) (history : List Happening) → setting.ours ≡ is_streams_socket net
    → AllByRecursion (IsHere net) history → AllByRecursion (HappensHere setting) history
all_ours net setting [] ours all = tt
all_ours net setting (h ∷ history) ours all =
    (one_ours net setting ours h all.0, all_ours net setting history ours all.1)
