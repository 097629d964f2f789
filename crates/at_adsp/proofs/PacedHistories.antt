-- How far the ends of a network went on after a history.
use Rattle.std.proofs.Common.{◌≡◌, ℕ, ◌+◌, ◌≤◌, Bool, true, false, cond, replicate, Option}
use Rattle.std.proofs.Common.{Some, None, refl, sym, ◌∙◌, arith}
use Rattle.std.proofs.lemmas.Bool.{true≢false}
use Rattle.at_adsp_frame.specs.Segments.{Content}
use Rattle.at_ddp.specs.declared.address.Address.{Address}
use Rattle.at_adsp.specs.Network.{Setting, Sent, Network, Happening, Connects, Listens, Closes, Writes, Reads, Resets}
use Rattle.at_adsp.specs.Network.{Ticks, Takes, Strange, Other}
use Rattle.at_ddp.specs.Posts.{packet_at}
use Rattle.at_ddp.proofs.PostLemmas.{none_sent, sent_at, sent_both}
use Rattle.at_adsp.specs.Network.{IsTimely, birth_of, done, hears, newest, opening, takes}
use Rattle.at_adsp.specs.Orders.{whole_numbered}
use Rattle.at_adsp.proofs.Logs.{length_both}
use Rattle.at_adsp.proofs.CallPaces.{closes_pace, connects_pace, listens_pace, reads_pace, resets_pace, ticks_pace}
use Rattle.at_adsp.proofs.CallPaces.{writes_pace}
use Rattle.at_adsp.proofs.PacedNetworks.{LowHere, PaceOf, PaceOn, TellsHere, earlier_low, none_go, pace_later}
use Rattle.at_adsp.proofs.PacedNetworks.{sent_before, still_pace}
use Rattle.at_adsp.proofs.PacedReceptions.{hears_pace}
use Rattle.at_adsp.proofs.Sound.{Sound}
use Rattle.at_adsp.proofs.Steps.{later}

module _ (room : ℕ) (setting : Setting) (n : Network) (sound : Sound (whole_numbered setting) n.event n)
    (pace : PaceOf room setting.ours n.event n) where
  abbrev W : Setting
  W = whole_numbered setting

  abbrev Now : Network → Type 0
  Now m = PaceOn room setting.ours pace.marks n m

  now : Sound W (n.event + 1) n
  now = later W n sound

  abbrev pace_now : PaceOf room setting.ours (n.event + 1) n
  pace_now = pace_later room setting.ours n pace

  takes_pace : (which : ℕ) → IsTimely W n (Takes which) → Now (takes W n (packet_at n.sent which))
  takes_pace which timely = go (packet_at n.sent which) refl
    where
      go : (o : Option Sent) → packet_at n.sent which ≡ o → Now (takes W n o)
      go None is = still_pace room setting.ours n pace_now sound.past
      go (Some s) is =
          let t = timely s is in
          let h = sent_at (TellsHere room n.made pace.marks) n.sent which s pace.sent is in
          hears_pace room setting n s.to s.from s.packet sound pace (λ ours. h.window)
          (λ b same. h.tells t.1 b
          (of (setting.ours s.from) (birth_of (newest n.made s.from s.packet.source)) b same)) t.2
        where
          of : (c : Bool) (o : Option ℕ) (b : ℕ) → cond c o None ≡ Some b → o ≡ Some b
          of true o b h = h
          of false o b h = absurd (cc)

  -- what comes from a strange address is of no end that an end here follows
  strange_pace : (at from : Address) (segment : Content) → IsTimely W n (Strange at from segment)
      → Now (hears W n at from segment)
  strange_pace at from segment timely =
      hears_pace room setting n at from segment sound pace (λ ours. absurd (true≢false (sym ours ∙ timely.1)))
      (λ b same. absurd (none (setting.ours from) (birth_of
      (newest n.made from segment.source)) b timely.1 same)) timely.2
    where
      none : (c : Bool) (o : Option ℕ) (b : ℕ) → c ≡ false → cond c o None ≡ Some b → ⊥
      none true o b strange h = absurd (true≢false strange)
      none false o b strange h = absurd (cc)

  pub done_pace : (h : Happening) → IsTimely W n h → Now (done W n h)
  done_pace (Connects at to) timely = connects_pace room W n at to sound pace timely
  done_pace (Listens at on) timely = listens_pace room setting.ours n at on sound.past pace_now
  done_pace (Closes at id) timely = closes_pace room setting n at id now sound.past pace_now
  done_pace (Writes at id items) timely = writes_pace room setting n at id now sound.past pace_now items
  done_pace (Reads at id count) timely = reads_pace room setting n at id now sound.past pace_now count
  done_pace (Resets at id) timely = resets_pace room setting n at id now sound.past pace_now
  done_pace (Ticks at id fires) timely = ticks_pace room setting n at id now sound.past pace_now fires
  done_pace (Takes which) timely = takes_pace which timely
  done_pace (Strange at from segment) timely = strange_pace at from segment timely
  done_pace (Other count) timely = record {
    pace = record {
      marks = pace.marks;
      none = pace_now.none;
      ends = pace.ends;
      sent = sent_both (TellsHere room n.made pace.marks) n.sent (replicate count None) pace.sent
          (none_sent (TellsHere room n.made pace.marks) count);
      few = λ b. let le = pace.few b in let many = length_both n.sent (replicate {A = Option Sent} count None) in
          omega (arith, le, many);
      rooms = pace.rooms;
    };
    goes = none_go room setting.ours pace.marks n.made;
    low = sent_both (LowHere room setting.ours n.made pace.marks n.event) n.sent (replicate count None)
        (earlier_low room setting.ours n.made pace.marks n sound.past)
        (none_sent (LowHere room setting.ours n.made pace.marks n.event) count);
    back = λ s lt fresh. (fresh, refl);
    before = sent_before n.event n.sent (replicate count None) (none_sent (λ (s : Sent). s.event ≡ n.event) count);
  }

-- before anything happened
pub opening_pace : (room : ℕ) (setting : Setting) → ((at : Address) → (setting.rooms at).receive ≤ room)
    → PaceOf room setting.ours 0 (opening (whole_numbered setting))
opening_pace room setting rooms =
    record {
      marks = λ b. record { gave = 0; took = 0 };
      none = λ b le. refl;
      ends = tt;
      sent = tt;
      few = λ b. omega arith;
      rooms = rooms;
    }
