-- How far ends went on since a segment was sent is counted alike on the cable and where numbers may be of any size.
use Rattle.std.proofs.Common.{◌≡◌, ℕ, ◌+◌, ◌-◌, ◌%◌, ◌^◌, ◌<◌, ◌≤◌, Bool, true, false, cond, List, [], ◌∷◌, length}
use Rattle.std.proofs.Common.{Some, refl, sym, ap, ◌∙◌, arith, lit<}
use Rattle.std.specs.Prelude.{nat_le}
use Rattle.std.proofs.lemmas.Bool.{leb-false}
use Rattle.at_ddp.specs.declared.address.Address.{Address}
use Rattle.at_adsp_end.specs.Ends.{EndState}
use Rattle.at_adsp_end.specs.Positions.{Numbers, far_around, whole, wire}
use Rattle.at_adsp.specs.Cables.{wire_numbered}
use Rattle.at_adsp.specs.Nearness.{expected, gone, unsent, went_on}
use Rattle.at_adsp.specs.Network.{Setting, Made, Sent, Network, Happening, AllTimely, after, done, newest}
use Rattle.at_adsp.specs.Orders.{whole_numbered}
use Rattle.at_adsp.specs.Wires.{wired}
use Rattle.at_adsp.proofs.Gone.{SenderIs, WasThere, WentOn, history_pace, last_pace, was_there}
use Rattle.at_adsp.proofs.Histories.{history_sound}
use Rattle.at_adsp.proofs.Mapped.{mapped}
use Rattle.at_adsp.proofs.Paces.{marks_of}
use Rattle.at_adsp.proofs.Rounds.{at_adds, far_on}
use Rattle.at_adsp.proofs.WireNetworks.{newest_wired, wired_made, wired_network}

abbrev M : ℕ
M = 2 ^ 32

-- after each happening the network on the cable is one whose numbers may be of any size
abbrev pub Alike : Setting → List Happening → List Happening → Type 0
Alike setting [] [] = Unit {0}
Alike setting [] (k ∷ ks) = ⊥
Alike setting (h ∷ hs) [] = ⊥
Alike setting (h ∷ hs) (k ∷ ks) =
    (after (wire_numbered setting) (h ∷ hs) ≡ wired_network (after (whole_numbered setting) (k ∷ ks)))
    × Alike setting hs ks

pub alike_now : (setting : Setting) (hs ks : List Happening) → Alike setting hs ks
    → after (wire_numbered setting) hs ≡ wired_network (after (whole_numbered setting) ks)
alike_now setting [] [] alike = refl
alike_now setting [] (k ∷ ks) alike = absurd alike
alike_now setting (h ∷ hs) [] alike = absurd alike
alike_now setting (h ∷ hs) (k ∷ ks) alike = alike.0

-- a number that goes on by little goes as far on the cable
far_near : (a b : ℕ) → a ≤ b → b < a + 2 ^ 32 → far_around M (a % M) (b % M) ≡ b - a
far_near a b le lt =
    let there : a + (b - a) ≡ b = omega (arith, le) in
    ap (λ x. far_around M (a % M) (x % M)) (sym there) ∙ far_on M a (b - a) (lit< tt) (omega (arith, le, lt))

module _ (room : ℕ) (small : room < 2 ^ 16) (setting : Setting) (rooms : (at : Address)
    → (setting.rooms at).receive ≤ room)
  where
    abbrev C : Setting
    C = wire_numbered setting

    abbrev W : Setting
    W = whole_numbered setting

    unsent_same : (e f : EndState) → (marks_of e).gave ≤ (marks_of f).gave
        → (marks_of f).gave ≤ (marks_of e).gave + (room + room)
        → far_around M (unsent wire (wired e)) (unsent wire (wired f)) ≡ (marks_of f).gave - (marks_of e).gave
    unsent_same e f le few =
        (λ i. far_around M (at_adds M e.sender.front (length e.sender.unacknowledged) i)
        (at_adds M f.sender.front (length f.sender.unacknowledged) i))
        ∙ far_near (marks_of e).gave (marks_of f).gave le (omega (arith, few, small))

    pub gone_same : (hs ks : List Happening) → Alike setting hs ks → AllTimely W ks → (s : Sent) (m : Made)
        → SenderIs setting.ours (after W ks).made s m →
        (gone C unsent hs s ≡ gone W unsent ks s) × (gone C expected hs s ≡ gone W expected ks s)
    gone_same [] [] alike timely s m is = (refl, refl)
    gone_same [] (k ∷ ks) alike timely s m is = absurd alike
    gone_same (h ∷ hs) [] alike timely s m is = absurd alike
    gone_same (h ∷ hs) (k ∷ ks) alike timely s m is =
        go (λ x was. gone_same hs ks alike.1 timely.1 s x was) (nat_le (after W ks).event s.event) refl
      where
        same : after C hs ≡ wired_network (after W ks)
        same = alike_now setting hs ks alike.1

        later : after C (h ∷ hs) ≡ wired_network (after W (k ∷ ks))
        later = alike.0

        went : (Numbers → EndState → ℕ) → ℕ
        went number = went_on wire number (newest (after C hs).made s.from s.packet.source)
            (newest (after C (h ∷ hs)).made s.from s.packet.source)

        so_far : (number : Numbers → EndState → ℕ) → gone C number (h ∷ hs) s
            ≡ cond (nat_le (after W ks).event s.event) 0 (gone C number hs s + went number)
        so_far number = ap (λ (x : Network). cond (nat_le x.event s.event) 0 (gone C number hs s + went number)) same

        go : ((x : Made) → SenderIs setting.ours (after W ks).made s x
            → (gone C unsent hs s ≡ gone W unsent ks s) × (gone C expected hs s ≡ gone W expected ks s))
            → (c : Bool) → nat_le (after W ks).event s.event ≡ c → (gone C unsent (h ∷ hs) s ≡ gone W unsent (k ∷ ks) s)
            × (gone C expected (h ∷ hs) s ≡ gone W expected (k ∷ ks) s)
        go before true e = (none unsent, none expected)
          where
            none : (number : Numbers → EndState → ℕ) → gone C number (h ∷ hs) s ≡ gone W number (k ∷ ks) s
            none number = so_far number ∙ ap (λ c. cond c 0 (gone C number hs s + went number)) e
                ∙ sym (ap (λ c. cond c 0 (gone W number ks s
                + went_on whole number (newest (after W ks).made s.from s.packet.source)
                (newest (done W (after W ks) k).made s.from s.packet.source))) e)
        go before false e = (
          more unsent (unsent_same w.it.last m.last went_far.gave went_far.gave_few) ih.0,
          more expected (far_near (marks_of w.it.last).took (marks_of m.last).took went_far.took
              (let few = went_far.took_few in omega (arith, few, small))) ih.1,
        )
          where
            lt : s.event < (after W ks).event
            lt = leb-false (after W ks).event s.event e

            w : WasThere room setting.ours (after W ks).made s m
            w = was_there room setting (after W ks) (done W (after W ks) k) (history_sound W (k ∷ ks) timely).lawful
                (history_pace room setting rooms ks timely.1) (last_pace room setting rooms k ks timely) s m lt is

            was : SenderIs setting.ours (after W ks).made s w.it
            was = w.was

            went_far : WentOn room w.it m
            went_far = w.went

            ih : (gone C unsent hs s ≡ gone W unsent ks s) × (gone C expected hs s ≡ gone W expected ks s)
            ih = before w.it was

            it_there : newest (after C hs).made s.from s.packet.source ≡ Some (wired_made w.it)
            it_there = ap (λ (x : Network). newest x.made s.from s.packet.source) same
                ∙ newest_wired (after W ks).made s.from s.packet.source ∙ ap (mapped wired_made) was.newest

            now_there : newest (after C (h ∷ hs)).made s.from s.packet.source ≡ Some (wired_made m)
            now_there = ap (λ (x : Network). newest x.made s.from s.packet.source) later
                ∙ newest_wired (done W (after W ks) k).made s.from s.packet.source ∙ ap (mapped wired_made) is.newest

            more : (number : Numbers → EndState → ℕ)
                → far_around M (number wire (wired w.it.last)) (number wire (wired m.last))
                ≡ number whole m.last - number whole w.it.last → gone C number hs s ≡ gone W number ks s →
                gone C number (h ∷ hs) s ≡ gone W number (k ∷ ks) s
            more number far so_before =
                so_far number ∙ ap (λ c. cond c 0 (gone C number hs s + went number)) e
                ∙ (λ i. so_before i + went_on wire number (it_there i) (now_there i))
                ∙ ap (λ d. gone W number ks s + d) far
                ∙ (λ i. gone W number ks s + went_on whole number (sym was.newest i) (sym is.newest i))
                ∙ sym (ap (λ c. cond c 0 (gone W number ks s
                + went_on whole number (newest (after W ks).made s.from s.packet.source)
                (newest (done W (after W ks) k).made s.from s.packet.source))) e)
