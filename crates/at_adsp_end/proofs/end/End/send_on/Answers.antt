use Rattle.std.proofs.Common.{◌≡◌, ℕ, ◌+◌, [], ◌++◌, length, refl, sym, ap, subst, ◌∙◌}
use Rattle.at_adsp_end.specs.Cuts.{numbered, pieces}
use Rattle.at_adsp_end.specs.Ends.{EndState, Sender, SendsTo, next_unsent}
use Rattle.at_adsp_end.specs.Loads.{HasRoomTo}
use Rattle.at_adsp_end.specs.Outgoings.{stretch}
use Rattle.at_adsp_end.specs.Positions.{wire}
use Rattle.at_adsp_end.specs.Sending.{going, sending}
use Rattle.at_adsp_end.proofs.HearingLemmas.{going_stretch, numbers_same}
use Rattle.at_adsp_end.proofs.end.End.send_on.Goals as goal

-- what is cut of the queue is what goes
same : (e now : EndState) (first sent n : ℕ) → e ≡ now → first ≡ next_unsent wire e.sender → sent
    ≡ length e.sender.unacknowledged → n ≡ length (going e.sender) →
    numbered wire now first (pieces [] (stretch now.sender sent n)) ≡ (sending wire now).sent
same e now first sent n is at all count =
    let s = now.sender in
    let here = ap (λ (e : EndState). e.sender) is in
    let m = all ∙ ap (λ (s : Sender). length s.unacknowledged) here in
    let k = count ∙ ap (λ (s : Sender). length (going s)) here in
    numbers_same now first (s.front + length s.unacknowledged) _ _
    (at ∙ ap (λ (s : Sender). next_unsent wire s) here) ((λ i. stretch s (m i) (k i)) ∙ going_stretch s)

pub send_items-requires-clause-room : goal.send_items-requires-clause-room
send_items-requires-clause-room g c =
    let is = same _ _ _ _ _ c.self.view_is c.next_unsent-first.ensures c.sent.ensures c.count_going-going.ensures.count
    in subst (HasRoomTo c.args.out.now c.args.self.now.asked) (sym is) c.requires

pub returns-clause-change : goal.returns-clause-change
returns-clause-change g c =
    let is = same _ _ _ _ _ c.self.view_is c.next_unsent-first.ensures c.sent.ensures c.count_going-going.ensures.count
    in record {
      state = rw (c.advance.ensures, ← c.self.view_is) refl;
      sent = subst (SendsTo c.args.out.now c.send_items.new.out c.args.self.now.asked) is c.send_items.ensures.sent;
    }

pub returns-clause-room : goal.returns-clause-room
returns-clause-room g c more h =
    let is = same _ _ _ _ _ c.self.view_is c.next_unsent-first.ensures c.sent.ensures c.count_going-going.ensures.count
    in c.send_items.ensures.room more
    (subst (λ l. HasRoomTo c.args.out.now c.args.self.now.asked (l ++ more)) (sym is) h)
