-- How far an end goes on that opens, and one that sends what opens another.
use Rattle.std.proofs.Common.{◌≡◌, ℕ, ◌+◌, ◌≤◌, Bool, true, false, cond, List, [], ◌∷◌, ◌++◌, length, Option, Some}
use Rattle.std.proofs.Common.{None, refl, sym, ap, subst, ◌∙◌, arith}
use Rattle.std.specs.Prelude.{find}
use Rattle.std.specs.List.{AllByRecursion}
use Rattle.std.proofs.lemmas.Bool.{true≢false}
use Rattle.at_ddp.specs.declared.address.Address.{Address}
use Rattle.at_ddp.proofs.Alls.{all_both, all_found}
use Rattle.at_adsp_frame.specs.Segments.{Content, Part, Reset}
use Rattle.at_adsp_end.specs.Ends.{EndState, Receiver, Sender, addressed, has_opened, no_receiver, no_sender}
use Rattle.at_adsp_end.specs.Positions.{whole}
use Rattle.at_adsp_end.specs.Sending.{acks}
use Rattle.at_adsp_end.specs.declared.phase.Phase.TheVariants as phase
use Rattle.at_adsp_end.specs.declared.remote.Remote.{Remote}
use Rattle.at_adsp_end.specs.declared.change.EndChange.TheVariants as step
use Rattle.at_adsp_ends.specs.Openings.{heard_opening, opened}
use Rattle.at_adsp_ends.specs.Tables.{EndTable, by_id, has_id}
use Rattle.at_ddp.specs.Posts.{AllSent, put, stamped}
use Rattle.at_ddp.proofs.PostLemmas.{put_elsewhere, sent_both}
use Rattle.at_adsp.specs.Network.{Setting, Network, birth_of, does, is_end, named, names_now, newest}
use Rattle.at_adsp.specs.Orders.{whole_numbered}
use Rattle.at_adsp.specs.Streams.{Nothing}
use Rattle.at_adsp.proofs.Carries.{acks_within}
use Rattle.at_adsp.proofs.Changes.{Moves, names_still}
use Rattle.at_adsp.proofs.EndMoves.{IsPlainPart, hearing_same}
use Rattle.at_adsp.proofs.Logs.{length_both}
use Rattle.at_adsp.proofs.PacedEnds.{changed_pace, paced}
use Rattle.at_adsp.proofs.PacedNetworks.{AllOpen, LowHere, PaceOf, PaceOn, Paced, Past, TellsHere, earlier_low}
use Rattle.at_adsp.proofs.PacedNetworks.{length_sent, none_go, open_low, pace_later, stamped_before}
use Rattle.at_adsp.proofs.Paces.{Follows, Keeps, TellsFrom, TellsOf, hearing_follows, hearing_paces, marks_of, so_paces}
use Rattle.at_adsp.proofs.Paces.{then_paces}
use Rattle.at_adsp.proofs.Slows.{Advances, IsExact, TellsAll, hearing_exact, hearing_sends, hearing_slow}
use Rattle.at_adsp.proofs.Sound.{Sound, Stands}
use Rattle.at_adsp.proofs.Steps.{found_id, found_stands, later}

-- an end sends packets that open a connection, and does not change
module _ (room : ℕ) (setting : Setting) (n : Network) (at : Address) (q : EndState → Bool) (e : EndState)
    (sound : Sound setting (n.event + 1) n) (is : find q (n.tables at).ends ≡ Some e) (past : Past n)
    (pace : PaceOf room setting.ours (n.event + 1) n) where
  abbrev st : Stands setting n.made at e
  st = found_stands setting (n.event + 1) n at q e sound is

  here : Paced room setting.ours pace.marks (found_stands setting (n.event + 1) n at q e sound is).it
  here = (all_found (Paced room setting.ours pace.marks) (is_end at e.id) n.made st.it pace.ends st.newest).0

  pub keeps_here : Keeps room (setting.ours e.asked) e
  keeps_here = let h = here in subst (λ (x : EndState). Keeps room (setting.ours x.asked) x) st.last h.keeps

  noted_here : pace.marks (found_stands setting (n.event + 1) n at q e sound is).it.stream.birth ≡ marks_of e
  noted_here = let h = here in h.noted ∙ ap marks_of st.last

  tells_here : (xs : List Content) → AllByRecursion (TellsOf room e.id (marks_of e)) xs
      → AllSent (TellsHere room n.made pace.marks) (stamped n.event at (addressed e.asked xs))
  tells_here [] h = tt
  tells_here (x ∷ xs) h = (one, tells_here xs h.1)
    where
      one : TellsHere room n.made pace.marks (record { event = n.event; from = at; to = e.asked; packet = x })
      one = let t = h.0 in record {
        window = t.window;
        tells = λ fresh b same.
            let it : Some st.it.stream.birth
            ≡ Some b = sym (ap (λ k. birth_of (newest n.made at k)) t.source ∙ ap birth_of st.newest) ∙ same in
            let birth : st.it.stream.birth ≡ b = cc in
            let tells : TellsOf room e.id (pace.marks b) x =
            subst (λ c. TellsOf room e.id (pace.marks c) x) birth
            (subst (λ m. TellsOf room e.id m x) (sym noted_here) t) in
            subst (λ i. TellsOf room i (pace.marks b) x) (sym t.source) tells;
      }

  pub stayed_pace : (out : List Content) → AllByRecursion (TellsOf room e.id (marks_of e)) out → AllOpen out
      → PaceOn room setting.ours pace.marks n
      (record n {
        tables = put n.tables at (n.tables at);
        sent = n.sent ++ stamped n.event at (addressed e.asked out);
      })
  stayed_pace out all opens = record {
    pace = record {
      marks = pace.marks;
      none = pace.none;
      ends = pace.ends;
      sent = sent_both (TellsHere room n.made pace.marks) n.sent (stamped n.event at (addressed e.asked out)) pace.sent
          (tells_here out all);
      few = λ c. let le = pace.few c in let many = length_sent n.sent n.event at e.asked out in omega (arith, le, many);
      rooms = put_elsewhere (λ a (x : EndTable). x.rooms.receive ≤ room) n.tables at (n.tables at)
          (λ a other. pace.rooms a) (pace.rooms at);
    };
    goes = none_go room setting.ours pace.marks n.made;
    low =
        sent_both (LowHere room setting.ours n.made pace.marks n.event) n.sent
        (stamped n.event at (addressed e.asked out)) (earlier_low room setting.ours n.made pace.marks n past)
        (open_low room setting.ours n.made pace.marks n.event at e.asked out opens);
    back = λ x lt fresh. (fresh, refl);
    before = stamped_before n
        (record n {
          tables = put n.tables at (n.tables at);
          sent = n.sent ++ stamped n.event at (addressed e.asked out);
        }) at (addressed e.asked out) refl;
  }

-- a packet that opens a connection is no forward reset
opens_all : (gave first : ℕ) (part : Part) → (IsPlainPart part → ⊥) → TellsAll gave first part
opens_all gave first Reset opens = absurd (opens tt)
opens_all gave first other opens = tt

module _ (room : ℕ) (setting : Setting) (n : Network) (at from : Address) (s : Content)
    (sound : Sound (whole_numbered setting) n.event n) (pace : PaceOf room setting.ours n.event n)
    (fits : setting.ours from ≡ true → s.window ≤ room)
    (tells : (b : ℕ) → named (whole_numbered setting) n.made (Some (record { address = from; id = s.source })) ≡ Some b
    → TellsOf room s.source (pace.marks b) s) where
  abbrev W : Setting
  W = whole_numbered setting

  abbrev t : EndTable
  t = n.tables at

  abbrev r : Remote
  r = record { address = from; id = s.source }

  now : Sound W (n.event + 1) n
  now = later W n sound

  abbrev pace_now : PaceOf room setting.ours (n.event + 1) n
  pace_now = pace_later room setting.ours n pace

  abbrev Now : Network → Type 0
  Now m = PaceOn room setting.ours pace.marks n m

  -- an end that was found under this identifier, and was not opened before, opens as this one and hears the segment
  pub record Opens (e f : EndState) : Type 0 where
    pub id : f.id ≡ e.id
    pub sender : f.sender ≡ e.sender
    pub receiver : f.receiver ≡ e.receiver
    pub space : f.receive_room ≡ e.receive_room
    pub asked : f.asked ≡ e.asked
    pub remote : f.remote ≡ Some r
    pub unopened : has_opened e.phase ≡ false
    pub opens : f.phase ≡ phase.Open

  opens_keeps : (here : Bool) (e f : EndState) → Opens e f → Keeps room here e → Keeps room here f
  opens_keeps here e f o k =
      let space = k.space in
      let same = o.space in
      record {
        queue = λ is.
            let q = k.queue is in
            let queue = ap (λ (x : Sender). length x.unacknowledged + x.credit) o.sender in
            omega (arith, q, queue);
        space = omega (arith, space, same);
        unread = subst Holds (sym o.receiver) k.unread;
      }
    where
      Holds : Receiver → Type 0
      Holds x = length x.unread ≤ x.received

  -- the end that opens asked there, or was asked from there
  pub opened_pace : (dest : ℕ) (e f : EndState) (first : List Content) → by_id t dest ≡ Some e → Opens e f
      → e.asked ≡ from
      → Moves e (heard_opening whole f s).after
      → (Keeps room (setting.ours e.asked) f → AllByRecursion (TellsOf room f.id (marks_of f)) first) → AllOpen first →
      Now (does W n at (opened whole t f s first))
  opened_pace dest e f first is o asked moves says opens =
      let same = hearing_same whole f s.window (acks whole f.sender s.next) in
      let there = found_id n at (has_id dest) e (heard_opening whole f s).after.id (same.id ∙ o.id) is in
      let k = opens_keeps (setting.ours e.asked) e f o (keeps_here room W n at
      (has_id dest) e now is sound.past pace_now)
      in
      changed_pace room Nothing W n at e (heard_opening whole f s).after now stands moves pace_now
      (first ++ (heard_opening whole f s).sent) (advances k)
      (λ unopened. absurd (true≢false (sym (ap has_opened (same.phase ∙ o.opens)) ∙ unopened)))
      (λ b peer. follows b peer) sound.past (step.Opened f.id) there.0 there.1
    where
      stands : Stands W n.made at e
      stands = found_stands W (n.event + 1) n at (has_id dest) e now is

      was : Paced room setting.ours pace.marks stands.it
      was = paced room Nothing W n at e (heard_opening whole f s).after now stands moves pace_now

      fits_here : setting.ours e.asked ≡ true → s.window ≤ room
      fits_here is_ours = fits (ap setting.ours (sym asked) ∙ is_ours)

      open_from : (out : List Content) → AllOpen out → AllByRecursion (TellsFrom e) out
      open_from [] all = tt
      open_from (x ∷ xs) all = ((λ plain. absurd (all.0 plain)), open_from xs all.1)

      open_exact : (gave : ℕ) (out : List Content) → AllOpen out → AllByRecursion (IsExact gave) out
      open_exact gave [] all = tt
      open_exact gave (x ∷ xs) all = (opens_all gave x.first x.body all.0, open_exact gave xs all.1)

      advances : Keeps room (setting.ours e.asked) f
          → Advances room (setting.ours e.asked) e (heard_opening whole f s).after
          (first ++ (heard_opening whole f s).sent)
      advances k =
          let here : Bool = setting.ours e.asked in
          let acked : Option ℕ = acks whole f.sender s.next in
          let g : EndState = (heard_opening whole f s).after in
          record {
            paces =
                then_paces room here e f g first (heard_opening whole f s).sent
                (so_paces room here e f first o.id o.sender (ap (λ (x : Receiver). x.received) o.receiver) k (says k)
                (open_from first opens))
                (λ h. hearing_paces room here f s.window acked fits_here (acks_within f.sender s.next) h);
            slow = λ is_ours.
                let slow = hearing_slow room here is_ours f s.window acked fits_here (acks_within f.sender s.next) k in
                let gave = slow.gave in
                let took = slow.took in
                let sent = ap (λ (x : Sender). x.front + length x.unacknowledged) o.sender in
                let received = ap (λ (x : Receiver). x.received) o.receiver in
                record { gave = omega (arith, gave, sent); took = omega (arith, took, received) };
            sends =
                let both = length_both first (heard_opening whole f s).sent in
                let many = hearing_sends f s.window acked (acks_within f.sender s.next) in
                let sent = ap (λ (x : Sender). x.front + length x.unacknowledged) o.sender in
                omega (arith, both, many, sent);
            exact = all_both (IsExact (marks_of g).gave) first (heard_opening whole f s).sent
                (open_exact (marks_of g).gave first opens) (hearing_exact f s.window acked (marks_of g).gave);
          }

      -- it gave and took nothing
      none : (f.sender ≡ no_sender) × (f.receiver ≡ no_receiver)
      none =
          let w = was in
          let begins = w.begins (ap (λ (x : EndState). has_opened x.phase) stands.last ∙ o.unopened) in (
            o.sender ∙ ap (λ (x : EndState). x.sender) (sym stands.last) ∙ begins.0,
            o.receiver
                ∙ ap (λ (x : EndState). x.receiver) (sym stands.last) ∙ begins.1,
          )

      named_so : (b : ℕ) → cond (has_opened (heard_opening whole f s).after.phase)
          (names_now W n.made (heard_opening whole f s).after stands.it) None ≡ Some b → named W n.made (Some r)
          ≡ Some b
      named_so b peer =
          let same = hearing_same whole f s.window (acks whole f.sender s.next) in
          sym (ap (named W n.made) (same.remote ∙ o.remote))
          ∙ sym (names_still Nothing W n at e (heard_opening whole f s).after now stands moves)
          ∙ sym (ap (λ c. cond c (names_now W n.made (heard_opening whole f s).after stands.it) None)
          (ap has_opened (same.phase ∙ o.opens))) ∙ peer

      follows : (b : ℕ) → cond (has_opened (heard_opening whole f s).after.phase)
          (names_now W n.made (heard_opening whole f s).after stands.it) None ≡ Some b
          → Follows room (pace.marks b) (heard_opening whole f s).after
      follows b peer =
          let zero_ = none in
          let received = ap (λ (x : Receiver). x.received) zero_.1 in
          let sent = ap (λ (x : Sender). x.front + length x.unacknowledged + x.credit) zero_.0 in
          hearing_follows room f (pace.marks b) s.source s (tells b (named_so b peer))
          (record { received = omega (arith, received); limit = omega (arith, sent) })
