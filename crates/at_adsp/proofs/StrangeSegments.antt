-- What a segment with any numbers does at a table of ends on the cable, another does where numbers may be open.
use Rattle.std.proofs.Common.{◌≡◌, ℕ, Bool, true, false, cond, List, [], ◌∷◌, ◌++◌, map, Option, Some, None, refl, sym}
use Rattle.std.proofs.Common.{ap, subst, ◌∙◌}
use Rattle.std.specs.Prelude.{◌==◌, ◌&&◌}
use Rattle.at_ddp.specs.Address.{same_address}
use Rattle.at_ddp.specs.declared.address.Address.{Address}
use Rattle.at_adsp_frame.specs.Segments.{Content, Data, Open, Part, Probe, Close, Reset, ResetAck, Advice}
use Rattle.at_adsp_frame.specs.declared.segment.OpenKind.{OpenKind}
use Rattle.at_adsp_frame.specs.declared.segment.OpenKind.TheVariants.{Request, Acknowledgement}
use Rattle.at_adsp_frame.specs.declared.segment.OpenKind.TheVariants.{RequestAndAcknowledgement, Denial}
use Rattle.at_adsp_end.specs.Ends.{Change, EndState, confirming, has_remote, id_of, is_half, is_open, is_opening}
use Rattle.at_adsp_end.specs.Hearing.{Outcome}
use Rattle.at_adsp_end.specs.Hearing.{heard, told}
use Rattle.at_adsp_end.specs.Positions.{whole, wire}
use Rattle.at_adsp_end.specs.Sending.{acks, hearing}
use Rattle.at_adsp_end.specs.declared.phase.Phase.TheVariants as phase
use Rattle.at_adsp_end.specs.declared.remote.Remote.{Remote}
use Rattle.at_adsp_end.specs.declared.change.EndChange.{EndChange}
use Rattle.at_adsp_end.specs.declared.change.EndChange.TheVariants as step
use Rattle.at_adsp_ends.specs.Openings.{ack_came, answer_came, confirms_again, connected_to, denial_came, heard_opening}
use Rattle.at_adsp_ends.specs.Openings.{ignored, is_answered, opened}
use Rattle.at_adsp_ends.specs.Receiving.{opening_came, part_came, received, segment_came, settled}
use Rattle.at_adsp_ends.specs.Tables.{Done, EndTable, by_id, by_remote, moved, stayed}
use Rattle.at_adsp.specs.Wires.{wired, wired_outcome, wired_segment}
use Rattle.at_adsp.proofs.EndMoves.{IsPlainPart}
use Rattle.at_adsp.proofs.Lifts.{CanLift, Lifted, acks_few, acks_for, lifted, next_for}
use Rattle.at_adsp.proofs.Mapped.{mapped}
use Rattle.at_adsp.proofs.WireCalls.{id_wired, moved_wired, remote_wired, settled_wired, stayed_wired, wired_done}
use Rattle.at_adsp.proofs.WireCalls.{wired_table}
use Rattle.at_adsp.proofs.WireSegments.{any_wired, denial_wired, none_wired}
use Rattle.at_adsp.proofs.Wires.{control_wired, heard_wired, hearing_wired, wired_change}
use Rattle.at_adsp.proofs.LiftedSegments.{Alike, alike_same, never_makes, LiftedAt}
use Rattle.std.proofs.lemmas.List.{map-append}

module _ (t : EndTable) (from : Address) (s : Content)
    (can : (e : EndState) → by_remote t (record { address = from; id = s.source }) ≡ Some e → is_open e.phase ≡ true
    → CanLift e) where
  abbrev T : EndTable
  T = wired_table t

  abbrev r : Remote
  r = record { address = from; id = s.source }

  -- the same segment, but for what it expects next
  abbrev but_next : ℕ → Content
  but_next next = record {
    source = s.source;
    first = s.first;
    next = next;
    window = s.window;
    ack = s.ack;
    body = s.body;
  }

  -- with another number it does the same
  record ByNext (d : Done EndChange) (k : Content → Done EndChange) : Type 0 where
    next : ℕ
    same : d ≡ wired_done (k (but_next next))

  -- ---- an end opens

  opened_lifts : (f : EndState) (first : List Content) → opened wire T (wired f) s (map wired_segment first)
      ≡ wired_done (opened whole t f (but_next (next_for f.sender (acks wire (wired f).sender s.next))) first)
  opened_lifts f first =
      let d : Change = heard_opening whole f (but_next (next_for f.sender (acks wire (wired f).sender s.next))) in
      let same : heard_opening wire (wired f) s ≡ wired_change d =
      hearing_wired f s.window (acks wire (wired f).sender s.next)
      ∙ ap (λ o. wired_change (hearing whole f s.window o))
      (sym (acks_for f.sender (acks wire (wired f).sender s.next) (acks_few (wired f).sender s.next))) in
      (λ i. moved T (step.Opened f.id) (same i).after (map wired_segment first ++ (same i).sent))
      ∙ (λ i. moved T (step.Opened f.id) (wired d.after) (sym (map-append wired_segment first d.sent) i))
      ∙ moved_wired t (step.Opened f.id) d.after (first ++ d.sent)

  ack_lifts : (o : Option EndState) → ByNext (ack_came wire T r s (mapped wired o)) (λ x. ack_came whole t r x o)
  ack_lifts None = record { next = s.next; same = refl }
  ack_lifts (Some e) = go (is_half e.phase && has_remote r e)
    where
      go : (b : Bool) → ByNext (cond b (opened wire T (wired (record e { phase = phase.Open })) s []) (ignored T))
          (λ x. cond b (opened whole t (record e { phase = phase.Open }) x []) (ignored t))
      go true = record {
        next = next_for e.sender (acks wire (wired e).sender s.next);
        same = opened_lifts (record e { phase = phase.Open }) [];
      }
      go false = record { next = s.next; same = refl }

  answer_lifts : (there o : Option EndState)
      → ByNext (answer_came wire T r s (mapped wired there) (mapped wired o)) (λ x. answer_came whole t r x there o)
  answer_lifts there None = record { next = s.next; same = refl }
  answer_lifts there (Some e) = first (go (is_answered e r there) (confirms_again e r))
    where
      go : (b c : Bool) →
          ByNext (cond b (opened wire T (wired (connected_to e r)) s (confirming wire (wired (connected_to e r)) ∷ []))
          (cond c (stayed T step.Again (wired e) (confirming wire (wired e) ∷ [])) (ignored T)))
          (λ x. cond b (opened whole t (connected_to e r) x (confirming whole (connected_to e r) ∷ []))
          (cond c (stayed t step.Again e (confirming whole e ∷ [])) (ignored t)))
      go true c = record {
        next = next_for e.sender (acks wire (wired e).sender s.next);
        same =
            (λ i. opened wire T (wired (connected_to e r)) s
            (control_wired (connected_to e r) false (Open Acknowledgement (id_of (connected_to e r).remote))
            i ∷ []))
            ∙ opened_lifts (connected_to e r) (confirming whole (connected_to e r) ∷ []);
      }
      go false true = record {
        next = s.next;
        same = (λ i. stayed T step.Again (wired e)
            (control_wired e false (Open Acknowledgement (id_of e.remote)) i ∷ []))
            ∙ stayed_wired t step.Again e (confirming whole e ∷ []);
      }
      go false false = record { next = s.next; same = refl }

      first : ByNext (cond (is_answered e r there)
          (opened wire T (wired (connected_to e r)) s (confirming wire (wired (connected_to e r)) ∷ []))
          (cond (confirms_again e r) (stayed T step.Again (wired e) (confirming wire (wired e) ∷ [])) (ignored T)))
          (λ x. answer_came whole t r x there (Some e))
          → ByNext (answer_came wire T r s (mapped wired there) (Some (wired e)))
          (λ x. answer_came whole t r x there (Some e))
      first h = record {
        next = h.next;
        same =
            ap (λ b. cond (is_opening e.phase && same_address e.asked from && b)
            (opened wire T (wired (connected_to e r)) s (confirming wire (wired (connected_to e r)) ∷ []))
            (cond (confirms_again e r) (stayed T step.Again (wired e) (confirming wire (wired e) ∷ [])) (ignored T)))
            (none_wired there)
            ∙ h.same;
      }

  opening_lifts : (kind : OpenKind) (dest : ℕ)
      → ByNext (opening_came wire T r s kind dest) (λ x. opening_came whole t r x kind dest)
  opening_lifts Request dest = record { next = s.next; same = any_wired t from s (s.source == 0) }
  opening_lifts Acknowledgement dest = let h = ack_lifts (by_id t dest) in
      record { next = h.next; same = ap (ack_came wire T r s) (id_wired t dest) ∙ h.same }
  opening_lifts RequestAndAcknowledgement dest =
      let h = answer_lifts (by_remote t r) (by_id t dest) in
      record { next = h.next; same = (λ i. answer_came wire T r s (remote_wired t r i) (id_wired t dest i)) ∙ h.same }
  opening_lifts Denial dest =
      record { next = s.next; same = ap (denial_came T from) (id_wired t dest) ∙ denial_wired t from s (by_id t dest) }

  -- ---- other segments

  -- another segment of this end, which opens nothing
  record BySegment (d : Done EndChange) (o : Option EndState) : Type 0 where
    segment : Content
    source : segment.source ≡ s.source
    window : segment.window ≡ s.window
    plain : IsPlainPart segment.body
    alike : Alike d (wired_done (segment_came whole t segment o))

  segment_lifts : IsPlainPart s.body → (o : Option EndState)
      → ((e : EndState) → o ≡ Some e → is_open e.phase ≡ true → CanLift e)
      → BySegment (segment_came wire T s (mapped wired o)) o
  segment_lifts plain None can =
      record {
        segment = s;
        source = refl;
        window = refl;
        plain = plain;
        alike = alike_same (ignored T) (wired_done (ignored t)) refl;
      }
  segment_lifts plain (Some e) can = go (is_open e.phase) refl
    where
      hears : is_open e.phase ≡ true → Lifted e s (told wire (wired e) s)
      hears h = lifted e s (can e refl h) plain

      go : (b : Bool) → is_open e.phase ≡ b
          → BySegment (cond b (settled T (heard wire (wired e) (told wire (wired e) s))) (ignored T)) (Some e)
      go true h =
          let l = hears h in
          let o : Outcome = heard wire (wired e) (told wire (wired e) s) in
          let p : Outcome = heard whole e (told wire (wired e) s) in
          let q : Outcome = heard whole e (told whole e l.segment) in
          let as_told : o ≡ wired_outcome p = heard_wired e (told wire (wired e) s) in
          let effect = l.same in
          let d : settled T o ≡ wired_done (settled t p) = settled_wired t o p as_told in
          let k : settled t p ≡ moved t p.step q.after q.sent =
          (λ i. moved t p.step (effect.after i) (effect.sent i)) in
          let is : segment_came whole t l.segment (Some e)
          ≡ settled t q = ap (λ c. cond c (settled t q) (ignored t)) h in
          record {
            segment = l.segment;
            source = l.source;
            window = l.window;
            plain = l.plain;
            alike = record {
              after = ap (λ (x : Done EndChange). x.after) d ∙ ap (λ (x : Done EndChange). wired_table x.after) k
                  ∙ ap (λ (x : Done EndChange). wired_table x.after) (sym is);
              changed = ap (λ (x : Done EndChange). x.changed) d ∙ ap (λ (x : Done EndChange). mapped wired x.changed) k
                  ∙ ap (λ (x : Done EndChange). mapped wired x.changed) (sym is);
              sent = ap (λ (x : Done EndChange). x.sent) d ∙ ap (λ (x : Done EndChange). (wired_done x).sent) k
                  ∙ ap (λ (x : Done EndChange). (wired_done x).sent) (sym is);
              makes = λ id made.
                  never_makes (hearing whole e l.segment.window (acks whole e.sender l.segment.next)) l.segment.ack
                  (told whole e l.segment).saying id (sym (ap (λ (x : Done EndChange). x.answer) is) ∙ made);
            };
          }
      go false h = record {
        segment = s;
        source = refl;
        window = refl;
        plain = plain;
        alike = alike_same (ignored T) (wired_done (segment_came whole t s (Some e)))
            (ap (λ c. wired_done (cond c (settled t (heard whole e (told whole e s))) (ignored t))) (sym h));
      }

  -- ---- every segment

  -- what comes of a segment that opens nothing
  plain_came : (x : Content) (part : Part) → IsPlainPart part
      → part_came whole t (record { address = from; id = x.source }) x part
      ≡ segment_came whole t x (by_remote t (record { address = from; id = x.source }))
  plain_came x (Open kind dest) plain = absurd plain
  plain_came x (Data end bytes) plain = refl
  plain_came x Probe plain = refl
  plain_came x Close plain = refl
  plain_came x Reset plain = refl
  plain_came x ResetAck plain = refl
  plain_came x Advice plain = refl

  plain_lifts : IsPlainPart s.body → received wire T from s ≡ segment_came wire T s (by_remote T r) → LiftedAt t from s
  plain_lifts plain is =
      let h = segment_lifts plain (by_remote t r) can in
      let a = h.alike in
      let here : received wire T from s ≡ segment_came wire T s (mapped wired (by_remote t r)) = is
      ∙ ap (segment_came wire T s) (remote_wired t r) in
      let there : segment_came whole t h.segment (by_remote t r) ≡ received whole t from h.segment =
      ap (λ k. segment_came whole t h.segment (by_remote t (record { address = from; id = k }))) (sym h.source)
      ∙ sym (plain_came h.segment h.segment.body h.plain) in
      record {
        segment = h.segment;
        source = h.source;
        window = h.window;
        alike = record {
          after = ap (λ (x : Done EndChange). x.after) here ∙ a.after
              ∙ ap (λ (x : Done EndChange). wired_table x.after) there;
          changed = ap (λ (x : Done EndChange). x.changed) here ∙ a.changed
              ∙ ap (λ (x : Done EndChange). mapped wired x.changed) there;
          sent = ap (λ (x : Done EndChange). x.sent) here ∙ a.sent
              ∙ ap (λ (x : Done EndChange). (wired_done x).sent) there;
          makes = λ id made. ap (λ (x : Done EndChange). x.answer) here
              ∙ a.makes id (ap (λ (x : Done EndChange). x.answer) there ∙ made);
        };
      }

  pub received_lifts : LiftedAt t from s
  received_lifts = go s.body refl
    where
      go : (part : Part) → s.body ≡ part → LiftedAt t from s
      go (Open kind dest) is =
          let h = opening_lifts kind dest in
          record {
            segment = but_next h.next;
            source = refl;
            window = refl;
            alike =
                alike_same (received wire T from s) (wired_done (received whole t from (but_next h.next)))
                (ap (part_came wire T r s) is ∙ h.same
                ∙ ap (λ p. wired_done (part_came whole t r (but_next h.next) p)) (sym is));
          }
      go (Data end bytes) is = plain_lifts (subst IsPlainPart (sym is) tt) (ap (part_came wire T r s) is)
      go Probe is = plain_lifts (subst IsPlainPart (sym is) tt) (ap (part_came wire T r s) is)
      go Close is = plain_lifts (subst IsPlainPart (sym is) tt) (ap (part_came wire T r s) is)
      go Reset is = plain_lifts (subst IsPlainPart (sym is) tt) (ap (part_came wire T r s) is)
      go ResetAck is = plain_lifts (subst IsPlainPart (sym is) tt) (ap (part_came wire T r s) is)
      go Advice is = plain_lifts (subst IsPlainPart (sym is) tt) (ap (part_came wire T r s) is)
