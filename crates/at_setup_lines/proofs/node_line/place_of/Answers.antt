use Rattle.std.proofs.Common.{◌∷◌, ap, subst, ◌∙◌}
use Rattle.std.specs.Prelude.{codes}
use Rattle.at_words.specs.Words.{words_of}
use Rattle.at_setup_lines.specs.SetupLines.{SaysPlace, SaysRooms}
use Rattle.at_setup_lines.proofs.LineLemmas.{after_zone, no_zone, plain_place, zone_place}
use Rattle.at_setup_lines.proofs.node_line.place_of.Goals.{then-take_if+in_ok-next+in_ok-zone_name, else-take_if}
use Rattle.at_setup_lines.proofs.node_line.place_of.Goals as goal

pub returns-in_err-receive_room : goal.returns-in_err-receive_room
returns-in_err-receive_room c =
    let none = c.in_err-receive_room.ensures in
    elim c.if-take_if.branch [
      | then-take_if+in_ok-next+in_ok-zone_name w ↦
          let taken = c.take_if.ensures.taken w.if-take_if.true
          ∙ ap (λ l. codes "zone" ∷ l) w.in_ok-next.ensures.steps in
          rw c.from_residual-in_err-receive_room.ensures (λ p place.
          let (name, is, named, rooms) =
          after_zone w.in_ok-next.field-0.now (words_of w.next.new.self.rest.now) p.0 p.1 p.2
          (subst (λ l. SaysPlace l p.0 p.1 p.2) taken place) in
          none (p.1, p.2) (rw w.words-is rooms))
      | else-take_if w ↦
          let only = c.take_if.ensures.only w.if-take_if.false in
          let left = w.words-is ∙ c.take_if.ensures.left w.if-take_if.false in
          rw c.from_residual-in_err-receive_room.ensures
          (λ p place. none (p.1, p.2) (rw left (no_zone (words_of c.args.words.rest.now) p.0 p.1 p.2 only place).1))
    ]

pub returns : goal.returns
returns c =
    let rooms = c.in_ok-receive_room.ensures in
    let r = c.in_ok-receive_room.receive_room in
    let s = c.in_ok-receive_room.send_room in
    elim c.if-take_if.branch [
      | then-take_if+in_ok-next+in_ok-zone_name w ↦
          let taken = c.take_if.ensures.taken w.if-take_if.true
          ∙ ap (λ l. codes "zone" ∷ l) w.in_ok-next.ensures.steps in
          let left = subst (λ l. SaysRooms (words_of l.rest.now) r s) w.words-is rooms in
          rw w.zone-is (zone_place (words_of c.args.words.rest.now)
          (words_of w.next.new.self.rest.now) w.in_ok-next.field-0.now w.in_ok-zone_name.field-0 r s taken
          w.in_ok-zone_name.ensures left)
      | else-take_if w ↦
          let same = w.words-is ∙ c.take_if.ensures.left w.if-take_if.false in
          rw w.zone-is (plain_place (words_of c.args.words.rest.now) r s
          (subst (λ l. SaysRooms (words_of l.rest.now) r s) same rooms))
    ]
