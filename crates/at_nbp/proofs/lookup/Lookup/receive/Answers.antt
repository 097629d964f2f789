use Rattle.std.proofs.Common.{◌≡◌, None, true, sym, ap, ◌∙◌, arith}
use Rattle.std.specs.Prelude.{find}
use Rattle.at_ddp.proofs.TableLemmas.{Found, found_by, none_by}
use Rattle.at_nbp.specs.Lookups.{Heard, Lookups, has_id, is_reply}
use Rattle.at_nbp.specs.Packets.{packet_content}
use Rattle.at_nbp.proofs.FindLemmas.{IsHeardBy, heard_as, heard_count, heard_none, heard_quiet, heard_some}
use Rattle.at_nbp.proofs.FindLemmas.{set_lawful, stays}
use Rattle.at_nbp.proofs.lookup.Lookup.receive.Given.{Over}
use Rattle.at_nbp.proofs.lookup.Lookup.receive.Goals as goal
use Rattle.at_nbp.proofs.lookup.Lookup.receive.Goals.{After-hear, After-index_of, In-Some}

abbrev lookups : (g : Over) → After-index_of g → Lookups
lookups g c = record {
  own = c.self.inside.own;
  to = c.self.inside.to;
  function = c.self.inside.function;
  next = c.self.inside.next;
  searches = c.self.inside.searches.items;
}

reply : (g : Over) (c : After-index_of g) → is_reply c.args.packet.now.function ≡ true
reply g c = sym c.is_reply.ensures ∙ c.if-not-is_reply.false

found : (g : Over) (c : In-Some g) → Found (has_id c.args.packet.now.id) c.self.inside.searches.items c.in-Some.index
found g c = found_by (has_id c.args.packet.now.id) c.self.inside.searches.items c.deref.result.now c.index_of.result
    c.in-Some.index c.deref.ensures.value c.index_of.ensures c.in-Some.is

none : (g : Over) (c : After-index_of g) → c.index_of.result ≡ None
    → find (has_id c.args.packet.now.id) c.self.inside.searches.items ≡ None
none g c is = none_by (has_id c.args.packet.now.id) c.self.inside.searches.items c.deref.result.now c.index_of.result
    c.deref.ensures.value c.index_of.ensures is

-- the search that hears the reply is the one that was found
hears : (g : Over) (c : After-hear g) (f : Found (has_id c.args.packet.now.id) c.self.inside.searches.items
    c.in-Some.index) → IsHeardBy f.entry (packet_content c.args.packet.now).tuples c.hear.result c.hear.new.self
hears g c f =
    let lent = c.index_mut-search.ensures.value ∙ f.at c.index_mut-search.result.now in
    record {
      state = rw lent at c.hear.ensures.state;
      count = rw lent at c.hear.ensures.count;
      unchanged = rw lent at c.hear.ensures.unchanged;
      none = rw lent at c.hear.ensures.none;
    }

pub returns-in_default-clause-count : goal.returns-in_default-clause-count
returns-in_default-clause-count g c =
    let p = (goal.at.returns-in_default-clause-count g c).After-index_of in
    rw (← c.self.view_is) (ap (λ (h : Heard). h.count)
    (sym (heard_none (lookups g p) (packet_content c.args.packet.now) (reply g p) (none g p c.in_default.is))))

pub returns-in_default-clause-state : goal.returns-in_default-clause-state
returns-in_default-clause-state g c =
    let p = (goal.at.returns-in_default-clause-state g c).After-index_of in
    rw (← c.self.view_is) (ap (λ (h : Heard). h.after)
    (sym (heard_none (lookups g p) (packet_content c.args.packet.now) (reply g p) (none g p c.in_default.is))))

pub index_mut-search-requires : goal.index_mut-search-requires
index_mut-search-requires g c =
    let f = found g (goal.at.index_mut-search-requires g c).In-Some in
    omega (arith, c.self.inside.searches.ok.0, f.within)

pub invariant_of-self : goal.invariant_of-self
invariant_of-self g c =
    let at = goal.at.invariant_of-self g c in
    let f = found g at.In-Some in
    let h = hears g at.After-hear f in
    set_lawful (lookups g at.After-index_of) (packet_content c.args.packet.now) c.in-Some.index f c.hear.result
    c.hear.new.self (reply g at.After-index_of) h.state h.unchanged c.self.invariant

pub returns-clause-count : goal.returns-clause-count
returns-clause-count g c =
    let at = goal.at.returns-clause-count g c in
    let f = found g at.In-Some in
    let l = lookups g at.After-index_of in
    rw (← c.self.view_is) (heard_count l (packet_content c.args.packet.now) f.entry c.hear.result
    (heard_some l (packet_content c.args.packet.now) f.entry (reply g at.After-index_of) f.first)
    (hears g at.After-hear f).count)

pub returns-clause-state : goal.returns-clause-state
returns-clause-state g c =
    let at = goal.at.returns-clause-state g c in
    let f = found g at.In-Some in
    rw (← c.self.view_is) (heard_as (lookups g at.After-index_of) (packet_content c.args.packet.now) c.in-Some.index f
    c.hear.result c.hear.new.self (reply g at.After-index_of) (hears g at.After-hear f).state)

pub returns-clause-unchanged : goal.returns-clause-unchanged
returns-clause-unchanged g c =
    let at = goal.at.returns-clause-unchanged g c in
    let f = found g at.In-Some in
    rw (← c.self.view_is) (stays (lookups g at.After-index_of) c.args.packet.now.id c.in-Some.index f c.hear.result
    c.hear.new.self (hears g at.After-hear f).unchanged)

pub returns-clause-ignored : goal.returns-clause-ignored
returns-clause-ignored g c =
    let at = goal.at.returns-clause-ignored g c in
    let f = found g at.In-Some in
    let l = lookups g at.After-index_of in
    rw (← c.self.view_is) (λ quiet. (hears g at.After-hear f).none
    (heard_quiet l (packet_content c.args.packet.now) f.entry
    (heard_some l (packet_content c.args.packet.now) f.entry (reply g at.After-index_of) f.first) quiet))
