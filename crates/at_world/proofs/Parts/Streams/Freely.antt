-- An identifier that no node holds is no end's remote in the network.
use Rattle.std.proofs.Common.{◌≡◌, ℕ, Bool, true, false, cond, List, [], ◌∷◌, Option, Some, None, refl, sym, ap, ◌∙◌}
use Rattle.std.specs.Prelude.{find, is_some, ◌&&◌, ◌||◌}
use Rattle.std.specs.List.{list_any}
use Rattle.at_ddp.specs.Address.{same_address}
use Rattle.at_ddp.proofs.Octets.{same_address-true}
use Rattle.at_adsp_end.specs.Ends.{has_remote}
use Rattle.at_adsp_end.specs.declared.remote.Remote.{Remote}
use Rattle.at_adsp_ends.specs.Tables.{EndTable, by_remote}
use Rattle.at_adsp.specs.Network.{NoneNames, after}
use Rattle.at_node.specs.Numbers.{holds}
use Rattle.at_node.specs.Nodes.{NodeState}
use Rattle.at_node.specs.declared.numbers.Draw.TheVariants.{Conn}
use Rattle.at_stream_socket.specs.Sockets.{streams_at}
use Rattle.at_world.specs.Cables.{Cable}
use Rattle.at_world.specs.Machine.StreamGuards.{StreamMachine}
use Rattle.at_nodes.specs.Nodes.{is_numbered}
use Rattle.at_world.specs.Worlds.{WorldState, node_at}
use Rattle.at_world.proofs.CableTie.{Wire}
use Rattle.at_world.proofs.Parts.Streams.Tie.{HasEnds, StreamLaws, StreamTie, is_nodes_socket}
use Rattle.std.proofs.lemmas.Option.{same_Some}

-- what holds of no node holds of none that is found
none_found : (p : NodeState → Bool) (j : ℕ) (nodes : List NodeState) (n : NodeState) → list_any p nodes ≡ false
    → find (is_numbered j) nodes ≡ Some n → p n ≡ false
none_found p j [] n none is = absurd (cc)
none_found p j (x ∷ xs) n none is = go (λ h g. none_found p j xs n h g) (p x) (is_numbered j x) refl none is
  where
    go : (list_any p xs ≡ false → find (is_numbered j) xs ≡ Some n → p n ≡ false) → (b d : Bool) → p x ≡ b
        → (b || list_any p xs) ≡ false → cond d (Some x) (find (is_numbered j) xs) ≡ Some n → p n ≡ false
    go ih true d e h g = absurd (cc)
    go ih false true e h g = ap p (sym (same_Some x n g)) ∙ e
    go ih false false e h g = ih h g

no_ends_name : (t : EndTable) (r : Remote) → t.ends ≡ [] → by_remote t r ≡ None
no_ends_name t r none = ap (find (has_remote r)) none

pub none_names : (A : Type 0) (laws : StreamLaws A) (w : WorldState) (c : Cable) (m : StreamMachine)
    (wires : List Wire) (t : StreamTie w c wires m) (k id : ℕ) → list_any (λ x. holds x k (Conn id)) w.nodes ≡ false
    → NoneNames (after t.setting t.history) (streams_at c.net k) id
none_names A laws w c m wires t k id free there = go (is_nodes_socket w c.net there) refl
  where
    r : Remote
    r = record { address = streams_at c.net k; id = id }

    of_node : (o : Option NodeState) → node_at w there.node ≡ o → is_some o ≡ true
        → same_address (streams_at c.net there.node) there ≡ true
        → by_remote ((after t.setting t.history).tables there) r ≡ None
    of_node None e some is = absurd (cc)
    of_node (Some n) e some is =
        let has : HasEnds c.net t.setting t.history there.node n = t.ends there.node n e in
        let at : streams_at c.net there.node ≡ there = same_address-true (streams_at c.net there.node) there is in
        let table : (after t.setting t.history).tables there
        ≡ n.streams = ap (after t.setting t.history).tables (sym at) ∙ has.stands in
        let unheld : holds n k (Conn id)
        ≡ false = none_found (λ (x : NodeState). holds x k (Conn id)) there.node w.nodes n free e in
        ap (λ (x : EndTable). by_remote x r) table ∙ laws.unheld n k id (streams_at c.net k) unheld refl

    both : (a b : Bool) → (a && b) ≡ true → (a ≡ true) × (b ≡ true)
    both true true h = (refl, refl)
    both true false h = absurd (cc)
    both false b h = absurd (cc)

    go : (b : Bool) → is_nodes_socket w c.net there ≡ b → by_remote ((after t.setting t.history).tables there) r ≡ None
    go false e = no_ends_name ((after t.setting t.history).tables there) r (t.elsewhere there e)
    go true e =
        let parts = both (same_address (streams_at c.net there.node) there) (is_some (node_at w there.node)) e in
        of_node (node_at w there.node) refl parts.1 parts.0
