-- What the words of a line say, and that they say one thing.
use Rattle.std.proofs.Common.{◌≡◌, ◌≢◌, inl, inr, ℕ, Bool, true, false, List, [], ◌∷◌, ◌++◌, Option, Some, None, refl}
use Rattle.std.proofs.Common.{sym, subst, ◌∙◌, arith, ap}
use Rattle.std.specs.Prelude.{codes}
use Rattle.std.specs.List.{slice_index}
use Rattle.at_words.specs.Numbers.{IsNode, IsPositive}
use Rattle.at_words.specs.Texts.{IsZoneName}
use Rattle.at_setup.specs.declared.setup.NodeSetup.{NodeSetup}
use Rattle.at_setup_lines.specs.SetupLines.{SaysNet, SaysNode, SaysPlace, SaysRooms, SaysRouter}
use Rattle.at_setup_lines.proofs.NameLemmas.{same_name}

first_of : List (List ℕ) → List ℕ
first_of [] = []
first_of (w ∷ ws) = w

rest_of : List (List ℕ) → List (List ℕ)
rest_of [] = []
rest_of (w ∷ ws) = ws

-- a line whose first word begins with one letter is none whose first word begins with another
pub apart : (a b : List ℕ) (ws vs : List (List ℕ)) → slice_index a 0 ≢ slice_index b 0 → a ∷ ws ≢ b ∷ vs
unfolding first_of
apart a b ws vs differ same = differ (ap (λ l. slice_index (first_of l) 0) same)

pub no_words : (a : List ℕ) (ws : List (List ℕ)) → a ∷ ws ≢ []
no_words a ws same = cc same

pub first_same : (a b : List ℕ) (ws vs : List (List ℕ)) → a ∷ ws ≡ b ∷ vs → a ≡ b
unfolding first_of
first_same a b ws vs same = ap first_of same

pub rest_same : (a b : List ℕ) (ws vs : List (List ℕ)) → a ∷ ws ≡ b ∷ vs → ws ≡ vs
unfolding rest_of
rest_same a b ws vs same = ap rest_of same

-- ---- numbers

pub same_positive : (w : List ℕ) (n m : ℕ) → IsPositive w n → IsPositive w m → n ≡ m
same_positive w n m h g = h.0.1 ∙ sym g.0.1

pub same_node_number : (w : List ℕ) (n m : ℕ) → IsNode w n → IsNode w m → n ≡ m
same_node_number w n m h g = h.0.1 ∙ sym g.0.1

pub same_net : (ws : List (List ℕ)) (n m : ℕ) → SaysNet ws n → SaysNet ws m → n ≡ m
same_net ws n m (w, is, h) (v, same, g) =
    let e = first_same w v [] [] (rest_same (codes "net") (codes "net") (w ∷ []) (v ∷ []) (sym is ∙ same)) in
    same_positive w n m h (subst (λ x. IsPositive x m) (sym e) g)

-- ---- the rooms

pub same_rooms : (ws : List (List ℕ)) (r s t u : ℕ) → SaysRooms ws r s → SaysRooms ws t u → (r ≡ t) × (s ≡ u)
same_rooms ws r s t u (inl (none, a, b)) (inl (nothing, c, d)) = (a ∙ sym c, b ∙ sym d)
same_rooms ws r s t u (inl (none, a, b)) (inr (w, v, is, h, g)) =
    absurd (no_words (codes "rooms") (w ∷ v ∷ []) (sym is ∙ none))
same_rooms ws r s t u (inr (w, v, is, h, g)) (inl (none, a, b)) =
    absurd (no_words (codes "rooms") (w ∷ v ∷ []) (sym is ∙ none))
same_rooms ws r s t u (inr (w, v, is, h, g)) (inr (x, y, same, i, j)) =
    let tail = rest_same (codes "rooms") (codes "rooms") (w ∷ v ∷ []) (x ∷ y ∷ []) (sym is ∙ same) in
    let one = first_same w x (v ∷ []) (y ∷ []) tail in
    let two = first_same v y [] [] (rest_same w x (v ∷ []) (y ∷ []) tail) in (
      same_positive w r t h (subst (λ l. IsPositive l t) (sym one) i),
      same_positive v s u g
          (subst (λ l. IsPositive l u) (sym two) j),
    )

-- the words of the rooms begin with no other word
no_rooms : (w : List ℕ) (ws : List (List ℕ)) (r s : ℕ) → slice_index w 0 ≢ slice_index (codes "rooms") 0
    → ¬ SaysRooms (w ∷ ws) r s
no_rooms w ws r s differ (inl (none, a, b)) = no_words w ws none
no_rooms w ws r s differ (inr (x, y, is, h, g)) = apart w (codes "rooms") ws (x ∷ y ∷ []) differ is

-- ---- the zone

abbrev letter : List ℕ → ℕ
letter w = slice_index w 0

z_not_r : letter (codes "zone") ≢ letter (codes "rooms")
z_not_r same = omega (arith, same)

-- after the name of a zone come the rooms
pub after_zone : (w : List ℕ) (ws : List (List ℕ)) (zone : Option (List ℕ)) (r s : ℕ)
    → SaysPlace (codes "zone" ∷ w ∷ ws) zone r s
    → (name : List ℕ) × (zone ≡ Some name) × IsZoneName w name × SaysRooms ws r s
after_zone w ws None r s (zs, rs, is, none, rooms) =
    absurd (no_rooms (codes "zone") (w ∷ ws) r s z_not_r
    (subst (λ l. SaysRooms l r s) (sym (is ∙ ap (λ l. l ++ rs) none)) rooms))
after_zone w ws (Some name) r s (zs, rs, is, (v, same, named), rooms) =
    let tail = rest_same (codes "zone") (codes "zone") (w ∷ ws) (v ∷ rs) (is ∙ ap (λ l. l ++ rs) same) in
    let word = first_same w v ws rs tail in
    let left = rest_same w v ws rs tail in
    (name, refl, subst (λ x. IsZoneName x name) (sym word) named, subst (λ l. SaysRooms l r s) (sym left) rooms)

-- where no zone comes, the rooms do
pub no_zone : (ws : List (List ℕ)) (zone : Option (List ℕ)) (r s : ℕ) → ((vs : List (List ℕ)) → ws ≢ codes "zone" ∷ vs)
    → SaysPlace ws zone r s → (zone ≡ None) × SaysRooms ws r s
no_zone ws None r s other (zs, rs, is, none, rooms) =
    (refl, subst (λ l. SaysRooms l r s) (sym (is ∙ ap (λ l. l ++ rs) none)) rooms)
no_zone ws (Some name) r s other (zs, rs, is, (v, same, named), rooms) =
    absurd (other (v ∷ rs) (is ∙ ap (λ l. l ++ rs) same))

pub plain_place : (ws : List (List ℕ)) (r s : ℕ) → SaysRooms ws r s → SaysPlace ws None r s
plain_place ws r s rooms = ([], ws, refl, refl, rooms)

pub zone_place : (ws rest : List (List ℕ)) (w name : List ℕ) (r s : ℕ) → ws ≡ codes "zone" ∷ w ∷ rest
    → IsZoneName w name → SaysRooms rest r s → SaysPlace ws (Some name) r s
zone_place ws rest w name r s is named rooms = (codes "zone" ∷ w ∷ [], rest, is, (w, refl, named), rooms)

-- what the words of the place say is one zone and the rooms
abbrev pub SamePlace : Option (List ℕ) → ℕ → ℕ → Option (List ℕ) → ℕ → ℕ → Type 0
SamePlace y p q z r s = (y ≡ z) × (p ≡ r) × (q ≡ s)

same_zoned : (ws : List (List ℕ)) (name : List ℕ) (p q : ℕ) (zone : Option (List ℕ)) (r s : ℕ)
    → SaysPlace ws (Some name) p q → SaysPlace ws zone r s → SamePlace (Some name) p q zone r s
same_zoned ws name p q zone r s (zs, rs, is, (w, same, named), rooms) h =
    let line : ws ≡ codes "zone" ∷ w ∷ rs = is ∙ ap (λ l. l ++ rs) same in
    let (other, some, called, left) = after_zone w rs zone r s (subst (λ l. SaysPlace l zone r s) line h) in
    let both = same_rooms rs p q r s rooms left in
    (ap Some (same_name w name other named called) ∙ sym some, both.0, both.1)

pub same_place : (ws : List (List ℕ)) (y : Option (List ℕ)) (p q : ℕ) (zone : Option (List ℕ)) (r s : ℕ)
    → SaysPlace ws y p q → SaysPlace ws zone r s → SamePlace y p q zone r s
same_place ws (Some name) p q zone r s h g = same_zoned ws name p q zone r s h g
same_place ws None p q (Some name) r s h g = let same = same_zoned ws name r s None p q g h in
    (sym same.0, sym same.1, sym same.2)
same_place ws None p q None r s (zs, rs, is, none, rooms) (ys, ts, same, nothing, left) =
    let one : ws ≡ rs = is ∙ ap (λ l. l ++ rs) none in
    let two : ws ≡ ts = same ∙ ap (λ l. l ++ ts) nothing in
    let both = same_rooms ws p q r s (subst (λ l. SaysRooms l p q) (sym one) rooms)
    (subst (λ l. SaysRooms l r s) (sym two) left) in
    (refl, both.0, both.1)

-- ---- the router

-- the words of a router and of the place
abbrev pub SaysRest : List (List ℕ) → Bool → Option (List ℕ) → ℕ → ℕ → Type 0
SaysRest ws router zone r s = (rs ps : List (List ℕ)) × (ws ≡ rs ++ ps) × SaysRouter rs router × SaysPlace ps zone r s

-- the place begins with no `router`
no_router_word : (ws : List (List ℕ)) (zone : Option (List ℕ)) (r s : ℕ) → ¬ SaysPlace (codes "router" ∷ ws) zone r s
no_router_word ws None r s (zs, rs, is, none, inl (nothing, a, b)) =
    no_words (codes "router") ws (is ∙ ap (λ l. l ++ rs) none ∙ nothing)
no_router_word ws None r s (zs, rs, is, none, inr (w, v, same, h, g)) =
    let both : codes "router" ∷ ws ≡ codes "rooms" ∷ w ∷ v ∷ [] = is ∙ ap (λ l. l ++ rs) none ∙ same in
    let third : slice_index (codes "router") 2
    ≡ slice_index (codes "rooms") 2 =
    ap (λ l. slice_index l 2) (first_same (codes "router") (codes "rooms") ws (w ∷ v ∷ []) both) in
    omega (arith, third)
no_router_word ws (Some name) r s (zs, rs, is, (w, same, named), rooms) =
    apart (codes "router") (codes "zone") ws (w ∷ rs) (λ same. z_not_r (sym same)) (is ∙ ap (λ l. l ++ rs) same)

pub after_router : (ws : List (List ℕ)) (router : Bool) (zone : Option (List ℕ)) (r s : ℕ)
    → SaysRest (codes "router" ∷ ws) router zone r s → (router ≡ true) × SaysPlace ws zone r s
after_router ws true z r s (rs, ps, is, same, place) =
    let left = rest_same (codes "router") (codes "router") ws ps (is ∙ ap (λ l. l ++ ps) same) in
    (refl, subst (λ l. SaysPlace l z r s) (sym left) place)
after_router ws false zone r s (rs, ps, is, none, place) =
    absurd (no_router_word ws zone r s (subst (λ l. SaysPlace l zone r s) (sym (is ∙ ap (λ l. l ++ ps) none)) place))

pub no_router : (ws : List (List ℕ)) (router : Bool) (zone : Option (List ℕ)) (r s : ℕ)
    → ((vs : List (List ℕ)) → ws ≢ codes "router" ∷ vs) → SaysRest ws router zone r s
    → (router ≡ false) × SaysPlace ws zone r s
no_router ws true z r s other (rs, ps, is, same, place) = absurd (other ps (is ∙ ap (λ l. l ++ ps) same))
no_router ws false zone r s other (rs, ps, is, none, place) =
    (refl, subst (λ l. SaysPlace l zone r s) (sym (is ∙ ap (λ l. l ++ ps) none)) place)

abbrev SameRest : Bool → Option (List ℕ) → ℕ → ℕ → Bool → Option (List ℕ) → ℕ → ℕ → Type 0
SameRest a y p q b z r s = (a ≡ b) × SamePlace y p q z r s

same_routed : (ws : List (List ℕ)) (y : Option (List ℕ)) (p q : ℕ) (b : Bool) (z : Option (List ℕ)) (r s : ℕ)
    → SaysRest ws true y p q → SaysRest ws b z r s → SameRest true y p q b z r s
same_routed ws y p q b z r s (rs, ps, is, same, place) h =
    let line : ws ≡ codes "router" ∷ ps = is ∙ ap (λ l. l ++ ps) same in
    let (router, other) = after_router ps b z r s (subst (λ l. SaysRest l b z r s) line h) in
    (sym router, same_place ps y p q z r s place other)

same_rest : (ws : List (List ℕ)) (a : Bool) (y : Option (List ℕ)) (p q : ℕ) (b : Bool) (z : Option (List ℕ)) (r s : ℕ)
    → SaysRest ws a y p q → SaysRest ws b z r s → SameRest a y p q b z r s
same_rest ws true y p q b z r s h g = same_routed ws y p q b z r s h g
same_rest ws false y p q true z r s h g = let same = same_routed ws z r s false y p q g h in
    (sym same.0, (sym same.1.0, sym same.1.1, sym same.1.2))
same_rest ws false y p q false z r s (rs, ps, is, none, place) (ts, us, same, nothing, other) =
    let one : ws ≡ ps = is ∙ ap (λ l. l ++ ps) none in
    let two : ws ≡ us = same ∙ ap (λ l. l ++ us) nothing in (
      refl,
      same_place ws y p q z r s (subst (λ l. SaysPlace l y p q) (sym one) place)
          (subst (λ l. SaysPlace l z r s) (sym two) other),
    )

-- ---- a node

pub node_line : (ws vs : List (List ℕ)) (w : List ℕ) (n : NodeSetup) → ws ≡ w ∷ vs → IsNode w n.node
    → SaysRest vs n.router n.zone n.receive_room n.send_room → SaysNode (codes "node" ∷ ws) n
node_line ws vs w n is number (rs, ps, same, router, place) =
    (w, rs, ps, ap (λ l. codes "node" ∷ l) is ∙ ap (λ l. codes "node" ∷ w ∷ l) same, number, router, place)

pub node_rest : (ws vs : List (List ℕ)) (w : List ℕ) (n : NodeSetup) → ws ≡ w ∷ vs → SaysNode (codes "node" ∷ ws) n
    → IsNode w n.node × SaysRest vs n.router n.zone n.receive_room n.send_room
node_rest ws vs w n is (v, rs, ps, same, number, router, place) =
    let tail = sym is ∙ rest_same (codes "node") (codes "node") ws (v ∷ rs ++ ps) same in
    let word = first_same w v vs (rs ++ ps) tail in
    (subst (λ l. IsNode l n.node) (sym word) number, (rs, ps, rest_same w v vs (rs ++ ps) tail, router, place))

pub same_node : (ws : List (List ℕ)) (n m : NodeSetup) → SaysNode ws n → SaysNode ws m → n ≡ m
same_node ws n m (w, rs, ps, is, number, router, place) h =
    let (other, rest) = node_rest (w ∷ rs ++ ps) (rs ++ ps) w m refl (subst (λ l. SaysNode l m) is h) in
    let node = same_node_number w n.node m.node number other in
    let (routers, (zones, receive, send)) =
    same_rest (rs ++ ps) n.router n.zone n.receive_room n.send_room m.router m.zone m.receive_room m.send_room
    (rs, ps, refl, router, place) rest in
    λ i. record { node = node i; router = routers i; zone = zones i; receive_room = receive i; send_room = send i }

-- ---- after `router` is taken or not

pub rest_said : (b : Bool) (ws after : List (List ℕ)) (zone : Option (List ℕ)) (r s : ℕ)
    → (b ≡ true → ws ≡ codes "router" ∷ after) → (b ≡ false → after ≡ ws) → SaysPlace after zone r s
    → SaysRest ws b zone r s
rest_said true ws after z r s taken left place = (codes "router" ∷ [], after, taken refl, refl, place)
rest_said false ws after z r s taken left place = ([], after, sym (left refl), refl, place)

pub place_left : (b : Bool) (ws after : List (List ℕ)) (router : Bool) (zone : Option (List ℕ)) (r s : ℕ)
    → (b ≡ true → ws ≡ codes "router" ∷ after) → (b ≡ false → after ≡ ws)
    → (b ≡ false → (vs : List (List ℕ)) → ¬ (ws ≡ codes "router" ∷ vs)) → SaysRest ws router zone r s
    → SaysPlace after zone r s
place_left true ws after router zone r s taken left only h =
    (after_router after router zone r s (subst (λ l. SaysRest l router zone r s) (taken refl) h)).1
place_left false ws after router zone r s taken left only h = subst (λ l. SaysPlace l zone r s) (sym (left refl))
    (no_router ws router zone r s (only refl) h).1
