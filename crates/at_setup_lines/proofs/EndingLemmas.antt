-- Which line makes a setup whole.
use Rattle.std.proofs.Common.{arith, ◌≡◌, ℕ, ◌<◌, ◌≤◌, nat_le, List, [], ◌∷◌, ◌++◌, length, cond, Bool, true, false}
use Rattle.std.proofs.Common.{not, Some, inr, refl, sym, subst, ◌∙◌, filter, map, append-nil, ap, inl}
use Rattle.std.specs.Fmt.{decimal}
use Rattle.std.specs.Prelude.{codes}
use Rattle.std.specs.List.{All}
use Rattle.std.specs.Char.{digit_value}
use Rattle.std.specs.Str.Parse.{AllDigits}
use Rattle.std.proofs.lemmas.Bool.{and_from, cond-false, cond-true, false≢true, le-leb, ne_eqb}
use Rattle.std.proofs.lemmas.Fmt.{decimal_is_IsNumeral}
use Rattle.std.proofs.lemmas.List.Elements.{All-cons, All-nil}
use Rattle.std.proofs.lemmas.List.Splits.{slice_split_at}
use Rattle.at_words.specs.Numbers.{IsNode}
use Rattle.at_words.specs.Texts.{IsZoneName}
use Rattle.at_words.specs.Words.{has_bytes, is_space, words_of}
use Rattle.at_setup.specs.Setups.{are_lawful_nodes, has_router}
use Rattle.at_setup.specs.declared.setup.Setup.{Setup}
use Rattle.at_setup_lines.specs.Drafts.{Draft, IsDraft, IsDraftAt, is_event, setup_of}
use Rattle.at_setup_lines.specs.Endings.{CanEnd, HasPlace, router_line}
use Rattle.at_setup_lines.specs.NodeLists.{lacks_router}
use Rattle.at_setup_lines.specs.SetupLines.{IsSetup, SaysNet, SaysNode, SaysPlace}
use Rattle.at_setup_lines.specs.declared.draft.Stage.{Stage}
use Rattle.at_setup_lines.specs.declared.draft.Stage.TheVariants.{Event, Local, Net, Node, Zones}
use Rattle.at_setup_lines.proofs.EventLemmas.{event_at_node, event_later}
use Rattle.at_setup_lines.proofs.LawfulLemmas.{net_fits, lawful_without}
use Rattle.at_setup_lines.proofs.FitLemmas.{Fit, Placed, all_zoned, fit_from, lawful_if, none_zoned}
use Rattle.at_setup_lines.proofs.HeadLemmas.{head_more}
use Rattle.at_setup_lines.proofs.RouterLemmas.{router_at, router_follows}
use Rattle.at_setup_lines.proofs.RuleLemmas.{lacks_no}

-- ---- what the lines say

-- a digit is no space
no_space : (c : ℕ) → digit_value c < 10 → is_space c ≡ false
no_space c digit = ne_eqb c 32 (λ same. let space = subst (λ x. digit_value x < 10) same digit in omega (arith, space))

no_spaces : (ds : List ℕ) → AllDigits 10 ds → All (λ c. is_space c ≡ false) ds
no_spaces [] h = All-nil (λ c. is_space c ≡ false)
no_spaces (c ∷ cs) h = All-cons (λ c. is_space c ≡ false) c cs (no_space c h.0) (no_spaces cs h.1)

has_some : (word : List ℕ) → 0 < length word → has_bytes word ≡ true
has_some word some = ap not (ne_eqb (length word) 0 (λ none. omega (arith, some, none)))

router_words : (k : ℕ) → k < 255
    → words_of (router_line k) ≡ codes "node" ∷ decimal k ∷ codes "router" ∷ codes "zone" ∷ codes "A" ∷ []
router_words k few =
    let is = decimal_is_IsNumeral k (omega (arith, few)) in
    let after = codes "router zone A" in
    ap (λ parts. codes "node" ∷ filter has_bytes parts)
    (slice_split_at is_space (decimal k) 32 after (no_spaces (decimal k) (is.0).1) refl)
    ∙ ap (λ b. codes "node" ∷ cond b (decimal k ∷ words_of after) (words_of after)) (has_some (decimal k) (is.0).0)

number_said : (k : ℕ) → 0 < k → k < 255 → IsNode (decimal k) k
number_said k some few = let is = decimal_is_IsNumeral k (omega (arith, few)) in ((is.0, sym is.1), some, few)

zone_said : IsZoneName (codes "A") (65 ∷ [])
zone_said = ((inr ([], (65 ∷ [], refl, inl (refl, refl, λ same. omega (arith, same))), refl), omega arith), omega arith)

place_said : SaysPlace (codes "zone" ∷ codes "A" ∷ []) (Some (65 ∷ [])) 64 64
place_said =
    (codes "zone" ∷ codes "A" ∷ [], [], refl, (codes "A", refl, zone_said), inl (refl, refl, refl))

router_said : (k : ℕ) → 0 < k → k < 255 → SaysNode (words_of (router_line k)) (router_at k)
router_said k some few = (
  decimal k,
  codes "router" ∷ [],
  codes "zone" ∷ codes "A" ∷ [],
  router_words k few,
  number_said k some few,
  refl,
  place_said,
)

net_said : SaysNet (words_of (codes "net 1")) 1
net_said = (codes "1", refl, (((omega arith, (omega arith, tt)), refl), omega arith, omega arith))

-- ---- what was read, and a line more

-- a router that has to follow finds a number
place_of : (most : ℕ) (d : Draft) → HasPlace most d → lacks_router d.nodes ≡ true → length d.nodes < 16
    → length d.nodes < most
place_of most d (byte, inl many) lacks few = omega (arith, many, few)
place_of most d (byte, inr place) lacks few = place lacks

module _ (A : Type 0) (most : ℕ) (d : Draft) (lines : List (List (List ℕ))) where
  as_it_is : IsSetup lines (setup_of d) → CanEnd A most d lines
  as_it_is h =
      let s : Setup A = record { net = d.net; nodes = d.nodes; zones = d.zones; local = d.local } in
      record {
        more = [];
        setup = s;
        ending = inl refl;
        over = λ over. refl;
        whole = subst (λ l. IsSetup l s) (sym (append-nil lines)) h;
        added = [];
        follows = sym (append-nil d.nodes);
        small = refl;
      }

  with_net : d.stage ≡ Net → lines ≡ [] → d.nodes ≡ [] → CanEnd A most d lines
  with_net stage none no_nodes =
      let s : Setup A = record { net = 1; nodes = []; zones = []; local = [] } in
      record {
        more = codes "net 1" ∷ [];
        setup = s;
        ending = inr (inl refl);
        over = λ over. absurd (false≢true (sym (ap is_event stage) ∙ over));
        whole = subst (λ l. IsSetup (l ++ map words_of (codes "net 1" ∷ [])) s) (sym none)
            (inl (inl ((net_said, tt), refl), refl), refl);
        added = [];
        follows = sym (append-nil d.nodes ∙ no_nodes);
        small = refl;
      }

  with_router : d.stage ≡ Node → IsDraftAt Node lines d → most < 255 → (k : ℕ) → 0 < k → k ≤ most
      → are_lawful_nodes (d.nodes ++ router_at k ∷ []) ≡ true → CanEnd A most d lines
  with_router stage (say, none, no_local, begin) byte k some few lawful =
      let nodes = d.nodes ++ router_at k ∷ [] in
      let small : k < 255 = omega (arith, byte, few) in
      record {
        more = router_line k ∷ [];
        setup = record { net = d.net; nodes = nodes; zones = []; local = [] };
        ending = inr (inr (k, few, refl));
        over = λ over. absurd (false≢true (sym (ap is_event stage) ∙ over));
        whole = (
          inl (
            inl (
              head_more lines d.net d.nodes (words_of (router_line k)) (router_at k) say (router_said k some small),
              refl,
            ),
            refl,
          ),
          lawful_without (record { stage = Node; net = d.net; nodes = nodes; zones = []; local = [] })
              (net_fits lines d.net d.nodes say) lawful refl refl,
        );
        added = router_at k ∷ [];
        follows = refl;
        small = and_from (nat_le k most) true (le-leb k most few) refl;
      }

  lacking_by : HasPlace most d → d.stage ≡ Node → IsDraftAt Node lines d → lacks_router d.nodes ≡ true
      → Fit d.nodes → Placed d.nodes → CanEnd A most d lines
  lacking_by place stage h lacks f (inl (has, all)) = absurd (lacks_no d.nodes lacks (lawful_if d.nodes f
      (cond-true (has_router d.nodes) (all_zoned d.nodes) (none_zoned d.nodes) has ∙ all)))
  lacking_by place stage h lacks f (inr (inl (lone, none))) = absurd (lacks_no d.nodes lacks (lawful_if d.nodes f
      (cond-false (has_router d.nodes) (all_zoned d.nodes) (none_zoned d.nodes) lone ∙ none)))
  lacking_by place stage h lacks f (inr (inr (lone, all, few))) =
      let (k, some, small, lawful) = router_follows most d.nodes place.0 (place_of most d place lacks few) f lone all
      few in
      with_router stage h place.0 k some small lawful

  node_by : HasPlace most d → (b : Bool) → lacks_router d.nodes ≡ b → d.stage ≡ Node → IsDraft lines d
      → CanEnd A most d lines
  node_by place false fits stage h = as_it_is (event_at_node d stage fits lines h)
  node_by place true lacks stage h =
      let (say, none, no_local, (more, lawful)) = subst (λ st. IsDraftAt st lines d) stage h in
      let f = fit_from d.nodes more lawful in
      lacking_by place stage (say, none, no_local, (more, lawful)) lacks f f.placed

  stage_by : HasPlace most d → (st : Stage) → d.stage ≡ st → IsDraft lines d → CanEnd A most d lines
  stage_by place Net stage h =
      let drafted = subst (λ st. IsDraftAt st lines d) stage h in
      with_net stage drafted.0 drafted.2
  stage_by place Node stage h = node_by place (lacks_router d.nodes) refl stage h
  stage_by place Zones stage h = as_it_is (event_later d (inl stage) lines h)
  stage_by place Local stage h = as_it_is (event_later d (inr (inl stage)) lines h)
  stage_by place Event stage h = as_it_is (event_later d (inr (inr stage)) lines h)

pub can_end : (A : Type 0) (most : ℕ) (d : Draft) (lines : List (List (List ℕ))) → HasPlace most d → IsDraft lines d
    → CanEnd A most d lines
can_end A most d lines place h = stage_by A most d lines place d.stage refl h
