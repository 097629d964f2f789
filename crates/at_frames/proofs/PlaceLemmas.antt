-- The bytes of a datagram lie within its frame.
use Rattle.std.proofs.Common.{◌≡◌, inl, inr, ℕ, List, [], ◌∷◌, ◌++◌, take, drop, sym, ap, ◌∙◌, append_assoc}
use Rattle.std.proofs.Common.{append-nil}
use Rattle.std.specs.List.{flat_map}
use Rattle.std.proofs.lemmas.List.{take-append-drop}
use Rattle.at_ddp.specs.Fault.{number_at}
use Rattle.at_frames.specs.Carried.{Load}
use Rattle.at_frames.specs.Carries.{Carries, CookedCarries, EthernetCarries, IpCarries, LiesIn, LlapCarries, LlcCarries}
use Rattle.at_frames.specs.Carries.{TypeCarries}
use Rattle.at_frames.specs.Cooked.{stations_from}
use Rattle.at_frames.specs.Ip.{header_len}
use Rattle.at_frames.specs.Llc.{datagram_snap}
use Rattle.at_frames.specs.declared.carried.Carrier.{Carrier}
use Rattle.at_frames.specs.declared.carried.Carrier.TheVariants.{EtherTalkPhase1, LocalTalk, LocalTalkOverUdp}
use Rattle.at_frames.specs.declared.carried.Station.{Station}
use Rattle.at_frames.specs.declared.carried.Stations.{Stations}

regroup : (front before bytes after back : List ℕ)
    → front ++ ((before ++ (bytes ++ after)) ++ back) ≡ (front ++ before) ++ (bytes ++ (after ++ back))
regroup front before bytes after back = simp append_assoc

-- what lies in a part lies in the whole
in_whole : (bytes front part back all : List ℕ) → LiesIn bytes part → all ≡ front ++ (part ++ back)
    → LiesIn bytes all
in_whole bytes front part back all p is = record {
  before = front ++ p.before;
  after = p.after ++ back;
  parts = is ∙ ap (λ l. front ++ (l ++ back)) p.parts ∙ regroup front p.before bytes p.after back;
}

in_rest : (bytes : List ℕ) (n : ℕ) (all : List ℕ) → LiesIn bytes (drop n all) → LiesIn bytes all
in_rest bytes n all p =
    in_whole bytes (take n all) (drop n all) [] all p
    (sym (take-append-drop n all) ∙ ap (λ l. take n all ++ l) (sym (append-nil (drop n all))))

in_front : (bytes : List ℕ) (n : ℕ) (all : List ℕ) → LiesIn bytes (take n all) → LiesIn bytes all
in_front bytes n all p = in_whole bytes [] (take n all) (drop n all) all p (sym (take-append-drop n all))

-- what follows a header lies in the whole
behind : (header bytes all : List ℕ) → all ≡ header ++ bytes → LiesIn bytes all
behind header bytes all is = record {
  before = header;
  after = [];
  parts = is ∙ ap (λ l. header ++ l) (sym (append-nil bytes));
}

in_llap : (carrier : Carrier) (llap : List ℕ) (d : Load) → LlapCarries carrier llap d → LiesIn d.bytes llap
in_llap carrier llap d c =
    elim c.behind [
      | inl s ↦ behind (c.to ∷ c.from ∷ 1 ∷ []) d.bytes llap s.1
      | inr s ↦ behind (c.to ∷ c.from ∷ 2 ∷ []) d.bytes llap s.1
    ]

in_llc : (stations : Stations) (stated : ℕ) (rest : List ℕ) (d : Load) → LlcCarries stations stated rest d
    → LiesIn d.bytes rest
in_llc stations stated rest d c =
    in_front d.bytes stated rest (behind datagram_snap d.bytes (take stated rest) c.behind)

in_ip : (ip : List ℕ) (d : Load) → IpCarries ip d → LiesIn d.bytes ip
in_ip ip d c =
    let udp = drop (header_len ip) ip in
    let len = number_at 4 udp in
    in_rest d.bytes (header_len ip) ip
    (in_front d.bytes len udp (in_rest d.bytes 12 (take len udp)
    (in_llap LocalTalkOverUdp (drop 12 (take len udp)) d c.llap)))

in_type : (stations : Stations) (kind : ℕ) (rest : List ℕ) (d : Load) → TypeCarries stations kind rest d
    → LiesIn d.bytes rest
in_type stations kind rest d (inl c) = in_llc stations kind rest d c.1
in_type stations kind rest d (inr (inl c)) = in_ip rest d c.1
in_type stations kind rest d (inr (inr c)) = in_llap EtherTalkPhase1 rest d c.1

in_ethernet : (frame : List ℕ) (d : Load) → EthernetCarries frame d → LiesIn d.bytes frame
in_ethernet frame d c =
    let tags = flat_map (λ tag. tag) c.tags in
    let typed = in_rest d.bytes 2 c.typed (in_type _ _ (drop 2 c.typed) d c.behind) in
    let tagged : LiesIn d.bytes (tags ++ c.typed) =
    in_whole d.bytes tags c.typed [] (tags ++ c.typed) typed (ap (λ l. tags ++ l) (sym (append-nil c.typed))) in
    let sent : LiesIn d.bytes (c.from ++ (tags ++ c.typed)) =
    in_whole d.bytes c.from (tags ++ c.typed) [] (c.from ++ (tags ++ c.typed)) tagged
    (ap (λ l. c.from ++ l) (sym (append-nil (tags ++ c.typed)))) in
    in_whole d.bytes c.to (c.from ++ (tags ++ c.typed)) [] frame sent
    (c.parts ∙ ap (λ l. c.to ++ l) (sym (append-nil (c.from ++ (tags ++ c.typed)))))

in_cooked : (from : Station) (kind : ℕ) (rest : List ℕ) (d : Load) → CookedCarries from kind rest d
    → LiesIn d.bytes rest
in_cooked from kind rest d (inl c) = in_llc (stations_from from) _ rest d c.1
in_cooked from kind rest d (inr c) = in_type (stations_from from) kind rest d c.1

pub lies_in : (link_type : ℕ) (frame : List ℕ) (d : Load) → Carries link_type frame d → LiesIn d.bytes frame
lies_in n frame d (inl (is, c)) = in_ethernet frame d c
lies_in n frame d (inr (inl (is, c))) = in_rest d.bytes 16 frame (in_cooked _ _ (drop 16 frame) d c.behind)
lies_in n frame d (inr (inr (inl (is, c)))) = in_rest d.bytes 20 frame (in_cooked _ _ (drop 20 frame) d c.behind)
lies_in n frame d (inr (inr (inr (inl (is, c))))) = in_ip frame d c
lies_in n frame d (inr (inr (inr (inr (is, c))))) = in_llap LocalTalk frame d c
