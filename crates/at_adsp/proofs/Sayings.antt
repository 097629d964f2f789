-- What the packets of an end say, and what is sent on the cable.
use Rattle.std.proofs.Common.{◌≡◌, ℕ, Bool, true, false, List, [], ◌∷◌}
use Rattle.std.proofs.Common.{Some, sym, ap, ◌∙◌}
use Rattle.std.specs.List.{AllByRecursion}
use Rattle.at_ddp.specs.declared.address.Address.{Address}
use Rattle.at_ddp.proofs.Alls.{all_found}
use Rattle.at_adsp_frame.specs.Segments.{Content, Part, Open}
use Rattle.at_adsp_frame.specs.declared.segment.OpenKind.{OpenKind}
use Rattle.at_adsp_frame.specs.declared.segment.OpenKind.TheVariants.{Request, Acknowledgement}
use Rattle.at_adsp_frame.specs.declared.segment.OpenKind.TheVariants.{RequestAndAcknowledgement, Denial}
use Rattle.at_adsp_end.specs.Ends.{EndState, addressed}
use Rattle.at_ddp.specs.Posts.{AllSent, stamped}
use Rattle.at_adsp.specs.Network.{Setting, Made, is_end, named, newest}
use Rattle.at_adsp.proofs.Sound.{Fresh, Lawful, Stands, Tells, Told}

-- ---- what an end says

-- an answer, or an acknowledgement, of this end names its remote
pub record IsSaid (e : EndState) (listener : Bool) (source dest : ℕ) : Type 0 where
  pub id : source ≡ e.id
  pub listens : e.listener ≡ listener
  pub remote : e.remote ≡ Some (record { address = e.asked; id = dest })

abbrev pub SaysKind : EndState → ℕ → OpenKind → ℕ → Type 0
SaysKind e source Request dest = Unit {0}
SaysKind e source Acknowledgement dest = IsSaid e false source dest
SaysKind e source RequestAndAcknowledgement dest = IsSaid e true source dest
SaysKind e source Denial dest = Unit {0}

abbrev pub SaysPart : EndState → ℕ → Part → Type 0
SaysPart e source (Open kind dest) = SaysKind e source kind dest
SaysPart e source other = Unit {0}

abbrev pub Says : EndState → Content → Type 0
Says e s = SaysPart e s.source s.body

said_told : (setting : Setting) (made : List Made) (at : Address) (e : EndState) (listener : Bool) (source dest : ℕ)
    → AllByRecursion (Lawful setting.ours) made → Stands setting made at e → IsSaid e listener source dest →
    Told setting made at e.asked listener source dest
said_told setting made at e listener source dest lawful s said =
    let law = (all_found (Lawful setting.ours) (is_end at e.id) made s.it lawful s.newest).0 in
    record {
      it = s.it;
      newest = ap (newest made at) said.id ∙ s.newest;
      listens = sym law.listener ∙ ap (λ (x : EndState). x.listener) s.last ∙ said.listens;
      remote = ap (λ (x : EndState). x.remote) s.last ∙ said.remote;
      names = s.names ∙ ap (named setting made) said.remote;
    }

says_tells : (setting : Setting) (made : List Made) (at : Address) (e : EndState) (source : ℕ) (part : Part)
    → AllByRecursion (Lawful setting.ours) made → Stands setting made at e → SaysPart e source part →
    Tells setting made at e.asked source part
says_tells setting made at e source (Open Acknowledgement dest) lawful s said =
    said_told setting made at e false source dest lawful s said
says_tells setting made at e source (Open RequestAndAcknowledgement dest) lawful s said =
    said_told setting made at e true source dest lawful s said
says_tells setting made at e source (Open Request dest) lawful s said = tt
says_tells setting made at e source (Open Denial dest) lawful s said = tt
says_tells setting made at e source other lawful s said = said

-- what an end that stands sends
pub said_fresh : (setting : Setting) (made : List Made) (at : Address) (e : EndState) (event : ℕ) (sent : List Content)
    → AllByRecursion (Lawful setting.ours) made → Stands setting made at e → AllByRecursion (Says e) sent →
    AllSent (Fresh setting made) (stamped event at (addressed e.asked sent))
said_fresh setting made at e event [] lawful s says = tt
said_fresh setting made at e event (x ∷ xs) lawful s says = (
  (λ fresh. says_tells setting made at e x.source x.body lawful s says.0),
  said_fresh setting made at e event xs
      lawful s says.1,
)
