use Rattle.std.proofs.Common.{◌≡◌, ℕ, length, refl, sym, ap, subst, ◌∙◌, Option, arith}
use Rattle.std.specs.Prelude.{IfSome, Result, Err, Some}
use Rattle.at_nbp.specs.Lookups.{finds_in, search_of}
use Rattle.at_name_socket.specs.NameSockets.{SocketState, finish_fault, taker}
use Rattle.at_name_socket.specs.declared.claim.Claim.{Claim}
use Rattle.at_name_socket.specs.declared.step.Finished.{Finished}
use Rattle.at_nbp.specs.declared.fault.NbpFault.{NbpFault}
use Rattle.at_nbp.specs.declared.find.Find.{Find}
use Rattle.at_nbp.specs.NameTables.{register_fault}
use Rattle.at_name_socket.proofs.SocketLemmas.{Claiming, claim_is, claimed_ends, claiming, no_fault, register_is, same_fault}
use Rattle.at_name_socket.proofs.SocketLemmas.{taken_ends, taken_has_no_fault, taker_is}
use Rattle.at_name_socket.proofs.socket.NameSocket.end_claim.Given.{Over}
use Rattle.at_name_socket.proofs.socket.NameSocket.end_claim.Goals as goal
use Rattle.at_name_socket.proofs.socket.NameSocket.end_claim.Goals.{After-register, After-taker}

pub index-requires : goal.index-requires
index-requires g c =
    let e = claiming c.args.self.now c.args.id c.args.index c.requires.claim c.requires.open in
    omega (arith, e.within, ap (λ (s : SocketState). length s.claims) c.self.view_is, c.self.inside.claims.ok.0)

pub taker-requires : goal.taker-requires
taker-requires g c =
    let e = claiming c.args.self.now c.args.id c.args.index c.requires.claim c.requires.open in
    let claim = claim_is _ _ c.args.id c.args.index e c.index.result.now c.index.ensures c.self.view_is in
    c.requires.count ∙ ap (λ (k : ℕ). length (finds_in (search_of c.args.self.now.lookups k)))
    (sym (ap (λ (x : Claim). x.id) claim ∙ e.numbered))

pub index-claim-requires : goal.index-claim-requires
index-claim-requires g c =
    let e = claiming c.args.self.now c.args.id c.args.index c.requires.claim c.requires.open in
    omega (arith, e.within, ap (λ (s : SocketState). length s.claims) c.self.view_is, c.self.inside.claims.ok.0)

-- the claim that is lent, and who has its name
record Lent (s : SocketState) (id index : ℕ) (claim : Claim) (found : Option Find) : Type 0 where
  pub claiming : Claiming s id index
  pub is_it : claim ≡ claiming.claim
  pub taker : taker s (claiming.search).finds claiming.claim ≡ found

lent : (g : Over) (c : After-taker g)
    → Lent c.args.self.now c.args.id c.args.index c.index.result.now c.taker.result
lent g c =
    let e = claiming c.args.self.now c.args.id c.args.index c.requires.claim c.requires.open in
    let claim = claim_is _ _ c.args.id c.args.index e c.index.result.now c.index.ensures c.self.view_is in
    record {
      claiming = e;
      is_it = claim;
      taker = sym (taker_is c.args.self.now c.args.id c.args.index e c.index.result.now claim) ∙ sym c.taker.ensures;
    }

-- a claim of a free name is at fault as its registering is
fault_is : (g : Over) (c : After-register g)
    → Lent c.args.self.now c.args.id c.args.index c.index.result.now c.taker.result
    → finish_fault c.args.self.now c.args.id
    ≡ register_fault c.args.self.now.table.names c.copy_of-object.result c.copy_of-kind.result
fault_is g c l =
    let again = claim_is _ _ c.args.id c.args.index l.claiming c.index-claim.result.now c.index-claim.ensures
    c.self.view_is in
    register_is c.args.self.now c.args.id c.args.index l.claiming c.index-claim.result.now c.copy_of-object.result
    c.copy_of-kind.result again c.copy_of-object.ensures c.copy_of-kind.ensures (l.taker ∙ c.in_default.is)

pub returns-in-Some-clause-ok : goal.returns-in-Some-clause-ok
returns-in-Some-clause-ok g c =
    let l = lent g (goal.at.returns-in-Some-clause-ok g c).After-taker in
    taken_ends g.row.A.Denot c.args.self.now c.close.new.self c.args.id c.args.index l.claiming c.in_ok-owner.owner
    (l.taker ∙ c.in-Some.is ∙ ap Some (sym c.in_ok-owner.ensures)) c.close.ensures

pub returns-in-Some-clause-refuses : goal.returns-in-Some-clause-refuses
returns-in-Some-clause-refuses g c =
    let l = lent g (goal.at.returns-in-Some-clause-refuses g c).After-taker in
    rw (taken_has_no_fault c.args.self.now c.args.id c.args.index l.claiming c.in-Some.find (l.taker ∙ c.in-Some.is)) tt

pub returns-in_err-owner-clause-refuses : goal.returns-in_err-owner-clause-refuses
returns-in_err-owner-clause-refuses g c =
    let l = lent g (goal.at.returns-in_err-owner-clause-refuses g c).After-taker in
    rw (taken_has_no_fault c.args.self.now c.args.id c.args.index l.claiming c.in-Some.find (l.taker ∙ c.in-Some.is)) tt

pub returns-in-Err-clause-refuses : goal.returns-in-Err-clause-refuses
returns-in-Err-clause-refuses g c =
    let at = goal.at.returns-in-Err-clause-refuses g c in
    let answer : Result (Finished g.row.A.Denot) NbpFault = Err c.in-Err.fault in
    subst (λ o. IfSome o (λ f. answer ≡ Err f))
    (sym (fault_is g at.After-register (lent g at.After-taker)))
    (same_fault _ c.register.result answer c.in-Err.fault c.in-Err.is refl c.register.ensures.refuses)

pub returns-in-Err-clause-memory : goal.returns-in-Err-clause-memory
returns-in-Err-clause-memory g c fine =
    let at = goal.at.returns-in-Err-clause-memory g c in
    c.in-Err.ensures.memory (sym (fault_is g at.After-register (lent g at.After-taker)) ∙ fine)

pub returns-in-Ok-clause-ok : goal.returns-in-Ok-clause-ok
returns-in-Ok-clause-ok g c =
    let l = lent g (goal.at.returns-in-Ok-clause-ok g c).After-taker in
    let again = claim_is _ _ c.args.id c.args.index l.claiming c.index-claim.result.now c.index-claim.ensures
    c.self.view_is in
    claimed_ends g.row.A.Denot c.args.self.now c.register.new.self c.close-in-Ok.new.self c.args.id c.args.index
    l.claiming c.index-claim.result.now c.copy_of-object.result c.copy_of-kind.result again c.copy_of-object.ensures
    c.copy_of-kind.ensures (l.taker ∙ c.in_default.is) c.in-Ok.ensures.ok c.close-in-Ok.ensures

pub returns-in-Ok-clause-refuses : goal.returns-in-Ok-clause-refuses
returns-in-Ok-clause-refuses g c =
    let at = goal.at.returns-in-Ok-clause-refuses g c in
    rw (fault_is g at.After-register (lent g at.After-taker)
    ∙ no_fault _ c.register.result _ c.in-Ok.is c.register.ensures.refuses) tt
