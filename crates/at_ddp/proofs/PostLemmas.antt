-- What holds of each packet that was sent on a cable, among foreign datagrams, and of what changes at one address.
use Rattle.std.proofs.Common.{◌≡◌, ℕ, zero, suc, ◌+◌, ◌<◌, Bool, true, false, cond, List, [], ◌∷◌, ◌++◌, Option, Some}
use Rattle.std.proofs.Common.{None, refl, sym, ap, subst, ◌∙◌, arith}
use Rattle.std.specs.Prelude.{IfSome, replicate}
use Rattle.at_ddp.specs.Address.{same_address}
use Rattle.at_ddp.specs.Posts.{Post, Posts, AllSent, packet_at, put, stamped}
use Rattle.at_ddp.specs.declared.address.Address.{Address}
use Rattle.at_ddp.proofs.Octets.{same_address-true, same_address_itself}

pub sent_at : {X : Type 0} (P : Post X → Type 0) (sent : Posts X) (which : ℕ) (s : Post X) → AllSent P sent
    → packet_at sent which ≡ Some s → P s
sent_at P [] which s all is = absurd (cc)
sent_at {X} P (x ∷ sent) zero s all is = subst (λ (o : Option (Post X)). IfSome o P) is all.0
sent_at P (x ∷ sent) (suc i) s all is = sent_at P sent i s all.1 is

some_implied : {X : Type 0} (P Q : Post X → Type 0) (x : Option (Post X)) → ((s : Post X) → P s → Q s) → IfSome x P
    → IfSome x Q
some_implied P Q None f h = tt
some_implied P Q (Some s) f h = f s h

pub sent_implied : {X : Type 0} (P Q : Post X → Type 0) (sent : Posts X) → ((s : Post X) → P s → Q s) → AllSent P sent
    → AllSent Q sent
sent_implied P Q [] f h = tt
sent_implied P Q (x ∷ sent) f h = (some_implied P Q x f h.0, sent_implied P Q sent f h.1)

both_of : {X : Type 0} (P Q : Post X → Type 0) (x : Option (Post X)) → IfSome x P → IfSome x Q
    → IfSome x (λ s. P s × Q s)
both_of P Q None a b = tt
both_of P Q (Some s) a b = (a, b)

pub sent_pairs : {X : Type 0} (P Q : Post X → Type 0) (sent : Posts X) → AllSent P sent → AllSent Q sent
    → AllSent (λ s. P s × Q s) sent
sent_pairs P Q [] a b = tt
sent_pairs P Q (x ∷ sent) a b = (both_of P Q x a.0 b.0, sent_pairs P Q sent a.1 b.1)

pub sent_both : {X : Type 0} (P : Post X → Type 0) (a b : Posts X) → AllSent P a → AllSent P b → AllSent P (a ++ b)
sent_both P [] b x y = y
sent_both P (o ∷ a) b x y = (x.0, sent_both P a b x.1 y)

-- of foreign datagrams nothing is said
pub none_sent : {X : Type 0} (P : Post X → Type 0) (count : ℕ) → AllSent P (replicate count None)
none_sent P zero = tt
none_sent P (suc count) = (tt, none_sent P count)

pub stamped_past : {X : Type 0} (event : ℕ) (from : Address) (xs : List (Address × X))
    → AllSent (λ (s : Post X). s.event < event + 1) (stamped event from xs)
stamped_past event from [] = tt
stamped_past event from (x ∷ xs) = (omega arith, stamped_past event from xs)

-- ---- what changes at one address

pub put_elsewhere : {X : Type 0} (P : Address → X → Type 0) (f : Address → X) (at : Address) (x : X)
    → ((a : Address) → same_address at a ≡ false → P a (f a)) → P at x → (a : Address) → P a (put f at x a)
put_elsewhere {X} P f at x all is a = go (same_address at a) refl
  where
    go : (b : Bool) → same_address at a ≡ b → P a (cond b x (f a))
    go true e = subst (λ y. P y x) (same_address-true at a e) is
    go false e = all a e

pub put_all : {X : Type 0} (P : Address → X → Type 0) (f : Address → X) (at : Address) (x : X)
    → ((a : Address) → P a (f a)) → P at x → (a : Address) → P a (put f at x a)
put_all P f at x all is = put_elsewhere P f at x (λ a elsewhere. all a) is

pub put_here : {X : Type 0} (f : Address → X) (at : Address) (x : X) → put f at x at ≡ x
put_here f at x = rw (same_address_itself at) refl

pub put_there : {X : Type 0} (f : Address → X) (at a : Address) (x : X) → same_address at a ≡ false → put f at x a ≡ f a
put_there f at a x apart = rw apart refl

-- putting what is there changes nothing
pub put_itself : {X : Type 0} (f : Address → X) (at : Address) (x : X) → f at ≡ x → (a : Address) → f a ≡ put f at x a
put_itself f at x is a = go (same_address at a) refl
  where
    go : (b : Bool) → same_address at a ≡ b → f a ≡ cond b x (f a)
    go true e = ap f (sym (same_address-true at a e)) ∙ is
    go false e = refl

pub put_same : {X : Type 0} (f g : Address → X) (at : Address) (x : X) (a : Address) → f a ≡ g a
    → put f at x a ≡ put g at x a
put_same f g at x a same = ap (λ y. cond (same_address at a) x y) same
