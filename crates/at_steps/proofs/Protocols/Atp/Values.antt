-- Values at one address.
use Rattle.std.proofs.Common.{◌≡◌, Bool, true, false, cond, refl}
use Rattle.at_ddp.specs.Address.{same_address}
use Rattle.at_ddp.specs.declared.address.Address.{Address}
use Rattle.at_ddp.specs.Posts.{put}

pub put_twice : {X : Type 0} (f : Address → X) (at : Address) (x y : X) (a : Address) → put (put f at x) at y a
    ≡ put f at y a
put_twice f at x y a = go (same_address at a)
  where
    go : (b : Bool) → cond b y (cond b x (f a)) ≡ cond b y (f a)
    go true = refl
    go false = refl
