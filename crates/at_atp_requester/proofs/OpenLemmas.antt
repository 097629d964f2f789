-- The transaction of a number, while it is open.
use Rattle.std.proofs.Common.{◌≡◌, ℕ, ◌+◌, ◌%◌, Bool, true, false, cond, List, [], ◌∷◌, ◌++◌, length, Some}
use Rattle.std.proofs.Common.{None, refl, ap}
use Rattle.std.specs.Prelude.{find, nat_lt, ◌==◌, ◌||◌}
use Rattle.std.proofs.lemmas.Bool.{eq-eqb, or_parts}
use Rattle.at_atp_requester.specs.Requests.{Transaction, Requests, has_number, draw_from, next_number}
use Rattle.at_ddp.specs.Tables.{replaced, without_first}
use Rattle.at_ddp.proofs.NumberLemmas.{is_free}

-- the one transaction of a number in a list
pub record Around (l : List Transaction) (tid : ℕ) (t : Transaction) : Type 0 where
  pub before : List Transaction
  pub behind : List Transaction
  pub is : l ≡ before ++ t ∷ behind
  pub none_before : has_number before tid ≡ false
  pub none_behind : has_number behind tid ≡ false

-- ---- lists without a number

pub head_apart : (x : Transaction) (xs : List Transaction) (tid : ℕ) → has_number (x ∷ xs) tid ≡ false → (x.tid == tid)
    ≡ false
head_apart x xs tid h = let parts = or_parts (x.tid == tid) (has_number xs tid) h in parts.0

pub tail_apart : (x : Transaction) (xs : List Transaction) (tid : ℕ) → has_number (x ∷ xs) tid ≡ false
    → has_number xs tid ≡ false
tail_apart x xs tid h = let parts = or_parts (x.tid == tid) (has_number xs tid) h in parts.1

pub cons_apart : (x : Transaction) (xs : List Transaction) (tid : ℕ) → (x.tid == tid) ≡ false → has_number xs tid
    ≡ false → has_number (x ∷ xs) tid ≡ false
cons_apart x xs tid a b = rw (a, b) refl

pub both_apart : (xs ys : List Transaction) (tid : ℕ) → has_number xs tid ≡ false → has_number ys tid ≡ false
    → has_number (xs ++ ys) tid ≡ false
both_apart [] ys tid a b = b
both_apart (x ∷ xs) ys tid a b = cons_apart x (xs ++ ys) tid (head_apart x xs tid a)
    (both_apart xs ys tid (tail_apart x xs tid a) b)

replaced_apart : (p : Transaction → Bool) (y : Transaction) (xs : List Transaction) (tid : ℕ) → (y.tid == tid) ≡ false
    → has_number xs tid ≡ false → has_number (replaced p y xs) tid ≡ false
replaced_apart p y [] tid a h = h
replaced_apart p y (x ∷ xs) tid a h = go (replaced_apart p y xs tid a (tail_apart x xs tid h)) (p x)
  where
    go : has_number (replaced p y xs) tid ≡ false → (b : Bool) → has_number (cond b (y ∷ xs) (x ∷ replaced p y xs)) tid
        ≡ false
    go ih true = cons_apart y xs tid a (tail_apart x xs tid h)
    go ih false = cons_apart x (replaced p y xs) tid (head_apart x xs tid h) ih

pub without_apart : (p : Transaction → Bool) (xs : List Transaction) (tid : ℕ) → has_number xs tid ≡ false
    → has_number (without_first p xs) tid ≡ false
without_apart p [] tid h = h
without_apart p (x ∷ xs) tid h = go (without_apart p xs tid (tail_apart x xs tid h)) (p x)
  where
    go : has_number (without_first p xs) tid ≡ false → (b : Bool) → has_number (cond b xs (x ∷ without_first p xs)) tid
        ≡ false
    go ih true = tail_apart x xs tid h
    go ih false = cons_apart x (without_first p xs) tid (head_apart x xs tid h) ih

-- it is there
pub is_there : (xs ys : List Transaction) (t : Transaction) (tid : ℕ) → t.tid ≡ tid → has_number (xs ++ t ∷ ys) tid
    ≡ true
is_there [] ys t tid is = rw (eq-eqb t.tid tid is) refl
is_there (x ∷ xs) ys t tid is = go (is_there xs ys t tid is) (x.tid == tid)
  where
    go : has_number (xs ++ t ∷ ys) tid ≡ true → (b : Bool) → (b || has_number (xs ++ t ∷ ys) tid) ≡ true
    go ih true = refl
    go ih false = ih

-- ---- what is done to another transaction

pub other_replaced : (p : Transaction → Bool) (y t : Transaction) (xs ys : List Transaction) (tid : ℕ) → p t ≡ false
    → (y.tid == tid) ≡ false → has_number xs tid ≡ false → has_number ys tid ≡ false
    → Around (replaced p y (xs ++ t ∷ ys)) tid t
other_replaced p y t [] ys tid misses apart a b =
    record {
      before = [];
      behind = replaced p y ys;
      is = rw misses refl;
      none_before = refl;
      none_behind = replaced_apart p y ys tid apart b;
    }
other_replaced p y t (x ∷ xs) ys tid misses apart a b =
    go (other_replaced p y t xs ys tid misses apart (tail_apart x xs tid a) b) (p x)
  where
    go : Around (replaced p y (xs ++ t ∷ ys)) tid t → (c : Bool)
        → Around (cond c (y ∷ (xs ++ t ∷ ys)) (x ∷ replaced p y (xs ++ t ∷ ys))) tid t
    go ih true = record {
      before = y ∷ xs;
      behind = ys;
      is = refl;
      none_before = cons_apart y xs tid apart (tail_apart x xs tid a);
      none_behind = b;
    }
    go ih false = record {
      before = x ∷ ih.before;
      behind = ih.behind;
      is = ap (λ l. x ∷ l) ih.is;
      none_before = cons_apart x ih.before tid (head_apart x xs tid a) ih.none_before;
      none_behind = ih.none_behind;
    }

pub other_gone : (p : Transaction → Bool) (t : Transaction) (xs ys : List Transaction) (tid : ℕ) → p t ≡ false
    → has_number xs tid ≡ false → has_number ys tid ≡ false → Around (without_first p (xs ++ t ∷ ys)) tid t
other_gone p t [] ys tid misses a b =
    record {
      before = [];
      behind = without_first p ys;
      is = rw misses refl;
      none_before = refl;
      none_behind = without_apart p ys tid b;
    }
other_gone p t (x ∷ xs) ys tid misses a b = go (other_gone p t xs ys tid misses (tail_apart x xs tid a) b) (p x)
  where
    go : Around (without_first p (xs ++ t ∷ ys)) tid t → (c : Bool)
        → Around (cond c (xs ++ t ∷ ys) (x ∷ without_first p (xs ++ t ∷ ys))) tid t
    go ih true = record { before = xs; behind = ys; is = refl; none_before = tail_apart x xs tid a; none_behind = b }
    go ih false = record {
      before = x ∷ ih.before;
      behind = ih.behind;
      is = ap (λ l. x ∷ l) ih.is;
      none_before = cons_apart x ih.before tid (head_apart x xs tid a) ih.none_before;
      none_behind = ih.none_behind;
    }

-- ---- what is done to the transaction itself, by a test that others of its number alone could pass

abbrev pub OfNumber : (Transaction → Bool) → ℕ → Type 0
OfNumber p tid = (x : Transaction) → (x.tid == tid) ≡ false → p x ≡ false

find_apart : (p : Transaction → Bool) (xs : List Transaction) (tid : ℕ) → OfNumber p tid → has_number xs tid ≡ false
    → find p xs ≡ None
find_apart p [] tid of h = refl
find_apart p (x ∷ xs) tid of h = rw (of x (head_apart x xs tid h)) (find_apart p xs tid of (tail_apart x xs tid h))

pub find_it : (p : Transaction → Bool) (xs ys : List Transaction) (t : Transaction) (tid : ℕ) → OfNumber p tid
    → has_number xs tid ≡ false → has_number ys tid ≡ false → find p (xs ++ t ∷ ys) ≡ cond (p t) (Some t) None
find_it p [] ys t tid of a b = ap (λ o. cond (p t) (Some t) o) (find_apart p ys tid of b)
find_it p (x ∷ xs) ys t tid of a b =
    rw (of x (head_apart x xs tid a)) (find_it p xs ys t tid of (tail_apart x xs tid a) b)

pub replaced_it : (p : Transaction → Bool) (y : Transaction) (xs ys : List Transaction) (t : Transaction) (tid : ℕ)
    → OfNumber p tid → p t ≡ true → has_number xs tid ≡ false → replaced p y (xs ++ t ∷ ys) ≡ xs ++ y ∷ ys
replaced_it p y [] ys t tid of passes a = rw passes refl
replaced_it p y (x ∷ xs) ys t tid of passes a =
    rw (of x (head_apart x xs tid a)) (ap (λ l. x ∷ l) (replaced_it p y xs ys t tid of passes (tail_apart x xs tid a)))

pub gone_it : (p : Transaction → Bool) (xs ys : List Transaction) (t : Transaction) (tid : ℕ) → OfNumber p tid → p t
    ≡ true → has_number xs tid ≡ false → without_first p (xs ++ t ∷ ys) ≡ xs ++ ys
gone_it p [] ys t tid of passes a = rw passes refl
gone_it p (x ∷ xs) ys t tid of passes a =
    rw (of x (head_apart x xs tid a)) (ap (λ l. x ∷ l) (gone_it p xs ys t tid of passes (tail_apart x xs tid a)))

-- ---- numbers that are drawn

pub drawn_free : (r : Requests) (k : ℕ) → next_number r ≡ Some k → has_number r.standing k ≡ false
drawn_free r k h = go (nat_lt (length r.standing) 32) h
  where
    go : (b : Bool) → cond b (draw_from (length r.standing + 1) r.next r.standing) None ≡ Some k
        → has_number r.standing k ≡ false
    go true g =
        let d = is_free (λ n. (n + 1) % 65536) (has_number r.standing) (λ n. Unit {0}) (λ n is. tt)
        (length r.standing + 1) r.next k tt g in
        d.1
    go false g = absurd (cc)
