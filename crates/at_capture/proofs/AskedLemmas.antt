-- What is known of what frames ask, with one frame more.
use Rattle.std.proofs.Common.{◌≡◌, ◌⊎◌, inl, inr, ℕ, ◌+◌, ◌<◌, Bool, true, false, cond, List, [], ◌∷◌, ◌++◌, length}
use Rattle.std.proofs.Common.{refl, sym, ap, subst, ◌∙◌, append_assoc, Some, None}
use Rattle.std.specs.Prelude.{Option}
use Rattle.std.proofs.lemmas.Bool.{false≢true, true≢false}
use Rattle.std.proofs.lemmas.Cmp.{ranked, tied_itself, nat_cmp_total}
use Rattle.std.specs.BTreeMap.{BTreeMap, Updates, get, is_at}
use Rattle.std.specs.Map.{lookup}
use Rattle.std.specs.Ordering.{MatchOrdering, is_eq, nat_cmp, ordering_then}
use Rattle.std.specs.declared.cmp.Ordering.{Ordering}
use Rattle.std.specs.declared.cmp.Ordering.TheVariants.{Less, Equal, Greater}
use Rattle.at_capture.specs.Asked.{Answered, IsAnswered, LastAsks, Recalls, Silent, question_cmp}
use Rattle.at_capture.specs.Frames.{Content}
use Rattle.at_capture.specs.Roles.{IsRole, PlaysRole}
use Rattle.at_capture.specs.Tallies.{counted}
use Rattle.at_capture.specs.declared.question.InternetSocket.{InternetSocket}
use Rattle.at_capture.specs.declared.question.Question.{Question}
use Rattle.at_capture.specs.declared.question.Question.TheVariants.{Lookup, Transaction}
use Rattle.at_capture.specs.declared.question.Role.{Role}
use Rattle.at_capture.specs.declared.question.Role.TheVariants.{Answers, Asks, Neither}
use Rattle.at_ddp.proofs.Alls.{all_both}

-- ---- questions are the same in the order of a map just if they are one

both_equal : (o p : Ordering) → is_eq (ordering_then o p) ≡ true → (is_eq o ≡ true) × (is_eq p ≡ true)
both_equal Less p h = absurd (false≢true h)
both_equal Equal p h = (refl, h)
both_equal Greater p h = absurd (false≢true h)

then_equal : {o p : Ordering} → o ≡ Equal → p ≡ Equal → ordering_then o p ≡ Equal
then_equal e f = λ i. ordering_then (e i) (f i)

ranked_equal : (a b : ℕ) (o : Ordering) → MatchOrdering o (a < b) (a ≡ b) (b < a) → is_eq o ≡ true → a ≡ b
ranked_equal a b Less m h = absurd (false≢true h)
ranked_equal a b Equal m h = m
ranked_equal a b Greater m h = absurd (false≢true h)

same_number : (a b : ℕ) → is_eq (nat_cmp a b) ≡ true → a ≡ b
same_number a b h = ranked_equal a b (nat_cmp a b) (ranked a b (nat_cmp a b) refl) h

itself_number : (a : ℕ) → nat_cmp a a ≡ Equal
itself_number a = tied_itself nat_cmp_total a

abbrev socket_cmp : InternetSocket → InternetSocket → Ordering
socket_cmp a b = ordering_then (nat_cmp a.net b.net) (ordering_then (nat_cmp a.node b.node) (nat_cmp a.socket b.socket))

same_socket : (a b : InternetSocket) → is_eq (socket_cmp a b) ≡ true → a ≡ b
same_socket a b h =
    let inner = ordering_then (nat_cmp a.node b.node) (nat_cmp a.socket b.socket) in
    let first = both_equal (nat_cmp a.net b.net) inner h in
    let rest = both_equal (nat_cmp a.node b.node) (nat_cmp a.socket b.socket) first.1 in
    λ i. record {
      net = same_number a.net b.net first.0 i;
      node = same_number a.node b.node rest.0 i;
      socket = same_number a.socket b.socket rest.1 i;
    }

itself_socket : (a : InternetSocket) → socket_cmp a a ≡ Equal
itself_socket a = then_equal (itself_number a.net) (then_equal (itself_number a.node) (itself_number a.socket))

same_question : (p q : Question) → is_eq (question_cmp p q) ≡ true → p ≡ q
same_question (Transaction m a b) (Transaction n c d) h =
    let first = both_equal (nat_cmp m n) (ordering_then (socket_cmp a c) (socket_cmp b d)) h in
    let rest = both_equal (socket_cmp a c) (socket_cmp b d) first.1 in
    λ i. Transaction (same_number m n first.0 i) (same_socket a c rest.0 i) (same_socket b d rest.1 i)
same_question (Lookup m a) (Lookup n c) h =
    let both = both_equal (nat_cmp m n) (socket_cmp a c) h in
    λ i. Lookup (same_number m n both.0 i) (same_socket a c both.1 i)
same_question (Transaction m a b) (Lookup n c) h = absurd (false≢true h)
same_question (Lookup m a) (Transaction n c d) h = absurd (false≢true h)

itself : (q : Question) → question_cmp q q ≡ Equal
itself (Transaction n a b) = then_equal (itself_number n) (then_equal (itself_socket a) (itself_socket b))
itself (Lookup n a) = then_equal (itself_number n) (itself_socket a)

same_asked : (p q : Question) → Asks p ≡ Asks q → p ≡ q
same_asked p q e = cc

-- ---- one frame more

-- what is known stays known in a map of the same entries
pub recalls_same : (frames : List Content) (old new : BTreeMap Question ℕ) → new.entries ≡ old.entries
    → Recalls frames old → Recalls frames new
recalls_same frames old new same recalls =
    λ q. subst (λ es. LastAsks frames q (lookup (is_at (question_cmp q)) es)) (sym same) (recalls q)

-- nothing was asked by no frame
pub recalls_nothing : (new : BTreeMap Question ℕ) → new.entries ≡ [] → Recalls [] new
recalls_nothing new empty = λ q. subst (λ es. LastAsks [] q (lookup (is_at (question_cmp q)) es)) (sym empty) tt

module _ (before : List Content) (f : Content) where
  asked_here : (q : Question) (number : ℕ) → number ≡ counted (length before + 1) → PlaysRole f (Asks q)
      → LastAsks (before ++ f ∷ []) q (Some number)
  asked_here q number is asks = record {
    before = before;
    asker = f;
    after = [];
    parts = refl;
    here = is;
    asks = asks;
    last = tt;
  }

  asked_before : (q : Question) (asker : Option ℕ) → ¬ PlaysRole f (Asks q) → LastAsks before q asker
      → LastAsks (before ++ f ∷ []) q asker
  asked_before q None silent none = all_both (λ g. ¬ PlaysRole g (Asks q)) before (f ∷ []) none (silent, tt)
  asked_before q (Some number) silent last = record {
    before = last.before;
    asker = last.asker;
    after = last.after ++ f ∷ [];
    parts = ap (λ l. l ++ f ∷ []) last.parts ∙ append_assoc last.before (last.asker ∷ last.after) (f ∷ []);
    here = last.here;
    asks = last.asks;
    last = all_both (λ g. ¬ PlaysRole g (Asks q)) last.after (f ∷ []) last.last (silent, tt);
  }

  played : (r : Role) → ¬ (r ≡ Neither) → IsRole (PlaysRole f) r → PlaysRole f r
  played r some role = go role.played
    where
      go : (r ≡ Neither) ⊎ PlaysRole f r → PlaysRole f r
      go (inl e) = absurd (some e)
      go (inr h) = h

  module _ (old : BTreeMap Question ℕ) (recalls : Recalls before old) where
    -- a frame that asks is the last one to ask that
    pub takes_asker : (new : BTreeMap Question ℕ) (k : Question) (number : ℕ) → IsRole (PlaysRole f) (Asks k)
        → number ≡ counted (length before + 1) → Updates question_cmp old new k (Some number)
        → IsAnswered before f None × Recalls (before ++ f ∷ []) new
    takes_asker new k number role is updates = (
      Silent (λ q h. let other = role.only (Answers q) h in cc),
      λ q. subst (LastAsks (before ++ f ∷ []) q) (sym (updates.0 q)) (go q (is_eq (question_cmp k q)) refl),
    )
      where
        go : (q : Question) (b : Bool) → is_eq (question_cmp k q) ≡ b
            → LastAsks (before ++ f ∷ []) q (cond b (Some number) (get question_cmp old q))
        go q true e = subst (λ p. LastAsks (before ++ f ∷ []) p (Some number)) (same_question k q e)
            (asked_here k number is (played (Asks k) (λ other. cc) role))
        go q false e = asked_before q (get question_cmp old q) (λ h.
            true≢false (sym (ap is_eq (itself k))
            ∙ ap (λ p. is_eq (question_cmp k p)) (same_asked k q (role.only (Asks q) h)) ∙ e)) (recalls q)

    -- a frame that answers asks nothing
    pub takes_answer : (k : Question) → IsRole (PlaysRole f) (Answers k)
        → IsAnswered before f (get question_cmp old k) × Recalls (before ++ f ∷ []) old
    takes_answer k role = (
      Answered k (get question_cmp old k) (played (Answers k) (λ other. cc) role) (recalls k),
      λ q. asked_before q (get question_cmp old q) (λ h. let other = role.only (Asks q) h in cc) (recalls q),
    )

    -- and any other frame neither
    pub takes_other : IsRole (PlaysRole f) Neither → IsAnswered before f None × Recalls (before ++ f ∷ []) old
    takes_other role = (
      Silent (λ q h. let other = role.only (Answers q) h in cc),
      λ q. asked_before q (get question_cmp old q) (λ h. let other = role.only (Asks q) h in cc) (recalls q),
    )
