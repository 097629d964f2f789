-- How far a reader is in all that its writer did.
use Rattle.std.proofs.Common.{◌≡◌, ℕ, ◌+◌, ◌≤◌, List, [], ◌∷◌, ◌++◌, length, ◌⊎◌, inl, inr, refl, sym, ap, subst, ◌∙◌}
use Rattle.std.proofs.Common.{append_assoc, arith}
use Rattle.at_adsp_end.specs.declared.item.Item.{Item}
use Rattle.at_adsp.specs.Reading.{Written, ReadsFrom}
use Rattle.at_adsp.proofs.Logs.{Log, Cut, flat, went_of, Through, done, length_both, went_both, reads_from, flat_both}
use Rattle.at_adsp.proofs.Logs.{reads_on, pass_to, Split, split_went, comparable}
use Rattle.at_adsp.proofs.Slices.{IsSlice}

-- What was read and what is unread, of a log, up to this number.
pub record Reading (got unread : List Item) (l : List Log) (took : ℕ) : Type 0 where
  pub behind : List Log
  pub held : List Log
  pub ahead : List Log
  pub is_log : l ≡ behind ++ (held ++ ahead)
  pub read : Through got (flat behind)
  pub is_unread : went_of held ≡ unread
  pub counts : length (went_of behind) + length unread ≡ took

-- nothing is read yet
pub reading_begins : (l : List Log) → Reading [] [] l 0
reading_begins l = record {
  behind = [];
  held = [];
  ahead = l;
  is_log = refl;
  read = done;
  is_unread = refl;
  counts = refl;
}

-- equal beginnings are taken away
same_rest : {X : Type 0} (a b c d : List X) → length a ≡ length c → a ++ b ≡ c ++ d → b ≡ d
same_rest [] b [] d n e = e
same_rest [] b (y ∷ c) d n e = absurd (cc)
same_rest (x ∷ a) b [] d n e = absurd (cc)
same_rest (x ∷ a) b (y ∷ c) d n e = same_rest a b c d (cc) (cc)

-- the writer goes on
pub reading_grows : (got unread : List Item) (l more : List Log) (took : ℕ) → Reading got unread l took
    → Reading got unread (l ++ more) took
reading_grows got unread l more took h = record {
  behind = h.behind;
  held = h.held;
  ahead = h.ahead ++ more;
  is_log = ap (λ k. k ++ more) h.is_log ∙ append_assoc h.behind (h.held ++ h.ahead) more
      ∙ ap (λ k. h.behind ++ k) (append_assoc h.held h.ahead more);
  read = h.read;
  is_unread = h.is_unread;
  counts = h.counts;
}

-- items are taken
pub reading_takes : (got unread before xs after : List Item) (l : List Log) (took : ℕ) → went_of l
    ≡ before ++ (xs ++ after) → length before ≡ took → Reading got unread l took
    → Reading got (unread ++ xs) l (took + length xs)
reading_takes got unread before xs after l took e n h = go (split_went h.ahead xs after ahead_is)
  where
    parts : went_of l ≡ (went_of h.behind ++ went_of h.held) ++ went_of h.ahead
    parts = ap went_of h.is_log ∙ went_both h.behind (h.held ++ h.ahead)
        ∙ ap (λ w. went_of h.behind ++ w) (went_both h.held h.ahead)
        ∙ sym (append_assoc (went_of h.behind) (went_of h.held) (went_of h.ahead))

    size : length (went_of h.behind ++ went_of h.held) ≡ length before
    size = let c = h.counts in let u = ap length h.is_unread in
        let s = length_both (went_of h.behind) (went_of h.held) in omega (arith, c, u, s, n)

    ahead_is : went_of h.ahead ≡ xs ++ after
    ahead_is = same_rest (went_of h.behind ++ went_of h.held) (went_of h.ahead) before (xs ++ after) size
        (sym parts ∙ e)

    go : Split h.ahead xs after → Reading got (unread ++ xs) l (took + length xs)
    go s = record {
      behind = h.behind;
      held = h.held ++ s.left;
      ahead = s.right;
      is_log = h.is_log ∙ ap (λ k. h.behind ++ k)
          (ap (λ k. h.held ++ k) s.both ∙ sym (append_assoc h.held s.left s.right));
      read = h.read;
      is_unread = went_both h.held s.left ∙ (λ i. h.is_unread i ++ s.first i);
      counts = let c = h.counts in let b = length_both unread xs in omega (arith, c, b);
    }

-- nothing stands where the reader is
pub nothing_there : (got unread : List Item) (l : List Log) (took : ℕ) → Reading got unread l took
    → IsSlice [] (went_of l) took
nothing_there got unread l took h = record {
  before = went_of h.behind ++ went_of h.held;
  after = went_of h.ahead;
  stands = ap went_of h.is_log ∙ went_both h.behind (h.held ++ h.ahead)
      ∙ ap (λ w. went_of h.behind ++ w) (went_both h.held h.ahead)
      ∙ sym (append_assoc (went_of h.behind) (went_of h.held) (went_of h.ahead));
  at = let c = h.counts in let u = ap length h.is_unread in let s = length_both (went_of h.behind) (went_of h.held) in
      omega (arith, c, u, s);
}

-- the client reads
pub reading_reads : (got ts us : List Item) (l : List Log) (took : ℕ) → Reading got (ts ++ us) l took
    → Reading (got ++ ts) us l took
reading_reads got ts us l took h = go (split_went h.held ts us h.is_unread)
  where
    go : Split h.held ts us → Reading (got ++ ts) us l took
    go s = record {
      behind = h.behind ++ s.left;
      held = s.right;
      ahead = h.ahead;
      is_log = h.is_log ∙ ap (λ k. h.behind ++ k) (ap (λ k. k ++ h.ahead) s.both ∙ append_assoc s.left s.right h.ahead)
          ∙ sym (append_assoc h.behind s.left (s.right ++ h.ahead));
      read = subst (λ w. Through (got ++ w) (flat (h.behind ++ s.left))) s.first (reads_on got h.behind s.left h.read);
      is_unread = s.rest;
      counts = let c = h.counts in let b = length_both ts us in let w = ap length (went_both h.behind s.left) in
          let v = length_both (went_of h.behind) (went_of s.left) in let f = ap length s.first in
          omega (arith, c, b, w, v, f);
    }

-- a reset is taken: the reader stands behind it, if it was before it, and otherwise where it was
pub reading_jumps : (got unread ds : List Item) (l a c : List Log) (took : ℕ) → l ≡ a ++ (Cut ds ∷ c)
    → took ≤ length (went_of a) → Reading got unread l took → Reading got [] l (length (went_of a))
reading_jumps got unread ds l a c took e le h =
    go (comparable h.behind a (h.held ++ h.ahead) (Cut ds ∷ c) (sym h.is_log ∙ e))
  where
    go : ((k : List Log) × (a ≡ h.behind ++ k)) ⊎ ((k : List Log) × (h.behind ≡ a ++ k))
        → Reading got [] l (length (went_of a))
    go (inl x) = record {
      behind = h.behind ++ (x.0 ++ Cut ds ∷ []);
      held = [];
      ahead = c;
      is_log = e ∙ ap (λ k. k ++ (Cut ds ∷ c)) x.1 ∙ append_assoc h.behind x.0 (Cut ds ∷ c)
          ∙ ap (λ k. h.behind ++ k) (sym (append_assoc x.0 (Cut ds ∷ []) c))
          ∙ sym (append_assoc h.behind (x.0 ++ Cut ds ∷ []) c);
      read = pass_to got ds h.behind x.0 h.read;
      is_unread = refl;
      counts = let p = ap length (went_both h.behind (x.0 ++ Cut ds ∷ [])) in
          let q = length_both (went_of h.behind) (went_of (x.0 ++ Cut ds ∷ [])) in
          let r = ap length (went_both x.0 (Cut ds ∷ [])) in let s = length_both (went_of x.0) [] in
          let t = ap (λ k. length (went_of k)) x.1 in let u = ap length (went_both h.behind x.0) in
          let v = length_both (went_of h.behind) (went_of x.0) in omega (arith, p, q, r, s, t, u, v);
    }
    go (inr x) = record {
      behind = h.behind;
      held = [];
      ahead = h.held ++ h.ahead;
      is_log = h.is_log;
      read = h.read;
      is_unread = refl;
      counts = let n = h.counts in let t = ap (λ k. length (went_of k)) x.1 in let u = ap length (went_both a x.0) in
          let v = length_both (went_of a) (went_of x.0) in omega (arith, n, t, u, v, le);
    }

-- what is read reads from what was written
pub reading_is_from : (got unread : List Item) (l : List Log) (took : ℕ) (q : List Written) → Reading got unread l took
    → ReadsFrom got (flat l ++ q)
reading_is_from got unread l took q h =
    subst (ReadsFrom got) (sym
    (ap (λ w. w ++ q) (ap flat h.is_log ∙ flat_both h.behind (h.held ++ h.ahead))
    ∙ append_assoc (flat h.behind) (flat (h.held ++ h.ahead)) q))
    (reads_from (flat (h.held ++ h.ahead) ++ q) h.read)
