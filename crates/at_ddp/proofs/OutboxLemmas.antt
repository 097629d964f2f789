-- What is sent by an outbox, in parts.
use Rattle.std.proofs.Common.{ℕ, List, [], ◌++◌, ap, refl, sym, ◌∙◌}
use Rattle.std.specs.Prelude.{map}
use Rattle.std.proofs.lemmas.List.{append-nil, append_assoc, map-append}
use Rattle.at_ddp.specs.Outbox.{Outbox}
use Rattle.at_ddp.specs.Sending.{Sends, finished}
use Rattle.at_ddp.specs.declared.address.Address.{Address}

pub sends_nothing : (o : Outbox) → Sends o o []
sends_nothing o = record { items = sym (append-nil o.items); from = refl; kind = refl }

pub sends_both : (a b c : Outbox) (xs ys : List (Address × List ℕ)) → Sends a b xs → Sends b c ys → Sends a c (xs ++ ys)
sends_both a b c xs ys s t = record {
  items =
      t.items ∙ (λ i. s.items i ++ map (finished (s.from i) (s.kind i)) ys)
      ∙ append_assoc a.items (map (finished a.from a.kind) xs) (map (finished a.from a.kind) ys)
      ∙ ap (λ l. a.items ++ l) (sym (map-append (finished a.from a.kind) xs ys));
  from = t.from ∙ s.from;
  kind = t.kind ∙ s.kind;
}
