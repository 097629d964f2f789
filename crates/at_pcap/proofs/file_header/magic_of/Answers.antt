use Rattle.std.proofs.Common.{drop, ◌∙◌, sym, arith}
use Rattle.at_pcap.proofs.file_header.magic_of.Goals as goal
use Rattle.at_pcap.proofs.FileHeaderLemmas.{spelled_as}

pub returns-in-2712847316-clause-some : goal.returns-in-2712847316-clause-some
returns-in-2712847316-clause-some c = (
  drop 4 c.args.bytes.now,
  spelled_as c.args.bytes.now 2712847316 (λ i. omega (arith, c.type_inv.bytes i)) c.if-bytes-lt4.false
      (sym c.read_u32.ensures ∙ c.in-2712847316.is),
)

pub returns-in-2712812621-clause-some : goal.returns-in-2712812621-clause-some
returns-in-2712812621-clause-some c = (
  drop 4 c.args.bytes.now,
  spelled_as c.args.bytes.now 2712812621 (λ i. omega (arith, c.type_inv.bytes i)) c.if-bytes-lt4.false
      (sym c.read_u32.ensures ∙ c.in-2712812621.is),
)

pub returns-in-3569595041-clause-some : goal.returns-in-3569595041-clause-some
returns-in-3569595041-clause-some c = (
  drop 4 c.args.bytes.now,
  spelled_as c.args.bytes.now 3569595041 (λ i. omega (arith, c.type_inv.bytes i)) c.if-bytes-lt4.false
      (sym c.read_u32.ensures ∙ c.in-3569595041.is),
)

pub returns-in-1295823521-clause-some : goal.returns-in-1295823521-clause-some
returns-in-1295823521-clause-some c = (
  drop 4 c.args.bytes.now,
  spelled_as c.args.bytes.now 1295823521 (λ i. omega (arith, c.type_inv.bytes i)) c.if-bytes-lt4.false
      (sym c.read_u32.ensures ∙ c.in-1295823521.is),
)
