use Rattle.std.proofs.Common.{◌≡◌, ◌+◌, ◌-◌, ◌∙◌, [], ◌∷◌, sym, ap, arith, length, ◌++◌, subst}
use Rattle.std.specs.Prelude.{None}
use Rattle.std.proofs.KnownBytes.{Consumes-trans}
use Rattle.std.proofs.lemmas.List.{take_rest}
use Rattle.std.proofs.lemmas.Result.{err_from_is_err_and}
use Rattle.at_pcap.specs.Blocks.{Section, four_at, interface_in, options, two_at}
use Rattle.at_pcap.specs.Orders.{number_in}
use Rattle.at_pcap.specs.Steps.{Completes, section_of}
use Rattle.at_pcap.specs.declared.interface.Resolution.TheVariants.{Decimal}
use Rattle.at_pcap.proofs.InterfaceLemmas.{interface_options, interface_short, interface_unclosed, interface_unsized}
use Rattle.at_pcap.proofs.InterfaceLemmas.{interface_whole}
use Rattle.at_pcap.proofs.RuleLemmas.{break_by, unclosed_behind}
use Rattle.at_pcap.proofs.blocks.read_interface.Goals as goal

pub returns-in_default : goal.returns-in_default
returns-in_default g c captured =
    interface_unsized (section_of c.args.section.now) c.args.front.now c.requires.long _ c.in_default.ensures.none

pub returns-then-front-lt-INTERFACE_LEN : goal.returns-then-front-lt-INTERFACE_LEN
returns-then-front-lt-INTERFACE_LEN g c captured =
    let total = c.in-Some.ensures.some in
    let short = c.if-front-lt-INTERFACE_LEN.true in
    interface_short (section_of c.args.section.now) c.args.front.now c.requires.long c.in-Some.total total.0 total.1
    total.2 _ (c.requires.short short) short

pub returns-in_err-resolution : goal.returns-in_err-resolution
returns-in_err-resolution g c captured =
    let s = section_of c.args.section.now in
    let front = c.args.front.now in
    let total = c.in-Some.ensures.some in
    let count = c.in-Some.total - 20 in
    let len : length front ≡ 16 = omega (arith, c.requires.fits, c.if-front-lt-INTERFACE_LEN.false) in
    let p = err_from_is_err_and c.from_residual.result c.from_residual.ensures.1 in
    rw (p.1, p.2)
    (break_by (interface_in s) (options count s.order count (Decimal 6)) (g.R.Read.remaining c.args.reader.now) front _
    (λ more fault. interface_options s front c.requires.long c.in-Some.total total.0 total.1 total.2 len more fault)
    c.in_err-resolution.ensures.fault)

pub returns-in_err-close : goal.returns-in_err-close
returns-in_err-close g c captured =
    let s = section_of c.args.section.now in
    let front = c.args.front.now in
    let total = c.in-Some.ensures.some in
    let found = c.in_ok-resolution.ensures.found in
    let left = c.in_ok-resolution.left in
    let len : length front ≡ 16 = omega (arith, c.requires.fits, c.if-front-lt-INTERFACE_LEN.false) in
    let p = err_from_is_err_and c.from_residual-in_err-close.result c.from_residual-in_err-close.ensures.1 in
    rw (p.1, p.2)
    (unclosed_behind (interface_in s) (g.R.Read.remaining c.args.reader.now)
    (g.R.Read.remaining c.read_options.new.reader) front found.bytes s.order c.in-Some.total (left + 4) _ found.read
    (λ more fault. interface_unclosed s front c.requires.long c.in-Some.total total.0 total.1 total.2 len found.bytes
    left c.in_ok-resolution.resolution found.len found.is more fault)
    c.in_err-close.ensures.fault)

pub returns : goal.returns
returns g c captured =
    let s = section_of c.args.section.now in
    let front = c.args.front.now in
    let o = s.order in
    let total = c.in-Some.ensures.some in
    let found = c.in_ok-resolution.ensures.found in
    let left = c.in_ok-resolution.left in
    let r = c.in_ok-resolution.resolution in
    let len : length front ≡ 16 = omega (arith, c.requires.fits, c.if-front-lt-INTERFACE_LEN.false) in
    let closed = c.in_ok-close.ensures.closed in
    let known = g.R.Read.remaining c.args.reader.now in
    let last = g.R.Read.remaining c.close.new.reader in
    let link_type : c.read_u16.result ≡ two_at o 8 front =
    c.read_u16.ensures ∙ ap (number_in o 2) (take_rest front 8) in
    let longest : c.read_u32.result ≡ four_at o 12 front =
    c.read_u32.ensures ∙ ap (number_in o 4) (take_rest front 12) in
    let now = c.add.new.self.interfaces.items in
    let added : now ≡ s.interfaces
    ++ record { link_type = two_at o 8 front; resolution = r; longest = four_at o 12 front } ∷ [] =
    c.in_ok-add.ensures.added
    ∙ ap (λ k. s.interfaces ++ record { link_type = k; resolution = r; longest = c.read_u32.result } ∷ []) link_type
    ∙ ap (λ k. s.interfaces ++ record { link_type = two_at o 8 front; resolution = r; longest = k } ∷ []) longest in
    let whole = interface_whole s front c.requires.long c.in-Some.total total.0 total.1 total.2 len found.bytes left r
    found.len found.is known last closed.0
    (Consumes-trans known (g.R.Read.remaining c.read_options.new.reader) last found.bytes closed.0 found.read closed.2)
    closed.1 in
    subst (λ (t : Section). Completes (interface_in s) known last front (record { section = t; found = None }))
    (λ i. record { order = sym c.in_ok-add.ensures.order i; interfaces = sym added i }) whole
