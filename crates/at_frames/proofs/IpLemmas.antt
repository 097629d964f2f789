-- LocalTalk over UDP: what is told is carried, and the other way round.
use Rattle.std.proofs.Common.{◌≡◌, ℕ, ◌+◌, ◌-◌, ◌/◌, ◌%◌, ◌≤◌, true, false, List, length, take, drop}
use Rattle.std.proofs.Common.{Ok, subst, arith}
use Rattle.std.specs.Prelude.{◌==◌, nat_le, nat_lt, not, slice_index}
use Rattle.std.proofs.lemmas.Bool.{and_parts, eq-eqb, eqb-true, le-leb, le-ltb, leb-true, ltb-false, not-false}
use Rattle.std.proofs.lemmas.List.{length-drop, take_min}
use Rattle.at_ddp.specs.Fault.{number_at}
use Rattle.at_frames.specs.Carried.{Load}
use Rattle.at_frames.specs.Carries.{IpCarries, LlapCarries}
use Rattle.at_frames.specs.Ip.{header_len, in_ip, in_udp, is_ipv4, is_length, is_whole_udp}
use Rattle.at_frames.specs.declared.carried.Carrier.TheVariants.{LocalTalkOverUdp}
use Rattle.at_frames.specs.declared.carried.Reason.TheVariants.{Cut, Foreign, OtherIp}
use Rattle.at_frames.proofs.LlapLemmas.{llap_carries, llap_told}
use Rattle.at_frames.proofs.Steps.{passed}

-- what UDP of some bytes has, if it tells a datagram
record UdpHas (most : ℕ) (udp : List ℕ) (d : Load) : Type 0 where
  port : number_at 2 udp ≡ 1954
  captured : 12 ≤ length udp
  long : 12 ≤ number_at 4 udp
  within : number_at 4 udp ≤ most
  llap : LlapCarries LocalTalkOverUdp (drop 12 (take (number_at 4 udp) udp)) d

udp_has : (most : ℕ) (udp : List ℕ) (d : Load) → in_udp most udp ≡ Ok d → UdpHas most udp d
unfolding in_udp
udp_has most udp d h =
    let len = number_at 4 udp in
    let port = passed (not (number_at 2 udp == 1954)) OtherIp _ d h in
    let fits = passed (not (is_length len most)) Foreign _ d port.1 in
    let there = passed (nat_lt (length udp) 12) Cut _ d fits.1 in
    let long = passed (nat_lt len 12) Foreign _ d there.1 in
    let parts = and_parts (nat_le 8 len) (nat_le len most) (not-false _ fits.0) in
    record {
      port = eqb-true (number_at 2 udp) 1954 (not-false _ port.0);
      captured = ltb-false (length udp) 12 there.0;
      long = ltb-false len 12 long.0;
      within = leb-true len most parts.1;
      llap = subst (λ l. LlapCarries LocalTalkOverUdp (drop 12 l) d) (take_min len udp)
          (llap_carries LocalTalkOverUdp _ d long.1);
    }

-- what is told is carried
pub ip_carries : (ip : List ℕ) (d : Load) → in_ip ip ≡ Ok d → IpCarries ip d
unfolding in_ip
ip_carries ip d h =
    let front = header_len ip in
    let there = passed (nat_lt (length ip) 20) Cut _ d h in
    let version = passed (not (is_ipv4 ip)) Foreign _ d there.1 in
    let udp = passed (not (is_whole_udp ip)) OtherIp _ d version.1 in
    let total = passed (nat_lt (number_at 2 ip) (front + 8)) Foreign _ d udp.1 in
    let header = passed (nat_lt (length ip) (front + 8)) Cut _ d total.1 in
    let four = and_parts (slice_index ip 0 / 16 == 4) (nat_le 20 front) (not-false _ version.0) in
    let one = and_parts (slice_index ip 9 == 17) (number_at 6 ip % 16384 == 0) (not-false _ udp.0) in
    let has = udp_has (number_at 2 ip - front) (drop front ip) d header.1 in
    let captured = has.captured in
    let within = has.within in
    let long = has.long in
    let room : front + 8 ≤ number_at 2 ip = ltb-false (number_at 2 ip) (front + 8) total.0 in
    record {
      captured = omega (arith, length-drop front ip);
      version = eqb-true (slice_index ip 0 / 16) 4 four.0;
      enough = leb-true 20 front four.1;
      protocol = eqb-true (slice_index ip 9) 17 one.0;
      one_piece = eqb-true (number_at 6 ip % 16384) 0 one.1;
      port = has.port;
      long = long;
      within = omega arith;
      llap = has.llap;
    }

-- the same the other way round
udp_told : (most : ℕ) (udp : List ℕ) (d : Load) → UdpHas most udp d → in_udp most udp ≡ Ok d
unfolding in_udp
udp_told most udp d has =
    let len = number_at 4 udp in
    let long = has.long in
    let port : (number_at 2 udp == 1954) ≡ true = eq-eqb (number_at 2 udp) 1954 has.port in
    let eight : nat_le 8 len ≡ true = le-leb 8 len (omega arith) in
    let within : nat_le len most ≡ true = le-leb len most has.within in
    let captured : nat_lt (length udp) 12 ≡ false = le-ltb (length udp) 12 has.captured in
    let twelve : nat_lt len 12 ≡ false = le-ltb len 12 long in
    rw (port, eight, within, captured, twelve, take_min len udp)
    (llap_told LocalTalkOverUdp (drop 12 (take len udp)) d has.llap)

-- what is carried is told
pub ip_told : (ip : List ℕ) (d : Load) → IpCarries ip d → in_ip ip ≡ Ok d
unfolding in_ip
ip_told ip d c =
    let front = header_len ip in
    let udp = drop front ip in
    let captured = c.captured in
    let enough = c.enough in
    let long = c.long in
    let within = c.within in
    let there : nat_lt (length ip) 20 ≡ false = le-ltb (length ip) 20 (omega arith) in
    let version : (slice_index ip 0 / 16 == 4) ≡ true = eq-eqb (slice_index ip 0 / 16) 4 c.version in
    let header : nat_le 20 front ≡ true = le-leb 20 front enough in
    let protocol : (slice_index ip 9 == 17) ≡ true = eq-eqb (slice_index ip 9) 17 c.protocol in
    let piece : (number_at 6 ip % 16384 == 0) ≡ true = eq-eqb (number_at 6 ip % 16384) 0 c.one_piece in
    let total : nat_lt (number_at 2 ip) (front + 8) ≡ false = le-ltb (number_at 2 ip) (front + 8) (omega arith) in
    let eight : nat_lt (length ip) (front + 8) ≡ false = le-ltb (length ip) (front + 8) (omega arith) in
    let has : UdpHas (number_at 2 ip - front) udp d = record {
      port = c.port;
      captured = omega (arith, length-drop front ip);
      long = long;
      within = omega arith;
      llap = c.llap;
    } in
    rw (there, version, header, protocol, piece, total, eight) (udp_told (number_at 2 ip - front) udp d has)
