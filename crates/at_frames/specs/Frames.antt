-- What a frame tells, by the type of its link (tcpdump's link-layer header types): a datagram, or the first reason why
-- there is none.
use Rattle.std.specs.Prelude.{ℕ, ◌==◌, ◌||◌, if◌then◌else◌, List, Result, Err}
use Rattle.at_frames.specs.Carried.{Load}
use Rattle.at_frames.specs.Cooked.{in_cooked, in_cooked_2}
use Rattle.at_frames.specs.Ethernet.{in_ethernet}
use Rattle.at_frames.specs.Ip.{in_ip}
use Rattle.at_frames.specs.Llap.{in_llap}
use Rattle.at_frames.specs.declared.carried.Carrier.TheVariants.{LocalTalk}
use Rattle.at_frames.specs.declared.carried.Reason.{Reason}
use Rattle.at_frames.specs.declared.carried.Reason.TheVariants.{OtherLink}

-- 1 is Ethernet, 113 and 276 are Linux's cooked captures, 101 and 228 bare IP, and 114 is LocalTalk
unfoldable pub told : ℕ → List ℕ → Result Load Reason
told link_type frame =
    if link_type == 1 then in_ethernet frame else
    (if link_type == 113 then in_cooked frame else
    (if link_type == 276 then in_cooked_2 frame else
    (if (link_type == 101) || (link_type == 228) then in_ip frame else
    (if link_type == 114 then in_llap LocalTalk frame else Err OtherLink))))
