-- How times are printed.
use Rattle.std.specs.Prelude.{ℕ, ◌-◌, ◌==◌, if◌then◌else◌, List, [], ◌++◌, length, replicate, Option, Some, None, codes}
use Rattle.std.specs.Fmt.{decimal}
use Rattle.at_pcap.specs.declared.frame.Time.{Time}

-- a point, and a fraction with zeros before it up to so many digits; one that is too large is written as it is
abbrev pub fraction_text : ℕ → ℕ → List ℕ
fraction_text digits fraction =
    codes "." ++ (replicate (digits - length (decimal fraction)) 48 ++ decimal fraction)

-- seconds and the fraction, without a point if there are no digits; or that a frame has no time
abbrev pub time_text : Option Time → List ℕ
time_text None = codes "-"
time_text (Some t) = decimal t.seconds ++ (if t.digits == 0 then [] else fraction_text t.digits t.fraction)
