-- The steps of reading the options of an interface. No clause of a public function cites this module.
use Rattle.std.specs.Prelude.{◌≡◌, ℕ, ◌+◌, ◌++◌, List, length, Option, Some, None, Ok}
use Rattle.std.specs.Io.KnownBytes.{Consumes}
use Rattle.at_pcap.specs.Blocks.{Setting, options}
use Rattle.at_pcap.specs.declared.interface.Resolution.{Resolution}
use Rattle.at_pcap.specs.declared.interface.Resolution.TheVariants.{Decimal}
use Rattle.at_pcap.specs.declared.options.OptionRead.{OptionRead}
use Rattle.at_pcap.specs.declared.order.Order.{Order}

-- what was read of an option, as a value
abbrev pub setting_of : OptionRead → Setting
setting_of s = record { resolution = s.resolution; size = s.size }

abbrev pub setting_in : Option OptionRead → Option Setting
setting_in None = None
setting_in (Some s) = Some (setting_of s)

-- how many bytes were read of an option: all of it, or the 4 of the one that ends them
abbrev pub size_in : Option OptionRead → ℕ
size_in None = 4
size_in (Some s) = s.size

-- options of so many bytes in all were read, up to so many that are left, and say this resolution
pub record AreOptions (o : Order) (count : ℕ) (known left : Option (List ℕ)) (resolution : Resolution) (rest : ℕ)
    : Type 0 where
  pub bytes : List ℕ
  pub read : Consumes known left bytes
  pub len : length bytes + rest ≡ count
  pub is : (more : List ℕ) → options count o count (Decimal 6) (bytes ++ more) ≡ Ok resolution
