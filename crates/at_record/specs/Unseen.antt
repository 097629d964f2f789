-- A printer that nobody reads. What `play` would print to it is said of an event that is played without printing.
use Rattle.std.specs.Prelude.{None, false}
use Rattle.at_print.specs.Papers.{Page}
use Rattle.at_print.specs.declared.printer.Printer.{Printer}

-- nothing is known of what it holds
abbrev pub unseen_page : Unit {0} → Page
unseen_page u = record { contents = None; has_failed = false }

abbrev pub unseen : Printer (Unit {0})
unseen = record { writer = tt; has_failed = false }
