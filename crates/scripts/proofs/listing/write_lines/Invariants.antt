use Rattle.std.proofs.Common.{◌-◌, length, drop}
use Rattle.scripts.specs.Lines.{script_lines}
use Rattle.scripts.specs.Listings.{ListingOf}
use Rattle.scripts.specs.Sessions.{unopened, Listing}
use Rattle.scripts.proofs.Progress.{Progress}
use Rattle.scripts.proofs.listing.write_lines.Given as goal

abbrev pub invariant-lines : goal.invariant-lines
invariant-lines l =
    Progress l.initial.output l.output 0 l.written l.number (drop l.at l.script) (ListingOf l.script)
    (λ text. Listing unopened l.number (script_lines (drop l.at l.script)) text)

abbrev pub decreases-lines : goal.decreases-lines
decreases-lines l = length l.script - l.at
