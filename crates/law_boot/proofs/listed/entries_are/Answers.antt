use Rattle.law_boot.proofs.Listing.{entry_of}
use Rattle.law_boot.proofs.Standing.{compartment_of, library_of, stack_of}
use Rattle.law_boot.proofs.listed.entries_are.Goals as goal

pub returns : goal.returns
returns c = record { entry = entry_of; compartment = compartment_of; library = library_of; stack = stack_of }
