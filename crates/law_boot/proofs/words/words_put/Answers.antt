use Rattle.law_boot.proofs.Putting.{puts_slot, puts_text, puts_code, puts_globals, puts_export, puts_initial, puts_library_slot, puts_library_text, puts_sealed, puts_sentry}
use Rattle.law_boot.proofs.Zeros.{zero_else}
use Rattle.law_boot.proofs.words.words_put.Goals as goal

pub returns-clause-slot : goal.returns-clause-slot
returns-clause-slot c = puts_slot

pub returns-clause-text : goal.returns-clause-text
returns-clause-text c = puts_text

pub returns-clause-code : goal.returns-clause-code
returns-clause-code c = puts_code

pub returns-clause-globals : goal.returns-clause-globals
returns-clause-globals c = puts_globals

pub returns-clause-export : goal.returns-clause-export
returns-clause-export c = puts_export

pub returns-clause-initial : goal.returns-clause-initial
returns-clause-initial c = puts_initial

pub returns-clause-library_slot : goal.returns-clause-library_slot
returns-clause-library_slot c = puts_library_slot

pub returns-clause-library_text : goal.returns-clause-library_text
returns-clause-library_text c = puts_library_text

pub returns-clause-sealed : goal.returns-clause-sealed
returns-clause-sealed c = puts_sealed

pub returns-clause-sentry : goal.returns-clause-sentry
returns-clause-sentry c = puts_sentry

pub returns-clause-zero : goal.returns-clause-zero
returns-clause-zero c = zero_else
