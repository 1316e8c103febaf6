-- What the parts of a call answer to one another.
use Rattle.std.specs.Prelude.{◌≡◌, ℕ, Bool, true, false, List, Option, Some, None, ◌⊎◌}
use Rattle.def_port.specs.Bytes.{SinkView}
use Rattle.def_program.specs.declared.Status.{Status}
use Rattle.def_program.specs.declared.Status.TheVariants.{Done}
use Rattle.def_program.specs.declared.Status.TheVariants as status
use Rattle.def_policy.specs.declared.PolicyFault.{PolicyFault}
use Rattle.def_script.specs.declared.ScriptFault.{ScriptFault}
use Rattle.def_script.specs.declared.ScriptFault.TheVariants as script
use Rattle.def_policy.specs.declared.PolicyFault.TheVariants as policy
use Rattle.def_program.specs.Lines.{description_line, image_line, link_status, link_text, policy_line, script_line}
use Rattle.def_program.specs.Turns.{Turn, Ends, verdict}
use Rattle.def_desc.specs.Rows.{DescRow}
use Rattle.def_desc.specs.Walk.{place}
use Rattle.def_desc.specs.WellFormed.{fault}
use Rattle.def_link.specs.declared.LinkFault.{LinkFault}
use Rattle.def_link.specs.declared.LinkFault.TheVariants as link
use Rattle.ct_desc.specs.declared.DescFault.{DescFault}
use Rattle.ct_desc.specs.declared.DescFault.TheVariants as description
use Rattle.ct_image.specs.declared.fault.ImageFault.{ImageFault}
use Rattle.ct_image.specs.declared.fault.ImageFault.TheVariants as image
use Rattle.ct_commands.specs.Closing.{Closes, WroteNothing}

-- the text was written and the call is done, or a write failed; or memory was wanted before
abbrev pub IsDone : SinkView → SinkView → List ℕ → Status → Type 0
IsDone before after text result =
    Closes before after text Done result ⊎ WroteNothing before after result

-- ---- refusals: the turn that is due of a fault; none of want of memory

-- of bytes that are no description
abbrev pub description_turn : DescFault → Option Turn
description_turn (description.At number part index item) =
    Some (Ends status.Description (description_line (fault number (place part index item))))
description_turn description.NoMemory = None

-- of bytes that are no image
abbrev pub image_turn : ImageFault → Option Turn
image_turn (image.At number place) = Some (Ends status.Image (image_line number place))
image_turn image.NoMemory = None

abbrev pub wants_memory : LinkFault → Bool
wants_memory link.NoMemory = true
wants_memory _ = false

-- of a description and sources that don't link
abbrev pub link_turn : DescRow → LinkFault → Option Turn
link_turn d link.NoMemory = None
link_turn d e = Some (Ends (link_status e) (link_text d e))

-- of a text that is no script
abbrev pub script_turn : ScriptFault → Option Turn
script_turn (script.At number line) = Some (Ends status.Script (script_line number line))
script_turn script.NoMemory = None

-- of a text that is no policy
abbrev pub policy_turn : PolicyFault → Option Turn
policy_turn (policy.At number line) = Some (Ends status.Policy (policy_line number line))
policy_turn policy.NoMemory = None

-- the turn is the refusal that is due
abbrev pub IsRefusal : Option Turn → Turn → Type 0
IsRefusal None t = ⊥
IsRefusal (Some due) t = t ≡ due

-- ---- policies

-- the turn of the lines that deny a policy
abbrev pub Judges : List ℕ → Turn → Type 0
Judges lines t = t ≡ verdict lines
