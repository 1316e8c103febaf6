-- The two capabilities that a jump makes: the target opened, and the link.
use Rattle.std.specs.Prelude.{if◌then◌else◌}
use Rattle.def_profile.specs.declared.seals.TheConstants.{RETURN_DISABLE, RETURN_ENABLE}
use Rattle.def_words.specs.declared.Cap.{Cap}
use Rattle.def_words.specs.declared.Posture.{Posture}
use Rattle.def_words.specs.Capability.{cap_of, raised, word_sealed}

-- A target as the program counter capability: unsealed, with its root and without a source.
abbrev pub opened : Cap → Cap
opened c = cap_of c.tag (word_sealed c 0) (record { root = c.shadow.root; source = 0 })

-- The link of a jump: the program counter capability after the instruction, as a return sentry that gives
-- back the posture before the jump. It has the program counter capability's root and, where interrupts were
-- off, the posture's source.
abbrev pub return_link : Cap → Posture → Cap
return_link pcc before = cap_of
    (raised pcc 4).tag
    (word_sealed (raised pcc 4) (if before.off then RETURN_DISABLE else RETURN_ENABLE))
    (record { root = pcc.shadow.root; source = if before.off then before.source else 0 })
