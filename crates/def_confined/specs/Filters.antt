-- The load filter as it looks at the heap alone.
use Rattle.std.specs.Prelude.{◌&&◌, nat_le, nat_lt, if◌then◌else◌}
use Rattle.def_words.specs.declared.Cap.{Cap}
use Rattle.def_words.specs.Authority.{cap_base}
use Rattle.def_words.specs.Capability.{untagged}
use Rattle.def_machine.specs.Image.{Image}
use Rattle.def_machine.specs.State.{State}
use Rattle.def_machine.specs.Memory.{is_marked}

-- a capability whose base lies in a marked granule of the heap loses its tag
abbrev pub heap_filtered : Image → State → Cap → Cap
heap_filtered i s c =
    if c.tag && nat_le i.heap_base (cap_base c) && nat_lt (cap_base c) i.heap_end
    && is_marked i s (cap_base c)
    then untagged c
    else c
