use Rattle.ct_commands.proofs.refusing.refuse_description.Goals as goal

pub returns : goal.returns
returns g c =
    rw (c.as_bytes.ensures.value, c.as_str.ensures.value, c.description_line.ensures) at c.close.ensures
