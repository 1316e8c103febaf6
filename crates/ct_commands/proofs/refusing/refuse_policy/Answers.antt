use Rattle.ct_commands.proofs.refusing.refuse_policy.Goals as goal

pub returns : goal.returns
returns g c =
    rw (c.as_bytes.ensures.value, c.as_str.ensures.value, c.line_of_two-line.ensures) at c.close.ensures
