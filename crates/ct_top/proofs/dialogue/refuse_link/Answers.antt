use Rattle.std.proofs.Common.{◌≡◌, ◌∙◌, false, sym}
use Rattle.def_program.specs.Lines.{link_status, link_text}
use Rattle.ct_commands.proofs.Endings.{ends_with}
use Rattle.ct_top.specs.Done.{IsRefusal, link_turn, wants_memory}
use Rattle.ct_top.proofs.Turning.{link_due, link_last}
use Rattle.ct_top.proofs.dialogue.refuse_link.Goals as goal

pub returns : goal.returns
returns g c =
    let some : wants_memory c.args.fault ≡ false = sym c.wants_memory.ensures ∙ c.if-wants_memory.false in
    ends_with (IsRefusal (link_turn c.args.desc.now c.args.fault)) (link_status c.args.fault) (link_text c.args.desc.now c.args.fault) _ _ c.refuse_link.result
    (link_last c.args.fault some) (link_due c.args.desc.now c.args.fault some) c.refuse_link.ensures
