use Rattle.ct_policy.proofs.Members.{is_there}
use Rattle.ct_policy.proofs.names.export_in.Goals as goal

pub export_number-requires-clause-there : goal.export_number-requires-clause-there
export_number-requires-clause-there c =
    is_there c.args.parts.now c.args.compartment c.in-Some.export c.args.name.now c.exports_of.result.now c.exports_of.ensures c.in-Some.ensures
