use Rattle.std.proofs.Common.{refl}
use Rattle.def_profile.specs.declared.seals.TheConstants.{TOKEN_TYPE}
use Rattle.def_machine.specs.Heap.{new_object}
use Rattle.def_step.specs.Tokens.{made_token}
use Rattle.ct_services.proofs.Granted.{serves_made, serves_refused}
use Rattle.ct_services.proofs.Sealed.{token_derived}
use Rattle.ct_services.proofs.sealing.seal_new.Goals as goal

pub returns-in-Ok : goal.returns-in-Ok
returns-in-Ok g c =
    let r = new_object c.args.engine.now.state c.args.quota c.args.size c.in-Ok.object.base in
    serves_made c.args.t (λ m a. made_token m c.args.t c.args.key a) TOKEN_TYPE c.in-Ok.ensures c.capability.ensures
    c.hand_out.ensures.engine c.hand_out.ensures.told (λ m ss. rw (token_derived r) refl)

pub returns-in-Err : goal.returns-in-Err
returns-in-Err g c =
    serves_refused c.args.t (λ m a. made_token m c.args.t c.args.key a) c.in-Err.ensures (λ m n. refl) c.decline.ensures
