use Rattle.std.proofs.Common.{◌+◌, ◌<◌, ◌^◌, arith}
use Rattle.def_words.specs.LeastBounds.{rounded_of}
use Rattle.law_words.proofs.Narrowing.{fields_small}
use Rattle.ct_cap.proofs.bounding.rounded.Goals as goal

pub returns-clause-few : goal.returns-clause-few
returns-clause-few c =
    let few : (rounded_of c.address_of-from.result (c.address_of-from.result + c.min.result)).fields < 2 ^ 22 =
    fields_small c.address_of-from.result (c.address_of-from.result + c.min.result) (omega arith) (omega (arith, c.min.ensures, c.address_of-from.ensures)) in
    rw c.least.ensures few
