use Rattle.std.proofs.Common.{◌≡◌, true, None}
use Rattle.def_image.specs.Checks.{first}
use Rattle.def_image.specs.Limits.{limit_checks}
use Rattle.def_image.specs.Accepted.{is_begun}
use Rattle.ct_image_parts.specs.Converted.{parts_of}
use Rattle.ct_image.proofs.Answered.{image_is, refused_is, standing_is}
use Rattle.ct_image.proofs.accepting.accept.Goals as goal

pub judged-requires : goal.judged-requires
judged-requires c =
    let begun : is_begun c.args.bytes.now ≡ true = cc in
    let none : first (limit_checks c.in-Ok.raw) ≡ None = cc in
    let made : c.in_ok-parts.parts ≡ parts_of c.in-Ok.raw = c.in_ok-parts.ensures in
    standing_is c.in-Ok.raw c.in_ok-parts.parts c.args.bytes.now c.requires begun c.in-Ok.ensures.fields none made

pub returns-clause-accepted : goal.returns-clause-accepted
returns-clause-accepted c =
    let none : first (limit_checks c.in-Ok.raw) ≡ None = cc in
    let made : c.in_ok-parts.parts ≡ parts_of c.in-Ok.raw = c.in_ok-parts.ensures in
    image_is c.in-Ok.raw c.in_ok-parts.parts c.args.bytes.now c.judged.result c.in-Ok.ensures.fields none made c.judged.ensures.accepted c.judged.ensures.faultless

pub returns-clause-refused : goal.returns-clause-refused
returns-clause-refused c =
    let begun : is_begun c.args.bytes.now ≡ true = cc in
    let none : first (limit_checks c.in-Ok.raw) ≡ None = cc in
    let made : c.in_ok-parts.parts ≡ parts_of c.in-Ok.raw = c.in_ok-parts.ensures in
    let stand = standing_is c.in-Ok.raw c.in_ok-parts.parts c.args.bytes.now c.requires begun c.in-Ok.ensures.fields none made in
    refused_is c.in-Ok.raw c.in_ok-parts.parts c.args.bytes.now c.judged.result begun c.in-Ok.ensures.fields none made stand c.judged.ensures.refused
