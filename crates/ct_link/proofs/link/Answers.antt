use Rattle.std.proofs.Common.{◌≡◌, length, take, drop, ap₂, ◌∙◌, arith}
use Rattle.ct_link.proofs.Ready.{ready}
use Rattle.ct_link.proofs.link.Goals as goal

pub image_of-requires : goal.image_of-requires
image_of-requires c =
    let d = c.args.desc.now in
    let os = c.in_ok-objects.objects.items in
    let e = c.len.ensures in
    let count : c.len.result ≡ length d.compartments = rw (← c.desc.view_is) (omega (arith, e)) in
    let first : c.split_at.result.0.now ≡ take (length d.compartments) os = c.split_at.ensures.front ∙ ap₂ (λ n l. take n l) count c.as_slice.ensures.value in
    let rest : c.split_at.result.1.now ≡ drop (length d.compartments) os = c.split_at.ensures.back ∙ ap₂ (λ n l. drop n l) count c.as_slice.ensures.value in
    ready d c.args.sources.now os c.split_at.result.0.now c.split_at.result.1.now c.requires c.in_ok-objects.ensures first rest
