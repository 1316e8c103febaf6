use Rattle.std.proofs.Common.{◌≡◌, ◌<◌, ◌^◌, ℕ, List, length, drop, refl, sym, ◌∙◌, arith}
use Rattle.std.proofs.lemmas.List.{length-map}
use Rattle.def_link.specs.Owners.{source_for, head_or_none}
use Rattle.ct_link_objects.specs.Objects.{file_of}
use Rattle.ct_link_objects.proofs.Steps.{short_head}
use Rattle.ct_link_objects.proofs.built.source_for.Goals as goal

pub text_at-requires : goal.text_at-requires
text_at-requires c =
    let one : file_of c.args.code.now.file ≡ 1 = rw (← c.code.view_is, c.in-Some.is) refl in
    let there = c.requires.there in
    let count : length c.args.sources.now ≡ length c.as_slice.result.now = rw (← c.sources.view_is, ← c.as_slice.ensures.value) (length-map _ _) in
    omega (arith, one, there, count)

pub returns-in-Some-clause-value : goal.returns-in-Some-clause-value
returns-in-Some-clause-value c =
    let rest = drop c.args.next c.args.sources.now in
    let same : c.text_at.result.now ≡ head_or_none rest = rw (← c.sources.view_is, ← c.as_slice.ensures.value) c.text_at.ensures in
    let some : source_for c.args.code.now.file rest ≡ head_or_none rest = rw (← c.code.view_is, c.in-Some.is) refl in
    same ∙ sym some

pub returns-in-Some-clause-short : goal.returns-in-Some-clause-short
returns-in-Some-clause-short c =
    let one : file_of c.args.code.now.file ≡ 1 = rw (← c.code.view_is, c.in-Some.is) refl in
    let there = c.requires.there in
    let same : c.text_at.result.now ≡ head_or_none (drop c.args.next c.args.sources.now) = rw (← c.sources.view_is, ← c.as_slice.ensures.value) c.text_at.ensures in
    rw same (short_head (λ (t : List ℕ). length t < 2 ^ 32) c.args.sources.now c.args.next c.requires.short (omega (arith, one, there)))
