use Rattle.std.proofs.Common.{◌≡◌, ◌++◌, ◌∙◌, ap, List, ℕ}
use Rattle.def_image.specs.Spelling.{number}
use Rattle.ct_image_parts.proofs.OnOks.{on_ok, five}
use Rattle.ct_image_parts.proofs.writing.put_bases.Goals as goal

pub returns : goal.returns
returns c =
    let p = c.parts.inside in
    let a = c.in_ok-put_number.ensures in
    let b = c.in_ok-put_number-2.ensures ∙ ap (λ (l : List ℕ). l ++ number p.ram) a in
    let d = c.in_ok-put_number-3.ensures ∙ ap (λ (l : List ℕ). l ++ number p.size) b in
    let e = c.in_ok-put_number-4.ensures ∙ ap (λ (l : List ℕ). l ++ number p.trusted) d in
    rw (← c.parts.view_is) (on_ok c.put_number-5.result (λ f.
    f ∙ ap (λ (l : List ℕ). l ++ number p.heap) e
    ∙ five c.args.out.now.items (number p.quantum) (number p.ram) (number p.size) (number p.trusted) (number p.heap)) c.put_number-5.ensures)
