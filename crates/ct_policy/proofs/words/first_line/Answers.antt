use Rattle.std.proofs.Common.{rules, ◌≡◌, ◌++◌, ◌∷◌, [], ◌∙◌, sym, subst, true, false, ap}
use Rattle.std.proofs.lemmas.List.{map-append}
use Rattle.ct_policy.specs.Words.{IsFirst, IsLine, texts}
use Rattle.ct_policy.proofs.Lines.{Within, goes_on, line_is, no_word, no_end_left}
use Rattle.ct_policy.proofs.words.first_line.Goals as goal

pub returns-in-None : goal.returns-in-None
returns-in-None c = no_word c.args.text.now c.loop-left.left.now (texts c.loop-left.words.items) c.loop-left.invariant c.in-None.ensures

pub returns-then-next : goal.returns-then-next
returns-then-next c =
    let first : IsFirst c.loop-left.left.now c.in-Some.next.word.now true c.in-Some.next.rest.now = rw c.if-next.true at c.in-Some.ensures in
    let more : texts c.push.new.self.items ≡ texts c.loop-left.words.items ++ c.in-Some.next.word.now ∷ [] = ap texts c.in_ok-push.ensures.items ∙ map-append _ c.loop-left.words.items _ in
    subst (λ ws. IsLine c.args.text.now ws c.in-Some.next.rest.now) (sym more)
    (line_is c.args.text.now c.loop-left.left.now c.in-Some.next.word.now c.in-Some.next.rest.now (texts c.loop-left.words.items) c.loop-left.invariant first)

pub loop-left-preserved : goal.loop-left-preserved
loop-left-preserved c =
    let first : IsFirst c.loop-left.left.now c.in-Some.next.word.now false c.in-Some.next.rest.now = rw c.if-next.false at c.in-Some.ensures in
    let more : texts c.push.new.self.items ≡ texts c.loop-left.words.items ++ c.in-Some.next.word.now ∷ [] = ap texts c.in_ok-push.ensures.items ∙ map-append _ c.loop-left.words.items _ in
    subst (λ ws. Within c.args.text.now ws c.in-Some.next.rest.now) (sym more)
    (goes_on c.args.text.now c.loop-left.left.now c.in-Some.next.word.now c.in-Some.next.rest.now (texts c.loop-left.words.items) c.loop-left.invariant first)

pub returns : goal.returns
returns c = no_end_left c.args.text.now c.loop-left.left.now (texts c.loop-left.words.items) c.loop-left.invariant (search rules)
