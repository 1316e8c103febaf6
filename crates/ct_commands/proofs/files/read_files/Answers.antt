use Rattle.std.proofs.Common.{◌≡◌, ◌∷◌, [], ◌++◌, ℕ, List, Vec, Global, map, refl, ap, ◌∙◌, Bor}
use Rattle.std.proofs.lemmas.List.{map-append}
use Rattle.ct_commands.proofs.Given.{goes_on, next_stops, wants_after}
use Rattle.ct_commands.proofs.Lists.{next_of}
use Rattle.ct_commands.proofs.files.read_files.Goals as goal

pub returns-in-Err : goal.returns-in-Err
returns-in-Err g c =
    let l = c.loop-name in
    let next = next_of (λ (n : Bor (List ℕ)). n.now) c.args.names.now l.name-index _ _ refl c.loop-name-test.true in
    record {
      answer = next_stops _ _ _ _ _ _ _ _ _ l.invariant next c.in-Err.ensures.answer;
      same = λ n. c.in-Err.ensures.same n ∙ l.invariant.kept n;
    }

pub returns-in-Err-push : goal.returns-in-Err-push
returns-in-Err-push g c =
    let l = c.loop-name in
    let next = next_of (λ (n : Bor (List ℕ)). n.now) c.args.names.now l.name-index _ _ refl c.loop-name-test.true in
    record {
      answer = wants_after _ _ _ _ _ _ _ _ _ l.invariant next c.in-Ok.ensures.answer c.in-Ok.ensures.same;
      same = λ n. c.in-Ok.ensures.same n ∙ l.invariant.kept n;
    }

pub loop-name-preserved : goal.loop-name-preserved
loop-name-preserved g c =
    let l = c.loop-name in
    let next = next_of (λ (n : Bor (List ℕ)). n.now) c.args.names.now l.name-index _ _ refl c.loop-name-test.true in
    let added : map (λ (t : Vec ℕ Global). t.items) c.push.new.self.items ≡ map (λ (t : Vec ℕ Global). t.items) l.all.items ++ c.in-Ok.bytes.items ∷ [] =
    ap (λ ts. map (λ (t : Vec ℕ Global). t.items) ts) c.in-Ok-push.ensures.items ∙ map-append (λ (t : Vec ℕ Global). t.items) l.all.items (c.in-Ok.bytes ∷ []) in
    goes_on _ _ _ _ _ _ _ _ _ _ l.invariant next c.in-Ok.ensures.answer c.in-Ok.ensures.same added
