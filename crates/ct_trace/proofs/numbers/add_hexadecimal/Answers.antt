use Rattle.std.proofs.Common.{◌≡◌, ◌+◌, List, ℕ, [], ◌∷◌, ◌++◌, length, sym, ap, ◌∙◌, lit<, append_assoc, length-append, arith}
use Rattle.std.proofs.lemmas.List.{append-nil}
use Rattle.def_trace.specs.Trace.{hexadecimal}
use Rattle.ct_trace.proofs.Digits.{front, next_digit, no_digit, all_digits}
use Rattle.ct_trace.proofs.numbers.add_hexadecimal.Goals as goal

pub loop-place-init : goal.loop-place-init
loop-place-init c =
    let pushed = c.push.ensures.ascii (lit< tt) in
    let more : length (c.args.line.now.bytes ++ 32 ∷ []) ≡ length c.args.line.now.bytes + 1 = length-append c.args.line.now.bytes (32 ∷ []) in
    record {
      bytes = pushed ∙ sym (append-nil (c.args.line.now.bytes ++ 32 ∷ [])) ∙ ap (λ t. (c.args.line.now.bytes ++ 32 ∷ []) ++ t) (sym (no_digit c.args.digits c.args.value));
      size = let long : length c.push.new.self.bytes ≡ length (c.args.line.now.bytes ++ 32 ∷ []) = ap length pushed in omega (arith, long, more);
    }

pub loop-place-preserved : goal.loop-place-preserved
loop-place-preserved c =
    let pushed = c.push-in-loop-place.ensures.ascii c.digit_of.ensures.ascii in
    let start : List ℕ = c.args.line.now.bytes ++ 32 ∷ [] in
    let so_far : List ℕ = front c.args.digits c.loop-place.place c.args.value in
    let more : length (c.loop-place.line.bytes ++ c.digit_of.result ∷ []) ≡ length c.loop-place.line.bytes + 1 = length-append c.loop-place.line.bytes (c.digit_of.result ∷ []) in
    record {
      bytes = pushed
          ∙ ap (λ t. t ++ c.digit_of.result ∷ []) c.loop-place.invariant.bytes
          ∙ append_assoc start so_far (c.digit_of.result ∷ [])
          ∙ ap (λ t. start ++ t) (ap (λ d. so_far ++ d ∷ []) c.digit_of.ensures.is ∙ sym (next_digit c.args.digits c.loop-place.place c.args.value c.loop-place-test.true));
      size = let long : length c.push-in-loop-place.new.self.bytes ≡ length (c.loop-place.line.bytes ++ c.digit_of.result ∷ []) = ap length pushed in omega (arith, long, more, c.loop-place.invariant.size);
    }

pub returns-clause-bytes : goal.returns-clause-bytes
returns-clause-bytes c =
    c.loop-place.invariant.bytes
    ∙ ap (λ t. (c.args.line.now.bytes ++ 32 ∷ []) ++ t) (all_digits c.args.digits c.loop-place.place c.args.value c.loop-place-test.false c.loop-place.auto.place-end)
    ∙ append_assoc c.args.line.now.bytes (32 ∷ []) (hexadecimal c.args.digits c.args.value)
