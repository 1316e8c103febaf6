-- Bytes that spell no number of 64 bits: they are no text, or parsing refuses the text, or it gives a number
-- that is spelled otherwise.
use Rattle.std.proofs.Common.{ℕ, ◌≡◌, ◌<◌, ◌^◌, true, false, List, Result, Ok, Err, sym, ap, ◌∙◌, subst, decimal}
use Rattle.std.specs.Str.{IsUtf8, bytes_eq}
use Rattle.std.specs.Str.Parse.{ParsesUnsigned}
use Rattle.std.proofs.lemmas.Fmt.{parse-decimal, IsAscii-decimal}
use Rattle.std.proofs.lemmas.Str.{IsUtf8-from_ascii}
use Rattle.std.proofs.lemmas.Slice.Eq.{bytes_eq-Decides}

pub no_text : (n : ℕ) (digits : List ℕ) → n < 2 ^ 64 → (IsUtf8 digits → ⊥) → decimal n ≡ digits → ⊥
no_text n digits small none e = none (subst (λ t. IsUtf8 t) e (IsUtf8-from_ascii (decimal n) (IsAscii-decimal n small)))

pub refused : {E : Type 0} (n : ℕ) (digits text : List ℕ) (r : Result ℕ E) (why : E) → n < 2 ^ 64 → text ≡ digits → ParsesUnsigned 64 10 text r → r ≡ Err why → decimal n ≡ digits → ⊥
refused n digits text r why small is parses err e =
    let bad = sym err ∙ parse-decimal 64 n text r small small (is ∙ sym e) parses in
    absurd (cc)

pub spelled_otherwise : {E : Type 0} (n m : ℕ) (digits text : List ℕ) (r : Result ℕ E) → n < 2 ^ 64 → text ≡ digits → ParsesUnsigned 64 10 text r → r ≡ Ok m
    → false ≡ bytes_eq (decimal m) digits → decimal n ≡ digits → ⊥
spelled_otherwise n m digits text r small is parses ok other e =
    let same : Ok m ≡ Ok n = sym ok ∙ parse-decimal 64 n text r small small (is ∙ sym e) parses in
    let number : m ≡ n = cc in
    let equal : decimal m ≡ digits = ap (λ k. decimal k) number ∙ e in
    let bad : false ≡ true = other ∙ (bytes_eq-Decides (decimal m) digits).1 equal in
    absurd (cc)
