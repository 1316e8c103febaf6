-- Parts that are joined by their fronts stand one after the other.
use Rattle.std.proofs.Common.{ℕ, ◌≡◌, List, ◌++◌, sym, ap, ◌∙◌, append_assoc}

pub three_in_turn : (a b c rest : List ℕ) → (a ++ b ++ c) ++ rest ≡ a ++ (b ++ (c ++ rest))
three_in_turn a b c rest = append_assoc (a ++ b) c rest ∙ append_assoc a b (c ++ rest)

pub four_in_turn : (a b c d rest : List ℕ) → (a ++ b ++ c ++ d) ++ rest ≡ a ++ (b ++ (c ++ (d ++ rest)))
four_in_turn a b c d rest = append_assoc (a ++ b ++ c) d rest ∙ three_in_turn a b c (d ++ rest)

pub five_in_turn : (a b c d e rest : List ℕ) → (a ++ b ++ c ++ d ++ e) ++ rest ≡ a ++ (b ++ (c ++ (d ++ (e ++ rest))))
five_in_turn a b c d e rest = append_assoc (a ++ b ++ c ++ d) e rest ∙ four_in_turn a b c d (e ++ rest)

pub six_in_turn : (a b c d e f rest : List ℕ) → (a ++ b ++ c ++ d ++ e ++ f) ++ rest ≡ a ++ (b ++ (c ++ (d ++ (e ++ (f ++ rest)))))
six_in_turn a b c d e f rest = append_assoc (a ++ b ++ c ++ d ++ e) f rest ∙ five_in_turn a b c d e (f ++ rest)

pub seven_in_turn : (a b c d e f g rest : List ℕ) → (a ++ b ++ c ++ d ++ e ++ f ++ g) ++ rest ≡ a ++ (b ++ (c ++ (d ++ (e ++ (f ++ (g ++ rest))))))
seven_in_turn a b c d e f g rest = append_assoc (a ++ b ++ c ++ d ++ e ++ f) g rest ∙ six_in_turn a b c d e f (g ++ rest)

-- what stands in front may be joined to each of them

three_joined : (x a b c : List ℕ) → x ++ (a ++ b ++ c) ≡ x ++ a ++ b ++ c
three_joined x a b c = sym (append_assoc x (a ++ b) c) ∙ ap (λ (l : List ℕ). l ++ c) (sym (append_assoc x a b))

pub four_joined : (x a b c d : List ℕ) → x ++ (a ++ b ++ c ++ d) ≡ x ++ a ++ b ++ c ++ d
four_joined x a b c d = sym (append_assoc x (a ++ b ++ c) d) ∙ ap (λ (l : List ℕ). l ++ d) (three_joined x a b c)

five_joined : (x a b c d e : List ℕ) → x ++ (a ++ b ++ c ++ d ++ e) ≡ x ++ a ++ b ++ c ++ d ++ e
five_joined x a b c d e = sym (append_assoc x (a ++ b ++ c ++ d) e) ∙ ap (λ (l : List ℕ). l ++ e) (four_joined x a b c d)

pub six_joined : (x a b c d e f : List ℕ) → x ++ (a ++ b ++ c ++ d ++ e ++ f) ≡ x ++ a ++ b ++ c ++ d ++ e ++ f
six_joined x a b c d e f = sym (append_assoc x (a ++ b ++ c ++ d ++ e) f) ∙ ap (λ (l : List ℕ). l ++ f) (five_joined x a b c d e)
