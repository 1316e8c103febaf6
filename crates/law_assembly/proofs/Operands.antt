-- What is read of a statement's operands is how they are written, and what is written is read.
use Rattle.std.proofs.Common.{◌≡◌, ℕ, [], ◌∷◌, ◌++◌, Option, Some, None, refl, ap, ◌∙◌, subst}
use Rattle.std.specs.Prelude.{option_and_then}
use Rattle.def_source.specs.Source.{Name, Row, register_of, name_at, comma_at, open_at, close_at, number_at, target_at, register_at, register_comma, address_at, ended, two_registers, three_registers, two_registers_number, two_registers_target, register_number, register_and_target, register_name, register_address, one_register, one_number, one_target}
use Rattle.def_source.specs.declared.parts.Number.{Number}
use Rattle.def_source.specs.declared.parts.Token.TheVariants as token
use Rattle.def_source.specs.declared.parts.Target.{Target}
use Rattle.def_source.specs.declared.parts.Target.TheVariants as target
use Rattle.def_assembly.specs.Written.{Register, Numbered, Named, Towards, Address, AreOperandTokens, AreWritten}

-- a reader that gave something, its first step gave something
bind : {A B : Type 0} (o : Option A) (f : A → Option B) (y : B) → option_and_then f o ≡ Some y → (x : A) × ((o ≡ Some x) × (f x ≡ Some y))
bind None f y e = absurd (cc e)
bind (Some x) f y e = (x, (refl, e))

ended_says : {A : Type 0} (ts : Row) (x y : A) → ended ts x ≡ Some y → (ts ≡ []) × (x ≡ y)
ended_says [] x y e = (refl, cc e)
ended_says (t ∷ ts) x y e = absurd (cc e)

-- ---- one token

name_says : (ts : Row) (q : Name × Row) → name_at ts ≡ Some q → ts ≡ token.Name q.0 ∷ q.1
name_says (token.Name n ∷ ts) q e =
    let same : (n, ts) ≡ q = cc e in
    ap (λ (z : Name × Row). token.Name z.0 ∷ z.1) same
name_says ts q e = absurd (cc e)

number_says : (ts : Row) (q : Number × Row) → number_at ts ≡ Some q → ts ≡ token.Number q.0 ∷ q.1
number_says (token.Number n ∷ ts) q e =
    let same : (n, ts) ≡ q = cc e in
    ap (λ (z : Number × Row). token.Number z.0 ∷ z.1) same
number_says ts q e = absurd (cc e)

comma_says : (ts us : Row) → comma_at ts ≡ Some us → ts ≡ token.Comma ∷ us
comma_says (token.Comma ∷ ts) us e = let same : ts ≡ us = cc e in ap (λ (z : Row). token.Comma ∷ z) same
comma_says ts us e = absurd (cc e)

open_says : (ts us : Row) → open_at ts ≡ Some us → ts ≡ token.Open ∷ us
open_says (token.Open ∷ ts) us e = let same : ts ≡ us = cc e in ap (λ (z : Row). token.Open ∷ z) same
open_says ts us e = absurd (cc e)

close_says : (ts us : Row) → close_at ts ≡ Some us → ts ≡ token.Close ∷ us
close_says (token.Close ∷ ts) us e = let same : ts ≡ us = cc e in ap (λ (z : Row). token.Close ∷ z) same
close_says ts us e = absurd (cc e)

-- ---- one operand

-- a register at the front
record RegisterFirst (ts : Row) (q : ℕ × Row) : Type 0 where
  name : Name
  row : ts ≡ token.Name name ∷ q.1
  is : register_of name ≡ Some q.0

register_says : (ts : Row) (q : ℕ × Row) → register_at ts ≡ Some q → RegisterFirst ts q
unfolding register_at
register_says ts q e =
    let name = bind (name_at ts) _ q e in
    let number = bind (register_of name.0.0) _ q name.1.1 in
    let same : (number.0, name.0.1) ≡ q = let last = number.1.1 in cc last in
    subst (λ (z : ℕ × Row). RegisterFirst ts z) same
    (record { name = name.0.0; row = name_says ts name.0 name.1.0; is = number.1.0 })

register_reads : (n : Name) (r : ℕ) (us : Row) → register_of n ≡ Some r → register_at (token.Name n ∷ us) ≡ Some (r, us)
unfolding register_at
register_reads n r us e = ap (λ (o : Option ℕ). option_and_then (λ (k : ℕ). Some (k, us)) o) e

-- a register and a comma at the front
record CommaAfter (ts : Row) (q : ℕ × Row) : Type 0 where
  front : Row
  row : ts ≡ front ++ token.Comma ∷ q.1
  is : AreOperandTokens (Register q.0) front

comma_after : (ts : Row) (q : ℕ × Row) → register_comma ts ≡ Some q → CommaAfter ts q
unfolding register_comma
comma_after ts q e =
    let first = bind (register_at ts) _ q e in
    let comma = bind (comma_at first.0.1) _ q first.1.1 in
    let same : (first.0.0, comma.0) ≡ q = let last = comma.1.1 in cc last in
    let r = register_says ts first.0 first.1.0 in
    subst (λ (z : ℕ × Row). CommaAfter ts z) same
    (record {
      front = token.Name r.name ∷ [];
      row = r.row ∙ ap (λ (z : Row). token.Name r.name ∷ z) (comma_says first.0.1 comma.0 comma.1.0);
      is = (r.name, (refl, r.is));
    })

comma_reads : (front rest : Row) (r : ℕ) → AreOperandTokens (Register r) front → register_comma (front ++ token.Comma ∷ rest) ≡ Some (r, rest)
unfolding register_comma
comma_reads front rest r w =
    ap (λ (z : Row). register_comma (z ++ token.Comma ∷ rest)) w.1.0
    ∙ ap (λ (o : Option (ℕ × Row)). option_and_then (λ (k : ℕ × Row). option_and_then (λ (us : Row). Some (k.0, us)) (comma_at k.1)) o)
    (register_reads w.0 r (token.Comma ∷ rest) w.1.1)

-- the last operand
register_last : (ts : Row) (q : ℕ × Row) → register_at ts ≡ Some q → q.1 ≡ [] → AreOperandTokens (Register q.0) ts
register_last ts q e end = let r = register_says ts q e in (r.name, (r.row ∙ ap (λ (z : Row). token.Name r.name ∷ z) end, r.is))

number_last : (ts : Row) (q : Number × Row) → number_at ts ≡ Some q → q.1 ≡ [] → AreOperandTokens (Numbered q.0) ts
number_last ts q e end = number_says ts q e ∙ ap (λ (z : Row). token.Number q.0 ∷ z) end

name_last : (ts : Row) (q : Name × Row) → name_at ts ≡ Some q → q.1 ≡ [] → AreOperandTokens (Named q.0) ts
name_last ts q e end = name_says ts q e ∙ ap (λ (z : Row). token.Name q.0 ∷ z) end

target_last : (ts : Row) (q : Target Name × Row) → target_at ts ≡ Some q → q.1 ≡ [] → AreOperandTokens (Towards q.0) ts
target_last (token.Name n ∷ ts) q e end =
    let same : (target.Label n, ts) ≡ q = cc e in
    subst (λ (z : Target Name × Row). z.1 ≡ [] → AreOperandTokens (Towards z.0) (token.Name n ∷ ts)) same (λ k. ap (λ (z : Row). token.Name n ∷ z) k) end
target_last (token.Number n ∷ ts) q e end =
    let same : (target.Offset n, ts) ≡ q = cc e in
    subst (λ (z : Target Name × Row). z.1 ≡ [] → AreOperandTokens (Towards z.0) (token.Number n ∷ ts)) same (λ k. ap (λ (z : Row). token.Number n ∷ z) k) end
target_last ts q e end = absurd (cc e)

address_last : (ts : Row) (q : Number × ℕ × Row) → address_at ts ≡ Some q → q.2 ≡ [] → AreOperandTokens (Address q.0 q.1) ts
unfolding address_at
address_last ts q e end =
    let number = bind (number_at ts) _ q e in
    let opened = bind (open_at number.0.1) _ q number.1.1 in
    let register = bind (register_at opened.0) _ q opened.1.1 in
    let closed = bind (close_at register.0.1) _ q register.1.1 in
    let same : (number.0.0, register.0.0, closed.0) ≡ q = let last = closed.1.1 in cc last in
    let r = register_says opened.0 register.0 register.1.0 in
    subst (λ (z : Number × ℕ × Row). z.2 ≡ [] → AreOperandTokens (Address z.0 z.1) ts) same
    (λ k. (
      r.name,
      (
        number_says ts number.0 number.1.0
            ∙ ap (λ (z : Row). token.Number number.0.0 ∷ z) (open_says number.0.1 opened.0 opened.1.0)
            ∙ ap (λ (z : Row). token.Number number.0.0 ∷ token.Open ∷ z) r.row
            ∙ ap (λ (z : Row). token.Number number.0.0 ∷ token.Open ∷ token.Name r.name ∷ z) (close_says register.0.1 closed.0 closed.1.0)
            ∙ ap (λ (z : Row). token.Number number.0.0 ∷ token.Open ∷ token.Name r.name ∷ token.Close ∷ z) k,
        r.is,
      ),
    ))
    end

register_ends : (ts : Row) (r : ℕ) → AreOperandTokens (Register r) ts → register_at ts ≡ Some (r, [])
register_ends ts r w = ap register_at w.1.0 ∙ register_reads w.0 r [] w.1.1

target_ends : (ts : Row) (t : Target Name) → AreOperandTokens (Towards t) ts → target_at ts ≡ Some (t, [])
target_ends ts (target.Label n) w = ap target_at w
target_ends ts (target.Offset n) w = ap target_at w

address_ends : (ts : Row) (n : Number) (r : ℕ) → AreOperandTokens (Address n r) ts → address_at ts ≡ Some (n, r, [])
unfolding address_at
address_ends ts n r w =
    ap address_at w.1.0
    ∙ ap (λ (o : Option (ℕ × Row)). option_and_then (λ (k : ℕ × Row). option_and_then (λ (vs : Row). Some (n, k.0, vs)) (close_at k.1)) o)
    (register_reads w.0 r (token.Close ∷ []) w.1.1)

-- ---- whole forms: what is read is written

pub two_registers_says : (ts : Row) (o : ℕ × ℕ) → two_registers ts ≡ Some o → AreWritten (Register o.0 ∷ Register o.1 ∷ []) ts
unfolding two_registers
two_registers_says ts o e =
    let a = bind (register_comma ts) _ o e in
    let b = bind (register_at a.0.1) _ o a.1.1 in
    let end = ended_says b.0.1 (a.0.0, b.0.0) o b.1.1 in
    let first = comma_after ts a.0 a.1.0 in
    subst (λ (z : ℕ × ℕ). AreWritten (Register z.0 ∷ Register z.1 ∷ []) ts) end.1
    (first.front, (a.0.1, (first.row, first.is, register_last a.0.1 b.0 b.1.0 end.0)))

pub three_registers_says : (ts : Row) (o : ℕ × ℕ × ℕ) → three_registers ts ≡ Some o → AreWritten (Register o.0 ∷ Register o.1 ∷ Register o.2 ∷ []) ts
unfolding three_registers
three_registers_says ts o e =
    let a = bind (register_comma ts) _ o e in
    let b = bind (register_comma a.0.1) _ o a.1.1 in
    let c = bind (register_at b.0.1) _ o b.1.1 in
    let end = ended_says c.0.1 (a.0.0, b.0.0, c.0.0) o c.1.1 in
    let first = comma_after ts a.0 a.1.0 in
    let second = comma_after a.0.1 b.0 b.1.0 in
    subst (λ (z : ℕ × ℕ × ℕ). AreWritten (Register z.0 ∷ Register z.1 ∷ Register z.2 ∷ []) ts) end.1
    (first.front, (a.0.1, (first.row, first.is, (second.front, (b.0.1, (second.row, second.is, register_last b.0.1 c.0 c.1.0 end.0))))))

pub two_registers_number_says : (ts : Row) (o : ℕ × ℕ × Number) → two_registers_number ts ≡ Some o → AreWritten (Register o.0 ∷ Register o.1 ∷ Numbered o.2 ∷ []) ts
unfolding two_registers_number
two_registers_number_says ts o e =
    let a = bind (register_comma ts) _ o e in
    let b = bind (register_comma a.0.1) _ o a.1.1 in
    let c = bind (number_at b.0.1) _ o b.1.1 in
    let end = ended_says c.0.1 (a.0.0, b.0.0, c.0.0) o c.1.1 in
    let first = comma_after ts a.0 a.1.0 in
    let second = comma_after a.0.1 b.0 b.1.0 in
    subst (λ (z : ℕ × ℕ × Number). AreWritten (Register z.0 ∷ Register z.1 ∷ Numbered z.2 ∷ []) ts) end.1
    (first.front, (a.0.1, (first.row, first.is, (second.front, (b.0.1, (second.row, second.is, number_last b.0.1 c.0 c.1.0 end.0))))))

pub two_registers_target_says : (ts : Row) (o : ℕ × ℕ × Target Name) → two_registers_target ts ≡ Some o → AreWritten (Register o.0 ∷ Register o.1 ∷ Towards o.2 ∷ []) ts
unfolding two_registers_target
two_registers_target_says ts o e =
    let a = bind (register_comma ts) _ o e in
    let b = bind (register_comma a.0.1) _ o a.1.1 in
    let c = bind (target_at b.0.1) _ o b.1.1 in
    let end = ended_says c.0.1 (a.0.0, b.0.0, c.0.0) o c.1.1 in
    let first = comma_after ts a.0 a.1.0 in
    let second = comma_after a.0.1 b.0 b.1.0 in
    subst (λ (z : ℕ × ℕ × Target Name). AreWritten (Register z.0 ∷ Register z.1 ∷ Towards z.2 ∷ []) ts) end.1
    (first.front, (a.0.1, (first.row, first.is, (second.front, (b.0.1, (second.row, second.is, target_last b.0.1 c.0 c.1.0 end.0))))))

pub register_number_says : (ts : Row) (o : ℕ × Number) → register_number ts ≡ Some o → AreWritten (Register o.0 ∷ Numbered o.1 ∷ []) ts
unfolding register_number
register_number_says ts o e =
    let a = bind (register_comma ts) _ o e in
    let b = bind (number_at a.0.1) _ o a.1.1 in
    let end = ended_says b.0.1 (a.0.0, b.0.0) o b.1.1 in
    let first = comma_after ts a.0 a.1.0 in
    subst (λ (z : ℕ × Number). AreWritten (Register z.0 ∷ Numbered z.1 ∷ []) ts) end.1
    (first.front, (a.0.1, (first.row, first.is, number_last a.0.1 b.0 b.1.0 end.0)))

pub register_target_says : (ts : Row) (o : ℕ × Target Name) → register_and_target ts ≡ Some o → AreWritten (Register o.0 ∷ Towards o.1 ∷ []) ts
unfolding register_and_target
register_target_says ts o e =
    let a = bind (register_comma ts) _ o e in
    let b = bind (target_at a.0.1) _ o a.1.1 in
    let end = ended_says b.0.1 (a.0.0, b.0.0) o b.1.1 in
    let first = comma_after ts a.0 a.1.0 in
    subst (λ (z : ℕ × Target Name). AreWritten (Register z.0 ∷ Towards z.1 ∷ []) ts) end.1
    (first.front, (a.0.1, (first.row, first.is, target_last a.0.1 b.0 b.1.0 end.0)))

pub register_name_says : (ts : Row) (o : ℕ × Name) → register_name ts ≡ Some o → AreWritten (Register o.0 ∷ Named o.1 ∷ []) ts
unfolding register_name
register_name_says ts o e =
    let a = bind (register_comma ts) _ o e in
    let b = bind (name_at a.0.1) _ o a.1.1 in
    let end = ended_says b.0.1 (a.0.0, b.0.0) o b.1.1 in
    let first = comma_after ts a.0 a.1.0 in
    subst (λ (z : ℕ × Name). AreWritten (Register z.0 ∷ Named z.1 ∷ []) ts) end.1
    (first.front, (a.0.1, (first.row, first.is, name_last a.0.1 b.0 b.1.0 end.0)))

pub register_address_says : (ts : Row) (o : ℕ × Number × ℕ) → register_address ts ≡ Some o → AreWritten (Register o.0 ∷ Address o.1 o.2 ∷ []) ts
unfolding register_address
register_address_says ts o e =
    let a = bind (register_comma ts) _ o e in
    let b = bind (address_at a.0.1) _ o a.1.1 in
    let end = ended_says b.0.2 (a.0.0, b.0.0, b.0.1) o b.1.1 in
    let first = comma_after ts a.0 a.1.0 in
    subst (λ (z : ℕ × Number × ℕ). AreWritten (Register z.0 ∷ Address z.1 z.2 ∷ []) ts) end.1
    (first.front, (a.0.1, (first.row, first.is, address_last a.0.1 b.0 b.1.0 end.0)))

pub one_register_says : (ts : Row) (o : ℕ) → one_register ts ≡ Some o → AreWritten (Register o ∷ []) ts
unfolding one_register
one_register_says ts o e =
    let a = bind (register_at ts) _ o e in
    let end = ended_says a.0.1 a.0.0 o a.1.1 in
    subst (λ (z : ℕ). AreWritten (Register z ∷ []) ts) end.1 (register_last ts a.0 a.1.0 end.0)

pub one_number_says : (ts : Row) (o : Number) → one_number ts ≡ Some o → AreWritten (Numbered o ∷ []) ts
unfolding one_number
one_number_says ts o e =
    let a = bind (number_at ts) _ o e in
    let end = ended_says a.0.1 a.0.0 o a.1.1 in
    subst (λ (z : Number). AreWritten (Numbered z ∷ []) ts) end.1 (number_last ts a.0 a.1.0 end.0)

pub one_target_says : (ts : Row) (o : Target Name) → one_target ts ≡ Some o → AreWritten (Towards o ∷ []) ts
unfolding one_target
one_target_says ts o e =
    let a = bind (target_at ts) _ o e in
    let end = ended_says a.0.1 a.0.0 o a.1.1 in
    subst (λ (z : Target Name). AreWritten (Towards z ∷ []) ts) end.1 (target_last ts a.0 a.1.0 end.0)

-- ---- whole forms: what is written is read

pub two_registers_reads : (ts : Row) (a b : ℕ) → AreWritten (Register a ∷ Register b ∷ []) ts → two_registers ts ≡ Some (a, b)
unfolding two_registers
two_registers_reads ts a b w = rw (w.1.1.0, comma_reads w.0 w.1.0 a w.1.1.1, register_ends w.1.0 b w.1.1.2) refl

pub three_registers_reads : (ts : Row) (a b c : ℕ) → AreWritten (Register a ∷ Register b ∷ Register c ∷ []) ts → three_registers ts ≡ Some (a, b, c)
unfolding three_registers
three_registers_reads ts a b c w =
    let v = w.1.1.2 in
    rw (w.1.1.0, comma_reads w.0 w.1.0 a w.1.1.1, v.1.1.0, comma_reads v.0 v.1.0 b v.1.1.1, register_ends v.1.0 c v.1.1.2) refl

pub two_registers_number_reads : (ts : Row) (a b : ℕ) (n : Number) → AreWritten (Register a ∷ Register b ∷ Numbered n ∷ []) ts → two_registers_number ts ≡ Some (a, b, n)
unfolding two_registers_number
two_registers_number_reads ts a b n w =
    let v = w.1.1.2 in
    rw (w.1.1.0, comma_reads w.0 w.1.0 a w.1.1.1, v.1.1.0, comma_reads v.0 v.1.0 b v.1.1.1, v.1.1.2) refl

pub two_registers_target_reads : (ts : Row) (a b : ℕ) (t : Target Name) → AreWritten (Register a ∷ Register b ∷ Towards t ∷ []) ts → two_registers_target ts ≡ Some (a, b, t)
unfolding two_registers_target
two_registers_target_reads ts a b t w =
    let v = w.1.1.2 in
    rw (w.1.1.0, comma_reads w.0 w.1.0 a w.1.1.1, v.1.1.0, comma_reads v.0 v.1.0 b v.1.1.1, target_ends v.1.0 t v.1.1.2) refl

pub register_number_reads : (ts : Row) (a : ℕ) (n : Number) → AreWritten (Register a ∷ Numbered n ∷ []) ts → register_number ts ≡ Some (a, n)
unfolding register_number
register_number_reads ts a n w = rw (w.1.1.0, comma_reads w.0 w.1.0 a w.1.1.1, w.1.1.2) refl

pub register_target_reads : (ts : Row) (a : ℕ) (t : Target Name) → AreWritten (Register a ∷ Towards t ∷ []) ts → register_and_target ts ≡ Some (a, t)
unfolding register_and_target
register_target_reads ts a t w = rw (w.1.1.0, comma_reads w.0 w.1.0 a w.1.1.1, target_ends w.1.0 t w.1.1.2) refl

pub register_name_reads : (ts : Row) (a : ℕ) (n : Name) → AreWritten (Register a ∷ Named n ∷ []) ts → register_name ts ≡ Some (a, n)
unfolding register_name
register_name_reads ts a n w = rw (w.1.1.0, comma_reads w.0 w.1.0 a w.1.1.1, w.1.1.2) refl

pub register_address_reads : (ts : Row) (a : ℕ) (n : Number) (r : ℕ) → AreWritten (Register a ∷ Address n r ∷ []) ts → register_address ts ≡ Some (a, n, r)
unfolding register_address
register_address_reads ts a n r w = rw (w.1.1.0, comma_reads w.0 w.1.0 a w.1.1.1, address_ends w.1.0 n r w.1.1.2) refl

-- a register is no address
pub two_registers_no_address : (ts : Row) (a b : ℕ) → AreWritten (Register a ∷ Register b ∷ []) ts → register_address ts ≡ None
unfolding register_address address_at
two_registers_no_address ts a b w = rw (w.1.1.0, comma_reads w.0 w.1.0 a w.1.1.1, w.1.1.2.1.0) refl

pub one_register_reads : (ts : Row) (a : ℕ) → AreWritten (Register a ∷ []) ts → one_register ts ≡ Some a
unfolding one_register
one_register_reads ts a w = rw (register_ends ts a w) refl

pub one_number_reads : (ts : Row) (n : Number) → AreWritten (Numbered n ∷ []) ts → one_number ts ≡ Some n
unfolding one_number
one_number_reads ts n w = rw w refl

pub one_target_reads : (ts : Row) (t : Target Name) → AreWritten (Towards t ∷ []) ts → one_target ts ≡ Some t
unfolding one_target
one_target_reads ts t w = rw (target_ends ts t w) refl
