use Rattle.std.proofs.Common.{◌≡◌, ℕ, List, [], ◌∷◌, false, map, None, Bor, refl, ap, ◌∙◌}
use Rattle.std.specs.Prelude
use Rattle.json.specs.declared.token.Token.{Token as RustToken}
use Rattle.json.specs.declared.token.Token.TheVariants.{BeginObject, EndObject, BeginArray, EndArray, Key, String, Number, Bool, Null, Bad}
use Rattle.json.specs.Reads.{opens, token_of}
use Rattle.json.specs.Token.{Token}
use Rattle.json.proofs.Grammar.{value_is}
use Rattle.serde_json.specs.Data as datum
use Rattle.serde_json.specs.Read.{converted, of_json}
use Rattle.ct_json.specs.Rows as rows
use Rattle.ct_json.specs.Rows.{row}
use Rattle.ct_json.specs.Standing.{value_read}
use Rattle.ct_json.proofs.Reading.{on_ok, one_node, number_node, number_refused}
use Rattle.ct_json.proofs.Standing.{AreValue-null, AreValue-boolean, AreValue-text}
use Rattle.ct_json.proofs.read.read_scalar.Goals as goal

no_scalar : (t : RustToken) → ¬ (t ≡ Null) → ((b : Prelude.Bool) → ¬ (t ≡ Bool b))
    → ((s : Bor (List ℕ)) → ¬ (t ≡ Number s)) → ((s : Bor (List ℕ)) → ¬ (t ≡ String s))
    → opens (token_of t ∷ []) ≡ false → (depth : ℕ) (rest : List Token) → value_read depth (token_of t ∷ rest) ≡ None
no_scalar BeginObject n b m s e depth rest = absurd (cc)
no_scalar EndObject n b m s e depth rest = ap (converted of_json) (value_is depth _)
no_scalar BeginArray n b m s e depth rest = absurd (cc)
no_scalar EndArray n b m s e depth rest = ap (converted of_json) (value_is depth _)
no_scalar (Key k) n b m s e depth rest = ap (converted of_json) (value_is depth _)
no_scalar (String x) n b m s e depth rest = absurd (s x refl)
no_scalar (Number x) n b m s e depth rest = absurd (m x refl)
no_scalar (Bool x) n b m s e depth rest = absurd (b x refl)
no_scalar Null n b m s e depth rest = absurd (n refl)
no_scalar Bad n b m s e depth rest = ap (converted of_json) (value_is depth _)

pub returns-in-Null-clause-ok : goal.returns-in-Null-clause-ok
returns-in-Null-clause-ok c = on_ok c.push.result _ _ (λ added. λ depth rest.
    one_node rows.null datum.null AreValue-null _ _ _ rest added
    (ap (λ t. value_read depth (token_of t ∷ rest)) c.in-Null.is
    ∙ ap (converted of_json) (value_is depth _))) c.push.ensures.ok

pub returns-in-Bool-clause-ok : goal.returns-in-Bool-clause-ok
returns-in-Bool-clause-ok c = on_ok c.push-in-Bool.result _ _ (λ added. λ depth rest.
    one_node (rows.boolean c.in-Bool.b) (datum.boolean c.in-Bool.b) (AreValue-boolean c.in-Bool.b) _ _ _ rest added
    (ap (λ t. value_read depth (token_of t ∷ rest)) c.in-Bool.is
    ∙ ap (converted of_json) (value_is depth _))) c.push-in-Bool.ensures.ok

pub returns-in-String-clause-ok : goal.returns-in-String-clause-ok
returns-in-String-clause-ok c = on_ok c.push-in-String.result _ _ (λ added. λ depth rest.
    one_node (rows.text c.in-String.text.now) (datum.string c.in-String.text.now)
    (AreValue-text c.in-String.text.now) _ _ _ rest added
    (ap (λ t. value_read depth (token_of t ∷ rest)) c.in-String.is
    ∙ ap (converted of_json) (value_is depth _))) c.push-in-String.ensures.ok

pub returns-in-Number-clause-ok : goal.returns-in-Number-clause-ok
returns-in-Number-clause-ok c = on_ok c.read_number.result _ _ (λ added. λ depth rest. rw c.in-Number.is
    (number_node depth c.in-Number.text.now (map row c.args.nodes.now.items) (map row c.read_number.new.nodes.items)
    rest added.0 added.1)) c.read_number.ensures.ok

pub returns-in-Number-clause-err : goal.returns-in-Number-clause-err
returns-in-Number-clause-err c refused going depth rest =
    ap (λ t. value_read depth (token_of t ∷ rest)) c.in-Number.is
    ∙ number_refused depth c.in-Number.text.now rest (c.read_number.ensures.err refused)

pub returns-in_default : goal.returns-in_default
returns-in_default c = record {
  ok = tt;
  err =
      λ _. no_scalar c.args.token c.in_default.not-Null c.in_default.not-Bool c.in_default.not-Number
      c.in_default.not-String;
}
