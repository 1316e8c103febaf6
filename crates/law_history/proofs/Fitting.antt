-- What is sealed as a token is of a whole object, with its row, after each move of a routine.
use Rattle.std.proofs.Common.{ℕ, ◌≡◌, ◌<◌, inl, inr, true, false, List, Option, refl, sym, ◌∙◌, subst, arith}
use Rattle.def_words.specs.declared.Cap.{Cap}
use Rattle.def_words.specs.Capability.{integer}
use Rattle.def_words.specs.Seals.{cap_seal}
use Rattle.def_machine.specs.Platform.{Platform}
use Rattle.def_machine.specs.Image.{Image}
use Rattle.def_machine.specs.State.{State, Object, Token, thread, register}
use Rattle.def_machine.specs.Objects.{Any, placed_among, quarantine}
use Rattle.def_machine.specs.Heap.{object_cap, with_object}
use Rattle.def_confined.specs.Confined.{Confined}
use Rattle.def_confined.specs.Partitioned.{Partitioned}
use Rattle.def_confined.specs.Facts.{Facts}
use Rattle.def_step.specs.Instructions.{executed}
use Rattle.def_step.specs.Quotas.{let_go, without_row}
use Rattle.def_step.specs.Routines.{answers}
use Rattle.def_step.specs.Tokens.{row_among, with_row, sealed_token, opened_token}
use Rattle.def_safety.specs.Everywhere.{Everywhere}
use Rattle.def_safety.specs.Tokened.{HasNumber, IsWhole, TokenFits}
use Rattle.law_moves.proofs.Quarantines.{quarantine_any}
use Rattle.law_history.proofs.Changes.{answers_has, let_go_has}
use Rattle.law_history.proofs.Events.{Regular, executed_has}
use Rattle.law_moves.proofs.Rows.{any_map, among_any}
use Rattle.law_history.proofs.Everywheres.{each_there}
use Rattle.law_history.proofs.Keying.{among_row, left_row}
use Rattle.law_history.proofs.Made.{Fresh, fresh, sealed_whole, opened_seal}
use Rattle.law_history.proofs.Passing.{fits_kinds, fits_pass}
use Rattle.law_moves.proofs.Objects.{each_unit}

abbrev pub AllFit : Image → State → Type 0
AllFit i z = Everywhere (TokenFits i z.objects z.tokens) z

pub moved : (i : Image) (objects others : List Object) (tokens rows : List Token) → ((c : Cap) → Any (IsWhole tokens c) objects → Any (IsWhole rows c) others) → (s : State) → Everywhere (TokenFits i objects tokens) s → Everywhere (TokenFits i others rows) s
moved i objects others tokens rows f s h = each_there (TokenFits i objects tokens) (TokenFits i others rows) (λ c fits tagged is. ((fits tagged is).0, f c (fits tagged is).1)) s h

no_seal : (n k : ℕ) (G : Type 0) → n ≡ k → k < 11 → n ≡ 11 → G
no_seal n k G is small token = absurd (omega (arith, is, token, small))

handed_fit : (i : Image) (s : State) (t : ℕ) (r : Object) → Fresh i s r → AllFit i s → AllFit i (answers (with_object s r) t (object_cap r))
handed_fit i s t r f h =
    let more : Everywhere (TokenFits i (placed_among r s.objects) s.tokens) s =
    moved i s.objects (placed_among r s.objects) s.tokens s.tokens (λ c any. among_any (IsWhole s.tokens c) r s.objects (inr any)) s h in
    answers_has i (TokenFits i (placed_among r s.objects) s.tokens) (TokenFits i (placed_among r s.objects) s.tokens) (fits_pass i (placed_among r s.objects) s.tokens)
    (with_object s r) t (object_cap r) (record { granules = more.granules; threads = more.threads })
    (λ tagged is. no_seal (cap_seal (object_cap r)) 0 _ (f.cap tagged).unsealed (omega arith) is)

abbrev row_for : Object → Option ℕ → Token
row_for r key = record { number = r.number; key = key }

sealed_fit : (i : Image) (s : State) (t : ℕ) (key : Option ℕ) (r : Object) → Fresh i s r → AllFit i s → AllFit i (answers (with_object (with_row s r key) r) t (sealed_token r))
sealed_fit i s t key r f h =
    let more : Everywhere (TokenFits i (placed_among r s.objects) (row_among (row_for r key) s.tokens)) s =
    moved i s.objects (placed_among r s.objects) s.tokens (row_among (row_for r key) s.tokens)
    (λ c any. among_any (IsWhole (row_among (row_for r key) s.tokens) c) r s.objects (inr (any_map (IsWhole s.tokens c) (IsWhole (row_among (row_for r key) s.tokens) c) s.objects
    (λ q w. record { covers = w.covers; low = w.low; high = w.high; row = λ live. among_row (HasNumber q.number) (row_for r key) s.tokens (inr (w.row live)) }) any))) s h in
    answers_has i (TokenFits i (placed_among r s.objects) (row_among (row_for r key) s.tokens)) (TokenFits i (placed_among r s.objects) (row_among (row_for r key) s.tokens)) (fits_pass i (placed_among r s.objects) (row_among (row_for r key) s.tokens))
    (with_object (with_row s r key) r) t (sealed_token r) (record { granules = more.granules; threads = more.threads })
    (λ tagged is.
    let w = sealed_whole i s r (row_among (row_for r key) s.tokens) f (among_row (HasNumber r.number) (row_for r key) s.tokens (inl refl)) tagged in
    (w.heap, among_any (IsWhole (row_among (row_for r key) s.tokens) (sealed_token r)) r s.objects (inl w.whole)))

gone_fit : (i : Image) (s : State) (t : ℕ) (r : Object) → AllFit i s → AllFit i (answers (let_go i s t r) t (integer 0))
gone_fit i s t r h =
    let left : Everywhere (TokenFits i s.objects s.tokens) (let_go i s t r) = let_go_has (TokenFits i s.objects s.tokens) (TokenFits i s.objects s.tokens) (fits_pass i s.objects s.tokens).widens i s t r h in
    answers_has i (TokenFits i (quarantine r.number s.objects) (without_row r.number s.tokens)) (TokenFits i (quarantine r.number s.objects) (without_row r.number s.tokens)) (fits_pass i (quarantine r.number s.objects) (without_row r.number s.tokens))
    (let_go i s t r) t (integer 0)
    (moved i s.objects (quarantine r.number s.objects) s.tokens (without_row r.number s.tokens) gone (let_go i s t r) left)
    (λ tagged is. absurd (let clash : false ≡ true = tagged in cc))
  where
    gone : (c : Cap) → Any (IsWhole s.tokens c) s.objects → Any (IsWhole (without_row r.number s.tokens) c) (quarantine r.number s.objects)
    gone c any = quarantine_any (λ z. Unit {0}) (IsWhole s.tokens c) (IsWhole (without_row r.number s.tokens) c) r.number s.objects
        (λ q u w other. record { covers = w.covers; low = w.low; high = w.high; row = λ live. left_row (HasNumber q.number) r.number s.tokens (λ k is same. other (sym is ∙ same)) (w.row live) })
        (λ q u w same. record {
          covers = record { number = w.covers.number; quota = w.covers.quota; low = w.covers.low; high = w.covers.high };
          low = w.low;
          high = w.high;
          row = λ live. absurd (let clash : false ≡ true = live in cc);
        })
        (each_unit s.objects) any

opened_fit : (i : Image) (s : State) (t : ℕ) → AllFit i s → AllFit i (answers s t (opened_token (register (thread s t) 11)))
opened_fit i s t h = answers_has i (TokenFits i s.objects s.tokens) (TokenFits i s.objects s.tokens) (fits_pass i s.objects s.tokens) s t (opened_token (register (thread s t) 11)) h
    (λ tagged is. no_seal (cap_seal (opened_token (register (thread s t) 11))) 0 _ (opened_seal (register (thread s t) 11)) (omega arith) is)

pub regular_fit : (i : Image) (s z : State) → Regular (TokenFits i s.objects s.tokens) s z → AllFit i z
regular_fit i s z r =
    subst (λ os. Everywhere (TokenFits i os z.tokens) z) (sym r.objects) (subst (λ ks. Everywhere (TokenFits i s.objects ks) z) (sym r.tokens) r.has)

pub executed_fit : (b : Platform) (s : State) (t : ℕ) → Partitioned b.image → Facts b.image → Confined b.image s → AllFit b.image s → AllFit b.image (executed b s t).0
executed_fit b s t parts facts held h =
    executed_has b (TokenFits b.image s.objects s.tokens) (TokenFits b.image s.objects s.tokens) (fits_pass b.image s.objects s.tokens) (fits_kinds b.image s.objects s.tokens) s t parts facts held h (λ z. AllFit b.image z) (λ z r. regular_fit b.image s z r) (record {
      hands = λ quota size r is. handed_fit b.image s t r (fresh b.image s t size r parts facts held quota is) h;
      frees = λ r is. gone_fit b.image s t r h;
      gives = λ key r is. gone_fit b.image s t r h;
      seals = λ quota size key r is named. sealed_fit b.image s t key r (fresh b.image s t size r parts facts held quota is) h;
      opens = λ may k r key is. opened_fit b.image s t h;
    })
