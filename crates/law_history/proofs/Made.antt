-- A new object's capability, as it is and sealed.
use Rattle.std.proofs.Common.{ℕ, ◌≡◌, ◌+◌, ◌<◌, inr, ◌==◌, true, List, refl, sym, ap, ◌∙◌, subst, arith}
use Rattle.std.proofs.lemmas.Bool.{eqb-true, and_parts}
use Rattle.ct_entry.specs.declared.rows.Kind.TheVariants as kind
use Rattle.def_words.specs.declared.Cap.{Cap}
use Rattle.def_words.specs.declared.Shadow.{Shadow}
use Rattle.def_words.specs.Authority.{cap_base, cap_top}
use Rattle.def_words.specs.Capability.{word_sealed}
use Rattle.def_words.specs.Seals.{cap_seal, seal_type}
use Rattle.law_words.proofs.Narrowing.{shadow_kept}
use Rattle.law_words.proofs.Sealed.{WithField, with_field}
use Rattle.def_reach.specs.Roots.{Listing}
use Rattle.def_machine.specs.Image.{Image, root}
use Rattle.def_machine.specs.State.{State, Object, Token, thread, register}
use Rattle.def_machine.specs.Objects.{Any}
use Rattle.def_machine.specs.Heap.{object_cap, length_for, new_object}
use Rattle.def_confined.specs.Capabilities.{Rooted, heap_cap}
use Rattle.def_confined.specs.Changes.{NewObject}
use Rattle.def_confined.specs.Confined.{Confined}
use Rattle.def_confined.specs.Made.{IsObjectCap}
use Rattle.def_confined.specs.Partitioned.{Partitioned}
use Rattle.def_confined.specs.Facts.{Facts}
use Rattle.def_step.specs.Quotas.{Made, allocation, is_quota_cap, quota_in}
use Rattle.def_step.specs.Tokens.{sealed_token, opened_token}
use Rattle.def_safety.specs.Tokened.{HasNumber, IsWhole}
use Rattle.law_moves.proofs.JumpsMoves.{in_rooted}
use Rattle.law_moves.proofs.Makes.{object_made}
use Rattle.law_moves.proofs.Found.{place_found}
use Rattle.law_events.proofs.Handing.{long_enough}
use Rattle.law_moves.proofs.Derives.{of_heap}
use Rattle.law_routines.proofs.Objects.{made_says}
use Rattle.law_routines.proofs.Places as places
use Rattle.law_events.proofs.Sealing.{object_not_code}

-- the object that an allocation made, and its capability
pub record Fresh (i : Image) (s : State) (r : Object) : Type 0 where
  pub number : r.number ≡ s.next
  pub live : r.live ≡ true
  pub some : 0 < r.length
  pub cap : (object_cap r).tag ≡ true → IsObjectCap i r (object_cap r)

pub fresh : (i : Image) (s : State) (t size : ℕ) (r : Object) → Partitioned i → Facts i → Confined i s → is_quota_cap (register (thread s t) 10) ≡ true → allocation i s (quota_in s t) size ≡ Made r → Fresh i s r
fresh i s t size r parts facts held quota is =
    let both = and_parts (register (thread s t) 10).tag (cap_seal (register (thread s t) 10) == 10) quota in
    let sealed : cap_seal (register (thread s t) 10) ≡ 10 = eqb-true (cap_seal (register (thread s t) 10)) 10 both.1 in
    let here : Rooted i (register (thread s t) 10) = in_rooted i s.objects t (thread s t).frames (register (thread s t) 10) (held.registers t 10) both.0 in
    let listed : (root i (quota_in s t)).origin ≡ Listing kind.Quota = facts.quotas (quota_in s t) (sym (here.boot (inr (inr (inr (inr sealed))))).seal ∙ sealed) in
    let m = made_says i s (quota_in s t) size r is in
    let some = long_enough size m.some in
    let place = places.place_found i s.objects (length_for size) m.base some m.place in
    let limit = m.limit in
    let new : NewObject i s (new_object s (quota_in s t) size m.base) = place_found i s (quota_in s t) size m.base held place.fits (omega (arith, limit)) in
    subst (Fresh i s) (sym m.is) (record {
      number = refl;
      live = refl;
      some = some;
      cap = λ there. object_made i (s.next + 1) (new_object s (quota_in s t) size m.base) parts listed new.fits some there;
    })

-- sealed as a token, it is of the whole object
pub record SealedWhole (i : Image) (r : Object) (tokens : List Token) : Type 0 where
  pub sealed : cap_seal (sealed_token r) ≡ 11
  pub heap : heap_cap i (sealed_token r) ≡ true
  pub whole : IsWhole tokens (sealed_token r) r

pub sealed_whole : (i : Image) (s : State) (r : Object) (tokens : List Token) → Fresh i s r → Any (HasNumber r.number) tokens → (sealed_token r).tag ≡ true → SealedWhole i r tokens
sealed_whole i s r tokens f row tagged =
    let o : IsObjectCap i r (object_cap r) = f.cap tagged in
    let w : WithField (object_cap r) (sealed_token r) 3 = with_field (object_cap r) (sealed_token r) 3 (omega arith) refl in
    let shadows : (sealed_token r).shadow ≡ (object_cap r).shadow = shadow_kept (object_cap r).tag (word_sealed (object_cap r) 3) (object_cap r).shadow tagged in
    let low : cap_base (sealed_token r) ≡ r.base = ap (λ b. b.base) w.bounds ∙ o.low in
    let high : cap_top (sealed_token r) ≡ r.base + r.length = ap (λ b. b.top) w.bounds ∙ o.high in
    let P : Shadow → Type 0 = λ z. of_heap i z ≡ true in
    record {
      sealed = w.kind ∙ ap (λ b. seal_type b 3) (object_not_code i r (object_cap r) o);
      heap = subst P (sym shadows) o.heap;
      whole = record {
        covers = record {
          number = sym (ap (λ (z : Shadow). z.source) shadows ∙ o.source);
          quota = sym (ap (λ (z : Shadow). z.root) shadows ∙ o.from);
          low = omega (arith, low);
          high = omega (arith, high);
        };
        low = low;
        high = high;
        row = λ live. row;
      };
    }

pub sealed_type : (i : Image) (s : State) (r : Object) → Fresh i s r → (sealed_token r).tag ≡ true → cap_seal (sealed_token r) ≡ 11
sealed_type i s r f tagged =
    let w : WithField (object_cap r) (sealed_token r) 3 = with_field (object_cap r) (sealed_token r) 3 (omega arith) refl in
    w.kind ∙ ap (λ b. seal_type b 3) (object_not_code i r (object_cap r) (f.cap tagged))

-- an opened token is unsealed, and all else of it stays
pub opened_seal : (c : Cap) → cap_seal (opened_token c) ≡ 0
opened_seal c = (with_field c (opened_token c) 0 (omega arith) refl).kind

pub record OpenedAs (c d : Cap) : Type 0 where
  pub low : cap_base d ≡ cap_base c
  pub high : cap_top d ≡ cap_top c
  pub shadows : d.shadow ≡ c.shadow

pub opened_as : (c : Cap) → c.tag ≡ true → OpenedAs c (opened_token c)
opened_as c tagged =
    let w : WithField c (opened_token c) 0 = with_field c (opened_token c) 0 (omega arith) refl in
    record { low = ap (λ b. b.base) w.bounds; high = ap (λ b. b.top) w.bounds; shadows = shadow_kept c.tag (word_sealed c 0) c.shadow tagged }
