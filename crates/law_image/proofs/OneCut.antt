-- The bytes of an image are cut into fields in one way.
use Rattle.std.proofs.Common.{ℕ, ◌≡◌, Bool, true, false, cond, nat_eq, List, [], ◌++◌, length, refl, sym, ap, ◌∙◌, subst, append_assoc, inl, inr}
use Rattle.std.specs.List.{flat_map}
use Rattle.std.proofs.lemmas.List.{append-nil}
use Rattle.law_lists.proofs.Tests.{eq_tells}
use Rattle.def_image.specs.Raw.{RawImage}
use Rattle.def_image.specs.Spelling.{number, count, device_spelled, shared_spelled, sealed_spelled, compartment_spelled, library_spelled, thread_spelled, magic, sweep_spelled, spelled}
use Rattle.def_image.specs.Shapes.{IsNumber, IsDevice, IsShared, IsSealed, IsCode, IsCompartment, IsThread, IsShaped}
use Rattle.def_image.specs.Reading.{OneCut}
use Rattle.def_image.specs.Answers.{EndsWhole}
use Rattle.law_image.proofs.Cuts.{Cut, field_cut, number_cut, list_cut, device_cut, shared_cut, sealed_cut, compartment_cut, library_cut, thread_cut}

-- the sweep rate is a field from version 2 on
sweep_cut : (v w a b : ℕ) (s t : List ℕ) → v ≡ w → (v ≡ 1 → a ≡ 64) → (w ≡ 1 → b ≡ 64) → IsNumber a → IsNumber b → cond (nat_eq v 1) [] (number a) ++ s ≡ cond (nat_eq w 1) [] (number b) ++ t → Cut a b s t
sweep_cut v w a b s t same ra rb ha hb e = elim (eq_tells v 1) [
  | inl h ↦ by true h.0 (λ _. ra h.1 ∙ sym (rb (sym same ∙ h.1))) e2
  | inr h ↦ by false h.0 (λ c. absurd (let clash : false ≡ true = c in cc)) e2
]
  where
    e2 : cond (nat_eq v 1) [] (number a) ++ s ≡ cond (nat_eq v 1) [] (number b) ++ t
    e2 = subst (λ n. cond (nat_eq v 1) [] (number a) ++ s ≡ cond (nat_eq n 1) [] (number b) ++ t) (sym same) e

    by : (c : Bool) → nat_eq v 1 ≡ c → (c ≡ true → a ≡ b) → cond (nat_eq v 1) [] (number a) ++ s ≡ cond (nat_eq v 1) [] (number b) ++ t → Cut a b s t
    by true is rates e = record { front = rates refl; rest = subst (λ c. cond c [] (number a) ++ s ≡ cond c [] (number b) ++ t) is e }
    by false is rates e = number_cut a b s t ha hb (subst (λ c. cond c [] (number a) ++ s ≡ cond c [] (number b) ++ t) is e)

abbrev again : RawImage → RawImage
again x = record { version = x.version; quantum = x.quantum; ram = x.ram; size = x.size; trusted = x.trusted; heap = x.heap; sweep = x.sweep; name = x.name; devices = x.devices; shared = x.shared; sealed = x.sealed; compartments = x.compartments; libraries = x.libraries; threads = x.threads }

pub whole_cut : (x y : RawImage) (s t : List ℕ) → IsShaped x → IsShaped y → spelled x ++ s ≡ spelled y ++ t → Cut x y s t
unfolding spelled
whole_cut x y s t hx hy e =
    let e0 = simp append_assoc at e in
    let a0 = field_cut magic magic (number x.version ++ (count x.devices ++ (count x.shared ++ (count x.sealed ++ (count x.compartments ++ (count x.libraries ++ (count x.threads ++ (number x.quantum ++ (number x.ram ++ (number x.size ++ (number x.trusted ++ (number x.heap ++ (sweep_spelled x ++ (x.name ++ (flat_map device_spelled x.devices ++ (flat_map shared_spelled x.shared ++ (flat_map sealed_spelled x.sealed ++ (flat_map compartment_spelled x.compartments ++ (flat_map library_spelled x.libraries ++ (flat_map thread_spelled x.threads ++ (s))))))))))))))))))))) (number y.version ++ (count y.devices ++ (count y.shared ++ (count y.sealed ++ (count y.compartments ++ (count y.libraries ++ (count y.threads ++ (number y.quantum ++ (number y.ram ++ (number y.size ++ (number y.trusted ++ (number y.heap ++ (sweep_spelled y ++ (y.name ++ (flat_map device_spelled y.devices ++ (flat_map shared_spelled y.shared ++ (flat_map sealed_spelled y.sealed ++ (flat_map compartment_spelled y.compartments ++ (flat_map library_spelled y.libraries ++ (flat_map thread_spelled y.threads ++ (t))))))))))))))))))))) refl e0 in
    let a1 = number_cut (x.version) (y.version) (count x.devices ++ (count x.shared ++ (count x.sealed ++ (count x.compartments ++ (count x.libraries ++ (count x.threads ++ (number x.quantum ++ (number x.ram ++ (number x.size ++ (number x.trusted ++ (number x.heap ++ (sweep_spelled x ++ (x.name ++ (flat_map device_spelled x.devices ++ (flat_map shared_spelled x.shared ++ (flat_map sealed_spelled x.sealed ++ (flat_map compartment_spelled x.compartments ++ (flat_map library_spelled x.libraries ++ (flat_map thread_spelled x.threads ++ (s)))))))))))))))))))) (count y.devices ++ (count y.shared ++ (count y.sealed ++ (count y.compartments ++ (count y.libraries ++ (count y.threads ++ (number y.quantum ++ (number y.ram ++ (number y.size ++ (number y.trusted ++ (number y.heap ++ (sweep_spelled y ++ (y.name ++ (flat_map device_spelled y.devices ++ (flat_map shared_spelled y.shared ++ (flat_map sealed_spelled y.sealed ++ (flat_map compartment_spelled y.compartments ++ (flat_map library_spelled y.libraries ++ (flat_map thread_spelled y.threads ++ (t)))))))))))))))))))) hx.version hy.version a0.rest in
    let a2 = number_cut (length x.devices) (length y.devices) (count x.shared ++ (count x.sealed ++ (count x.compartments ++ (count x.libraries ++ (count x.threads ++ (number x.quantum ++ (number x.ram ++ (number x.size ++ (number x.trusted ++ (number x.heap ++ (sweep_spelled x ++ (x.name ++ (flat_map device_spelled x.devices ++ (flat_map shared_spelled x.shared ++ (flat_map sealed_spelled x.sealed ++ (flat_map compartment_spelled x.compartments ++ (flat_map library_spelled x.libraries ++ (flat_map thread_spelled x.threads ++ (s))))))))))))))))))) (count y.shared ++ (count y.sealed ++ (count y.compartments ++ (count y.libraries ++ (count y.threads ++ (number y.quantum ++ (number y.ram ++ (number y.size ++ (number y.trusted ++ (number y.heap ++ (sweep_spelled y ++ (y.name ++ (flat_map device_spelled y.devices ++ (flat_map shared_spelled y.shared ++ (flat_map sealed_spelled y.sealed ++ (flat_map compartment_spelled y.compartments ++ (flat_map library_spelled y.libraries ++ (flat_map thread_spelled y.threads ++ (t))))))))))))))))))) hx.devices.0 hy.devices.0 a1.rest in
    let a3 = number_cut (length x.shared) (length y.shared) (count x.sealed ++ (count x.compartments ++ (count x.libraries ++ (count x.threads ++ (number x.quantum ++ (number x.ram ++ (number x.size ++ (number x.trusted ++ (number x.heap ++ (sweep_spelled x ++ (x.name ++ (flat_map device_spelled x.devices ++ (flat_map shared_spelled x.shared ++ (flat_map sealed_spelled x.sealed ++ (flat_map compartment_spelled x.compartments ++ (flat_map library_spelled x.libraries ++ (flat_map thread_spelled x.threads ++ (s)))))))))))))))))) (count y.sealed ++ (count y.compartments ++ (count y.libraries ++ (count y.threads ++ (number y.quantum ++ (number y.ram ++ (number y.size ++ (number y.trusted ++ (number y.heap ++ (sweep_spelled y ++ (y.name ++ (flat_map device_spelled y.devices ++ (flat_map shared_spelled y.shared ++ (flat_map sealed_spelled y.sealed ++ (flat_map compartment_spelled y.compartments ++ (flat_map library_spelled y.libraries ++ (flat_map thread_spelled y.threads ++ (t)))))))))))))))))) hx.shared.0 hy.shared.0 a2.rest in
    let a4 = number_cut (length x.sealed) (length y.sealed) (count x.compartments ++ (count x.libraries ++ (count x.threads ++ (number x.quantum ++ (number x.ram ++ (number x.size ++ (number x.trusted ++ (number x.heap ++ (sweep_spelled x ++ (x.name ++ (flat_map device_spelled x.devices ++ (flat_map shared_spelled x.shared ++ (flat_map sealed_spelled x.sealed ++ (flat_map compartment_spelled x.compartments ++ (flat_map library_spelled x.libraries ++ (flat_map thread_spelled x.threads ++ (s))))))))))))))))) (count y.compartments ++ (count y.libraries ++ (count y.threads ++ (number y.quantum ++ (number y.ram ++ (number y.size ++ (number y.trusted ++ (number y.heap ++ (sweep_spelled y ++ (y.name ++ (flat_map device_spelled y.devices ++ (flat_map shared_spelled y.shared ++ (flat_map sealed_spelled y.sealed ++ (flat_map compartment_spelled y.compartments ++ (flat_map library_spelled y.libraries ++ (flat_map thread_spelled y.threads ++ (t))))))))))))))))) hx.sealed.0 hy.sealed.0 a3.rest in
    let a5 = number_cut (length x.compartments) (length y.compartments) (count x.libraries ++ (count x.threads ++ (number x.quantum ++ (number x.ram ++ (number x.size ++ (number x.trusted ++ (number x.heap ++ (sweep_spelled x ++ (x.name ++ (flat_map device_spelled x.devices ++ (flat_map shared_spelled x.shared ++ (flat_map sealed_spelled x.sealed ++ (flat_map compartment_spelled x.compartments ++ (flat_map library_spelled x.libraries ++ (flat_map thread_spelled x.threads ++ (s)))))))))))))))) (count y.libraries ++ (count y.threads ++ (number y.quantum ++ (number y.ram ++ (number y.size ++ (number y.trusted ++ (number y.heap ++ (sweep_spelled y ++ (y.name ++ (flat_map device_spelled y.devices ++ (flat_map shared_spelled y.shared ++ (flat_map sealed_spelled y.sealed ++ (flat_map compartment_spelled y.compartments ++ (flat_map library_spelled y.libraries ++ (flat_map thread_spelled y.threads ++ (t)))))))))))))))) hx.compartments.0 hy.compartments.0 a4.rest in
    let a6 = number_cut (length x.libraries) (length y.libraries) (count x.threads ++ (number x.quantum ++ (number x.ram ++ (number x.size ++ (number x.trusted ++ (number x.heap ++ (sweep_spelled x ++ (x.name ++ (flat_map device_spelled x.devices ++ (flat_map shared_spelled x.shared ++ (flat_map sealed_spelled x.sealed ++ (flat_map compartment_spelled x.compartments ++ (flat_map library_spelled x.libraries ++ (flat_map thread_spelled x.threads ++ (s))))))))))))))) (count y.threads ++ (number y.quantum ++ (number y.ram ++ (number y.size ++ (number y.trusted ++ (number y.heap ++ (sweep_spelled y ++ (y.name ++ (flat_map device_spelled y.devices ++ (flat_map shared_spelled y.shared ++ (flat_map sealed_spelled y.sealed ++ (flat_map compartment_spelled y.compartments ++ (flat_map library_spelled y.libraries ++ (flat_map thread_spelled y.threads ++ (t))))))))))))))) hx.libraries.0 hy.libraries.0 a5.rest in
    let a7 = number_cut (length x.threads) (length y.threads) (number x.quantum ++ (number x.ram ++ (number x.size ++ (number x.trusted ++ (number x.heap ++ (sweep_spelled x ++ (x.name ++ (flat_map device_spelled x.devices ++ (flat_map shared_spelled x.shared ++ (flat_map sealed_spelled x.sealed ++ (flat_map compartment_spelled x.compartments ++ (flat_map library_spelled x.libraries ++ (flat_map thread_spelled x.threads ++ (s)))))))))))))) (number y.quantum ++ (number y.ram ++ (number y.size ++ (number y.trusted ++ (number y.heap ++ (sweep_spelled y ++ (y.name ++ (flat_map device_spelled y.devices ++ (flat_map shared_spelled y.shared ++ (flat_map sealed_spelled y.sealed ++ (flat_map compartment_spelled y.compartments ++ (flat_map library_spelled y.libraries ++ (flat_map thread_spelled y.threads ++ (t)))))))))))))) hx.threads.0 hy.threads.0 a6.rest in
    let a8 = number_cut (x.quantum) (y.quantum) (number x.ram ++ (number x.size ++ (number x.trusted ++ (number x.heap ++ (sweep_spelled x ++ (x.name ++ (flat_map device_spelled x.devices ++ (flat_map shared_spelled x.shared ++ (flat_map sealed_spelled x.sealed ++ (flat_map compartment_spelled x.compartments ++ (flat_map library_spelled x.libraries ++ (flat_map thread_spelled x.threads ++ (s))))))))))))) (number y.ram ++ (number y.size ++ (number y.trusted ++ (number y.heap ++ (sweep_spelled y ++ (y.name ++ (flat_map device_spelled y.devices ++ (flat_map shared_spelled y.shared ++ (flat_map sealed_spelled y.sealed ++ (flat_map compartment_spelled y.compartments ++ (flat_map library_spelled y.libraries ++ (flat_map thread_spelled y.threads ++ (t))))))))))))) hx.quantum hy.quantum a7.rest in
    let a9 = number_cut (x.ram) (y.ram) (number x.size ++ (number x.trusted ++ (number x.heap ++ (sweep_spelled x ++ (x.name ++ (flat_map device_spelled x.devices ++ (flat_map shared_spelled x.shared ++ (flat_map sealed_spelled x.sealed ++ (flat_map compartment_spelled x.compartments ++ (flat_map library_spelled x.libraries ++ (flat_map thread_spelled x.threads ++ (s)))))))))))) (number y.size ++ (number y.trusted ++ (number y.heap ++ (sweep_spelled y ++ (y.name ++ (flat_map device_spelled y.devices ++ (flat_map shared_spelled y.shared ++ (flat_map sealed_spelled y.sealed ++ (flat_map compartment_spelled y.compartments ++ (flat_map library_spelled y.libraries ++ (flat_map thread_spelled y.threads ++ (t)))))))))))) hx.ram hy.ram a8.rest in
    let a10 = number_cut (x.size) (y.size) (number x.trusted ++ (number x.heap ++ (sweep_spelled x ++ (x.name ++ (flat_map device_spelled x.devices ++ (flat_map shared_spelled x.shared ++ (flat_map sealed_spelled x.sealed ++ (flat_map compartment_spelled x.compartments ++ (flat_map library_spelled x.libraries ++ (flat_map thread_spelled x.threads ++ (s))))))))))) (number y.trusted ++ (number y.heap ++ (sweep_spelled y ++ (y.name ++ (flat_map device_spelled y.devices ++ (flat_map shared_spelled y.shared ++ (flat_map sealed_spelled y.sealed ++ (flat_map compartment_spelled y.compartments ++ (flat_map library_spelled y.libraries ++ (flat_map thread_spelled y.threads ++ (t))))))))))) hx.size hy.size a9.rest in
    let a11 = number_cut (x.trusted) (y.trusted) (number x.heap ++ (sweep_spelled x ++ (x.name ++ (flat_map device_spelled x.devices ++ (flat_map shared_spelled x.shared ++ (flat_map sealed_spelled x.sealed ++ (flat_map compartment_spelled x.compartments ++ (flat_map library_spelled x.libraries ++ (flat_map thread_spelled x.threads ++ (s)))))))))) (number y.heap ++ (sweep_spelled y ++ (y.name ++ (flat_map device_spelled y.devices ++ (flat_map shared_spelled y.shared ++ (flat_map sealed_spelled y.sealed ++ (flat_map compartment_spelled y.compartments ++ (flat_map library_spelled y.libraries ++ (flat_map thread_spelled y.threads ++ (t)))))))))) hx.trusted hy.trusted a10.rest in
    let a12 = number_cut (x.heap) (y.heap) (sweep_spelled x ++ (x.name ++ (flat_map device_spelled x.devices ++ (flat_map shared_spelled x.shared ++ (flat_map sealed_spelled x.sealed ++ (flat_map compartment_spelled x.compartments ++ (flat_map library_spelled x.libraries ++ (flat_map thread_spelled x.threads ++ (s))))))))) (sweep_spelled y ++ (y.name ++ (flat_map device_spelled y.devices ++ (flat_map shared_spelled y.shared ++ (flat_map sealed_spelled y.sealed ++ (flat_map compartment_spelled y.compartments ++ (flat_map library_spelled y.libraries ++ (flat_map thread_spelled y.threads ++ (t))))))))) hx.heap hy.heap a11.rest in
    let a13 = sweep_cut x.version y.version x.sweep y.sweep (x.name ++ (flat_map device_spelled x.devices ++ (flat_map shared_spelled x.shared ++ (flat_map sealed_spelled x.sealed ++ (flat_map compartment_spelled x.compartments ++ (flat_map library_spelled x.libraries ++ (flat_map thread_spelled x.threads ++ (s)))))))) (y.name ++ (flat_map device_spelled y.devices ++ (flat_map shared_spelled y.shared ++ (flat_map sealed_spelled y.sealed ++ (flat_map compartment_spelled y.compartments ++ (flat_map library_spelled y.libraries ++ (flat_map thread_spelled y.threads ++ (t)))))))) a1.front hx.rate hy.rate hx.sweep hy.sweep a12.rest in
    let a14 = field_cut (x.name) (y.name) (flat_map device_spelled x.devices ++ (flat_map shared_spelled x.shared ++ (flat_map sealed_spelled x.sealed ++ (flat_map compartment_spelled x.compartments ++ (flat_map library_spelled x.libraries ++ (flat_map thread_spelled x.threads ++ (s))))))) (flat_map device_spelled y.devices ++ (flat_map shared_spelled y.shared ++ (flat_map sealed_spelled y.sealed ++ (flat_map compartment_spelled y.compartments ++ (flat_map library_spelled y.libraries ++ (flat_map thread_spelled y.threads ++ (t))))))) (hx.name.size ∙ sym hy.name.size) a13.rest in
    let a15 = list_cut IsDevice device_spelled device_cut (x.devices) (y.devices) (flat_map shared_spelled x.shared ++ (flat_map sealed_spelled x.sealed ++ (flat_map compartment_spelled x.compartments ++ (flat_map library_spelled x.libraries ++ (flat_map thread_spelled x.threads ++ (s)))))) (flat_map shared_spelled y.shared ++ (flat_map sealed_spelled y.sealed ++ (flat_map compartment_spelled y.compartments ++ (flat_map library_spelled y.libraries ++ (flat_map thread_spelled y.threads ++ (t)))))) hx.devices.1 hy.devices.1 a2.front a14.rest in
    let a16 = list_cut IsShared shared_spelled shared_cut (x.shared) (y.shared) (flat_map sealed_spelled x.sealed ++ (flat_map compartment_spelled x.compartments ++ (flat_map library_spelled x.libraries ++ (flat_map thread_spelled x.threads ++ (s))))) (flat_map sealed_spelled y.sealed ++ (flat_map compartment_spelled y.compartments ++ (flat_map library_spelled y.libraries ++ (flat_map thread_spelled y.threads ++ (t))))) hx.shared.1 hy.shared.1 a3.front a15.rest in
    let a17 = list_cut IsSealed sealed_spelled sealed_cut (x.sealed) (y.sealed) (flat_map compartment_spelled x.compartments ++ (flat_map library_spelled x.libraries ++ (flat_map thread_spelled x.threads ++ (s)))) (flat_map compartment_spelled y.compartments ++ (flat_map library_spelled y.libraries ++ (flat_map thread_spelled y.threads ++ (t)))) hx.sealed.1 hy.sealed.1 a4.front a16.rest in
    let a18 = list_cut IsCompartment compartment_spelled compartment_cut (x.compartments) (y.compartments) (flat_map library_spelled x.libraries ++ (flat_map thread_spelled x.threads ++ (s))) (flat_map library_spelled y.libraries ++ (flat_map thread_spelled y.threads ++ (t))) hx.compartments.1 hy.compartments.1 a5.front a17.rest in
    let a19 = list_cut IsCode library_spelled library_cut (x.libraries) (y.libraries) (flat_map thread_spelled x.threads ++ (s)) (flat_map thread_spelled y.threads ++ (t)) hx.libraries.1 hy.libraries.1 a6.front a18.rest in
    let a20 = list_cut IsThread thread_spelled thread_cut (x.threads) (y.threads) s t hx.threads.1 hy.threads.1 a7.front a19.rest in
    let f1 : x.version ≡ y.version = a1.front in
    let f8 : x.quantum ≡ y.quantum = a8.front in
    let f9 : x.ram ≡ y.ram = a9.front in
    let f10 : x.size ≡ y.size = a10.front in
    let f11 : x.trusted ≡ y.trusted = a11.front in
    let f12 : x.heap ≡ y.heap = a12.front in
    let f13 : x.sweep ≡ y.sweep = a13.front in
    let f14 : x.name ≡ y.name = a14.front in
    let f15 : x.devices ≡ y.devices = a15.front in
    let f16 : x.shared ≡ y.shared = a16.front in
    let f17 : x.sealed ≡ y.sealed = a17.front in
    let f18 : x.compartments ≡ y.compartments = a18.front in
    let f19 : x.libraries ≡ y.libraries = a19.front in
    let f20 : x.threads ≡ y.threads = a20.front in
    let all : again x ≡ again y = cc in
    record { front = all; rest = a20.rest }

pub one_cut : OneCut
one_cut bytes r q hr hq = (whole_cut r q [] [] hr.0 hq.0 (ap (λ (l : List ℕ). l ++ []) (sym hr.1 ∙ hq.1))).front

pub ends_whole : EndsWhole
ends_whole r q more hr hq e = (whole_cut r q more [] hr hq (e ∙ sym (append-nil (spelled q)))).rest
