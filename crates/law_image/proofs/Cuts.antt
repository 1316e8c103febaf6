-- Bytes are cut into fields in one way: what begins with one spelling and goes on begins with no other.
use Rattle.std.proofs.Common.{ℕ, ◌≡◌, List, [], ◌∷◌, ◌++◌, length, refl, sym, ap, ◌∙◌, append_assoc}
use Rattle.std.specs.List.{flat_map, AllByRecursion}
use Rattle.std.specs.Int.{w32, from_le_bytes}
use Rattle.def_image.specs.declared.RawEntry.{RawEntry}
use Rattle.def_image.specs.Raw.{RawDevice, RawShared, RawSealed, RawCode, RawCompartment, RawThread}
use Rattle.def_image.specs.Spelling.{number, count, entry_spelled, device_spelled, shared_spelled, sealed_spelled, compartment_spelled, library_spelled, thread_spelled, padding_after}
use Rattle.def_image.specs.Shapes.{IsNumber, IsRawEntry, IsDevice, IsShared, IsSealed, IsCode, IsCompartment, IsThread}
use Rattle.law_image.proofs.Rows.{number_back}

-- the front and the rest are equal
pub record Cut {A : Type 0} (x y : A) (s t : List ℕ) : Type 0 where
  pub front : x ≡ y
  pub rest : s ≡ t

pub field_cut : (a b s t : List ℕ) → length a ≡ length b → a ++ s ≡ b ++ t → Cut a b s t
field_cut [] [] s t n e = record { front = refl; rest = e }
field_cut [] (b ∷ ys) s t n e = cc
field_cut (a ∷ xs) [] s t n e = cc
field_cut (a ∷ xs) (b ∷ ys) s t n e =
    let head : a ≡ b = cc in
    let tails : xs ++ s ≡ ys ++ t = cc in
    let same : length xs ≡ length ys = cc in
    let h = field_cut xs ys s t same tails in
    let front : xs ≡ ys = h.front in
    record { front = (let g : a ∷ xs ≡ b ∷ ys = cc in g); rest = h.rest }

pub number_cut : (n m : ℕ) (s t : List ℕ) → IsNumber n → IsNumber m → number n ++ s ≡ number m ++ t → Cut n m s t
number_cut n m s t hn hm e =
    let h = field_cut (number n) (number m) s t refl e in
    record { front = sym (number_back n hn) ∙ ap (from_le_bytes w32) h.front ∙ number_back m hm; rest = h.rest }

-- a list of members, each of which is cut in one way
pub list_cut : {A : Type 0} (P : A → Type 0) (spell : A → List ℕ) → ((x y : A) (s t : List ℕ) → P x → P y → spell x ++ s ≡ spell y ++ t → Cut x y s t)
    → (xs ys : List A) (s t : List ℕ) → AllByRecursion P xs → AllByRecursion P ys → length xs ≡ length ys → flat_map spell xs ++ s ≡ flat_map spell ys ++ t → Cut xs ys s t
list_cut P spell one [] [] s t hx hy n e = record { front = refl; rest = e }
list_cut P spell one [] (y ∷ ys) s t hx hy n e = cc
list_cut P spell one (x ∷ xs) [] s t hx hy n e = cc
list_cut P spell one (x ∷ xs) (y ∷ ys) s t hx hy n e =
    let a = one x y (flat_map spell xs ++ s) (flat_map spell ys ++ t) hx.0 hy.0 (sym (append_assoc (spell x) (flat_map spell xs) s) ∙ e ∙ append_assoc (spell y) (flat_map spell ys) t) in
    let same : length xs ≡ length ys = cc in
    let b = list_cut P spell one xs ys s t hx.1 hy.1 same a.rest in
    let head : x ≡ y = a.front in
    let tail : xs ≡ ys = b.front in
    record { front = (let g : x ∷ xs ≡ y ∷ ys = cc in g); rest = b.rest }

-- ---- parts with their fields one after another

abbrev pub same_entry : RawEntry → RawEntry
same_entry x = record { row = x.row; name = x.name }

pub entry_cut : (x y : RawEntry) (s t : List ℕ) → IsRawEntry x → IsRawEntry y → entry_spelled x ++ s ≡ entry_spelled y ++ t → Cut x y s t
entry_cut x y s t hx hy e =
    let e0 = simp append_assoc at e in
    let a0 = field_cut (x.row) (y.row) (x.name ++ s) (y.name ++ t) (hx.0.size ∙ sym hy.0.size) e0 in
    let a1 = field_cut (x.name) (y.name) s t (hx.1.size ∙ sym hy.1.size) a0.rest in
    let f0 : x.row ≡ y.row = a0.front in
    let f1 : x.name ≡ y.name = a1.front in
    let all : same_entry x ≡ same_entry y = cc in
    record { front = all; rest = a1.rest }

abbrev pub same_device : RawDevice → RawDevice
same_device x = record { name = x.name; kind = x.kind; base = x.base }

pub device_cut : (x y : RawDevice) (s t : List ℕ) → IsDevice x → IsDevice y → device_spelled x ++ s ≡ device_spelled y ++ t → Cut x y s t
device_cut x y s t hx hy e =
    let e0 = simp append_assoc at e in
    let a0 = field_cut (x.name) (y.name) (number x.kind ++ (number x.base ++ s)) (number y.kind ++ (number y.base ++ t)) (hx.0.size ∙ sym hy.0.size) e0 in
    let a1 = number_cut (x.kind) (y.kind) (number x.base ++ s) (number y.base ++ t) hx.1 hy.1 a0.rest in
    let a2 = number_cut (x.base) (y.base) s t hx.2 hy.2 a1.rest in
    let f0 : x.name ≡ y.name = a0.front in
    let f1 : x.kind ≡ y.kind = a1.front in
    let f2 : x.base ≡ y.base = a2.front in
    let all : same_device x ≡ same_device y = cc in
    record { front = all; rest = a2.rest }

abbrev pub same_shared : RawShared → RawShared
same_shared x = record { name = x.name; base = x.base; length = x.length }

pub shared_cut : (x y : RawShared) (s t : List ℕ) → IsShared x → IsShared y → shared_spelled x ++ s ≡ shared_spelled y ++ t → Cut x y s t
shared_cut x y s t hx hy e =
    let e0 = simp append_assoc at e in
    let a0 = field_cut (x.name) (y.name) (number x.base ++ (number x.length ++ s)) (number y.base ++ (number y.length ++ t)) (hx.0.size ∙ sym hy.0.size) e0 in
    let a1 = number_cut (x.base) (y.base) (number x.length ++ s) (number y.length ++ t) hx.1 hy.1 a0.rest in
    let a2 = number_cut (x.length) (y.length) s t hx.2 hy.2 a1.rest in
    let f0 : x.name ≡ y.name = a0.front in
    let f1 : x.base ≡ y.base = a1.front in
    let f2 : x.length ≡ y.length = a2.front in
    let all : same_shared x ≡ same_shared y = cc in
    record { front = all; rest = a2.rest }

abbrev pub same_sealed : RawSealed → RawSealed
same_sealed x = record { name = x.name; base = x.base; length = x.length; seal = x.seal; bytes = x.bytes; padding = x.padding }

pub sealed_cut : (x y : RawSealed) (s t : List ℕ) → IsSealed x → IsSealed y → sealed_spelled x ++ s ≡ sealed_spelled y ++ t → Cut x y s t
sealed_cut x y s t hx hy e =
    let e0 = simp append_assoc at e in
    let a0 = field_cut (x.name) (y.name) (number x.base ++ (number x.length ++ (number x.seal ++ (count x.bytes ++ (x.bytes ++ (x.padding ++ s)))))) (number y.base ++ (number y.length ++ (number y.seal ++ (count y.bytes ++ (y.bytes ++ (y.padding ++ t)))))) (hx.0.size ∙ sym hy.0.size) e0 in
    let a1 = number_cut (x.base) (y.base) (number x.length ++ (number x.seal ++ (count x.bytes ++ (x.bytes ++ (x.padding ++ s))))) (number y.length ++ (number y.seal ++ (count y.bytes ++ (y.bytes ++ (y.padding ++ t))))) hx.1 hy.1 a0.rest in
    let a2 = number_cut (x.length) (y.length) (number x.seal ++ (count x.bytes ++ (x.bytes ++ (x.padding ++ s)))) (number y.seal ++ (count y.bytes ++ (y.bytes ++ (y.padding ++ t)))) hx.2 hy.2 a1.rest in
    let a3 = number_cut (x.seal) (y.seal) (count x.bytes ++ (x.bytes ++ (x.padding ++ s))) (count y.bytes ++ (y.bytes ++ (y.padding ++ t))) hx.3 hy.3 a2.rest in
    let a4 = number_cut (length x.bytes) (length y.bytes) (x.bytes ++ (x.padding ++ s)) (y.bytes ++ (y.padding ++ t)) hx.4.0 hy.4.0 a3.rest in
    let a5 = field_cut (x.bytes) (y.bytes) (x.padding ++ s) (y.padding ++ t) (a4.front) a4.rest in
    let a6 = field_cut (x.padding) (y.padding) s t (hx.5.size ∙ ap padding_after a4.front ∙ sym hy.5.size) a5.rest in
    let f0 : x.name ≡ y.name = a0.front in
    let f1 : x.base ≡ y.base = a1.front in
    let f2 : x.length ≡ y.length = a2.front in
    let f3 : x.seal ≡ y.seal = a3.front in
    let f4 : length x.bytes ≡ length y.bytes = a4.front in
    let f5 : x.bytes ≡ y.bytes = a5.front in
    let f6 : x.padding ≡ y.padding = a6.front in
    let all : same_sealed x ≡ same_sealed y = cc in
    record { front = all; rest = a6.rest }

abbrev pub same_code : RawCode → RawCode
same_code x = record { name = x.name; base = x.base; length = x.length; slots = x.slots; exports = x.exports; text = x.text }

pub library_cut : (x y : RawCode) (s t : List ℕ) → IsCode x → IsCode y → library_spelled x ++ s ≡ library_spelled y ++ t → Cut x y s t
library_cut x y s t hx hy e =
    let e0 = simp append_assoc at e in
    let a0 = field_cut (x.name) (y.name) (number x.base ++ (number x.length ++ (count x.text ++ (count x.slots ++ (count x.exports ++ (flat_map entry_spelled x.slots ++ (flat_map entry_spelled x.exports ++ (x.text ++ s)))))))) (number y.base ++ (number y.length ++ (count y.text ++ (count y.slots ++ (count y.exports ++ (flat_map entry_spelled y.slots ++ (flat_map entry_spelled y.exports ++ (y.text ++ t)))))))) (hx.name.size ∙ sym hy.name.size) e0 in
    let a1 = number_cut (x.base) (y.base) (number x.length ++ (count x.text ++ (count x.slots ++ (count x.exports ++ (flat_map entry_spelled x.slots ++ (flat_map entry_spelled x.exports ++ (x.text ++ s))))))) (number y.length ++ (count y.text ++ (count y.slots ++ (count y.exports ++ (flat_map entry_spelled y.slots ++ (flat_map entry_spelled y.exports ++ (y.text ++ t))))))) hx.base hy.base a0.rest in
    let a2 = number_cut (x.length) (y.length) (count x.text ++ (count x.slots ++ (count x.exports ++ (flat_map entry_spelled x.slots ++ (flat_map entry_spelled x.exports ++ (x.text ++ s)))))) (count y.text ++ (count y.slots ++ (count y.exports ++ (flat_map entry_spelled y.slots ++ (flat_map entry_spelled y.exports ++ (y.text ++ t)))))) hx.size hy.size a1.rest in
    let a3 = number_cut (length x.text) (length y.text) (count x.slots ++ (count x.exports ++ (flat_map entry_spelled x.slots ++ (flat_map entry_spelled x.exports ++ (x.text ++ s))))) (count y.slots ++ (count y.exports ++ (flat_map entry_spelled y.slots ++ (flat_map entry_spelled y.exports ++ (y.text ++ t))))) hx.text.0 hy.text.0 a2.rest in
    let a4 = number_cut (length x.slots) (length y.slots) (count x.exports ++ (flat_map entry_spelled x.slots ++ (flat_map entry_spelled x.exports ++ (x.text ++ s)))) (count y.exports ++ (flat_map entry_spelled y.slots ++ (flat_map entry_spelled y.exports ++ (y.text ++ t)))) hx.slots.0 hy.slots.0 a3.rest in
    let a5 = number_cut (length x.exports) (length y.exports) (flat_map entry_spelled x.slots ++ (flat_map entry_spelled x.exports ++ (x.text ++ s))) (flat_map entry_spelled y.slots ++ (flat_map entry_spelled y.exports ++ (y.text ++ t))) hx.exports.0 hy.exports.0 a4.rest in
    let a6 = list_cut IsRawEntry entry_spelled entry_cut (x.slots) (y.slots) (flat_map entry_spelled x.exports ++ (x.text ++ s)) (flat_map entry_spelled y.exports ++ (y.text ++ t)) hx.slots.1 hy.slots.1 (a4.front) a5.rest in
    let a7 = list_cut IsRawEntry entry_spelled entry_cut (x.exports) (y.exports) (x.text ++ s) (y.text ++ t) hx.exports.1 hy.exports.1 (a5.front) a6.rest in
    let a8 = field_cut (x.text) (y.text) s t (a3.front) a7.rest in
    let f0 : x.name ≡ y.name = a0.front in
    let f1 : x.base ≡ y.base = a1.front in
    let f2 : x.length ≡ y.length = a2.front in
    let f3 : length x.text ≡ length y.text = a3.front in
    let f4 : length x.slots ≡ length y.slots = a4.front in
    let f5 : length x.exports ≡ length y.exports = a5.front in
    let f6 : x.slots ≡ y.slots = a6.front in
    let f7 : x.exports ≡ y.exports = a7.front in
    let f8 : x.text ≡ y.text = a8.front in
    let all : same_code x ≡ same_code y = cc in
    record { front = all; rest = a8.rest }

abbrev pub same_compartment : RawCompartment → RawCompartment
same_compartment x = record { code = record { name = x.code.name; base = x.code.base; length = x.code.length; slots = x.code.slots; exports = x.code.exports; text = x.code.text }; table = x.table; globals = x.globals; globals_length = x.globals_length; initial = x.initial; padding = x.padding }

pub compartment_cut : (x y : RawCompartment) (s t : List ℕ) → IsCompartment x → IsCompartment y → compartment_spelled x ++ s ≡ compartment_spelled y ++ t → Cut x y s t
compartment_cut x y s t hx hy e =
    let e0 = simp append_assoc at e in
    let a0 = field_cut (x.code.name) (y.code.name) (number x.code.base ++ (number x.code.length ++ (count x.code.text ++ (number x.table ++ (number x.globals ++ (number x.globals_length ++ (count x.initial ++ (count x.code.slots ++ (count x.code.exports ++ (flat_map entry_spelled x.code.slots ++ (flat_map entry_spelled x.code.exports ++ (x.code.text ++ (x.initial ++ (x.padding ++ s)))))))))))))) (number y.code.base ++ (number y.code.length ++ (count y.code.text ++ (number y.table ++ (number y.globals ++ (number y.globals_length ++ (count y.initial ++ (count y.code.slots ++ (count y.code.exports ++ (flat_map entry_spelled y.code.slots ++ (flat_map entry_spelled y.code.exports ++ (y.code.text ++ (y.initial ++ (y.padding ++ t)))))))))))))) (hx.code.name.size ∙ sym hy.code.name.size) e0 in
    let a1 = number_cut (x.code.base) (y.code.base) (number x.code.length ++ (count x.code.text ++ (number x.table ++ (number x.globals ++ (number x.globals_length ++ (count x.initial ++ (count x.code.slots ++ (count x.code.exports ++ (flat_map entry_spelled x.code.slots ++ (flat_map entry_spelled x.code.exports ++ (x.code.text ++ (x.initial ++ (x.padding ++ s))))))))))))) (number y.code.length ++ (count y.code.text ++ (number y.table ++ (number y.globals ++ (number y.globals_length ++ (count y.initial ++ (count y.code.slots ++ (count y.code.exports ++ (flat_map entry_spelled y.code.slots ++ (flat_map entry_spelled y.code.exports ++ (y.code.text ++ (y.initial ++ (y.padding ++ t))))))))))))) hx.code.base hy.code.base a0.rest in
    let a2 = number_cut (x.code.length) (y.code.length) (count x.code.text ++ (number x.table ++ (number x.globals ++ (number x.globals_length ++ (count x.initial ++ (count x.code.slots ++ (count x.code.exports ++ (flat_map entry_spelled x.code.slots ++ (flat_map entry_spelled x.code.exports ++ (x.code.text ++ (x.initial ++ (x.padding ++ s)))))))))))) (count y.code.text ++ (number y.table ++ (number y.globals ++ (number y.globals_length ++ (count y.initial ++ (count y.code.slots ++ (count y.code.exports ++ (flat_map entry_spelled y.code.slots ++ (flat_map entry_spelled y.code.exports ++ (y.code.text ++ (y.initial ++ (y.padding ++ t)))))))))))) hx.code.size hy.code.size a1.rest in
    let a3 = number_cut (length x.code.text) (length y.code.text) (number x.table ++ (number x.globals ++ (number x.globals_length ++ (count x.initial ++ (count x.code.slots ++ (count x.code.exports ++ (flat_map entry_spelled x.code.slots ++ (flat_map entry_spelled x.code.exports ++ (x.code.text ++ (x.initial ++ (x.padding ++ s))))))))))) (number y.table ++ (number y.globals ++ (number y.globals_length ++ (count y.initial ++ (count y.code.slots ++ (count y.code.exports ++ (flat_map entry_spelled y.code.slots ++ (flat_map entry_spelled y.code.exports ++ (y.code.text ++ (y.initial ++ (y.padding ++ t))))))))))) hx.code.text.0 hy.code.text.0 a2.rest in
    let a4 = number_cut (x.table) (y.table) (number x.globals ++ (number x.globals_length ++ (count x.initial ++ (count x.code.slots ++ (count x.code.exports ++ (flat_map entry_spelled x.code.slots ++ (flat_map entry_spelled x.code.exports ++ (x.code.text ++ (x.initial ++ (x.padding ++ s)))))))))) (number y.globals ++ (number y.globals_length ++ (count y.initial ++ (count y.code.slots ++ (count y.code.exports ++ (flat_map entry_spelled y.code.slots ++ (flat_map entry_spelled y.code.exports ++ (y.code.text ++ (y.initial ++ (y.padding ++ t)))))))))) hx.table hy.table a3.rest in
    let a5 = number_cut (x.globals) (y.globals) (number x.globals_length ++ (count x.initial ++ (count x.code.slots ++ (count x.code.exports ++ (flat_map entry_spelled x.code.slots ++ (flat_map entry_spelled x.code.exports ++ (x.code.text ++ (x.initial ++ (x.padding ++ s))))))))) (number y.globals_length ++ (count y.initial ++ (count y.code.slots ++ (count y.code.exports ++ (flat_map entry_spelled y.code.slots ++ (flat_map entry_spelled y.code.exports ++ (y.code.text ++ (y.initial ++ (y.padding ++ t))))))))) hx.globals hy.globals a4.rest in
    let a6 = number_cut (x.globals_length) (y.globals_length) (count x.initial ++ (count x.code.slots ++ (count x.code.exports ++ (flat_map entry_spelled x.code.slots ++ (flat_map entry_spelled x.code.exports ++ (x.code.text ++ (x.initial ++ (x.padding ++ s)))))))) (count y.initial ++ (count y.code.slots ++ (count y.code.exports ++ (flat_map entry_spelled y.code.slots ++ (flat_map entry_spelled y.code.exports ++ (y.code.text ++ (y.initial ++ (y.padding ++ t)))))))) hx.size hy.size a5.rest in
    let a7 = number_cut (length x.initial) (length y.initial) (count x.code.slots ++ (count x.code.exports ++ (flat_map entry_spelled x.code.slots ++ (flat_map entry_spelled x.code.exports ++ (x.code.text ++ (x.initial ++ (x.padding ++ s))))))) (count y.code.slots ++ (count y.code.exports ++ (flat_map entry_spelled y.code.slots ++ (flat_map entry_spelled y.code.exports ++ (y.code.text ++ (y.initial ++ (y.padding ++ t))))))) hx.initial.0 hy.initial.0 a6.rest in
    let a8 = number_cut (length x.code.slots) (length y.code.slots) (count x.code.exports ++ (flat_map entry_spelled x.code.slots ++ (flat_map entry_spelled x.code.exports ++ (x.code.text ++ (x.initial ++ (x.padding ++ s)))))) (count y.code.exports ++ (flat_map entry_spelled y.code.slots ++ (flat_map entry_spelled y.code.exports ++ (y.code.text ++ (y.initial ++ (y.padding ++ t)))))) hx.code.slots.0 hy.code.slots.0 a7.rest in
    let a9 = number_cut (length x.code.exports) (length y.code.exports) (flat_map entry_spelled x.code.slots ++ (flat_map entry_spelled x.code.exports ++ (x.code.text ++ (x.initial ++ (x.padding ++ s))))) (flat_map entry_spelled y.code.slots ++ (flat_map entry_spelled y.code.exports ++ (y.code.text ++ (y.initial ++ (y.padding ++ t))))) hx.code.exports.0 hy.code.exports.0 a8.rest in
    let a10 = list_cut IsRawEntry entry_spelled entry_cut (x.code.slots) (y.code.slots) (flat_map entry_spelled x.code.exports ++ (x.code.text ++ (x.initial ++ (x.padding ++ s)))) (flat_map entry_spelled y.code.exports ++ (y.code.text ++ (y.initial ++ (y.padding ++ t)))) hx.code.slots.1 hy.code.slots.1 (a8.front) a9.rest in
    let a11 = list_cut IsRawEntry entry_spelled entry_cut (x.code.exports) (y.code.exports) (x.code.text ++ (x.initial ++ (x.padding ++ s))) (y.code.text ++ (y.initial ++ (y.padding ++ t))) hx.code.exports.1 hy.code.exports.1 (a9.front) a10.rest in
    let a12 = field_cut (x.code.text) (y.code.text) (x.initial ++ (x.padding ++ s)) (y.initial ++ (y.padding ++ t)) (a3.front) a11.rest in
    let a13 = field_cut (x.initial) (y.initial) (x.padding ++ s) (y.padding ++ t) (a7.front) a12.rest in
    let a14 = field_cut (x.padding) (y.padding) s t (hx.padding.size ∙ ap padding_after a7.front ∙ sym hy.padding.size) a13.rest in
    let f0 : x.code.name ≡ y.code.name = a0.front in
    let f1 : x.code.base ≡ y.code.base = a1.front in
    let f2 : x.code.length ≡ y.code.length = a2.front in
    let f3 : length x.code.text ≡ length y.code.text = a3.front in
    let f4 : x.table ≡ y.table = a4.front in
    let f5 : x.globals ≡ y.globals = a5.front in
    let f6 : x.globals_length ≡ y.globals_length = a6.front in
    let f7 : length x.initial ≡ length y.initial = a7.front in
    let f8 : length x.code.slots ≡ length y.code.slots = a8.front in
    let f9 : length x.code.exports ≡ length y.code.exports = a9.front in
    let f10 : x.code.slots ≡ y.code.slots = a10.front in
    let f11 : x.code.exports ≡ y.code.exports = a11.front in
    let f12 : x.code.text ≡ y.code.text = a12.front in
    let f13 : x.initial ≡ y.initial = a13.front in
    let f14 : x.padding ≡ y.padding = a14.front in
    let all : same_compartment x ≡ same_compartment y = cc in
    record { front = all; rest = a14.rest }

abbrev pub same_thread : RawThread → RawThread
same_thread x = record { name = x.name; stack = x.stack; stack_length = x.stack_length; compartment = x.compartment; export = x.export; priority = x.priority; frames = x.frames }

pub thread_cut : (x y : RawThread) (s t : List ℕ) → IsThread x → IsThread y → thread_spelled x ++ s ≡ thread_spelled y ++ t → Cut x y s t
thread_cut x y s t hx hy e =
    let e0 = simp append_assoc at e in
    let a0 = field_cut (x.name) (y.name) (number x.stack ++ (number x.stack_length ++ (number x.compartment ++ (number x.export ++ (number x.priority ++ (number x.frames ++ s)))))) (number y.stack ++ (number y.stack_length ++ (number y.compartment ++ (number y.export ++ (number y.priority ++ (number y.frames ++ t)))))) (hx.0.size ∙ sym hy.0.size) e0 in
    let a1 = number_cut (x.stack) (y.stack) (number x.stack_length ++ (number x.compartment ++ (number x.export ++ (number x.priority ++ (number x.frames ++ s))))) (number y.stack_length ++ (number y.compartment ++ (number y.export ++ (number y.priority ++ (number y.frames ++ t))))) hx.1 hy.1 a0.rest in
    let a2 = number_cut (x.stack_length) (y.stack_length) (number x.compartment ++ (number x.export ++ (number x.priority ++ (number x.frames ++ s)))) (number y.compartment ++ (number y.export ++ (number y.priority ++ (number y.frames ++ t)))) hx.2 hy.2 a1.rest in
    let a3 = number_cut (x.compartment) (y.compartment) (number x.export ++ (number x.priority ++ (number x.frames ++ s))) (number y.export ++ (number y.priority ++ (number y.frames ++ t))) hx.3 hy.3 a2.rest in
    let a4 = number_cut (x.export) (y.export) (number x.priority ++ (number x.frames ++ s)) (number y.priority ++ (number y.frames ++ t)) hx.4 hy.4 a3.rest in
    let a5 = number_cut (x.priority) (y.priority) (number x.frames ++ s) (number y.frames ++ t) hx.5 hy.5 a4.rest in
    let a6 = number_cut (x.frames) (y.frames) s t hx.6 hy.6 a5.rest in
    let f0 : x.name ≡ y.name = a0.front in
    let f1 : x.stack ≡ y.stack = a1.front in
    let f2 : x.stack_length ≡ y.stack_length = a2.front in
    let f3 : x.compartment ≡ y.compartment = a3.front in
    let f4 : x.export ≡ y.export = a4.front in
    let f5 : x.priority ≡ y.priority = a5.front in
    let f6 : x.frames ≡ y.frames = a6.front in
    let all : same_thread x ≡ same_thread y = cc in
    record { front = all; rest = a6.rest }
