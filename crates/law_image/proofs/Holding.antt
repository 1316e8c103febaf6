-- Where no limit of an image's fields fails, none fails in any part of the walk: list by list, and of an owner piece by
-- piece.
use Rattle.std.proofs.Common.{ℕ, ◌≡◌, ◌+◌, false, List, [], ◌++◌, None}
use Rattle.def_image.specs.declared.format.TheConstants.{DEVICE, SHARED, THREAD, COMPARTMENT_HEAD, LIBRARY_HEAD}
use Rattle.def_image.specs.Raw.{RawCode, RawCompartment, RawImage}
use Rattle.def_image.specs.Sizes.{sealed_size, compartment_size, library_size, devices_at, shared_at, sealed_at, compartments_at, libraries_at, threads_at}
use Rattle.def_image.specs.Checks.{first, walked}
use Rattle.def_image.specs.Limits.{limit_checks, header_limits, name_checks, device_limits, shared_limits, sealed_limits, code_limits, own_numbers, own_slots_limits, own_gates, dirty_padding, compartment_limits_by, compartment_limits, library_numbers, slots_limits, library_gate_checks, library_limits_by, library_limits, thread_limits}
use Rattle.law_image.proofs.Passing.{left_none, right_none}

-- ---- the whole

pub record Limited (r : RawImage) : Type 0 where
  pub header : first (header_limits r) ≡ None
  pub devices : first (walked device_limits (λ d. DEVICE) (devices_at r) [] r.devices) ≡ None
  pub shared : first (walked shared_limits (λ s. SHARED) (shared_at r) [] r.shared) ≡ None
  pub sealed : first (walked sealed_limits sealed_size (sealed_at r) [] r.sealed) ≡ None
  pub compartments : first (walked compartment_limits compartment_size (compartments_at r) [] r.compartments) ≡ None
  pub libraries : first (walked (library_limits r) library_size (libraries_at r) [] r.libraries) ≡ None
  pub threads : first (walked (thread_limits r) (λ t. THREAD) (threads_at r) [] r.threads) ≡ None

pub limited : (r : RawImage) → first (limit_checks r) ≡ None → Limited r
unfolding limit_checks
limited r e =
    let h = header_limits r in
    let d = walked device_limits (λ d. DEVICE) (devices_at r) [] r.devices in
    let s = walked shared_limits (λ s. SHARED) (shared_at r) [] r.shared in
    let x = walked sealed_limits sealed_size (sealed_at r) [] r.sealed in
    let c = walked compartment_limits compartment_size (compartments_at r) [] r.compartments in
    let l = walked (library_limits r) library_size (libraries_at r) [] r.libraries in
    let t = walked (thread_limits r) (λ t. THREAD) (threads_at r) [] r.threads in
    let e1 = left_none (h ++ d ++ s ++ x ++ c ++ l) t e in
    let e2 = left_none (h ++ d ++ s ++ x ++ c) l e1 in
    let e3 = left_none (h ++ d ++ s ++ x) c e2 in
    let e4 = left_none (h ++ d ++ s) x e3 in
    let e5 = left_none (h ++ d) s e4 in
    record {
      header = left_none h d e5;
      devices = right_none h d e5;
      shared = right_none (h ++ d) s e4;
      sealed = right_none (h ++ d ++ s) x e3;
      compartments = right_none (h ++ d ++ s ++ x) c e2;
      libraries = right_none (h ++ d ++ s ++ x ++ c) l e1;
      threads = right_none (h ++ d ++ s ++ x ++ c ++ l) t e;
    }

-- ---- an owner

pub record CompartmentHolds (entry at : ℕ) (seen : List (List ℕ)) (c : RawCompartment) : Type 0 where
  pub name : first (name_checks at false seen c.code.name) ≡ None
  pub code : first (code_limits at c.code) ≡ None
  pub numbers : first (own_numbers at c) ≡ None
  pub slots : first (own_slots_limits (at + COMPARTMENT_HEAD) c.code) ≡ None
  pub gates : first (own_gates entry at c.code) ≡ None
  pub padding : first (dirty_padding at c) ≡ None

pub compartment_holds : (entry at : ℕ) (seen : List (List ℕ)) (c : RawCompartment) → first (compartment_limits_by entry at seen c) ≡ None → CompartmentHolds entry at seen c
unfolding compartment_limits_by
compartment_holds entry at seen c e =
    let n = name_checks at false seen c.code.name in
    let k = code_limits at c.code in
    let m = own_numbers at c in
    let s = own_slots_limits (at + COMPARTMENT_HEAD) c.code in
    let x = own_gates entry at c.code in
    let z = dirty_padding at c in
    let e1 = left_none (n ++ k ++ m ++ s ++ x) z e in
    let e2 = left_none (n ++ k ++ m ++ s) x e1 in
    let e3 = left_none (n ++ k ++ m) s e2 in
    let e4 = left_none (n ++ k) m e3 in
    record {
      name = left_none n k e4;
      code = right_none n k e4;
      numbers = right_none (n ++ k) m e3;
      slots = right_none (n ++ k ++ m) s e2;
      gates = right_none (n ++ k ++ m ++ s) x e1;
      padding = right_none (n ++ k ++ m ++ s ++ x) z e;
    }

pub record LibraryHolds (entry at : ℕ) (seen : List (List ℕ)) (c : RawCode) : Type 0 where
  pub name : first (name_checks at false seen c.name) ≡ None
  pub code : first (code_limits at c) ≡ None
  pub numbers : first (library_numbers at c) ≡ None
  pub slots : first (slots_limits (at + LIBRARY_HEAD) c) ≡ None
  pub gates : first (library_gate_checks entry at c) ≡ None

pub library_holds : (entry at : ℕ) (seen : List (List ℕ)) (c : RawCode) → first (library_limits_by entry at seen c) ≡ None → LibraryHolds entry at seen c
unfolding library_limits_by
library_holds entry at seen c e =
    let n = name_checks at false seen c.name in
    let k = code_limits at c in
    let m = library_numbers at c in
    let s = slots_limits (at + LIBRARY_HEAD) c in
    let x = library_gate_checks entry at c in
    let e1 = left_none (n ++ k ++ m ++ s) x e in
    let e2 = left_none (n ++ k ++ m) s e1 in
    let e3 = left_none (n ++ k) m e2 in
    record {
      name = left_none n k e3;
      code = right_none n k e3;
      numbers = right_none (n ++ k) m e2;
      slots = right_none (n ++ k ++ m) s e1;
      gates = right_none (n ++ k ++ m ++ s) x e;
    }
