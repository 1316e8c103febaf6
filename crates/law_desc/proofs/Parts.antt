-- What the tests of one place say of the part that stands there.
use Rattle.std.proofs.Common.{ℕ, ◌≡◌, ◌+◌, ◌/◌, ◌%◌, ◌^◌, ◌≤◌, ◌<◌, ◌==◌, ◌&&◌, Bool, true, false, nat_le, nat_eq, List, [], ◌∷◌, length, Option, Some, None, sym, subst, arith}
use Rattle.std.specs.Prelude.{codes, option_and_then, unwrap_or, is_some}
use Rattle.std.specs.List.{AllByRecursion, list_all}
use Rattle.std.proofs.lemmas.List.{length-map}
use Rattle.std.proofs.lemmas.Bool.{leb-true}
use Rattle.std.specs.Int.{is_in_range}
use Rattle.def_profile.specs.declared.limits.TheConstants.{RAM_END, MOST_BYTES}
use Rattle.serde_json.specs.Data.{Data, null}
use Rattle.serde_json.specs.Find.{get, as_str}
use Rattle.law_lists.proofs.Alls.{all_mapped}
use Rattle.law_lists.proofs.Tests.{both_left, both_right}
use Rattle.def_profile.specs.Versions.{most_ram, most_threads, least_sweep, most_sweep}
use Rattle.def_image.specs.Profile.{last_version}
use Rattle.def_image.specs.Sound.{IsWithin}
use Rattle.def_desc.specs.declared.Ram.{Ram}
use Rattle.def_desc.specs.declared.faults.PartWord.{PartWord}
use Rattle.def_desc.specs.declared.faults.PartWord.TheVariants as part
use Rattle.def_desc.specs.declared.tables.Shape.TheVariants as shape
use Rattle.def_desc.specs.Members.{natural_of, list_at, member_at, text_at, text_value, text_or, number_or}
use Rattle.def_desc.specs.Tables.{Member, row, members_of, form_names}
use Rattle.def_desc.specs.Walk.{place, spot, ram_spots}
use Rattle.def_desc.specs.Kinds.{has_member, has_more, is_kind_there, has_one_form, has_its_rights}
use Rattle.def_desc.specs.Limits.{keeps_member, keeps_there, keeps_file, keeps_version, keeps_ram, version_of, number_or_zero, characters}
use Rattle.def_desc.specs.References.{target_of, import_of, rights_fit, target_fits, target_resolves, target_is_served, resolves, is_served}
use Rattle.def_desc.specs.Reading.{cut, code_of_object, hexadecimal_word, ram_of, device_of, shared_of, sealed_of, quota_of, export_of, limport_of, thread_of, compartment_of_object, library_of, description_of}
use Rattle.def_desc.specs.Rows.{Target}
use Rattle.def_desc.specs.Lawful.{IsLawfulCode, IsLawfulShared, IsLawfulSealed, IsLawfulExport, IsLawfulImport, IsLawfulThread, IsLent}
use Rattle.law_desc.proofs.Members.{within_is, read_or, needed, given_or, needed_multiple, cut_small, cut_below, few_rows, word_small, bytes_small, bytes_half}
use Rattle.law_desc.proofs.Referring.{posture_set, resolved, lent_there, call_there, counted}
use Rattle.law_desc.proofs.Walked.{Good}

-- each member of a part, of its kind and within its limits
pub record MemberGood (x : Data) (m : Member) : Type 0 where
  pub there : has_member x m ≡ true
  pub kept : keeps_member x m ≡ true

members_good : (x : Data) (ms : List Member) → list_all (has_member x) ms ≡ true → list_all (keeps_member x) ms ≡ true → AllByRecursion (MemberGood x) ms
members_good x [] h k = tt
members_good x (m ∷ ms) h k = (
  record { there = both_left (has_member x m) (list_all (has_member x) ms) h; kept = both_left (keeps_member x m) (list_all (keeps_member x) ms) k },
  members_good x ms (both_right (has_member x m) (list_all (has_member x) ms) h) (both_right (keeps_member x m) (list_all (keeps_member x) ms) k),
)

-- the table part of what is asked of a part, and what no table says
pub record PartGood (p : PartWord) (x : Data) (more kept : Bool) : Type 0 where
  pub each : AllByRecursion (MemberGood x) (members_of p)
  pub more_there : more ≡ true
  pub more_kept : kept ≡ true

pub part_good : (p : PartWord) (x : Data) (more kept : Bool) → (list_all (has_member x) (members_of p) && more) ≡ true → (list_all (keeps_member x) (members_of p) && kept) ≡ true → PartGood p x more kept
part_good p x more kept h k = record {
  each = members_good x (members_of p) (both_left (list_all (has_member x) (members_of p)) more h) (both_left (list_all (keeps_member x) (members_of p)) kept k);
  more_there = both_right (list_all (has_member x) (members_of p)) more h;
  more_kept = both_right (list_all (keeps_member x) (members_of p)) kept k;
}

-- ---- objects

pub shared_lawful : (d x : Data) (i : ℕ) → Good d (spot (place part.Shared i 0) d x) → IsLawfulShared (shared_of x)
unfolding members_of
shared_lawful d x i g =
    let m = (part_good part.Shared x true true g.kinds g.limits).each in
    needed (codes "size") 1 MOST_BYTES (get (codes "size") x) (omega arith) m.1.0.there m.1.0.kept

sealed_few : (o : Option Data) → is_kind_there (row (codes "bytes") (shape.Bytes 1 MOST_BYTES) true) o ≡ true → keeps_there (row (codes "bytes") (shape.Bytes 1 MOST_BYTES) true) o ≡ true
    → IsWithin 1 MOST_BYTES (length (unwrap_or (option_and_then as_str o) []) / 2)
sealed_few None there kept = absurd (let no : false ≡ true = there in cc)
sealed_few (Some v) there kept = within_is 1 MOST_BYTES (length (text_value v) / 2) kept

pub sealed_lawful : (d x : Data) (i : ℕ) → Good d (spot (place part.Sealed i 0) d x) → IsLawfulSealed (sealed_of x)
unfolding members_of
sealed_lawful d x i g =
    let m = (part_good part.Sealed x true true g.kinds g.limits).each in
    let text = text_or (codes "bytes") x in
    record {
      seal = needed (codes "type") 13 15 (get (codes "type") x) (omega arith) m.1.0.there m.1.0.kept;
      few = subst (IsWithin 1 MOST_BYTES) (sym (bytes_half text)) (sealed_few (get (codes "bytes") x) m.1.1.0.there m.1.1.0.kept);
      bytes = bytes_small text;
    }

pub device_small : (x : Data) → (device_of x).base < 2 ^ 32
device_small x = cut_below (number_or 0 (codes "base") x)

-- ---- code

pub code_lawful : (o : Option Data) → is_kind_there (row (codes "code") shape.Code true) o ≡ true → keeps_there (row (codes "code") shape.Code true) o ≡ true
    → IsLawfulCode (code_of_object (unwrap_or o null))
code_lawful None there kept = absurd (let no : false ≡ true = there in cc)
code_lawful (Some c) there kept =
    let ws = list_at (codes "words") c in
    let few = nat_le (length ws) 262144 in
    let file = keeps_file (text_at (codes "file") c) in
    record {
      words = all_mapped (λ w. w < 2 ^ 32) (λ w. hexadecimal_word (text_value w)) ws (all_words ws);
      few = subst (λ n. n ≤ 262144) (sym (length-map ws (λ w. hexadecimal_word (text_value w)))) (leb-true (length ws) 262144 (both_left few file kept));
      file = λ name is. within_is 1 255 (characters name) (subst (λ z. keeps_file z ≡ true) is (both_right few file kept));
    }
  where
    all_words : (ws : List Data) → AllByRecursion (λ w. hexadecimal_word (text_value w) < 2 ^ 32) ws
    all_words [] = tt
    all_words (w ∷ ws) = (word_small (text_value w), all_words ws)

-- ---- what stands inside a compartment or library

pub export_lawful : (d owner x : Data) (i j : ℕ) → Good d (spot (place part.Export i j) owner x) → IsLawfulExport (export_of x)
unfolding members_of
export_lawful d owner x i j g =
    let m = (part_good part.Export x (has_more part.Export (spot (place part.Export i j) owner x)) true g.kinds g.limits).each in
    record {
      posture = posture_set (text_or (codes "posture") x);
      args = (given_or (codes "args") 0 6 6 (get (codes "args") x) (omega arith) (omega arith, omega arith) m.1.1.1.0.there m.1.1.1.0.kept).1;
      stack = (given_or (codes "stack") 0 32752 0 (get (codes "stack") x) (omega arith) (omega arith, omega arith) m.1.1.1.1.0.there m.1.1.1.1.0.kept).1;
    }

pub quota_lawful : (d owner x : Data) (i j : ℕ) → Good d (spot (place part.Quota i j) owner x) → (quota_of x).limit ≤ 2147483647
unfolding members_of
quota_lawful d owner x i j g =
    let m = (part_good part.Quota x true true g.kinds g.limits).each in
    (needed (codes "limit") 0 2147483647 (get (codes "limit") x) (omega arith) m.1.0.there m.1.0.kept).1

pub key_lawful : (d owner x : Data) (i j : ℕ) → Good d (spot (place part.Key i j) owner x) → IsWithin 13 15 (number_or_zero x)
unfolding members_of
key_lawful d owner x i j g = within_is 13 15 (number_or_zero x) g.limits

target_good : (d : Data) (o : Option Target) (rights : List ℕ) (t : Target) → o ≡ Some t → target_resolves d o ≡ true → target_fits o rights ≡ true → target_is_served o ≡ true
    → (resolves d t.form t.name ≡ true) × (rights_fit t.form rights ≡ true) × (is_served t.form t.name ≡ true)
target_good d o rights t is a b c =
    (subst (λ z. target_resolves d z ≡ true) is a, subst (λ z. target_fits z rights ≡ true) is b, subst (λ z. target_is_served z ≡ true) is c)

pub import_lawful : (d owner x : Data) (i j : ℕ) → Good d (spot (place part.Import i j) owner x) → IsLawfulImport (description_of d) (import_of x)
unfolding members_of form_names
import_lawful d owner x i j g =
    let one = has_one_form x in
    let own = has_its_rights x in
    let p = part_good part.Import x (one && own) true g.kinds g.limits in
    let m = p.each in
    let t = counted (get (codes "device") x) (get (codes "shared") x) (get (codes "sealed") x) (get (codes "call") x) (get (codes "service") x) (get (codes "library") x)
    m.1.0.there m.1.1.0.there m.1.1.1.0.there m.1.1.1.1.0.there m.1.1.1.1.1.0.there m.1.1.1.1.1.1.0.there (both_left one own p.more_there) in
    let good = target_good d (target_of (import_of x)) (text_or (codes "rights") x) t.target t.named g.refers g.rights g.served in
    record {
      target = t.target;
      named = t.named;
      resolves = resolved d t.target.form t.target.name good.0 good.2;
      rights = good.1;
    }

pub limport_lawful : (d owner x : Data) (i j : ℕ) → Good d (spot (place part.Limport i j) owner x) → IsLent (description_of d) (limport_of x).library
limport_lawful d owner x i j g = lent_there d (text_or (codes "library") x) g.refers

pub thread_lawful : (d x : Data) (i : ℕ) → Good d (spot (place part.Thread i 0) d x) → IsLawfulThread (description_of d) (thread_of x)
unfolding members_of
thread_lawful d x i g =
    let m = (part_good part.Thread x true true g.kinds g.limits).each in
    let stack = needed_multiple (codes "stack") 256 32752 (get (codes "stack") x) (omega arith) m.1.1.1.0.there m.1.1.1.0.kept in
    record {
      entry = call_there d (text_or (codes "entry") x) g.refers;
      priority = (needed (codes "priority") 0 15 (get (codes "priority") x) (omega arith) m.1.1.0.there m.1.1.0.kept).1;
      stack = stack.0;
      even = stack.1;
      frames = needed (codes "frames") 1 96 (get (codes "frames") x) (omega arith) m.1.1.1.1.0.there m.1.1.1.1.0.kept;
    }

-- ---- the firmware and RAM

pub record FirmwareGood (d : Data) : Type 0 where
  pub version : IsWithin 1 last_version (description_of d).version
  pub sweep : IsWithin (least_sweep (description_of d).version) (most_sweep (description_of d).version) (description_of d).sweep
  pub quantum : IsWithin 1 1000000 (description_of d).quantum
  pub devices : length (description_of d).devices ≤ 16
  pub shared : length (description_of d).shared ≤ 64
  pub sealed : length (description_of d).sealed ≤ 64
  pub compartments : length (description_of d).compartments ≤ 64
  pub libraries : length (description_of d).libraries ≤ 32
  pub threads : length (description_of d).threads ≤ most_threads (description_of d).version

-- the version is read whole, and so is the sweep rate
uncut : (low high default : ℕ) (o : Option Data) (needed : Bool) (name : List ℕ) → high < 2 ^ 32 → default ≤ high
    → is_kind_there (row name (shape.Number low high) needed) o ≡ true → keeps_there (row name (shape.Number low high) needed) o ≡ true
    → read_or default o ≡ unwrap_or (option_and_then natural_of o) default
uncut low high default None needed name small le there kept = cut_small default (omega (arith, le, small))
uncut low high default (Some v) needed name small le there kept = by (natural_of v) there kept
  where
    by : (n : Option ℕ) → is_some n ≡ true → is_in_range low high (unwrap_or n 0) ≡ true → cut (unwrap_or n default) ≡ unwrap_or n default
    by None t k = absurd (let no : false ≡ true = t in cc)
    by (Some n) t k = let w = (within_is low high n k).1 in cut_small n (omega (arith, w, small))

pub firmware_good : (d : Data) → Good d (spot (place part.Firmware 0 0) d d) → FirmwareGood d
unfolding members_of
firmware_good d g =
    let p = part_good part.Firmware d true (keeps_version (version_of d) d) g.kinds g.limits in
    let m = p.each in
    let version = given_or (codes "version") 1 2 1 (get (codes "version") d) (omega arith) (omega arith, omega arith) m.1.0.there m.1.0.kept in
    let same : (description_of d).version ≡ version_of d = uncut 1 2 1 (get (codes "version") d) false (codes "version") (omega arith) (omega arith) m.1.0.there m.1.0.kept in
    let rate : (description_of d).sweep ≡ number_or 64 (codes "sweep") d = uncut 1 65536 64 (get (codes "sweep") d) false (codes "sweep") (omega arith) (omega arith) m.1.1.0.there m.1.1.0.kept in
    let a = nat_le (version_of d) last_version in
    let b = is_in_range (least_sweep (version_of d)) (most_sweep (version_of d)) (number_or 64 (codes "sweep") d) in
    let c = nat_le (length (list_at (codes "threads") d)) (most_threads (version_of d)) in
    let ab = both_left (a && b) c p.more_kept in
    let threads = leb-true (length (list_at (codes "threads") d)) (most_threads (version_of d)) (both_right (a && b) c p.more_kept) in
    record {
      version = (version.0, subst (λ v. v ≤ last_version) (sym same) (leb-true (version_of d) last_version (both_left a b ab)));
      sweep = rw (same, rate) (within_is (least_sweep (version_of d)) (most_sweep (version_of d)) (number_or 64 (codes "sweep") d) (both_right a b ab));
      quantum = given_or (codes "quantum") 1 1000000 100 (get (codes "quantum") d) (omega arith) (omega arith, omega arith) m.1.1.1.1.0.there m.1.1.1.1.0.kept;
      devices = few_rows device_of (codes "devices") 16 false (get (codes "devices") d) m.1.1.1.1.1.0.kept;
      shared = few_rows shared_of (codes "shared") 64 false (get (codes "shared") d) m.1.1.1.1.1.1.0.kept;
      sealed = few_rows sealed_of (codes "sealed") 64 false (get (codes "sealed") d) m.1.1.1.1.1.1.1.0.kept;
      compartments = few_rows compartment_of_object (codes "compartments") 64 false (get (codes "compartments") d) m.1.1.1.1.1.1.1.1.0.kept;
      libraries = few_rows library_of (codes "libraries") 32 false (get (codes "libraries") d) m.1.1.1.1.1.1.1.1.1.0.kept;
      threads = rw (length-map (list_at (codes "threads") d) thread_of, same) threads;
    }

pub record RamGood (version : ℕ) (r : Ram) : Type 0 where
  pub base : r.base % 16 ≡ 0
  pub size : r.size % 16 ≡ 0
  pub sized : IsWithin 256 (most_ram version) r.size
  pub end : r.base + r.size ≤ RAM_END

ram_there : (d : Data) (o : Option Data) → is_kind_there (row (codes "ram") shape.Object true) o ≡ true → AllByRecursion (Good d) (ram_spots d o)
    → Good d (spot (place part.Ram 0 0) d (unwrap_or o null))
ram_there d None there h = absurd (let no : false ≡ true = there in cc)
ram_there d (Some x) there h = h.0

ram_by : (d x : Data) → Good d (spot (place part.Ram 0 0) d x) → RamGood (version_of d) (ram_of x)
unfolding members_of
ram_by d x g =
    let p = part_good part.Ram x true (keeps_ram (version_of d) x) g.kinds g.limits in
    let m = p.each in
    let base = needed_multiple (codes "base") 0 RAM_END (get (codes "base") x) (omega arith) m.0.there m.0.kept in
    let size = needed_multiple (codes "size") 256 67108864 (get (codes "size") x) (omega arith) m.1.0.there m.1.0.kept in
    let b_is : (ram_of x).base ≡ number_or 0 (codes "base") x = uncut_multiple RAM_END (get (codes "base") x) (codes "base") 0 (omega arith) m.0.there m.0.kept in
    let s_is : (ram_of x).size ≡ number_or 0 (codes "size") x = uncut_multiple 67108864 (get (codes "size") x) (codes "size") 256 (omega arith) m.1.0.there m.1.0.kept in
    let a = nat_le (number_or 0 (codes "size") x) (most_ram (version_of d)) in
    let b = nat_le (number_or 0 (codes "base") x + number_or 0 (codes "size") x) RAM_END in
    record {
      base = base.1;
      size = size.1;
      sized = (size.0.0, subst (λ n. n ≤ most_ram (version_of d)) (sym s_is) (leb-true (number_or 0 (codes "size") x) (most_ram (version_of d)) (both_left a b p.more_kept)));
      end = rw (b_is, s_is) (leb-true (number_or 0 (codes "base") x + number_or 0 (codes "size") x) RAM_END (both_right a b p.more_kept));
    }
  where
    uncut_multiple : (high : ℕ) (o : Option Data) (name : List ℕ) (low : ℕ) → high < 2 ^ 32
        → is_kind_there (row name (shape.Multiple low high) true) o ≡ true → keeps_there (row name (shape.Multiple low high) true) o ≡ true
        → read_or 0 o ≡ unwrap_or (option_and_then natural_of o) 0
    uncut_multiple high None name low small there kept = absurd (let no : false ≡ true = there in cc)
    uncut_multiple high (Some v) name low small there kept = by (natural_of v) there kept
      where
        by : (n : Option ℕ) → is_some n ≡ true → (is_in_range low high (unwrap_or n 0) && (unwrap_or n 0 % 16 == 0)) ≡ true → cut (unwrap_or n 0) ≡ unwrap_or n 0
        by None t k = absurd (let no : false ≡ true = t in cc)
        by (Some n) t k = let w = (within_is low high n (both_left (is_in_range low high n) (nat_eq (n % 16) 0) k)).1 in cut_small n (omega (arith, w, small))

pub ram_good : (d : Data) → Good d (spot (place part.Firmware 0 0) d d) → AllByRecursion (Good d) (ram_spots d (get (codes "ram") d))
    → RamGood (version_of d) (description_of d).ram
unfolding members_of
ram_good d g h =
    let m = (part_good part.Firmware d true (keeps_version (version_of d) d) g.kinds g.limits).each in
    ram_by d (member_at (codes "ram") d) (ram_there d (get (codes "ram") d) m.1.1.1.0.there h)

pub version_is : (d : Data) → Good d (spot (place part.Firmware 0 0) d d) → (description_of d).version ≡ version_of d
unfolding members_of
version_is d g =
    let m = (part_good part.Firmware d true (keeps_version (version_of d) d) g.kinds g.limits).each in
    uncut 1 2 1 (get (codes "version") d) false (codes "version") (omega arith) (omega arith) m.1.0.there m.1.0.kept
