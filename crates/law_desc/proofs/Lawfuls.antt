-- The rows of a value without a fault are lawful.
use Rattle.std.proofs.Common.{ℕ, ◌≡◌, ◌≤◌, List, [], ◌∷◌, map, true, false, None, sym, subst, arith}
use Rattle.std.specs.Prelude.{codes}
use Rattle.std.specs.List.{AllByRecursion}
use Rattle.law_lists.proofs.Alls.{all_both, all_so, all_mapped}
use Rattle.def_profile.specs.declared.limits.TheConstants.{MOST_BYTES}
use Rattle.serde_json.specs.Data.{Data}
use Rattle.serde_json.specs.Find.{get}
use Rattle.def_profile.specs.Versions.{most_ram}
use Rattle.def_image.specs.Sound.{IsWithin}
use Rattle.def_desc.specs.declared.faults.PartWord.TheVariants as part
use Rattle.def_desc.specs.Members.{list_at}
use Rattle.def_desc.specs.Tables.{members_of}
use Rattle.def_desc.specs.Limits.{number_or_zero}
use Rattle.def_desc.specs.References.{import_of}
use Rattle.def_desc.specs.Reading.{device_of, shared_of, sealed_of, compartment_of_object, quota_of, export_of, library_of, limport_of, lexport_of, thread_of, description_of}
use Rattle.def_desc.specs.Rows.{QuotaRow, LimportRow, DescRow}
use Rattle.def_desc.specs.WellFormed.{WellFormed, fault_of}
use Rattle.def_desc.specs.Lawful.{IsLawful, IsLawfulDevice, IsLawfulShared, IsLawfulSealed, IsLawfulCompartment, IsLawfulExport, IsLawfulImport, IsLawfulLibrary, IsLawfulThread, IsLent}
use Rattle.law_desc.proofs.Members.{few_rows, given_or}
use Rattle.law_desc.proofs.Walked.{Good, faultless, At, In, walked, in_compartment, in_library}
use Rattle.law_desc.proofs.Spaces.{Segment, all_segments}
use Rattle.law_desc.proofs.Naming.{outer_names, slots_named, gates_named, library_slots_named, library_gates_named}
use Rattle.law_desc.proofs.Addressed.{Placed, addressed}
use Rattle.law_desc.proofs.Parts.{part_good, firmware_good, ram_good, version_is, shared_lawful, sealed_lawful, device_small, code_lawful, export_lawful, quota_lawful, key_lawful, import_lawful, limport_lawful, thread_lawful}

-- ---- compartments and libraries

compartment_lawful : (d x : Data) → At (Good d) part.Compartment d x → Segment part.Compartment x → IsLawfulCompartment (description_of d) (compartment_of_object x)
unfolding members_of
compartment_lawful d x h s =
    let m = (part_good part.Compartment x true true h.itself.kinds h.itself.limits).each in
    let i = h.index in
    let inner = in_compartment (Good d) x i h.inside in
    let imports = list_at (codes "imports") x in
    let quotas = list_at (codes "quotas") x in
    let keys = list_at (codes "keys") x in
    let exports = list_at (codes "exports") x in
    let numbers = all_so (In (Good d) part.Key x i) (λ k. IsWithin 13 15 (number_or_zero k)) keys (λ k g. key_lawful d x k i g.item g.itself) inner.keys in
    record {
      code = code_lawful (get (codes "code") x) m.1.0.there m.1.0.kept;
      globals = (given_globals d x h).1;
      slots = slots_named d x i s inner numbers;
      gates = gates_named d x i s inner;
      imports = few_rows import_of (codes "imports") 128 false (get (codes "imports") x) m.1.1.1.0.kept;
      quotas = few_rows quota_of (codes "quotas") 16 false (get (codes "quotas") x) m.1.1.1.1.0.kept;
      keys = few_rows number_or_zero (codes "keys") 3 false (get (codes "keys") x) m.1.1.1.1.1.0.kept;
      exports = few_rows export_of (codes "exports") 64 false (get (codes "exports") x) m.1.1.1.1.1.1.0.kept;
      import = all_mapped (IsLawfulImport (description_of d)) import_of imports
          (all_so (In (Good d) part.Import x i) (λ y. IsLawfulImport (description_of d) (import_of y)) imports (λ y g. import_lawful d x y i g.item g.itself) inner.imports);
      quota = all_mapped (λ (q : QuotaRow). q.limit ≤ 2147483647) quota_of quotas
          (all_so (In (Good d) part.Quota x i) (λ y. (quota_of y).limit ≤ 2147483647) quotas (λ y g. quota_lawful d x y i g.item g.itself) inner.quotas);
      key = all_mapped (IsWithin 13 15) number_or_zero keys numbers;
      export = all_mapped IsLawfulExport export_of exports
          (all_so (In (Good d) part.Export x i) (λ y. IsLawfulExport (export_of y)) exports (λ y g. export_lawful d x y i g.item g.itself) inner.exports);
    }
  where
    given_globals : (d x : Data) → At (Good d) part.Compartment d x → IsWithin 0 MOST_BYTES (compartment_of_object x).globals
    given_globals d x h =
        let m = (part_good part.Compartment x true true h.itself.kinds h.itself.limits).each in
        given_or (codes "globals") 0 MOST_BYTES 0 (get (codes "globals") x) (omega arith) (omega arith, omega arith) m.1.1.0.there m.1.1.0.kept

library_lawful : (d x : Data) → At (Good d) part.Library d x → Segment part.Library x → IsLawfulLibrary (description_of d) (library_of x)
unfolding members_of
library_lawful d x h s =
    let m = (part_good part.Library x true true h.itself.kinds h.itself.limits).each in
    let i = h.index in
    let inner = in_library (Good d) x i h.inside in
    let imports = list_at (codes "imports") x in
    record {
      code = code_lawful (get (codes "code") x) m.1.0.there m.1.0.kept;
      slots = library_slots_named d x i s inner;
      gates = library_gates_named d x i s inner;
      imports = few_rows limport_of (codes "imports") 128 false (get (codes "imports") x) m.1.1.0.kept;
      exports = few_rows lexport_of (codes "exports") 64 false (get (codes "exports") x) m.1.1.1.0.kept;
      import = all_mapped (λ (l : LimportRow). IsLent (description_of d) l.library) limport_of imports
          (all_so (In (Good d) part.Limport x i) (λ y. IsLent (description_of d) (limport_of y).library) imports (λ y g. limport_lawful d x y i g.item g.itself) inner.imports);
    }

-- ---- devices

devices_lawful : (d : Data) (xs : List Data) → AllByRecursion (Placed (description_of d).ram) (map device_of xs) → AllByRecursion (IsLawfulDevice (description_of d).ram) (map device_of xs)
devices_lawful d [] h = tt
devices_lawful d (x ∷ xs) h =
    let p = h.0 in
    (record { base = device_small x; even = p.even; ram = p.ram; native = p.native }, devices_lawful d xs h.1)

-- ---- the whole

pub value_lawful : (d : Data) → fault_of d ≡ None → IsLawful (description_of d)
value_lawful d e =
    let f = faultless d e in
    let w = walked (Good d) d f.each in
    let head = firmware_good d w.firmware in
    let ram = ram_good d w.firmware w.ram in
    let names = outer_names d w f.once in
    let at = addressed (description_of d) f.addresses in
    let segments = all_segments d f.once in
    let shared = list_at (codes "shared") d in
    let sealed = list_at (codes "sealed") d in
    let compartments = list_at (codes "compartments") d in
    let libraries = list_at (codes "libraries") d in
    let threads = list_at (codes "threads") d in
    record {
      firmware = w.firmware.named;
      version = head.version;
      sweep = head.sweep;
      quantum = head.quantum;
      few = record {
        devices = head.devices;
        shared = head.shared;
        sealed = head.sealed;
        compartments = head.compartments;
        libraries = head.libraries;
        threads = head.threads;
      };
      ram = record {
        base = ram.base;
        size = ram.size;
        sized = subst (λ v. IsWithin 256 (most_ram v) (description_of d).ram.size) (sym (version_is d w.firmware)) ram.sized;
        end = ram.end;
        native = at.native;
      };
      devices = names.devices;
      shared = names.shared;
      sealed = names.sealed;
      owners = names.owners;
      device = devices_lawful d (list_at (codes "devices") d) at.each;
      apart = at.apart;
      shared_object = all_mapped IsLawfulShared shared_of shared
          (all_so (At (Good d) part.Shared d) (λ x. IsLawfulShared (shared_of x)) shared (λ x g. shared_lawful d x g.index g.itself) w.shared);
      sealed_object = all_mapped IsLawfulSealed sealed_of sealed
          (all_so (At (Good d) part.Sealed d) (λ x. IsLawfulSealed (sealed_of x)) sealed (λ x g. sealed_lawful d x g.index g.itself) w.sealed);
      compartment = all_mapped (IsLawfulCompartment (description_of d)) compartment_of_object compartments
          (all_so (λ x. At (Good d) part.Compartment d x × Segment part.Compartment x) (λ x. IsLawfulCompartment (description_of d) (compartment_of_object x)) compartments
          (λ x g. compartment_lawful d x g.0 g.1) (all_both (At (Good d) part.Compartment d) (Segment part.Compartment) compartments w.compartments segments.compartments));
      library = all_mapped (IsLawfulLibrary (description_of d)) library_of libraries
          (all_so (λ x. At (Good d) part.Library d x × Segment part.Library x) (λ x. IsLawfulLibrary (description_of d) (library_of x)) libraries
          (λ x g. library_lawful d x g.0 g.1) (all_both (At (Good d) part.Library d) (Segment part.Library) libraries w.libraries segments.libraries));
      thread = all_mapped (IsLawfulThread (description_of d)) thread_of threads
          (all_so (At (Good d) part.Thread d) (λ x. IsLawfulThread (description_of d) (thread_of x)) threads (λ x g. thread_lawful d x g.index g.itself) w.threads);
    }

pub bytes_lawful : (bytes : List ℕ) (rows : DescRow) → WellFormed bytes rows → IsLawful rows
bytes_lawful bytes rows w = subst IsLawful (sym w.1.2) (value_lawful w.0 w.1.1)
