-- What boot makes for entries is settled: what is untagged has no root and no source.
use Rattle.std.proofs.Common.{ℕ, zero, suc, ◌+◌, List, [], ◌∷◌, slice_index_or, refl}
use Rattle.ct_entry.specs.declared.rows.Entry.{Entry}
use Rattle.ct_entry.specs.declared.rows.Kind.{Kind}
use Rattle.ct_entry.specs.declared.rows.Kind.TheVariants as kind
use Rattle.ct_entry.specs.declared.rows.Owner.{Owner}
use Rattle.ct_entry.specs.declared.rows.Owner.TheVariants.{Trusted, Compartment, Library, Thread}
use Rattle.def_words.specs.Capability.{IsSettled}
use Rattle.def_memory.specs.Granules.{plain}
use Rattle.def_confined.specs.Facts.{MadeSettled}
use Rattle.def_image.specs.Parts.{PartsRow}
use Rattle.def_boot.specs.Boot.{image_of}
use Rattle.def_boot.specs.Entries.{entry_rows}
use Rattle.def_boot.specs.Made.{entry_cap, code_cap, entry_caps, caps_at_boot, boot_cap_of, return_sentry}
use Rattle.law_words.proofs.Away.{derives_settle}
use Rattle.law_granules.proofs.Lists.{plain_settled}

code_settled : (n : ℕ) (r : Entry) (o : Owner) → IsSettled (code_cap n r o)
code_settled n r Trusted = plain_settled 0
code_settled n r (Compartment b) = derives_settle _ _ _ _ _ _ _
code_settled n r (Library l) = plain_settled 0
code_settled n r (Thread t) = plain_settled 0

by_settled : (p : PartsRow) (n : ℕ) (r : Entry) (k : Kind) → IsSettled (entry_cap p n r k)
by_settled p n r kind.Code = code_settled n r r.owner
by_settled p n r kind.Globals = derives_settle _ _ _ _ _ _ _
by_settled p n r kind.Stack = derives_settle _ _ _ _ _ _ _
by_settled p n r kind.Service = derives_settle _ _ _ _ _ _ _
by_settled p n r kind.Device = derives_settle _ _ _ _ _ _ _
by_settled p n r kind.Shared = derives_settle _ _ _ _ _ _ _
by_settled p n r kind.Sealed = derives_settle _ _ _ _ _ _ _
by_settled p n r kind.Call = derives_settle _ _ _ _ _ _ _
by_settled p n r kind.Library = derives_settle _ _ _ _ _ _ _
by_settled p n r kind.Quota = derives_settle _ _ _ _ _ _ _
by_settled p n r kind.Key = derives_settle _ _ _ _ _ _ _
by_settled p n r kind.Export = plain_settled 0

from_settled : (p : PartsRow) (n : ℕ) (rs : List Entry) (k : ℕ) → IsSettled (slice_index_or (entry_caps p n rs) k (plain 0))
from_settled p n [] k = plain_settled 0
from_settled p n (r ∷ rs) zero = by_settled p n r r.kind
from_settled p n (r ∷ rs) (suc k) = from_settled p (n + 1) rs k

pub sentry_settled : IsSettled return_sentry
sentry_settled = derives_settle _ _ _ _ _ _ _

pub made_settled : (p : PartsRow) (n : ℕ) → IsSettled (boot_cap_of p n)
unfolding caps_at_boot
made_settled p zero = sentry_settled
made_settled p (suc n) = from_settled p 1 (entry_rows p) n

pub settled : (p : PartsRow) → MadeSettled (image_of p)
unfolding image_of
settled p n = made_settled p n
